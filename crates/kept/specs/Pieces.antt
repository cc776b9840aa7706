-- New filters in a SKA page, sector after sector.
use Rattle.std.specs.Prelude.{◌≡◌, List, ℕ, zero, suc, ◌+◌, ◌-◌, ◌*◌, ◌≤◌, ◌<◌, length, get_or, take, drop}
use Rattle.std.proofs.Math.Path.{refl}
use Rattle.std.proofs.Common.{sym, ap, ◌∙◌, mul-le-mul_right, arith}
use Rattle.memory.specs.Lists.{pieces, tabulate, write, tabulate_part}
use Rattle.layout.specs.Geometry.{sector, page, fourth_size}
use Rattle.layout.specs.Index.{in_ska}

-- in the first k sectors
abbrev pub pieces_of : ℕ → ℕ → ℕ → ℕ → List ℕ → List ℕ → List ℕ
pieces_of u piece at k fourths ram = pieces piece (sector u) at k (λ i y. get_or fourths (i * piece + y) 0) ram

-- one more piece at the end
pub pieces_more : {A : Type 0} (L d at k : ℕ) (f : ℕ → ℕ → A) (l : List A)
    → pieces L d at (suc k) f l ≡ write (pieces L d at k f l) (at + k * d) (tabulate L (f k))
unfolding pieces
pieces_more L d at zero f l = let e : at + 0 * d ≡ at = omega arith in rw e
pieces_more L d at (suc k) f l =
    let e : at + suc k * d ≡ at + d + k * d = omega arith in
    rw e (pieces_more L d (at + d) k (λ j. f (suc j)) (write l at (tabulate L (f zero))))

module _ (u piece at : ℕ) where
  pub none_yet : (fourths ram : List ℕ) → ram ≡ pieces_of u piece at 0 fourths ram
  unfolding pieces
  none_yet fourths ram = refl

  pub in_fourths : (i fourths : ℕ) → i < 4 → 4 * piece ≤ fourths → i * piece + piece ≤ fourths
  in_fourths i fourths h fits = omega (arith, mul-le-mul_right piece h, fits)

  -- one turn; `off` is what code computes
  pub more_pieces : (i off : ℕ) → off ≡ i * sector u → (fourths ram₀ ram ram' : List ℕ) → i < 4 → 4 * piece ≤ length fourths
      → ram ≡ pieces_of u piece at i fourths ram₀
      → ram' ≡ write ram (at + off) (take (i * piece + piece - i * piece) (drop (i * piece) fourths))
      → ram' ≡ pieces_of u piece at (i + 1) fourths ram₀
  more_pieces i off o fourths ram₀ ram ram' h fits a b =
      let s : i + 1 ≡ suc i = omega arith in
      let n : i * piece + piece - i * piece ≡ piece = omega arith in
      let f : ℕ → ℕ → ℕ = λ i y. get_or fourths (i * piece + y) 0 in
      let t : take piece (drop (i * piece) fourths) ≡ tabulate piece (f i)
      = sym (tabulate_part fourths (i * piece) piece (in_fourths i (length fourths) h fits)) in
      let b' : ram' ≡ write ram (at + i * sector u) (tabulate piece (f i)) = rw (n, o, t) at b in
      rw s
      (b' ∙ ap (λ (l : List ℕ). write l (at + i * sector u) (tabulate piece (f i))) a ∙ sym (pieces_more piece (sector u) at i f ram₀))

-- n filters from number F on in the SKA page; `fourth` is what code computes: their bytes of each sector
pub slots_fit : (u fourth : ℕ) → fourth ≡ fourth_size u → (F n ska ram : ℕ) → in_ska F + n ≤ 8 → ska + page u ≤ ram
    → ska + in_ska F * fourth + 3 * sector u + n * fourth ≤ ram
slots_fit u fourth fourth_is F n ska ram l h = rw fourth_is (omega (arith, mul-le-mul_right (2 * u) l, h))
