-- The fourths of new filters, sector by sector of a SKA page: sector i has the i-th fourth of each of them, one after another.
use Rattle.std.specs.Prelude.{◌≡◌, refl, ◌⊎◌, Bool, List, ℕ, zero, suc, ◌+◌, ◌-◌, ◌*◌, ◌/◌, ◌%◌, ◌≤◌, ◌<◌, length, get_or, drop}
use Rattle.std.proofs.Common.{sym, ap, ◌∙◌, inl, inr, mul-le-mul_right, arith, ext_get_or, get_or-take, get_or-drop}
use Rattle.memory.specs.Bits.{pack, pack_ext}
use Rattle.memory.specs.Cases.{either, lt?}
use Rattle.memory.specs.Lists.{get_d_tabulate, pieces, length_pieces, pieces_in, pieces_out}
use Rattle.memory.specs.Numbers.{euclid, div_lt}
use Rattle.layout.specs.Geometry.{sectors_per_page, sector, page, filter_bits, fourth_size}
use Rattle.layout.specs.Index.{Index, with_filter}
use Rattle.filter.specs.Filter.{array_bit}
use Rattle.filter.specs.Pieces.{pieces_ext, piece_of}

-- those of n filters, filter f with the bits B f
abbrev pub FourthsOf : ℕ → ℕ → (ℕ → ℕ → Bool) → List ℕ → Type 0
FourthsOf u n B fourths =
    (i f y : ℕ) → i < sectors_per_page → f < n → y < fourth_size u
    → get_or fourths (i * (n * fourth_size u) + (f * fourth_size u + y)) 0 ≡ pack 8 (λ b. B f (i * sector u + (y * 8 + b)))

-- filter f of two, with the bits B, is put among the fourths of both: its own are there, those of the other stay
pub record FilterPut (u f : ℕ) (B : ℕ → Bool) (fourths fourths' : List ℕ) : Type 0 where
  pub there : (i y : ℕ) → i < sectors_per_page → y < fourth_size u
      → get_or fourths' (i * (2 * fourth_size u) + (f * fourth_size u + y)) 0 ≡ pack 8 (λ b. B (i * sector u + (y * 8 + b)))
  pub other : (i e y : ℕ) → i < sectors_per_page → e < 2 → (e ≡ f → ⊥) → y < fourth_size u
      → get_or fourths' (i * (2 * fourth_size u) + (e * fourth_size u + y)) 0 ≡ get_or fourths (i * (2 * fourth_size u) + (e * fourth_size u + y)) 0

-- one after the other, both are there
pub both_put : (u : ℕ) (B : ℕ → ℕ → Bool) (fourths one two : List ℕ) → FilterPut u 0 (B 0) fourths one → FilterPut u 1 (B 1) one two
    → FourthsOf u 2 B two
both_put u B fourths one two P Q i zero y a b c = Q.other i 0 y a b (λ e. absurd (omega (arith, e))) c ∙ P.there i y a c
both_put u B fourths one two P Q i (suc zero) y a b c = Q.there i y a c
both_put u B fourths one two P Q i (suc (suc f)) y a b c = absurd (omega arith)

-- `piece` bytes of each sector, from byte `at` of the RAM on, become those of the fourths
abbrev pub with_fourths : ℕ → ℕ → ℕ → List ℕ → List ℕ → List ℕ
with_fourths u piece at fourths ram = pieces piece (sector u) at sectors_per_page (λ i y. get_or fourths (i * piece + y) 0) ram

-- bits behind a filter do not count
pub fourths_ext : (u n : ℕ) (B C : ℕ → ℕ → Bool) (fourths : List ℕ) → ((f x : ℕ) → f < n → x < filter_bits u → B f x ≡ C f x)
    → FourthsOf u n B fourths → FourthsOf u n C fourths
fourths_ext u n B C fourths h F i f y a b c =
    F i f y a b c
    ∙ pack_ext 8 (λ k. B f (i * (16 * u) + (y * 8 + k))) (λ k. C f (i * (16 * u) + (y * 8 + k)))
    (λ k l. h f (i * (16 * u) + (y * 8 + k)) b (omega (arith, mul-le-mul_right (16 * u) a)))

-- an array of bytes has the fourths of its bits, one after another
pub array_fourths : (u : ℕ) (bits : List ℕ) → u ≤ 32 → length bits ≡ 256 → ((y : ℕ) → get_or bits y 0 < 256)
    → FourthsOf u 1 (λ f. array_bit bits) bits
array_fourths u bits most size bytes i f y a b c =
    let t = mul-le-mul_right (2 * u) a in
    let p = piece_of u i (i * (2 * u)) (i * (2 * u) + 2 * u) bits bytes refl refl (omega (arith, t, most, size)) in
    let n : i * (2 * u) + 2 * u - i * (2 * u) ≡ 2 * u = omega arith in
    let z : f ≡ 0 = omega arith in
    let s : i * (1 * (2 * u)) + (0 * (2 * u) + y) ≡ i * (2 * u) + y = omega arith in
    rw (z, s) (sym (get_or-take (2 * u) (drop (i * (2 * u)) bits) y 0 c ∙ get_or-drop (i * (2 * u)) bits y 0)
    ∙ ap (λ (l : List ℕ). get_or l y 0) (rw n at p)
    ∙ get_d_tabulate (2 * u) (λ y. pack 8 (λ b. array_bit bits (i * (16 * u) + (y * 8 + b)))) y 0 c)

-- of one filter: it is put into the SKA page
pub one_filter : (u piece : ℕ) (ix : Index) (s : ℕ) (B : ℕ → ℕ → Bool) (fourths ram : List ℕ) → piece ≡ fourth_size u
    → FourthsOf u 1 B fourths
    → with_fourths u piece (ix.ska + s * fourth_size u) fourths ram ≡ with_filter u ix s (B 0) ram
one_filter u piece ix s B fourths ram e F =
    ap (λ (p : ℕ). with_fourths u p (ix.ska + s * (2 * u)) fourths ram) e
    ∙ pieces_ext (2 * u) (16 * u) (ix.ska + s * (2 * u)) 4 (λ i y. get_or fourths (i * (2 * u) + y) 0)
    (λ i y. pack 8 (λ b. B 0 (i * (16 * u) + (y * 8 + b)))) ram
    (λ i y a b.
    let k : i * (2 * u) + y ≡ i * (1 * (2 * u)) + (0 * (2 * u) + y) = omega arith in
    ap (λ (x : ℕ). get_or fourths x 0) k ∙ F i 0 y a (omega arith) b)

-- ---- pieces of two halves are those of the first halves, then those of the second ones

module _ (u at : ℕ) (f g h : ℕ → ℕ → ℕ) (l : List ℕ) (pos : 0 < u) (fits : at + 52 * u ≤ length l)
    (first : (i y : ℕ) → i < 4 → y < 2 * u → f i y ≡ g i y) (second : (i y : ℕ) → i < 4 → y < 2 * u → f i (2 * u + y) ≡ h i y) where
  abbrev whole : List ℕ
  whole = pieces (2 * (2 * u)) (16 * u) at 4 f l

  abbrev one : List ℕ
  one = pieces (2 * u) (16 * u) at 4 g l

  abbrev two : List ℕ
  two = pieces (2 * u) (16 * u) (at + 2 * u) 4 h one

  -- byte y of sector j is outside pieces from byte `lo` of each sector on
  outside : (L from lo : ℕ) (F : ℕ → ℕ → ℕ) (m : List ℕ) (j y : ℕ) → from ≡ at + lo → lo + L ≤ 16 * u → y < 16 * u
      → (y < lo) ⊎ (lo + L ≤ y) → get_or (pieces L (16 * u) from 4 F m) (at + j * (16 * u) + y) 0 ≡ get_or m (at + j * (16 * u) + y) 0
  outside L from lo F m j y e b a o = pieces_out L (16 * u) from 4 F m (at + j * (16 * u) + y) 0 (λ i k.
      either (lt? j i)
      (λ c. inl (omega (arith, mul-le-mul_right (16 * u) c.1)))
      (λ c.
      either (lt? i j)
      (λ d. inr (omega (arith, mul-le-mul_right (16 * u) d.1)))
      (λ d.
      let s : i ≡ j = omega (arith, c.1, d.1) in
      rw s (either o (λ p. inl (omega arith)) (λ p. inr (omega arith))))))

  -- byte y of the j-th piece of L bytes
  inside : (L from lo : ℕ) (F : ℕ → ℕ → ℕ) (m : List ℕ) (j y : ℕ) → from ≡ at + lo → lo + L ≤ 4 * u → length m ≡ length l → j < 4 → y < L
      → get_or (pieces L (16 * u) from 4 F m) (at + j * (16 * u) + (lo + y)) 0 ≡ F j y
  inside L from lo F m j y e b n k a =
      let s : at + j * (16 * u) + (lo + y) ≡ from + j * (16 * u) + y = omega arith in
      let t : j * (16 * u) ≤ 3 * (16 * u) = mul-le-mul_right (16 * u) (omega arith) in
      ap (λ (x : ℕ). get_or (pieces L (16 * u) from 4 F m) x 0) s
      ∙ pieces_in L (16 * u) from 4 F m j y 0 (omega arith) (omega (arith, t)) k a

  starts : (L : ℕ) (F : ℕ → ℕ → ℕ) (j y : ℕ) → L ≤ 4 * u → j < 4 → y < L
      → get_or (pieces L (16 * u) at 4 F l) (at + j * (16 * u) + y) 0 ≡ F j y
  starts L F j y b k a =
      let z : 0 + y ≡ y = omega arith in
      rw z at (inside L at 0 F l j y (omega arith) (omega arith) refl k a)

  length_one : length one ≡ length l
  length_one = length_pieces (2 * u) (16 * u) at 4 g l

  same_in : (j y : ℕ) → j < 4 → y < 16 * u → get_or whole (at + j * (16 * u) + y) 0 ≡ get_or two (at + j * (16 * u) + y) 0
  same_in j y a b =
      either (lt? y (2 * u))
      (λ c. in_first c.1)
      (λ c. either (lt? y (4 * u)) (λ d. in_second c.1 d.1) (λ d. behind d.1))
    where
      in_first : y < 2 * u → get_or whole (at + j * (16 * u) + y) 0 ≡ get_or two (at + j * (16 * u) + y) 0
      in_first c =
          starts (2 * (2 * u)) f j y (omega arith) a (omega arith) ∙ first j y a c
          ∙ sym (outside (2 * u) (at + 2 * u) (2 * u) h one j y refl (omega arith) b (inl c)
          ∙ starts (2 * u) g j y (omega arith) a c)

      in_second : 2 * u ≤ y → y < 4 * u → get_or whole (at + j * (16 * u) + y) 0 ≡ get_or two (at + j * (16 * u) + y) 0
      in_second c d =
          let s : 2 * u + (y - 2 * u) ≡ y = omega arith in
          starts (2 * (2 * u)) f j y (omega arith) a (omega arith)
          ∙ ap (f j) (sym s) ∙ second j (y - 2 * u) a (omega arith)
          ∙ sym (rw s at (inside (2 * u) (at + 2 * u) (2 * u) h one j (y - 2 * u) refl (omega arith) length_one a (omega arith)))

      behind : 4 * u ≤ y → get_or whole (at + j * (16 * u) + y) 0 ≡ get_or two (at + j * (16 * u) + y) 0
      behind d =
          outside (2 * (2 * u)) at 0 f l j y (omega arith) (omega arith) b (inr (omega arith))
          ∙ sym (outside (2 * u) (at + 2 * u) (2 * u) h one j y refl (omega arith) b (inr (omega arith))
          ∙ outside (2 * u) at 0 g l j y (omega arith) (omega arith) b (inr (omega arith)))

  -- bytes off the four sectors
  off : (L from : ℕ) (F : ℕ → ℕ → ℕ) (m : List ℕ) (x : ℕ) → at ≤ from → from + L ≤ at + 16 * u → (x < at) ⊎ (at + 64 * u ≤ x)
      → get_or (pieces L (16 * u) from 4 F m) x 0 ≡ get_or m x 0
  off L from F m x a b o = pieces_out L (16 * u) from 4 F m x 0 (λ i k.
      let t : suc i * (16 * u) ≤ 4 * (16 * u) = mul-le-mul_right (16 * u) k in
      either o (λ p. inl (omega arith)) (λ p. inr (omega (arith, t))))

  same_out : (x : ℕ) → (x < at) ⊎ (at + 64 * u ≤ x) → get_or whole x 0 ≡ get_or two x 0
  same_out x o =
      off (2 * (2 * u)) at f l x (omega arith) (omega arith) o
      ∙ sym (off (2 * u) (at + 2 * u) h one x (omega arith) (omega arith) o ∙ off (2 * u) at g l x (omega arith) (omega arith) o)

  same_bytes : (x : ℕ) → get_or whole x 0 ≡ get_or two x 0
  same_bytes x =
      either (lt? x at) (λ c. same_out x (inl c.1))
      (λ c. either (lt? x (at + 64 * u)) (λ d. on c.1 d.1) (λ d. same_out x (inr d.1)))
    where
      on : at ≤ x → x < at + 64 * u → get_or whole x 0 ≡ get_or two x 0
      on c d =
          let E = euclid (x - at) (16 * u) (omega arith) in
          let k : (x - at) / (16 * u) < 4 = div_lt (x - at) (16 * u) 4 (omega arith) (omega arith) in
          let s : at + (x - at) / (16 * u) * (16 * u) + (x - at) % (16 * u) ≡ x = omega (arith, E.whole) in
          rw s at (same_in ((x - at) / (16 * u)) ((x - at) % (16 * u)) k E.small)

  pub two_pieces : whole ≡ two
  two_pieces =
      ext_get_or 0 whole two
      (length_pieces (2 * (2 * u)) (16 * u) at 4 f l
      ∙ sym (length_pieces (2 * u) (16 * u) (at + 2 * u) 4 h one ∙ length_one))
      (λ x k. same_bytes x)

-- of two: one after the other
pub two_filters : (u piece : ℕ) (ix : Index) (s : ℕ) (B : ℕ → ℕ → Bool) (fourths ram : List ℕ) → piece ≡ 2 * fourth_size u → 0 < u
    → s + 2 ≤ 8
    → ix.ska + page u ≤ length ram → FourthsOf u 2 B fourths
    → with_fourths u piece (ix.ska + s * fourth_size u) fourths ram ≡ with_filter u ix (s + 1) (B 1) (with_filter u ix s (B 0) ram)
two_filters u piece ix s B fourths ram e pos room fits F =
    let at : ℕ = ix.ska + s * (2 * u) in
    let t : s * (2 * u) ≤ 6 * (2 * u) = mul-le-mul_right (2 * u) (omega arith) in
    let n : ix.ska + s * (2 * u) + 2 * u ≡ ix.ska + (s + 1) * (2 * u) = omega arith in
    ap (λ (p : ℕ). with_fourths u p at fourths ram) e
    ∙ two_pieces u at (λ i y. get_or fourths (i * (2 * (2 * u)) + y) 0) (λ i y. pack 8 (λ b. B 0 (i * (16 * u) + (y * 8 + b))))
    (λ i y. pack 8 (λ b. B 1 (i * (16 * u) + (y * 8 + b)))) ram pos (omega (arith, t))
    (λ i y a b.
    let k : i * (2 * (2 * u)) + y ≡ i * (2 * (2 * u)) + (0 * (2 * u) + y) = omega arith in
    ap (λ (x : ℕ). get_or fourths x 0) k ∙ F i 0 y a (omega arith) b)
    (λ i y a b.
    let k : i * (2 * (2 * u)) + (2 * u + y) ≡ i * (2 * (2 * u)) + (1 * (2 * u) + y) = omega arith in
    ap (λ (x : ℕ). get_or fourths x 0) k ∙ F i 1 y a (omega arith) b)
    ∙ ap (λ (p : ℕ). pieces (2 * u) (16 * u) p 4 (λ i y. pack 8 (λ b. B 1 (i * (16 * u) + (y * 8 + b)))) (with_filter u ix s (B 0) ram)) n
