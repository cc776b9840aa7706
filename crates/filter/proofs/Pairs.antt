-- The fourths of one of two filters, sector after sector, and both halves of a page of deletions.
use mathlib.Core.Path.{◌≡◌, refl, ap, ◌∙◌}
use mathlib.Core.Bool.{Bool}
use mathlib.Core.List.{List}
use Prim.Native.Nat.{ℕ, suc, ◌+◌, ◌-◌, ◌*◌, ◌≤◌, ◌<◌}
use native.Mathlib.Nat.{mul-le-mul_right}
use native.Mathlib.Omega.{arith}
use lib.ListN.{length, get_or, take, drop}
use Rattle.memory.specs.Bits.{pack, pack_ext}
use Rattle.memory.specs.Cases.{either, lt?}
use Rattle.memory.specs.Lists.{write, length_tabulate, get_d_tabulate, length_write, get_d_write_before, get_d_write_in, get_d_write_after}
use Rattle.memory.specs.Words.{bytes4}
use Rattle.layout.specs.Geometry.{filter_bits, fourth_size}
use Rattle.filter.specs.Filter.{array_bit, item_bytes, with_key, half_bits}
use Rattle.filter.specs.Fourths.{FourthsOf, FilterPut, both_put}
use Rattle.filter.specs.Pieces.{fourth_of, piece_of}

-- after k sectors, `piece` bytes of each filter in a sector
pub record Putting (piece k f : ℕ) (B : ℕ → Bool) (r r' : List ℕ) : Type 0 where
  pub size : length r' ≡ 512
  pub there : (i y : ℕ) → i < k → y < piece → get_or r' (i * (2 * piece) + (f * piece + y)) 0 ≡ pack 8 (λ b. B (i * (8 * piece) + (y * 8 + b)))
  pub other : (i e y : ℕ) → e < 2 → (e ≡ f → ⊥) → y < piece
      → get_or r' (i * (2 * piece) + (e * piece + y)) 0 ≡ get_or r (i * (2 * piece) + (e * piece + y)) 0

pub in_filter : (u piece i : ℕ) → piece ≡ fourth_size u → i < 4 → u ≤ 32 → i * piece + piece ≤ 256
in_filter u piece i e h small = rw e (omega (arith, mul-le-mul_right (2 * u) h, small))

-- ---- one turn

module _ (u i f : ℕ) (a r₀ r : List ℕ) (small : u ≤ 32) (turn : i < 4) (two : f < 2) (P : Putting (2 * u) i f (array_bit a) r₀ r) where
  abbrev at : ℕ
  at = i * (4 * u) + f * (2 * u)

  abbrev next : List ℕ
  next = write r at (fourth_of u (array_bit a) i)

  abbrev byte : ℕ → ℕ
  byte y = pack 8 (λ c. array_bit a (i * (16 * u) + (y * 8 + c)))

  -- the fourth of either filter is one of two
  fits : f * (2 * u) ≤ 2 * u
  fits = omega (arith, mul-le-mul_right (2 * u) two)

  in_array : at + 2 * u ≤ 512
  in_array = omega (arith, mul-le-mul_right (4 * u) turn, fits, small)

  long : length (fourth_of u (array_bit a) i) ≡ 2 * u
  long = length_tabulate (2 * u) byte

  before_turn : (x : ℕ) → x < at → get_or next x 0 ≡ get_or r x 0
  before_turn x h = get_d_write_before r at (fourth_of u (array_bit a) i) x 0 h

  after_turn : (x : ℕ) → at + 2 * u ≤ x → get_or next x 0 ≡ get_or r x 0
  after_turn x h = get_d_write_after r at (fourth_of u (array_bit a) i) x 0 (omega (arith, long))

  in_turn : (y : ℕ) → y < 2 * u → get_or next (at + y) 0 ≡ byte y
  in_turn y h =
      let s : at + y - at ≡ y = omega arith in
      get_d_write_in r at (fourth_of u (array_bit a) i) (at + y) 0 (omega arith) (omega (arith, long)) (omega (arith, in_array, P.size))
      ∙ ap (λ (x : ℕ). get_or (fourth_of u (array_bit a) i) x 0) s ∙ get_d_tabulate (2 * u) byte y 0 h

  more_there : (j y : ℕ) → j < i + 1 → y < 2 * u
      → get_or next (j * (2 * (2 * u)) + (f * (2 * u) + y)) 0 ≡ pack 8 (λ b. array_bit a (j * (8 * (2 * u)) + (y * 8 + b)))
  more_there j y h l =
      either (lt? j i)
      (λ c.
      let t : suc j * (4 * u) ≤ i * (4 * u) = mul-le-mul_right (4 * u) c.1 in
      before_turn (j * (2 * (2 * u)) + (f * (2 * u) + y)) (omega (arith, t, fits)) ∙ P.there j y c.1 l)
      (λ c.
      let e : j ≡ i = omega (arith, c.1) in
      let s : i * (2 * (2 * u)) + (f * (2 * u) + y) ≡ at + y = omega arith in
      let t : 8 * (2 * u) ≡ 16 * u = omega arith in
      rw (e, s, t) (in_turn y l))

  -- the other filter's lie before or behind
  more_other : (j e y : ℕ) → e < 2 → (e ≡ f → ⊥) → y < 2 * u
      → get_or next (j * (2 * (2 * u)) + (e * (2 * u) + y)) 0 ≡ get_or r₀ (j * (2 * (2 * u)) + (e * (2 * u) + y)) 0
  more_other j e y k apart l = kept ∙ P.other j e y k apart l
    where
      x : ℕ
      x = j * (2 * (2 * u)) + (e * (2 * u) + y)

      own : e * (2 * u) ≤ 2 * u
      own = omega (arith, mul-le-mul_right (2 * u) k)

      kept : get_or next x 0 ≡ get_or r x 0
      kept =
          either (lt? j i)
          (λ c. let t : suc j * (4 * u) ≤ i * (4 * u) = mul-le-mul_right (4 * u) c.1 in before_turn x (omega (arith, t, own)))
          (λ c. either (lt? i j)
          (λ d. let t : suc i * (4 * u) ≤ j * (4 * u) = mul-le-mul_right (4 * u) d.1 in after_turn x (omega (arith, t, fits)))
          (λ d.
          let s : j ≡ i = omega (arith, c.1, d.1) in
          let z : j * (4 * u) ≡ i * (4 * u) = ap (λ (m : ℕ). m * (4 * u)) s in
          either (lt? e f)
          (λ b. let t : suc e * (2 * u) ≤ f * (2 * u) = mul-le-mul_right (2 * u) b.1 in before_turn x (omega (arith, t, z)))
          (λ b.
          let over : f < e = either (lt? f e) (λ g. g.1) (λ g. absurd (apart (omega (arith, b.1, g.1)))) in
          let t : suc f * (2 * u) ≤ e * (2 * u) = mul-le-mul_right (2 * u) over in
          after_turn x (omega (arith, t, z)))))

  pub more_put : Putting (2 * u) (i + 1) f (array_bit a) r₀ next
  more_put =
      record {
        size = length_write r at (fourth_of u (array_bit a) i) ∙ P.size;
        there = more_there;
        other = more_other;
      }

-- with what code computes
abbrev Turn : ℕ → Type 0
Turn piece =
    (i f : ℕ) (a r₀ r r₁ : List ℕ) → i < 4 → f < 2 → length a ≡ 256 → ((k : ℕ) → get_or a k 0 < 256) → Putting piece i f (array_bit a) r₀ r
    → r₁ ≡ write r (i * piece + i * piece + f * piece) (take (i * piece + piece - i * piece) (drop (i * piece) a))
    → Putting piece (i + 1) f (array_bit a) r₀ r₁

turns : (u : ℕ) → u ≤ 32 → Turn (2 * u)
turns u small i f a r₀ r r₁ h k la ba P e =
    let b = in_filter u (2 * u) i refl h small in
    let s : i * (2 * u) + i * (2 * u) + f * (2 * u) ≡ i * (4 * u) + f * (2 * u) = omega arith in
    let p = piece_of u i (i * (2 * u)) (i * (2 * u) + 2 * u) a ba refl refl (omega (arith, b, la)) in
    let c : r₁ ≡ write r (i * (4 * u) + f * (2 * u)) (fourth_of u (array_bit a) i) = rw (p, s) at e in
    rw c (more_put u i f a r₀ r small h k P)

pub one_turn : (u piece : ℕ) → piece ≡ fourth_size u → u ≤ 32 → Turn piece
one_turn u piece e small = rw e (turns u small)

-- ---- a filter of other bits that are the same up to its end

pub put_ext : (u f : ℕ) (B C : ℕ → Bool) (r r' : List ℕ) → ((x : ℕ) → x < filter_bits u → B x ≡ C x) → FilterPut u f B r r' → FilterPut u f C r r'
put_ext u f B C r r' h P =
    record {
      there =
          λ i y a c.
          P.there i y a c
          ∙ pack_ext 8 (λ k. B (i * (16 * u) + (y * 8 + k))) (λ k. C (i * (16 * u) + (y * 8 + k)))
          (λ k l. h (i * (16 * u) + (y * 8 + k)) (omega (arith, mul-le-mul_right (16 * u) a)));
      other = P.other;
    }

-- ---- both halves of a page of deletions; `n`, `last` and `last'` are what code computes

pub halves_put : (u k at number n : ℕ) (last last' ram r one two : List ℕ) → 0 < u → n ≡ 8 * u
    → last ≡ item_bytes ram (at + n * 4 - 4) → last' ≡ bytes4 number
    → FilterPut u 0 (with_key u k at 4 last ram) r one → FilterPut u 1 (with_key u k (at + n * 4) 4 last' ram) one two
    → FourthsOf u 2 (half_bits u k at number ram) two
halves_put u k at number n last last' ram r one two pos e d d' P Q =
    let s : at + n * 4 - 4 ≡ at + (8 * u - 1) * 4 = omega (arith, e, pos) in
    both_put u (half_bits u k at number ram) r one two (rw (d ∙ ap (item_bytes ram) s) at P) (rw (d', e) at Q)
