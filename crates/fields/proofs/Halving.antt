-- Every other field of a byte by masks and shifts, for each of its 256 values; and a byte made of two.
use mathlib.Core.Path.{◌≡◌, refl, sym, ap, ◌∙◌}
use mathlib.Core.Logic.{inl, inr}
use mathlib.Core.Bool.{Bool, true, ◌&&◌, beq, and-eq-true_iff}
use mathlib.Core.List.{List}
use Prim.Native.Nat.{ℕ, zero, suc, ◌+◌, ◌-◌, ◌*◌, ◌/◌, ◌%◌, ◌^◌, ◌≤◌, ◌<◌}
use native.Mathlib.Omega.{arith}
use lib.Bits.{bit_and, bit_or}
use lib.Dec.{ltb}
use lib.ListN.{get_or}
use lib.Pow.{pow_pos}
use borrow.Author.Tests.{ltb-true}
use Rattle.memory.specs.Bits.{bit, bit_in, bit_low, bit_high, bit_mod, bit_shr}
use Rattle.memory.specs.Booleans.{eq_of_beq}
use Rattle.memory.specs.Cases.{lt?, either}
use Rattle.memory.specs.Ranges.{all, all_at}
use Rattle.fields.specs.declared.Source.{Source}
use Rattle.fields.specs.Laws.{pack_byte}
use Rattle.fields.specs.Sources.{field_byte, Aligned, Reaches}
use Rattle.fields.specs.Halves.{Narrow, Half}

-- ---- a law of every byte, computed

-- does g take the even fields of w bits of x
abbrev halves : (ℕ → ℕ) → ℕ → ℕ → Bool
halves g w x = ltb (g x) 16 && all (λ (i : ℕ). beq (bit (g x) i) (bit x (i / w * (2 * w) + i % w))) 4

half_by : (g : ℕ → ℕ) (w : ℕ) → all (halves g w) 256 ≡ true → (x : ℕ) → x < 256 → Half w x (g x)
half_by g w e x h =
    let p = (and-eq-true_iff (ltb (g x) 16) (all (λ (i : ℕ). beq (bit (g x) i) (bit x (i / w * (2 * w) + i % w))) 4)).0 (all_at (halves g w) 256 x e h) in
    record {
      small = ltb-true (g x) 16 p.0;
      bits = λ i l. eq_of_beq (bit (g x) i) (bit x (i / w * (2 * w) + i % w)) (all_at (λ (i : ℕ). beq (bit (g x) i) (bit x (i / w * (2 * w) + i % w))) 4 i p.1 l);
    }

-- the code's expressions
abbrev pub even1 : ℕ → ℕ
even1 x = last (mid (bit_and x 0x55))
  where
    mid : ℕ → ℕ
    mid a = bit_and (bit_or a (a / 2 ^ 1)) 0x33

    last : ℕ → ℕ
    last b = bit_and (bit_or b (b / 2 ^ 2)) 0x0f

abbrev pub even2 : ℕ → ℕ
even2 x = bit_and (bit_or (bit_and x 0x33) (bit_and x 0x33 / 2 ^ 2)) 0x0f

abbrev pub even4 : ℕ → ℕ
even4 x = bit_and x 0x0f

pub half1 : (x : ℕ) → x < 256 → Half 1 x (even1 x)
unfolding all bit
half1 = half_by even1 1 refl

pub half2 : (x : ℕ) → x < 256 → Half 2 x (even2 x)
unfolding all bit
half2 = half_by even2 2 refl

pub half4 : (x : ℕ) → x < 256 → Half 4 x (even4 x)
unfolding all bit
half4 = half_by even4 4 refl

-- ---- two bytes to one

module _ (bytes : List ℕ) (s : Source) (w y : ℕ) (A : Aligned s w) (small : w < 8) (twice : s.step ≡ 2 * w) where
  pub narrow : Narrow w
  narrow = go A.k A.w_is
    where
      go : (k : ℕ) → w ≡ 2 ^ k → Narrow w
      go zero e = inl e
      go (suc zero) e = inr (inl e)
      go (suc (suc zero)) e = inr (inr e)
      go (suc (suc (suc k))) e = absurd (omega (arith, pow_pos k))

  pub low_le : s.low ≤ w
  low_le = omega (arith, A.room)

  pub both_inside : (len : ℕ) → Reaches len s w y → s.at + 2 * y + 1 < len
  both_inside len R =
      let i : s.at * 8 + ((y * 8 + 7) / w * (2 * w) + (s.low + w)) ≤ len * 8 = rw twice at R.inside in
      go narrow i
    where
      go : Narrow w → s.at * 8 + ((y * 8 + 7) / w * (2 * w) + (s.low + w)) ≤ len * 8 → s.at + 2 * y + 1 < len
      go (inl e) i = let j : s.at * 8 + ((y * 8 + 7) / 1 * (2 * 1) + (s.low + 1)) ≤ len * 8 = rw e at i in omega arith
      go (inr (inl e)) i = let j : s.at * 8 + ((y * 8 + 7) / 2 * (2 * 2) + (s.low + 2)) ≤ len * 8 = rw e at i in omega arith
      go (inr (inr e)) i = let j : s.at * 8 + ((y * 8 + 7) / 4 * (2 * 4) + (s.low + 4)) ≤ len * 8 = rw e at i in omega arith

  -- first bit of bit b of the byte in the source's row
  abbrev place : ℕ → ℕ
  place b = (y * 8 + b) / w * (2 * w) + (s.low + (y * 8 + b) % w)

  low_place : (b : ℕ) → b < 4 → (place b / 8 ≡ 2 * y) × (place b % 8 ≡ s.low + (b / w * (2 * w) + b % w))
  low_place b h = go narrow low_le
    where
      go : Narrow w → s.low ≤ w → (place b / 8 ≡ 2 * y) × (place b % 8 ≡ s.low + (b / w * (2 * w) + b % w))
      go (inl e) l = let l1 : s.low ≤ 1 = omega arith in rw e (omega arith, omega arith)
      go (inr (inl e)) l = let l2 : s.low ≤ 2 = omega arith in rw e (omega arith, omega arith)
      go (inr (inr e)) l = let l4 : s.low ≤ 4 = omega arith in rw e (omega arith, omega arith)

  high_place : (b : ℕ) → b < 4 → (place (4 + b) / 8 ≡ 2 * y + 1) × (place (4 + b) % 8 ≡ s.low + (b / w * (2 * w) + b % w))
  high_place b h = go narrow low_le
    where
      go : Narrow w → s.low ≤ w → (place (4 + b) / 8 ≡ 2 * y + 1) × (place (4 + b) % 8 ≡ s.low + (b / w * (2 * w) + b % w))
      go (inl e) l = let l1 : s.low ≤ 1 = omega arith in rw e (omega arith, omega arith)
      go (inr (inl e)) l = let l2 : s.low ≤ 2 = omega arith in rw e (omega arith, omega arith)
      go (inr (inr e)) l = let l4 : s.low ≤ 4 = omega arith in rw e (omega arith, omega arith)

  -- the bits that a half takes are in their byte, moved down too
  taken_in : (i : ℕ) → i < 4 → s.low + (i / w * (2 * w) + i % w) < 8
  taken_in i h = go narrow low_le
    where
      go : Narrow w → s.low ≤ w → s.low + (i / w * (2 * w) + i % w) < 8
      go (inl e) l = let l1 : s.low ≤ 1 = omega arith in rw e (omega arith)
      go (inr (inl e)) l = let l2 : s.low ≤ 2 = omega arith in rw e (omega arith)
      go (inr (inr e)) l = let l4 : s.low ≤ 4 = omega arith in rw e (omega arith)

  -- two bytes as one number, moved down: its halves are theirs
  module _ (p q x r : ℕ) (small_p : p < 256) (x_is : x ≡ (p + q * 256) / 2 ^ s.low) where
    both : (j : ℕ) → bit x j ≡ bit (q * 2 ^ 8 + p) (s.low + j)
    both j =
        let e : p + q * 256 ≡ q * 2 ^ 8 + p = omega arith in
        rw (x_is, e) (bit_shr (q * 2 ^ 8 + p) s.low j)

    pub pair_low : Half w (x % 256) r → Half w (p / 2 ^ s.low) r
    pair_low H = record {
      small = H.small;
      bits = λ i h.
          let t = taken_in i h in
          H.bits i h ∙ (bit_mod x 8 (i / w * (2 * w) + i % w) (omega (arith, t)) ∙ (both (i / w * (2 * w) + i % w)
          ∙ (bit_low 8 q p (s.low + (i / w * (2 * w) + i % w)) t ∙ sym (bit_shr p s.low (i / w * (2 * w) + i % w)))));
    }

    pub pair_high : Half w (x / 256) r → Half w (q / 2 ^ s.low) r
    pair_high H = record {
      small = H.small;
      bits = λ i h.
          let e : s.low + (8 + (i / w * (2 * w) + i % w)) ≡ 8 + (s.low + (i / w * (2 * w) + i % w)) = omega arith in
          H.bits i h ∙ (bit_shr x 8 (i / w * (2 * w) + i % w) ∙ (both (8 + (i / w * (2 * w) + i % w))
          ∙ (ap (bit (q * 2 ^ 8 + p)) e ∙ (bit_high 8 q p (s.low + (i / w * (2 * w) + i % w)) small_p ∙ sym (bit_shr q s.low (i / w * (2 * w) + i % w))))));
    }

  pub halved_is : (lo hi : ℕ) → Half w (get_or bytes (s.at + 2 * y) 0 / 2 ^ s.low) lo → Half w (get_or bytes (s.at + 2 * y + 1) 0 / 2 ^ s.low) hi → hi * 16 + lo ≡ field_byte bytes s w y
  unfolding field_byte
  halved_is lo hi L H = sym (pack_byte _ (hi * 16 + lo) (omega (arith, L.small, H.small)) one)
    where
      one : (b : ℕ) → b < 8 → bit_in bytes s.at ((y * 8 + b) / w * s.step + (s.low + (y * 8 + b) % w)) ≡ bit (hi * 16 + lo) b
      one b h =
          rw twice (either (lt? b 4)
          (λ a.
          let p = low_place b a.1 in
          rw (p.0, p.1) (sym (bit_low 4 hi lo b a.1 ∙ (L.bits b a.1 ∙ bit_shr (get_or bytes (s.at + 2 * y) 0) s.low (b / w * (2 * w) + b % w)))))
          (λ a.
          let e : b ≡ 4 + (b - 4) = omega arith in
          let p = high_place (b - 4) (omega arith) in
          let q : s.at + (2 * y + 1) ≡ s.at + 2 * y + 1 = omega arith in
          rw (e, p.0, p.1, q)
          (sym (bit_high 4 hi lo (b - 4) L.small ∙ (H.bits (b - 4) (omega arith) ∙ bit_shr (get_or bytes (s.at + 2 * y + 1) 0) s.low ((b - 4) / w * (2 * w) + (b - 4) % w))))))
