-- Every second bit of two words and every fourth of four, side by side.
use mathlib.Core.Path.{◌≡◌, ap, ◌∙◌}
use mathlib.Core.Bool.{Bool, false, ◌&&◌, ◌||◌, and-true, and-false, or-false}
use Prim.Native.Nat.{ℕ, ◌+◌, ◌*◌, ◌-◌, ◌%◌, ◌^◌, ◌<◌}
use native.Mathlib.Omega.{arith}
use lib.Bits.{bit_and, bit_or}
use borrow.Author.Tests.{lt-ltb, le-ltb}
use Rattle.memory.specs.Bits.{bit, bit_or_lem, bit_and_lem, bit_shl, bit_shl_low}
use Rattle.memory.specs.Cases.{either, lt?}
use Rattle.kernels.specs.Blocks.{Squeezed}
use Rattle.kernels.proofs.Joins.{first_4}

-- ---- halves

module _ (a b x y : ℕ) (X : Squeezed 2 a x) (Y : Squeezed 2 b y) where
  pub two_halves : (i : ℕ) → i < 32 → (bit (bit_or ((y * 2 ^ 32) % 2 ^ 64) x) i ≡ bit a (i * 2)) × (bit (bit_or ((y * 2 ^ 32) % 2 ^ 64) x) (32 + i) ≡ bit b (i * 2))
  unfolding Squeezed
  two_halves i h = (
    bit_or_lem ((y * 2 ^ 32) % 2 ^ 64) x i
        ∙ (ap (λ (t : Bool). t || bit x i) (bit_shl_low y 32 64 i h (omega arith))
        ∙ (X i (omega arith) ∙ ap (λ (t : Bool). t && bit a (i * 2)) (lt-ltb (i * 2) 64 (omega arith)))),
    bit_or_lem ((y * 2 ^ 32) % 2 ^ 64) x (32 + i)
        ∙ (ap (λ (t : Bool). t || bit x (32 + i)) (bit_shl y 32 64 i (omega arith))
        ∙ (ap (λ (t : Bool). bit y i || t) (X (32 + i) (omega arith) ∙ ap (λ (t : Bool). t && bit a ((32 + i) * 2)) (le-ltb ((32 + i) * 2) 64 (omega arith)))
        ∙ (or-false (bit y i)
        ∙ (Y i (omega arith) ∙ ap (λ (t : Bool). t && bit b (i * 2)) (lt-ltb (i * 2) 64 (omega arith)))))),
  )

-- ---- quarters

abbrev fourth : ℕ → ℕ
fourth a = bit_and a 1229782938247303441

kept : (a k : ℕ) → k < 16 → bit (fourth a) (4 * k) ≡ bit a (4 * k)
kept a k h =
    bit_and_lem a 1229782938247303441 (4 * k)
    ∙ (ap (λ (t : Bool). bit a (4 * k) && t) (first_4 (4 * k) (omega arith) ∙ lt-ltb (4 * k % 4) 1 (omega arith)) ∙ and-true (bit a (4 * k)))

cut : (a i : ℕ) → i < 64 → 0 < i % 4 → bit (fourth a) i ≡ false
cut a i h l =
    bit_and_lem a 1229782938247303441 i ∙ (ap (λ (t : Bool). bit a i && t) (first_4 i h ∙ le-ltb (i % 4) 1 (omega arith)) ∙ and-false (bit a i))

-- one word more, at the lowest bit of each field of four
abbrev under : ℕ → ℕ → ℕ
under y a = bit_or ((y * 2 ^ 1) % 2 ^ 64) (fourth a)

under_next : (y a i j : ℕ) → j ≡ 1 + i → j < 64 → 0 < j % 4 → bit (under y a) j ≡ bit y i
under_next y a i j e h l =
    bit_or_lem ((y * 2 ^ 1) % 2 ^ 64) (fourth a) j
    ∙ (ap (λ (t : Bool). bit ((y * 2 ^ 1) % 2 ^ 64) j || t) (cut a j h l)
    ∙ (or-false (bit ((y * 2 ^ 1) % 2 ^ 64) j) ∙ (ap (bit ((y * 2 ^ 1) % 2 ^ 64)) e ∙ bit_shl y 1 64 i (omega arith))))

under_low : (y a k : ℕ) → ((i : ℕ) → i < 64 → i % 4 ≡ 3 → bit y i ≡ false) → k < 16 → bit (under y a) (4 * k) ≡ bit a (4 * k)
under_low y a k top h =
    bit_or_lem ((y * 2 ^ 1) % 2 ^ 64) (fourth a) (4 * k)
    ∙ (ap (λ (t : Bool). t || bit (fourth a) (4 * k))
    (either (lt? (4 * k) 1)
    (λ l. bit_shl_low y 1 64 (4 * k) l.1 (omega arith))
    (λ l.
    let e : 4 * k ≡ 1 + (4 * k - 1) = omega (arith, l.1) in
    ap (bit ((y * 2 ^ 1) % 2 ^ 64)) e ∙ (bit_shl y 1 64 (4 * k - 1) (omega arith) ∙ top (4 * k - 1) (omega arith) (omega (arith, l.1)))))
    ∙ kept a k h)

module _ (a b c d : ℕ) where
  abbrev w1 : ℕ
  w1 = under (fourth d) c

  abbrev w2 : ℕ
  w2 = under w1 b

  abbrev pub w3 : ℕ
  w3 = under w2 a

  top0 : (i : ℕ) → i < 64 → 0 < i % 4 → bit (fourth d) i ≡ false
  top0 i h l = cut d i h l

  top1 : (i : ℕ) → i < 64 → 1 < i % 4 → bit w1 i ≡ false
  top1 i h l = under_next (fourth d) c (i - 1) i (omega arith) h (omega arith) ∙ top0 (i - 1) (omega arith) (omega arith)

  top2 : (i : ℕ) → i < 64 → 2 < i % 4 → bit w2 i ≡ false
  top2 i h l = under_next w1 b (i - 1) i (omega arith) h (omega arith) ∙ top1 (i - 1) (omega arith) (omega arith)

  pub four_quarters : (r : ℕ) → ((i j : ℕ) → i < 16 → j < 4 → bit r (16 * j + i) ≡ bit w3 (4 * i + j))
      → (i : ℕ) → i < 16 → (bit r i ≡ bit a (i * 4)) × (bit r (16 + i) ≡ bit b (i * 4)) × (bit r (32 + i) ≡ bit c (i * 4)) × (bit r (48 + i) ≡ bit d (i * 4))
  four_quarters r R i h =
      let k : 4 * i ≡ i * 4 = omega arith in
      let e0 : i ≡ 16 * 0 + i = omega arith in
      let f0 : 4 * i + 0 ≡ 4 * i = omega arith in (
        ap (bit r) e0 ∙ (R i 0 h (omega arith) ∙ (ap (bit w3) f0 ∙ (under_low w2 a i (λ j l t. top2 j l (omega arith)) h ∙ ap (bit a) k))),
        R i 1 h (omega arith)
            ∙ (under_next w2 a (4 * i) (4 * i + 1) (omega arith) (omega arith) (omega arith)
            ∙ (under_low w1 b i (λ j l t. top1 j l (omega arith)) h ∙ ap (bit b) k)),
        R i 2 h (omega arith)
            ∙ (under_next w2 a (4 * i + 1) (4 * i + 2) (omega arith) (omega arith) (omega arith)
            ∙ (under_next w1 b (4 * i) (4 * i + 1) (omega arith) (omega arith) (omega arith)
            ∙ (under_low (fourth d) c i (λ j l t. top0 j l (omega arith)) h ∙ ap (bit c) k))),
        R i 3 h (omega arith)
            ∙ (under_next w2 a (4 * i + 2) (4 * i + 3) (omega arith) (omega arith) (omega arith)
            ∙ (under_next w1 b (4 * i + 1) (4 * i + 2) (omega arith) (omega arith) (omega arith)
            ∙ (under_next (fourth d) c (4 * i) (4 * i + 1) (omega arith) (omega arith) (omega arith) ∙ (kept d i h ∙ ap (bit d) k)))),
      )
