-- A bit out of each of several bytes, side by side.
use mathlib.Core.Path.{◌≡◌, sym, ap, ◌∙◌}
use mathlib.Core.Bool.{Bool, or-false}
use Prim.Native.Nat.{ℕ, zero, suc, ◌+◌, ◌*◌, ◌-◌, ◌/◌, ◌%◌, ◌^◌, ◌≤◌, ◌<◌}
use native.Mathlib.Nat.{mod-lt, mod-eq_of_lt, mul-div_cancel}
use native.Mathlib.Omega.{arith}
use lib.Bits.{bit_and, bit_or, and_high}
use lib.Dec.{eqb}
use lib.Pow.{pow_pos, pow-lt, pow-add}
use Rattle.memory.specs.Bits.{bit, bit_is, bit_or_lem, bit_shl}
use Rattle.kernels.proofs.Bits.{bit_over}
use Rattle.kernels.proofs.Folds.{below}

-- a byte's bit s in its place
pub mask_is : (s b : ℕ) → bit_and b (2 ^ s) ≡ b / 2 ^ s % 2 * 2 ^ s
mask_is s b =
    let p : 2 ^ (1 + s) ≡ 2 * 2 ^ s = pow-add 2 1 s in
    let e : 2 ^ (1 + s) - 2 ^ s ≡ 2 ^ s = omega (arith, p) in
    rw e at (and_high b 1 s)

-- one bit as a mask
pub one_of : (s : ℕ) → s < 64 → (1 * 2 ^ s) % 2 ^ 64 ≡ 2 ^ s
one_of s h =
    let z : 1 * 2 ^ s ≡ 2 ^ s = omega arith in
    ap (λ (t : ℕ). t % 2 ^ 64) z ∙ mod-eq_of_lt (pow-lt h)

-- the numbers from k on, n of them, each 0 or 1 by f, as the digits of q
pub record Packed (f : ℕ → Bool) (s k n B acc : ℕ) : Type 0 where
  pub q : ℕ
  pub is : acc ≡ q * 2 ^ s
  pub small : q < B
  pub bits : (j : ℕ) → j < n → bit q j ≡ f (k + j)

digit : (q d j : ℕ) → d < 2 → bit (q * 2 + d) (suc j) ≡ bit q j
unfolding bit
digit q d j h = let e : (q * 2 + d) / 2 ≡ q = omega arith in ap (λ (t : ℕ). bit t j) e

lowest_digit : (q d : ℕ) → d < 2 → bit (q * 2 + d) 0 ≡ eqb d 1
unfolding bit
lowest_digit q d h = let e : (q * 2 + d) % 2 ≡ d = omega arith in ap (λ (t : ℕ). eqb t 1) e

module _ (f : ℕ → Bool) (s k b m t : ℕ) (one : m ≡ 2 ^ s) (is : t ≡ bit_and b m) (has : bit b s ≡ f k) where
  d : ℕ
  d = b / 2 ^ s % 2

  value : t ≡ b / 2 ^ s % 2 * 2 ^ s
  value = is ∙ (ap (bit_and b) one ∙ mask_is s b)

  pub pack_more : (n B k1 n1 B1 acc : ℕ) → k1 ≡ k + 1 → n1 ≡ n + 1 → B1 ≡ 2 * B → Packed f s k1 n B acc → Packed f s k n1 B1 (acc * 2 + t)
  pack_more n B k1 n1 B1 acc ek en eB P =
      let l : b / 2 ^ s % 2 < 2 = mod-lt (b / 2 ^ s) (omega arith) in
      record {
        q = P.q * 2 + b / 2 ^ s % 2;
        is = let v = value in let i = P.is in omega (arith, v, i);
        small = omega (arith, P.small, l);
        bits = more;
      }
    where
      more : (j : ℕ) → j < n1 → bit (P.q * 2 + b / 2 ^ s % 2) j ≡ f (k + j)
      more zero h =
          let x : k + 0 ≡ k = omega arith in
          rw x (lowest_digit P.q (b / 2 ^ s % 2) (mod-lt (b / 2 ^ s) (omega arith)) ∙ (sym (bit_is b s) ∙ has))
      more (suc j) h =
          let x : k1 + j ≡ k + suc j = omega arith in
          digit P.q (b / 2 ^ s % 2) j (mod-lt (b / 2 ^ s) (omega arith)) ∙ (P.bits j (omega arith) ∙ ap f x)

-- moved down
pub unpack : (f : ℕ → Bool) (s n B acc r : ℕ) → r ≡ acc / 2 ^ s → Packed f s 0 n B acc → (r < B) × ((j : ℕ) → j < n → bit r j ≡ f j)
unpack f s n B acc r e P =
    let q : r ≡ P.q = e ∙ (ap (λ (t : ℕ). t / 2 ^ s) P.is ∙ mul-div_cancel P.q (pow_pos s)) in
    rw q (P.small, λ j h. P.bits j h ∙ ap f (omega arith))

-- eight more below those that are there
pub eight_more : (f : ℕ → Bool) (b n r s : ℕ) → n + 8 ≤ 64 → s < 256 → ((i : ℕ) → i < 8 → bit s i ≡ f (b + i))
    → ((i : ℕ) → i < n → bit r i ≡ f (b + 8 + i)) → (i : ℕ) → i < n + 8 → bit (bit_or ((r * 2 ^ 8) % 2 ^ 64) s) i ≡ f (b + i)
eight_more f b n r s fits small S R = below f b 8 n r s fits R S (λ i l m. bit_over 8 s i small l)

-- and leave those above as they were
pub above_eight : (r s i : ℕ) → 8 + i < 64 → s < 256 → bit (bit_or ((r * 2 ^ 8) % 2 ^ 64) s) (8 + i) ≡ bit r i
above_eight r s i h small =
    bit_or_lem ((r * 2 ^ 8) % 2 ^ 64) s (8 + i) ∙ rw (bit_over 8 s (8 + i) small (omega arith), bit_shl r 8 64 i h) (or-false (bit r i))

-- ---- digits one after another

-- none yet
pub pack_none : (f : ℕ → Bool) (s k n : ℕ) → n ≡ 0 → Packed f s k n (2 ^ n) 0
pack_none f s k n e = record { q = 0; is = omega arith; small = pow_pos n; bits = λ j h. absurd (omega arith) }

-- all of them
pub pack_all : (f : ℕ → Bool) (s n k acc : ℕ) → k ≡ 0 → Packed f s k (n - k) (2 ^ (n - k)) acc → Packed f s 0 n (2 ^ n) acc
pack_all f s n k acc z P = let e : n - k ≡ n = omega arith in rw (e, z) at P
