-- Powers of two: remainders by them, the least exponent that reaches a number, and the same by leading zeros.
use Rattle.std.specs.Prelude.{◌≡◌, refl, cond, ℕ, zero, suc, ◌+◌, ◌-◌, ◌*◌, ◌%◌, ◌^◌, ◌≤◌, ◌<◌, ltb}
use Rattle.std.proofs.Common.{sym, ap, ◌∙◌, ⊎_elim, zero-le, arith, pow_pos, pow-add}
use Rattle.std.specs.Int.Bits.{bit_and}
use Rattle.std.proofs.lemmas.Nat.{and_mask}
use Rattle.std.specs.Int.Count.{count_leading_zeros, leading_unique}
use Rattle.memory.specs.Cases.{either, lt?, by_lt}

abbrev pub PowerOfTwo : ℕ → Type 0
PowerOfTwo n = (e : ℕ) × (n ≡ 2 ^ e)

pub power_some : (n : ℕ) → PowerOfTwo n → 0 < n
power_some n (e, p) = omega (arith, pow_pos e)

-- the remainder by one is a mask
pub power_mask : (x n : ℕ) → PowerOfTwo n → bit_and x (n - 1) ≡ x % n
power_mask x n (e, p) = rw p (and_mask x e)

-- the product with another is one
pub power_times : (k n : ℕ) → PowerOfTwo n → PowerOfTwo (2 ^ k * n)
power_times k n (e, p) = (k + e, rw p (sym (pow-add 2 k e)))

-- the least c with n ≤ 2 ^ c, step by step

unfoldable pub log2up : ℕ → ℕ
log2up zero = 0
log2up (suc n) = cond (ltb n (2 ^ log2up n)) (log2up n) (suc (log2up n))

pub log2up_enough : (n : ℕ) → n ≤ 2 ^ log2up n
unfolding log2up
log2up_enough zero = zero-le
log2up_enough (suc n) =
    let ih : n ≤ 2 ^ log2up n = log2up_enough n in
    by_lt (λ t. suc n ≤ 2 ^ cond t (log2up n) (suc (log2up n))) n (2 ^ log2up n) (λ h. h)
    (λ h. let r : suc n ≤ 2 ^ suc (log2up n) = omega (arith, pow_pos (log2up n)) in r)

pub log2up_least : (n c : ℕ) → n ≤ 2 ^ c → log2up n ≤ c
unfolding log2up
log2up_least zero c h = zero-le
log2up_least (suc n) c h =
    let ih : log2up n ≤ c = log2up_least n c (omega arith) in
    by_lt (λ t. cond t (log2up n) (suc (log2up n)) ≤ c) n (2 ^ log2up n) (λ k. ih)
    (λ k. ⊎_elim (λ p. p.1) (λ p. let e : log2up n ≡ c = omega arith in absurd (omega (arith, ap (λ (x : ℕ). 2 ^ x) e)))
    (lt? (log2up n) c))

-- the least power of two is less than twice the number
pub log2up_tight : (n : ℕ) → 0 < n → 2 ^ log2up n < 2 * n
log2up_tight n h = go (log2up n) refl
  where
    go : (c : ℕ) → log2up n ≡ c → 2 ^ c < 2 * n
    go zero e = omega arith
    go (suc c) e =
        either (lt? (2 ^ c) n)
        (λ a. omega arith)
        (λ a. absurd (omega (arith, log2up_least n c a.1)))

-- the exponent by the leading zeros of a number of 32 bits
pub log2up_leading : (i : ℕ) → 0 < i → i ≤ 4294967296 → log2up i ≡ 32 - count_leading_zeros 32 (i - 1)
log2up_leading i h k =
    let l : log2up i ≤ 32 = log2up_least i 32 k in
    let e : 32 - log2up i + log2up i ≡ 32 = omega arith in
    let r : 32 - log2up i ≡ count_leading_zeros 32 (i - 1)
    = leading_unique 32 (i - 1) (32 - log2up i) (log2up i) e (omega (arith, log2up_enough i)) (omega (arith, log2up_tight i h)) in
    omega arith

-- where n is at most 4 * 2 ^ e, 16 times its least power of two divides 64 * 2 ^ e
pub width : (e i : ℕ) → i ≤ 4 * 2 ^ e → 16 * 2 ^ log2up i * 2 ^ (e + 2 - log2up i) ≡ 64 * 2 ^ e
width e i h =
    let four : 2 ^ (e + 2) ≡ 4 * 2 ^ e = pow-add 2 e 2 ∙ omega arith in
    let k : log2up i ≤ e + 2 = log2up_least i (e + 2) (omega arith) in
    let s : log2up i + (e + 2 - log2up i) ≡ e + 2 = omega arith in
    let p : 2 ^ log2up i * 2 ^ (e + 2 - log2up i) ≡ 2 ^ (e + 2) = sym (pow-add 2 (log2up i) (e + 2 - log2up i)) ∙ rw s in
    omega arith
