-- Bits of a number, and a number from its bits.
use Rattle.std.specs.Prelude.{◌≡◌, refl, ◌≢◌, Bool, true, false, ◌&&◌, ◌||◌, List, ℕ, zero, suc, ◌+◌, ◌*◌, ◌-◌, ◌/◌, ◌%◌, ◌^◌, ◌≤◌, ◌<◌, min, max, eqb, get_or}
use Rattle.std.proofs.Common.{sym, ap, ap₂, ◌∙◌, le_of_suc-le-suc, not-suc-le-zero, mod-lt, div-one, pow-suc, mul_comm, arith, pow_pos, eqb-true}
use Rattle.std.proofs.Math.Bool.{xor}
use Rattle.std.proofs.Math.Nat.{div-div-eq-div-mul}
use Rattle.std.proofs.Math.Arith.{digits_div, digits_mod}
use Rattle.std.specs.Int.Bits.{bit_and, bit_or, bit_xor, and_step, or_step, xor_step, differ, block_half, block_odd}
use Rattle.std.proofs.Math.Pow.{split}
use Rattle.std.proofs.lemmas.Bool.{eqb-false}
use Rattle.memory.specs.Cases.{bool?, either, lt?}

-- bit i of n, by halves; `bit_is` has it in closed form
unfoldable pub bit : ℕ → ℕ → Bool
bit n zero = eqb (n % 2) 1
bit n (suc i) = bit (n / 2) i

pub bit_is : (n i : ℕ) → bit n i ≡ eqb (n / 2 ^ i % 2) 1
unfolding bit
bit_is n zero = rw div-one
bit_is n (suc i) =
    bit_is (n / 2) i
    ∙ ap (λ (x : ℕ). eqb (x % 2) 1) (div-div-eq-div-mul n 2 (2 ^ i) ∙ ap (λ (x : ℕ). n / x) (mul_comm 2 (2 ^ i) ∙ sym (pow-suc 2 i)))

-- bit q of the row of bits that begins at byte `at`
abbrev pub bit_in : List ℕ → ℕ → ℕ → Bool
bit_in bytes at q = bit (get_or bytes (at + q / 8) 0) (q % 8)

abbrev pub num : Bool → ℕ
num true = 1
num false = 0

-- the number whose k low bits are f 0, f 1, ..
unfoldable pub pack : ℕ → (ℕ → Bool) → ℕ
pack zero f = 0
pack (suc k) f = pack k (λ i. f (suc i)) * 2 + num (f zero)

num_lt : (t : Bool) → num t < 2
num_lt true = omega arith
num_lt false = omega arith

pub eqb_num : (t : Bool) → eqb (num t) 1 ≡ t
eqb_num true = refl
eqb_num false = refl

pub pack_lt : (k : ℕ) (f : ℕ → Bool) → pack k f < 2 ^ k
unfolding pack
pack_lt zero f = omega arith
pack_lt (suc k) f = omega (arith, pack_lt k (λ i. f (suc i)), num_lt (f zero))

pub bit_pack : (k : ℕ) (f : ℕ → Bool) (i : ℕ) → i < k → bit (pack k f) i ≡ f i
unfolding pack bit
bit_pack zero f i h = absurd (not-suc-le-zero h)
bit_pack (suc k) f zero h = ap (λ (x : ℕ). eqb x 1) (digits_mod (pack k (λ i. f (suc i))) (num_lt (f zero))) ∙ eqb_num (f zero)
bit_pack (suc k) f (suc i) h =
    ap (λ (x : ℕ). bit x i) (digits_div (pack k (λ i. f (suc i))) (num_lt (f zero))) ∙ bit_pack k (λ i. f (suc i)) i (le_of_suc-le-suc h)

-- equal bits make equal numbers
pub pack_ext : (k : ℕ) (f g : ℕ → Bool) → ((i : ℕ) → i < k → f i ≡ g i) → pack k f ≡ pack k g
unfolding pack
pack_ext zero f g h = refl
pack_ext (suc k) f g h =
    ap₂ (λ (x : ℕ) (y : Bool). x * 2 + num y) (pack_ext k (λ i. f (suc i)) (λ i. g (suc i)) (λ i l. h (suc i) (omega arith)))
    (h zero (omega arith))

-- the lowest digit is settled by its test
low_eq : (a b : ℕ) → eqb (a % 2) 1 ≡ eqb (b % 2) 1 → a % 2 ≡ b % 2
low_eq a b e =
    either (bool? (eqb (a % 2) 1))
    (λ h. let g : eqb (b % 2) 1 ≡ true = sym e ∙ h in omega (arith, eqb-true (a % 2) 1 h, eqb-true (b % 2) 1 g))
    (λ h.
    let g : eqb (b % 2) 1 ≡ false = sym e ∙ h in
    let p : a % 2 ≢ 1 = eqb-false (a % 2) 1 h in
    let q : b % 2 ≢ 1 = eqb-false (b % 2) 1 g in
    omega arith)

-- numbers below 2 ^ k with the same k bits are equal
pub bit_ext : (k a b : ℕ) → a < 2 ^ k → b < 2 ^ k → ((i : ℕ) → i < k → bit a i ≡ bit b i) → a ≡ b
unfolding bit
bit_ext zero a b ha hb h = omega arith
bit_ext (suc k) a b ha hb h =
    let e : a % 2 ≡ b % 2 = low_eq a b (h zero (omega arith)) in
    let q : a / 2 ≡ b / 2 = bit_ext k (a / 2) (b / 2) (omega arith) (omega arith) (λ i p. h (suc i) (omega arith)) in
    omega arith

-- a number below 2 ^ k is packed from its own bits
pub pack_bit : (k a : ℕ) → a < 2 ^ k → pack k (bit a) ≡ a
pack_bit k a h = bit_ext k (pack k (bit a)) a (pack_lt k (bit a)) h (λ i p. bit_pack k (bit a) i p)

-- ---- zero, a number in two parts, a remainder and a shift

pub bit_zero : (i : ℕ) → bit 0 i ≡ false
unfolding bit
bit_zero zero = refl
bit_zero (suc i) = bit_zero i

pub bit_low : (k x b i : ℕ) → i < k → bit (x * 2 ^ k + b) i ≡ bit b i
unfolding bit
bit_low zero x b i h = absurd (not-suc-le-zero h)
bit_low (suc k) x b zero h = ap (λ (y : ℕ). eqb y 1) (block_odd x k b)
bit_low (suc k) x b (suc i) h = ap (λ (y : ℕ). bit y i) (block_half x k b) ∙ bit_low k x (b / 2) i (le_of_suc-le-suc h)

pub bit_high : (k x b i : ℕ) → b < 2 ^ k → bit (x * 2 ^ k + b) (k + i) ≡ bit x i
unfolding bit
bit_high zero x b i h =
    let e : x * 2 ^ 0 + b ≡ x = omega arith in
    let z : 0 + i ≡ i = omega arith in
    rw (e, z)
bit_high (suc k) x b i h =
    let z : suc k + i ≡ suc (k + i) = omega arith in
    rw z (ap (λ (y : ℕ). bit y (k + i)) (block_half x k b) ∙ bit_high k x (b / 2) i (omega arith))

-- a remainder keeps the low bits
pub bit_mod : (n m i : ℕ) → i < m → bit (n % 2 ^ m) i ≡ bit n i
bit_mod n m i h = sym (ap (λ (y : ℕ). bit y i) (sym (split n m)) ∙ bit_low m (n / 2 ^ m) (n % 2 ^ m) i h)

-- a shift to the right
pub bit_shr : (x k i : ℕ) → bit (x / 2 ^ k) i ≡ bit x (k + i)
bit_shr x k i = sym (ap (λ (y : ℕ). bit y (k + i)) (sym (split x k)) ∙ bit_high k (x / 2 ^ k) (x % 2 ^ k) i (mod-lt x (pow_pos k)))

-- shifts to the left
pub bit_shl : (x k m i : ℕ) → k + i < m → bit (x * 2 ^ k % 2 ^ m) (k + i) ≡ bit x i
bit_shl x k m i h =
    let e : x * 2 ^ k ≡ x * 2 ^ k + 0 = omega arith in
    bit_mod (x * 2 ^ k) m (k + i) h ∙ (ap (λ (y : ℕ). bit y (k + i)) e ∙ bit_high k x 0 i (omega (arith, pow_pos k)))

pub bit_shl_low : (x k m i : ℕ) → i < k → i < m → bit (x * 2 ^ k % 2 ^ m) i ≡ false
bit_shl_low x k m i h l =
    let e : x * 2 ^ k ≡ x * 2 ^ k + 0 = omega arith in
    bit_mod (x * 2 ^ k) m i l ∙ (ap (λ (y : ℕ). bit y i) e ∙ (bit_low k x 0 i h ∙ bit_zero i))

-- ---- bytes, lowest first, as a number

-- the number of n bytes f 0, f 1, ..
unfoldable pub number : (ℕ → ℕ) → ℕ → ℕ
number f zero = 0
number f (suc n) = number (λ k. f (suc k)) n * 2 ^ 8 + f zero

pub bit_number : (f : ℕ → ℕ) → ((k : ℕ) → f k < 256) → (n i : ℕ) → i < 8 * n → bit (number f n) i ≡ bit (f (i / 8)) (i % 8)
unfolding number
bit_number f all zero i h = absurd (omega arith)
bit_number f all (suc n) i h =
    either (lt? i 8)
    (λ l.
    let d : i / 8 ≡ 0 = omega arith in
    let m : i % 8 ≡ i = omega arith in
    rw (d, m) (bit_low 8 (number (λ k. f (suc k)) n) (f zero) i l.1))
    (λ l.
    let e : i ≡ 8 + (i - 8) = omega arith in
    let d : i / 8 ≡ suc ((i - 8) / 8) = omega arith in
    let m : i % 8 ≡ (i - 8) % 8 = omega arith in
    rw (d, m) (ap (λ (z : ℕ). bit (number (λ k. f (suc k)) n * 2 ^ 8 + f zero) z) e
    ∙ (bit_high 8 (number (λ k. f (suc k)) n) (f zero) (i - 8) (all zero)
    ∙ bit_number (λ k. f (suc k)) (λ k. all (suc k)) n (i - 8) (omega arith))))

-- ---- a conjunction, a disjunction and a difference, bit by bit

min_and : (a b : ℕ) → a < 2 → b < 2 → eqb (min a b) 1 ≡ (eqb a 1 && eqb b 1)
min_and zero zero h l = refl
min_and zero (suc zero) h l = refl
min_and zero (suc (suc b)) h l = absurd (omega arith)
min_and (suc zero) zero h l = refl
min_and (suc zero) (suc zero) h l = refl
min_and (suc zero) (suc (suc b)) h l = absurd (omega arith)
min_and (suc (suc a)) b h l = absurd (omega arith)

pub bit_and_lem : (a b i : ℕ) → bit (bit_and a b) i ≡ (bit a i && bit b i)
unfolding bit
bit_and_lem a b zero =
    let s = and_step a b in
    let e : bit_and a b % 2 ≡ min (a % 2) (b % 2) = omega arith in
    ap (λ (y : ℕ). eqb y 1) e ∙ min_and (a % 2) (b % 2) (omega arith) (omega arith)
bit_and_lem a b (suc i) =
    let s = and_step a b in
    let e : bit_and a b / 2 ≡ bit_and (a / 2) (b / 2) = omega arith in
    ap (λ (y : ℕ). bit y i) e ∙ bit_and_lem (a / 2) (b / 2) i

max_or : (a b : ℕ) → a < 2 → b < 2 → eqb (max a b) 1 ≡ (eqb a 1 || eqb b 1)
max_or zero zero h l = refl
max_or zero (suc zero) h l = refl
max_or zero (suc (suc b)) h l = absurd (omega arith)
max_or (suc zero) zero h l = refl
max_or (suc zero) (suc zero) h l = refl
max_or (suc zero) (suc (suc b)) h l = absurd (omega arith)
max_or (suc (suc a)) b h l = absurd (omega arith)

pub bit_or_lem : (a b i : ℕ) → bit (bit_or a b) i ≡ (bit a i || bit b i)
unfolding bit
bit_or_lem a b zero =
    let s = or_step a b in
    let e : bit_or a b % 2 ≡ max (a % 2) (b % 2) = omega arith in
    ap (λ (y : ℕ). eqb y 1) e ∙ max_or (a % 2) (b % 2) (omega arith) (omega arith)
bit_or_lem a b (suc i) =
    let s = or_step a b in
    let e : bit_or a b / 2 ≡ bit_or (a / 2) (b / 2) = omega arith in
    ap (λ (y : ℕ). bit y i) e ∙ bit_or_lem (a / 2) (b / 2) i

differ_xor : (a b : ℕ) → a < 2 → b < 2 → (differ a b < 2) × (eqb (differ a b) 1 ≡ xor (eqb a 1) (eqb b 1))
unfolding xor
differ_xor zero zero h l = (omega arith, refl)
differ_xor zero (suc zero) h l = (omega arith, refl)
differ_xor zero (suc (suc b)) h l = absurd (omega arith)
differ_xor (suc zero) zero h l = (omega arith, refl)
differ_xor (suc zero) (suc zero) h l = (omega arith, refl)
differ_xor (suc zero) (suc (suc b)) h l = absurd (omega arith)
differ_xor (suc (suc a)) b h l = absurd (omega arith)

pub bit_xor_lem : (a b i : ℕ) → bit (bit_xor a b) i ≡ xor (bit a i) (bit b i)
unfolding bit
bit_xor_lem a b zero =
    let d = differ_xor (a % 2) (b % 2) (omega arith) (omega arith) in
    ap (λ (y : ℕ). eqb y 1) (digit (bit_xor a b) (bit_xor (a / 2) (b / 2)) (differ (a % 2) (b % 2)) (xor_step a b) d.0) ∙ d.1
  where
    digit : (x y d : ℕ) → x ≡ y * 2 + d → d < 2 → x % 2 ≡ d
    digit x y d e l = omega arith
bit_xor_lem a b (suc i) =
    let d = differ_xor (a % 2) (b % 2) (omega arith) (omega arith) in
    ap (λ (y : ℕ). bit y i) (half (bit_xor a b) (bit_xor (a / 2) (b / 2)) (differ (a % 2) (b % 2)) (xor_step a b) d.0) ∙ bit_xor_lem (a / 2) (b / 2) i
  where
    half : (x y d : ℕ) → x ≡ y * 2 + d → d < 2 → x / 2 ≡ y
    half x y d e l = omega arith
