-- Fields of 16 bits in a word: a number in each of them, and which of them are not 0.
use mathlib.Core.Path.{◌≡◌, sym, ap, ◌∙◌}
use mathlib.Core.Bool.{true, false, and-true, and-false, or_comm}
use Prim.Native.Nat.{ℕ, zero, suc, ◌+◌, ◌*◌, ◌/◌, ◌%◌, ◌^◌, ◌<◌}
use native.Mathlib.Nat.{mod-lt}
use native.Mathlib.Omega.{arith}
use lib.Bits.{bit_and, bit_or, and_block, and_mask}
use lib.Pow.{pow_pos, split}
use Rattle.memory.specs.Bits.{bit, bit_ext, bit_zero, bit_low, bit_high, bit_mod, bit_shr, bit_or_lem, bit_and_lem}
use Rattle.memory.specs.Cases.{bool?, either, lt?}
use Rattle.memory.specs.Ranges.{any, any_ext, any_no, no_any}
use Rattle.kernels.proofs.Bits.{bit_over, bit_top}

-- ---- whether any bit is set

-- a number that is not 0 has a bit
some_bit : (k x : ℕ) → x < 2 ^ k → 0 < x → any (bit x) k ≡ true
some_bit k x h l =
    either (bool? (any (bit x) k))
    (λ t. t)
    (λ t.
    let z : x ≡ 0 = bit_ext k x 0 h (pow_pos k) (λ i m. no_any (bit x) k i t m ∙ sym (bit_zero i)) in
    absurd (omega arith))

-- ---- a number in each of n fields

unfoldable pub copies : ℕ → ℕ → ℕ
copies zero m = 0
copies (suc n) m = copies n m * 2 ^ 16 + m

pub bit_copies : (n m i b : ℕ) → m < 65536 → i < n → b < 16 → bit (copies n m) (16 * i + b) ≡ bit m b
unfolding copies
bit_copies zero m i b h l k = absurd (omega arith)
bit_copies (suc n) m zero b h l k =
    let z : 16 * 0 + b ≡ b = omega arith in
    rw z (bit_low 16 (copies n m) m b k)
bit_copies (suc n) m (suc i) b h l k =
    let z : 16 * suc i + b ≡ 16 + (16 * i + b) = omega arith in
    rw z (bit_high 16 (copies n m) m (16 * i + b) h ∙ bit_copies n m i b h (omega arith) k)

pub four_copies : (m : ℕ) → m * 281479271743489 ≡ copies 4 m
unfolding copies
four_copies m = omega arith

-- ---- a sum that carries into the highest bit of each field whose lower ones are not all 0

-- in one field
carry_one : (d : ℕ) → bit (d % 2 ^ 15 + 32767) 15 ≡ any (bit d) 15
carry_one d =
    let l : d % 2 ^ 15 < 2 ^ 15 = mod-lt d (pow_pos 15) in
    let same : any (bit (d % 2 ^ 15)) 15 ≡ any (bit d) 15 = any_ext (bit (d % 2 ^ 15)) (bit d) 15 (λ i h. bit_mod d 15 i h) in
    either (lt? 0 (d % 2 ^ 15))
    (λ t. bit_top 15 (d % 2 ^ 15 + 32767) (omega arith) (omega arith) ∙ (sym (some_bit 15 (d % 2 ^ 15) l t.1) ∙ same))
    (λ t.
    let z : d % 2 ^ 15 ≡ 0 = omega arith in
    bit_over 15 (d % 2 ^ 15 + 32767) 15 (omega arith) (omega arith)
    ∙ (sym (any_no (bit (d % 2 ^ 15)) 15 (λ i h. ap (λ (y : ℕ). bit y i) z ∙ bit_zero i)) ∙ same))

-- the sum field by field
sum_is : (n d : ℕ) → bit_and d (copies (suc n) 32767) + copies (suc n) 32767
    ≡ (bit_and (d / 2 ^ 16) (copies n 32767) + copies n 32767) * 2 ^ 16 + (d % 2 ^ 16 % 2 ^ 15 + 32767)
unfolding copies
sum_is n d =
    let e : bit_and d (copies n 32767 * 2 ^ 16 + 32767) ≡ bit_and (d / 2 ^ 16) (copies n 32767) * 2 ^ 16 + bit_and (d % 2 ^ 16) 32767 =
    ap (λ (y : ℕ). bit_and y (copies n 32767 * 2 ^ 16 + 32767)) (sym (split d 16))
    ∙ and_block 16 (d / 2 ^ 16) (copies n 32767) (d % 2 ^ 16) 32767 (mod-lt d (pow_pos 16)) (omega arith) in
    let f : bit_and (d % 2 ^ 16) 32767 ≡ d % 2 ^ 16 % 2 ^ 15 = and_mask (d % 2 ^ 16) 15 in
    omega (arith, e, f)

carries : (n d i : ℕ) → i < n → bit (bit_and d (copies n 32767) + copies n 32767) (16 * i + 15) ≡ any (λ b. bit d (16 * i + b)) 15
carries zero d i h = absurd (omega arith)
carries (suc n) d zero h =
    let X : ℕ = bit_and (d / 2 ^ 16) (copies n 32767) + copies n 32767 in
    let same : any (bit (d % 2 ^ 16)) 15 ≡ any (λ b. bit d (16 * 0 + b)) 15 =
    any_ext (bit (d % 2 ^ 16)) (λ b. bit d (16 * 0 + b)) 15
    (λ b l. let y : b ≡ 16 * 0 + b = omega arith in bit_mod d 16 b (omega arith) ∙ ap (bit d) y) in
    ap (λ (y : ℕ). bit y 15) (sum_is n d)
    ∙ (bit_low 16 X (d % 2 ^ 16 % 2 ^ 15 + 32767) 15 (omega arith) ∙ (carry_one (d % 2 ^ 16) ∙ same))
carries (suc n) d (suc i) h =
    let X : ℕ = bit_and (d / 2 ^ 16) (copies n 32767) + copies n 32767 in
    let z : 16 * suc i + 15 ≡ 16 + (16 * i + 15) = omega arith in
    let l : d % 2 ^ 16 % 2 ^ 15 < 2 ^ 15 = mod-lt (d % 2 ^ 16) (pow_pos 15) in
    let same : any (λ b. bit (d / 2 ^ 16) (16 * i + b)) 15 ≡ any (λ b. bit d (16 * suc i + b)) 15 =
    any_ext (λ b. bit (d / 2 ^ 16) (16 * i + b)) (λ b. bit d (16 * suc i + b)) 15
    (λ b m. let y : 16 + (16 * i + b) ≡ 16 * suc i + b = omega arith in bit_shr d 16 (16 * i + b) ∙ ap (bit d) y) in
    ap (λ (y : ℕ). bit y (16 * suc i + 15)) (sum_is n d)
    ∙ (ap (bit (X * 2 ^ 16 + (d % 2 ^ 16 % 2 ^ 15 + 32767))) z
    ∙ (bit_high 16 X (d % 2 ^ 16 % 2 ^ 15 + 32767) (16 * i + 15) (omega arith) ∙ (carries n (d / 2 ^ 16) i (omega arith) ∙ same)))

-- ---- which fields are not 0

-- the mask of the highest bits
top_bit : (i : ℕ) → i < 4 → bit 9223512776490647552 (16 * i + 15) ≡ true
unfolding bit
top_bit i h = ap (λ (y : ℕ). bit y (16 * i + 15)) (four_copies 32768) ∙ bit_copies 4 32768 i 15 (omega arith) h (omega arith)

low_bits : (i j : ℕ) → i < 4 → j < 15 → bit 9223512776490647552 (16 * i + j) ≡ false
low_bits i j h l =
    ap (λ (y : ℕ). bit y (16 * i + j)) (four_copies 32768)
    ∙ (bit_copies 4 32768 i j (omega arith) h (omega arith) ∙ (bit_low 15 1 0 j l ∙ bit_zero j))

pub not_zero : (d i : ℕ) → i < 4
    → bit (bit_and (bit_or (bit_and d 9223231297218904063 + 9223231297218904063) d) 9223512776490647552) (16 * i + 15)
    ≡ any (λ b. bit d (16 * i + b)) 16
unfolding any
not_zero d i h =
    let s : bit (bit_and d 9223231297218904063 + 9223231297218904063) (16 * i + 15) ≡ any (λ b. bit d (16 * i + b)) 15 =
    ap (λ (y : ℕ). bit (bit_and d y + y) (16 * i + 15)) (four_copies 32767) ∙ carries 4 d i h in
    rw (
      bit_and_lem (bit_or (bit_and d 9223231297218904063 + 9223231297218904063) d) 9223512776490647552 (16 * i + 15),
      bit_or_lem (bit_and d 9223231297218904063 + 9223231297218904063) d (16 * i + 15),
      top_bit i h,
      s,
    ) (and-true _ ∙ or_comm (any (λ b. bit d (16 * i + b)) 15) (bit d (16 * i + 15)))

pub nothing_below : (x i j : ℕ) → i < 4 → j < 15 → bit (bit_and x 9223512776490647552) (16 * i + j) ≡ false
nothing_below x i j h l = rw (bit_and_lem x 9223512776490647552 (16 * i + j), low_bits i j h l) (and-false (bit x (16 * i + j)))
