-- Bits that are set in an array of bytes.
use mathlib.Core.Path.{◌≡◌, refl, sym, ap, ◌∙◌}
use mathlib.Core.Logic.{◌≢◌}
use mathlib.Core.Bool.{Bool, true, false, ◌||◌, or_comm}
use mathlib.Core.List.{List}
use Prim.Native.Nat.{ℕ, zero, suc, ◌+◌, ◌*◌, ◌/◌, ◌%◌, ◌^◌, ◌<◌}
use native.Mathlib.Numerals.{add-one}
use native.Mathlib.Omega.{arith}
use lib.Bits.{bit_or}
use lib.Dec.{eqb, eqb-suc-suc}
use lib.ListN.{length, get_or, set, take, replicate, get_or-replicate}
use lib.Pow.{pow-lt}
use Rattle.std.proofs.lemmas.List.{get_or-take}
use lib.Seq.{get_or-set_same, get_or-set_other}
use borrow.Author.Tests.{eq-eqb, ne_eqb}
use Rattle.memory.specs.Bits.{bit, bit_zero, bit_or_lem}
use Rattle.memory.specs.Cases.{either, eq?}
use Rattle.memory.specs.Ranges.{any, any_ext, any_memb}
use Rattle.layout.specs.Hash.{fnv_family, positions}
use Rattle.laws.specs.Positions.{length_positions, position_array, position_at}
use Rattle.filter.specs.Filter.{array_bit, key_bit}

-- the number 2 ^ k has bit k alone
pub bit_power : (k i : ℕ) → bit (2 ^ k) i ≡ eqb k i
unfolding bit
bit_power zero zero = refl
bit_power zero (suc i) = bit_zero i ∙ sym (ne_eqb 0 (suc i) (λ e. omega arith))
bit_power (suc k) zero = let e : 2 ^ suc k % 2 ≡ 0 = omega arith in rw e (sym (ne_eqb (suc k) 0 (λ e. omega arith)))
bit_power (suc k) (suc i) = let e : 2 ^ suc k / 2 ≡ 2 ^ k = omega arith in rw e (bit_power k i ∙ sym (eqb-suc-suc k i))

-- the mask of a bit of a byte
mask_is : (k : ℕ) → k < 8 → (1 * 2 ^ k) % 2 ^ 8 ≡ 2 ^ k
mask_is k h = omega (arith, pow-lt h)

-- one bit set
pub set_one : (l : List ℕ) (p x : ℕ) → length l ≡ 256 → p < 2048
    → array_bit (set l (p / 8) (bit_or (get_or l (p / 8) 0) ((1 * 2 ^ (p % 8)) % 2 ^ 8))) x ≡ (eqb p x || array_bit l x)
unfolding array_bit
set_one l p x len h =
    let m : (1 * 2 ^ (p % 8)) % 2 ^ 8 ≡ 2 ^ (p % 8) = mask_is (p % 8) (omega arith) in
    rw m (either (eq? (x / 8) (p / 8))
    (λ c. let e : x / 8 ≡ p / 8 = c.1 in
    rw e (ap (λ (y : ℕ). bit y (x % 8)) (get_or-set_same l (p / 8) (bit_or (get_or l (p / 8) 0) (2 ^ (p % 8))) 0 (omega arith))
    ∙ bit_or_lem (get_or l (p / 8) 0) (2 ^ (p % 8)) (x % 8)
    ∙ or_comm (bit (get_or l (p / 8) 0) (x % 8)) (bit (2 ^ (p % 8)) (x % 8))
    ∙ ap (λ (t : Bool). t || bit (get_or l (p / 8) 0) (x % 8)) (bit_power (p % 8) (x % 8) ∙ same e)))
    (λ c.
    let n : x / 8 ≢ p / 8 = c.1 in
    let d : eqb p x ≡ false = ne_eqb p x (λ q. n (omega arith)) in
    rw d (ap (λ (y : ℕ). bit y (x % 8)) (get_or-set_other l (p / 8) (x / 8) (bit_or (get_or l (p / 8) 0) (2 ^ (p % 8))) 0 n))))
  where
    same : x / 8 ≡ p / 8 → eqb (p % 8) (x % 8) ≡ eqb p x
    same e =
        either (eq? p x)
        (λ c. rw c.0 (eq-eqb (p % 8) (x % 8) (omega arith)))
        (λ c. let n : p ≢ x = c.1 in rw c.0 (ne_eqb (p % 8) (x % 8) (λ q. n (omega arith))))

-- one bit more: those of the first i positions are set, then that of position i
pub set_next : (f : ℕ → Bool) (i : ℕ) (o o₁ o₂ : Bool) → o₁ ≡ (any f i || o) → o₂ ≡ (f i || o₁) → o₂ ≡ (any f (i + 1) || o)
unfolding any
set_next f i o o₁ o₂ e₁ e₂ = rw (e₂, e₁, add-one) (join (f i) (any f i) o)
  where
    join : (a b c : Bool) → (a || (b || c)) ≡ (a || b || c)
    join true b c = refl
    join false b c = refl

-- is x one of the first k of an array with the positions, the k of a slice
pub any_position : (u k : ℕ) (bytes : List ℕ) (x : ℕ) (ps : List ℕ) → ps ≡ position_array fnv_family k u bytes
    → any (λ i. eqb (get_or (take k ps) i 0) x) k ≡ key_bit u k bytes x
any_position u k bytes x ps e =
    let l : List ℕ = positions fnv_family k u bytes in
    any_ext (λ i. eqb (get_or (take k ps) i 0) x) (λ i. eqb (get_or l i 0) x) k
    (λ i h. ap (λ (y : ℕ). eqb y x) (get_or-take k ps i 0 h ∙ ap (λ (z : List ℕ). get_or z i 0) e ∙ position_at fnv_family k u bytes i h))
    ∙ ap (any (λ i. eqb (get_or l i 0) x)) (sym (length_positions fnv_family k u bytes)) ∙ any_memb x l

-- no bit is set
pub none_set : (n x : ℕ) → x / 8 < n → array_bit (replicate n 0) x ≡ false
unfolding array_bit
none_set n x h = rw (get_or-replicate {A = ℕ} n (x / 8) 0 0 h) (bit_zero (x % 8))

-- one index more
pub any_more : (f : ℕ → Bool) (n : ℕ) → (f n || any f n) ≡ any f (n + 1)
unfolding any
any_more f n = rw add-one
