-- Bits above the highest set bit, and at it.
use mathlib.Core.Path.{◌≡◌, ap, ◌∙◌}
use mathlib.Core.Bool.{true, false}
use Prim.Native.Nat.{ℕ, suc, ◌+◌, ◌*◌, ◌-◌, ◌^◌, ◌≤◌, ◌<◌}
use native.Mathlib.Omega.{arith}
use Rattle.memory.specs.Bits.{bit, bit_zero, bit_high}

pub bit_over : (j y i : ℕ) → y < 2 ^ j → j ≤ i → bit y i ≡ false
bit_over j y i h l =
    let e : y ≡ 0 * 2 ^ j + y = omega arith in
    let f : i ≡ j + (i - j) = omega arith in
    ap (λ (z : ℕ). bit y z) f ∙ (ap (λ (z : ℕ). bit z (j + (i - j))) e ∙ (bit_high j 0 y (i - j) h ∙ bit_zero (i - j)))

pub bit_top : (j y : ℕ) → 2 ^ j ≤ y → y < 2 ^ suc j → bit y j ≡ true
unfolding bit
bit_top j y l h =
    let e : y ≡ 1 * 2 ^ j + (y - 2 ^ j) = omega arith in
    let f : j ≡ j + 0 = omega arith in
    ap (λ (z : ℕ). bit y z) f ∙ (ap (λ (z : ℕ). bit z (j + 0)) e ∙ bit_high j 1 (y - 2 ^ j) 0 (omega arith))
