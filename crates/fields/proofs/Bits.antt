-- Eight bytes as a number.
use mathlib.Core.Path.{◌≡◌, ap, ◌∙◌}
use mathlib.Core.List.{[], ◌∷◌}
use Prim.Native.Nat.{ℕ, ◌/◌, ◌%◌, ◌<◌}
use native.Mathlib.Omega.{arith}
use Rattle.std.specs.Int.{w64, from_le_bytes}
use Rattle.memory.specs.Bits.{bit, number, bit_number}

pub eight_bytes : (f : ℕ → ℕ) → ((k : ℕ) → f k < 256) → (r : ℕ) → r ≡ from_le_bytes w64 (f 0 ∷ f 1 ∷ f 2 ∷ f 3 ∷ f 4 ∷ f 5 ∷ f 6 ∷ f 7 ∷ [])
    → (i : ℕ) → i < 64 → bit r i ≡ bit (f (i / 8)) (i % 8)
unfolding number
eight_bytes f all r e i l =
    let s : r ≡ number f 8 = omega (arith, e) in
    ap (λ (z : ℕ). bit z i) s ∙ bit_number f all 8 i l
