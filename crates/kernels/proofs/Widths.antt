-- The powers of two among which the widths are.
use mathlib.Core.Path.{◌≡◌}
use Prim.Native.Nat.{ℕ, zero, suc, ◌^◌, ◌<◌}
use native.Mathlib.Omega.{arith}
use lib.Pow.{pow_pos}

-- of 2 to 64 the one that is none of the others
pub sixty_four : (e w : ℕ) → 0 < e → e < 7 → w ≡ 2 ^ e → (w ≡ 2 → ⊥) → (w ≡ 4 → ⊥) → (w ≡ 8 → ⊥) → (w ≡ 16 → ⊥) → (w ≡ 32 → ⊥) → w ≡ 64
sixty_four zero w a b c x y z u v = absurd (omega arith)
sixty_four (suc zero) w a b c x y z u v = absurd (x c)
sixty_four (suc (suc zero)) w a b c x y z u v = absurd (y c)
sixty_four (suc (suc (suc zero))) w a b c x y z u v = absurd (z c)
sixty_four (suc (suc (suc (suc zero)))) w a b c x y z u v = absurd (u c)
sixty_four (suc (suc (suc (suc (suc zero))))) w a b c x y z u v = absurd (v c)
sixty_four (suc (suc (suc (suc (suc (suc zero)))))) w a b c x y z u v = c
sixty_four (suc (suc (suc (suc (suc (suc (suc e))))))) w a b c x y z u v = absurd (omega arith)

-- the widths but 1, 2 and 4
pub wide : (e w : ℕ) → w ≡ 2 ^ e → (w ≡ 1 → ⊥) → (w ≡ 2 → ⊥) → (w ≡ 4 → ⊥) → 7 < w
wide zero w a x y z = absurd (x a)
wide (suc zero) w a x y z = absurd (y a)
wide (suc (suc zero)) w a x y z = absurd (z a)
wide (suc (suc (suc e))) w a x y z = omega (arith, pow_pos e)
