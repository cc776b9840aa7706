-- A format has few operations: any machine word that counts steps is enough.
use Rattle.std.specs.Prelude.{◌≡◌, refl, Bool, cond, ℕ, zero, suc, ◌+◌, ◌≤◌}
use Rattle.std.proofs.Common.{subst}
use Rattle.std.proofs.Math.Bool.{true, false}
use native.Mathlib.Omega.{arith}
use Rattle.std.proofs.Math.ListN.{length}
use Rattle.memory.specs.Cases.{either, bool?}
use Rattle.layout.specs.Geometry as layout
use Rattle.layout.specs.Flash.{erases}
use Rattle.layout.specs.Refusals as refusal
use Rattle.layout.specs.Calls.{Volume, refuse, too_short, format, formatted}
use Rattle.geometry.specs.Shape.{geometry_for, shape_is}
use Rattle.geometry.specs.Bounds.{blocks_le}

pub erases_length : (b k : ℕ) → length (erases b k) ≡ k
erases_length b zero = refl
erases_length b (suc k) = omega (arith, erases_length (suc b) k)

module _ (w : Volume) (sizes : layout.Sizes) where
  few : layout.allowed sizes ≡ true → layout.blocks (layout.geometry sizes) ≤ 12034
  few a = subst (λ g. layout.blocks g ≤ 12034) (shape_is sizes a) (blocks_le (geometry_for sizes))

  pub formatted_length : length (formatted w sizes).ops ≡ layout.blocks (layout.geometry sizes)
  unfolding formatted
  formatted_length = erases_length 0 (layout.blocks (layout.geometry sizes))

  pub few_format : length (format w sizes).ops + 2 ≤ 18446744073709551615
  unfolding format
  few_format =
      either (bool? (layout.allowed sizes)) (λ a. rw a (of a (too_short (layout.geometry sizes) w.flash w.ram)))
      (λ a. rw a (omega arith))
    where
      of : layout.allowed sizes ≡ true → (t : Bool)
          → length (cond t (refuse w refusal.too_short) (formatted w sizes)).ops + 2 ≤ 18446744073709551615
      of a true = omega arith
      of a false = omega (arith, formatted_length, few a)
