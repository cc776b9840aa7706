-- What operations say was programmed, after a list of them: a list after another, lists of erases, and the spare bytes.
use Rattle.std.specs.Prelude.{◌≡◌, ◌⊎◌, Bool, List, [], ◌∷◌, ℕ}
use Rattle.layout.specs.Flash.{Op, program, erase}
use Rattle.history.specs.Runs.{programmed}

-- block b is among the erases
abbrev pub Has : ℕ → List Op → Type 0
Has b [] = ⊥
Has b (program s bytes ∷ os) = Has b os
Has b (erase k ∷ os) = (k ≡ b) ⊎ Has b os

-- what was programmed before is not any more
abbrev pub after_ops : List Op → (ℕ → Bool) → ℕ → Bool
after_ops [] P = P
after_ops (o ∷ os) P = after_ops os (programmed o P)
