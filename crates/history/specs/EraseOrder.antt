-- No block that a call erases is programmed after that in the same call, whatever its state and lent bytes: no erase makes a sector
-- fresh that the call programs, though those of the index over DA stand before an update's other sectors. Document 02, §5.
use Rattle.std.specs.Prelude.{◌≢◌}
use mathlib.Core.List.{List, [], ◌∷◌}
use Prim.Native.Nat.{ℕ, ◌/◌, ◌≤◌}
use Rattle.layout.specs.Flash.{Op, program, erase}

-- no sector of block b is programmed
unfoldable pub ProgramsNone : ℕ → List Op → Type 0
ProgramsNone b [] = Unit {0}
ProgramsNone b (program s bytes ∷ os) = (s / 64 ≢ b) × ProgramsNone b os
ProgramsNone b (erase c ∷ os) = ProgramsNone b os

-- nor after the block's erase
unfoldable pub EraseOrder : List Op → Type 0
EraseOrder [] = Unit {0}
EraseOrder (program s bytes ∷ os) = EraseOrder os
EraseOrder (erase b ∷ os) = ProgramsNone b os × EraseOrder os

-- all blocks erased are from B on
unfoldable pub ErasesFrom : ℕ → List Op → Type 0
ErasesFrom B [] = Unit {0}
ErasesFrom B (program s bytes ∷ os) = ErasesFrom B os
ErasesFrom B (erase b ∷ os) = (B ≤ b) × ErasesFrom B os
