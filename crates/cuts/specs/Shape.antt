-- Shapes of lists of operations: what is erased is not programmed later, and the sector programmed before erases shows that all before them
-- is done.
use Rattle.std.specs.Prelude.{List, [], ◌∷◌}
use Rattle.layout.specs.Flash.{Op, program, erase}
use Rattle.cuts.specs.CutLaws.{NoProgram}

-- ---- lists

abbrev pub OnlyPrograms : List Op → Type 0
OnlyPrograms [] = Unit {0}
OnlyPrograms (program s bytes ∷ os) = OnlyPrograms os
OnlyPrograms (erase b ∷ os) = ⊥

-- a list that does not begin with an erase
abbrev pub Begins : List Op → Type 0
Begins [] = Unit {0}
Begins (program s bytes ∷ os) = Unit {0}
Begins (erase b ∷ os) = ⊥

-- the blocks that the first part erases are not programmed in the second
abbrev pub Clear : List Op → List Op → Type 0
Clear [] ys = Unit {0}
Clear (program s b ∷ os) ys = Clear os ys
Clear (erase b ∷ os) ys = NoProgram b ys × Clear os ys
