-- A list of operations cut after any of them: what the spare bytes tell, and that the later operations finish the list. Of no call in
-- particular.
use Rattle.std.specs.Prelude.{◌≡◌, ◌≢◌, ℕ, ◌+◌, ◌*◌, ◌/◌, ◌≤◌, ◌<◌, length, get_or}
use mathlib.Core.List.{List, [], ◌∷◌, ◌++◌}
use Rattle.layout.specs.Flash.{Op, program, erase, Flash}

-- ---- erases, and erases done again

abbrev pub OnlyErases : List Op → Type 0
OnlyErases [] = Unit {0}
OnlyErases (program s bytes ∷ os) = ⊥
OnlyErases (erase b ∷ os) = OnlyErases os

module _ (u : ℕ) where
  -- a block whose bytes and spare bytes are FF, as far as the chip goes
  pub record Blank (b : ℕ) (c : Flash) : Type 0 where
    pub main : (i : ℕ) → b * (1024 * u) ≤ i → i < b * (1024 * u) + 1024 * u → i < length c.main → get_or c.main i 0 ≡ 255
    pub spare : (i : ℕ) → b * 64 ≤ i → i < b * 64 + 64 → i < length c.spare → get_or c.spare i 0 ≡ 255

  abbrev pub Blanks : List Op → Flash → Type 0
  Blanks [] c = Unit {0}
  Blanks (program s bytes ∷ os) c = Blanks os c
  Blanks (erase b ∷ os) c = Blank b c × Blanks os c

-- ---- what is asked of a list of operations beside the chip's program order

-- no program in block b
abbrev pub NoProgram : ℕ → List Op → Type 0
NoProgram b [] = Unit {0}
NoProgram b (program s bytes ∷ os) = (s / 64 ≢ b) × NoProgram b os
NoProgram b (erase k ∷ os) = NoProgram b os

-- a block that is erased is not programmed later
abbrev pub Apart : List Op → Type 0
Apart [] = Unit {0}
Apart (program s bytes ∷ os) = Apart os
Apart (erase b ∷ os) = NoProgram b os × Apart os

-- the erases that follow directly leave sector s alone
abbrev pub Survives : ℕ → List Op → Type 0
Survives s [] = Unit {0}
Survives s (program t bytes ∷ os) = Unit {0}
Survives s (erase b ∷ os) = (s / 64 ≢ b) × Survives s os

-- the sector programmed directly before erases is not in their blocks: its spare byte tells that all before them is done
abbrev pub Anchored : List Op → Type 0
Anchored [] = Unit {0}
Anchored (program s bytes ∷ os) = Survives s os × Anchored os
Anchored (erase b ∷ os) = Anchored os

-- ---- a list ends in erases, behind a program or from its start

pub record Behind (os : List Op) : Type 0 where
  pub before : List Op
  pub sector : ℕ
  pub bytes : List ℕ
  pub erases : List Op
  pub only : OnlyErases erases
  pub is : os ≡ before ++ (program sector bytes ∷ erases)
