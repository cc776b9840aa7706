-- Operations of the flash chip at sector and block grain. Document 01, "The chip and the desk".
use Rattle.std.specs.Prelude.{Bool, true, ◌&&◌, List, [], ◌∷◌, ℕ, zero, suc, ◌*◌, get_or, set, replicate, leb}
use Rattle.std.specs.Int.Count.{ones_in}
use Rattle.memory.specs.Lists.{write}
use Rattle.layout.specs.Geometry.{sectors_per_block, sector, block}

-- the main area ("cells") and the spare area ("marks", one byte a sector)
pub record Flash : Type 0 where
  pub main : List ℕ
  pub spare : List ℕ

abbrev pub flash_of : List ℕ → List ℕ → Flash
flash_of main spare = record { main = main; spare = spare }

-- program a sector with its bytes; erase a block
pub data Op : Type 0 where
  program : ℕ → List ℕ → Op
  erase : ℕ → Op

-- "A mark is now fresh if five or more of its eight bits are one, programmed otherwise." Document 02, §3
unfoldable pub fresh : ℕ → Bool
fresh byte = leb 5 (ones_in 8 byte)

module _ (u : ℕ) where
  -- "Programming a sector writes its S cells and sets its mark to 00; erasing a block sets its cells and marks to FF"
  abbrev pub apply : Op → Flash → Flash
  apply (program s bytes) c = record { main = write c.main (s * sector u) bytes; spare = set c.spare s 0 }
  apply (erase b) c =
      record {
        main = write c.main (b * block u) (replicate (block u) 255);
        spare = write c.spare (b * sectors_per_block) (replicate sectors_per_block 255);
      }

  -- a list of operations, in order
  abbrev pub apply_all : List Op → Flash → Flash
  apply_all [] c = c
  apply_all (o ∷ os) c = apply_all os (apply o c)

-- k blocks in a row from b on
abbrev pub erases : ℕ → ℕ → List Op
erases b zero = []
erases b (suc k) = erase b ∷ erases (suc b) k

-- ---- what a change is to do, known before the chip is looked at

-- a sector with its bytes; a sector whose bytes are taken from the main area when it is programmed; an erase
pub data Planned : Type 0 where
  known : ℕ → List ℕ → Planned
  made : ℕ → (List ℕ → List ℕ) → Planned
  wipe : ℕ → Planned

-- k of them, from the i-th on
abbrev pub planned_from : (ℕ → Planned) → ℕ → ℕ → List Planned
planned_from f i zero = []
planned_from f i (suc k) = f i ∷ planned_from f (suc i) k

-- the operation that it is on a chip
abbrev pub op_on : Planned → Flash → Op
op_on (known s bytes) c = program s bytes
op_on (made s bytes) c = program s (bytes c.main)
op_on (wipe b) c = erase b

module _ (u : ℕ) where
  -- the operations of a plan, each on the chip that the one before it leaves
  abbrev pub plan_ops : List Planned → Flash → List Op
  plan_ops [] c = []
  plan_ops (p ∷ ps) c = op_on p c ∷ plan_ops ps (apply u (op_on p c) c)

-- ---- refusal 7

-- are all sectors that a list programs fresh, by the marks before the list's first operation
unfoldable pub all_fresh : List ℕ → List Op → Bool
all_fresh spare [] = true
all_fresh spare (program s bytes ∷ os) = fresh (get_or spare s 0) && all_fresh spare os
all_fresh spare (erase b ∷ os) = all_fresh spare os
