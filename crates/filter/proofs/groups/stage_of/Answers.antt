use native.Mathlib.Omega.{arith}
use Prim.Native.Nat.{ℕ, ◌*◌, ◌-◌, ◌/◌, ◌%◌}
use mathlib.Core.Path.{◌≡◌}
use Rattle.memory.specs.Numbers.{Euclid, euclid}
use Rattle.filter.proofs.Levels.{power_2}
use Rattle.filter.proofs.groups.stage_of.Goals as goal
use Rattle.filter.proofs.groups.stage_of.Goals.{After-side_blocks-side}

-- Quotient and remainder make up the number again, so that no product exceeds it.

-- the rounds and the blocks of a side
abbrev all : After-side_blocks-side → ℕ
all c = c.args.filters / 8 / 16

abbrev side : After-side_blocks-side → ℕ
side c = 4 * c.args.chip.unit

parts : (c : After-side_blocks-side) → Euclid (all c) (side c)
parts c = euclid (all c) (side c) (omega (arith, c.requires.0.some))

pub overflow_sub-rounds : goal.overflow_sub-rounds
overflow_sub-rounds c =
    let E = parts c in
    rw (power_2 c.args.chip.unit c.args.e c.requires.0, c.side_blocks-side.ensures) (omega arith)

pub returns : goal.returns
returns c =
    let E = parts c in
    let r : all c - all c / side c * side c ≡ all c % side c = omega arith in
    rw (power_2 c.args.chip.unit c.args.e c.requires.0, c.side_blocks-side.ensures, r)
