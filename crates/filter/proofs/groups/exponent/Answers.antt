use native.Mathlib.Omega.{arith}
use Rattle.memory.specs.Power.{log2up_least}
use Rattle.filter.proofs.groups.exponent.Goals as goal

-- A number of at most 2 ^ 7 has an exponent of at most 7.

pub returns : goal.returns
returns c =
    let b = c.before in
    (c.partition_exponent.ensures, omega (arith, c.partition_exponent.ensures, log2up_least b.args.x 7 (omega (arith, b.requires))))
