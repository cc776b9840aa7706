use Rattle.std.proofs.Common.{◌+◌, ap, mod-lt, arith}
use Rattle.memory.specs.Power.{power_some, power_mask}
use Rattle.fnv.proofs.within.Goals as goal

-- The mask gives the remainder, which is below the size.

pub returns : goal.returns
returns c =
    let m = power_mask c.args.h c.args.size c.requires.0 in
    (ap (λ x. c.args.base + x) m, omega (arith, m, mod-lt c.args.h (power_some c.args.size c.requires.0)))
