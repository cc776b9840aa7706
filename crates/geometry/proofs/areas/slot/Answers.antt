use native.Mathlib.Nat.{mod-lt}
use native.Mathlib.Omega.{arith}
use Rattle.memory.specs.Power.{power_some, power_mask}
use Rattle.geometry.proofs.areas.slot.Goals as goal

pub returns : goal.returns
returns c =
    let m = power_mask c.args.n c.args.per_page c.requires in
    (m, omega (arith, m, mod-lt c.args.n (power_some c.args.per_page c.requires)))
