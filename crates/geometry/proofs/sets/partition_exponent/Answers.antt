use mathlib.Core.Path.{sym}
use native.Mathlib.Omega.{arith}
use Rattle.memory.specs.Power.{log2up_leading}
use Rattle.geometry.proofs.sets.partition_exponent.Goals as goal

pub returns : goal.returns
returns c = sym (log2up_leading c.args.c (omega arith) (omega arith))
