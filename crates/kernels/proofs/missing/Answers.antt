use native.Mathlib.Omega.{arith}
use Rattle.kernels.proofs.Masks.{missed}
use Rattle.kernels.proofs.missing.Goals as goal

-- The mask without the word's bits.

pub returns : goal.returns
returns c i h = missed c.args.x c.args.m i (omega arith) h
