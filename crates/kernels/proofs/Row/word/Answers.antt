use mathlib.Core.Path.{◌∙◌}
use Prim.Native.Nat.{◌+◌}
use Rattle.memory.specs.Bits.{bit_shr}
use Rattle.memory.specs.Words.{Word64}
use Rattle.kernels.proofs.Row.word.Goals as goal

-- A shift.

pub returns : goal.returns
unfolding Word64
returns c i h = bit_shr c.get64.result c.args.self.low i ∙ c.get64.ensures (c.args.self.low + i) h
