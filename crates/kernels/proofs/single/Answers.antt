use Rattle.kernels.proofs.Flips.{one_bit}
use Rattle.kernels.proofs.Gather.{one_of}
use Rattle.kernels.proofs.single.Goals as goal

-- A power of two.

pub returns : goal.returns
returns c = (one_of c.args.b c.requires, λ i h. one_bit c.args.b i c.requires h)
