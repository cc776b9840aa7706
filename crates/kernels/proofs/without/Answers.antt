use Rattle.kernels.proofs.Flips.{cleared}
use Rattle.kernels.proofs.without.Goals as goal

-- All but one.

pub returns : goal.returns
returns c i l = cleared c.args.bits c.args.f i c.requires l
