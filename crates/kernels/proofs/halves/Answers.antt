use Rattle.kernels.proofs.Sides.{two_halves}
use Rattle.kernels.proofs.halves.Goals as goal

-- The second word's bits above the first's.

pub returns : goal.returns
returns c =
    let x = c.args in
    two_halves x.a x.b c.squeeze-x.result c.squeeze-y.result c.squeeze-x.ensures c.squeeze-y.ensures
