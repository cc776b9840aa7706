use Rattle.kernels.proofs.Sides.{four_quarters}
use Rattle.kernels.proofs.quarters.Goals as goal

-- A field of four bits has one of each word.

pub returns : goal.returns
returns c = let x = c.args in four_quarters x.a x.b x.c x.d c.by_fours.result c.by_fours.ensures
