use Rattle.kernels.proofs.Joins.{pairs_are}
use Rattle.kernels.proofs.pairs.Goals as goal

-- The even bits of the word and of itself moved down by one.

pub returns : goal.returns
returns c = pairs_are c.args.bits c.join.result c.join.ensures
