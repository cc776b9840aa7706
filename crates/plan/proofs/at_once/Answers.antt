use Rattle.plan.specs.Groups.{at_once_is}
use Rattle.plan.proofs.at_once.Goals as goal

pub returns : goal.returns
returns c = at_once_is c.args.chip.unit _ c.requires (rw c.sector_size.ensures at c.min.ensures)
