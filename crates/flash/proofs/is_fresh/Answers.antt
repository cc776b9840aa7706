use Rattle.std.proofs.Common.{leb, ap, arith}
use Rattle.layout.specs.Flash.{fresh}
use Rattle.flash.proofs.Laws.{ones_in_lem}
use Rattle.flash.proofs.is_fresh.Goals as goal

pub returns : goal.returns
unfolding fresh
returns c = ap (leb 5) (ones_in_lem 8 c.args.byte (omega arith))
