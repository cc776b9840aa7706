use Rattle.laws.specs.Units.{unit_times}
use Rattle.planning.proofs.set_summary.Goals as goal

pub slot-c-requires : goal.slot-c-requires
slot-c-requires c = rw c.side_blocks-side.ensures (unit_times 2 c.args.chip.unit c.requires.0)
