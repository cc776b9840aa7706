use Rattle.std.proofs.Common.{arith}
use Rattle.fnv.proofs.Laws.{fourth_power}
use Rattle.fnv.proofs.position.Goals as goal

-- The size of a fourth is a power of two.

pub within-requires : goal.within-requires
within-requires c =
    let s = c.sector_size-size in
    (fourth_power c.args.chip.unit s.result c.requires.0 s.ensures, omega arith, omega arith)
