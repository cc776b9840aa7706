use native.Mathlib.Omega.{arith}
use lib.ListN.{length}
use Rattle.partition.proofs.Lanes.{lane_run, lane_bytes, wide_run}
use Rattle.partition.proofs.l1_bytes.Goals as goal

pub field_run-requires : goal.field_run-requires
field_run-requires c =
    let p = lane_run c.args.main.now c.args.r c.requires.source_fits.0 c.args.shared.now c.args.y (length c.args.out.now) c.requires.source_fits.1 c.requires.whole.0 c.requires.whole.1 c.requires.filled (omega arith) in
    record { aligned = p.0; whole = p.1 }

pub returns-then-w-lt8 : goal.returns-then-w-lt8
returns-then-w-lt8 c =
    lane_bytes c.args.main.now c.args.r c.requires.source_fits.0 c.args.shared.now c.args.y (length c.args.out.now) c.requires.source_fits.1 c.requires.whole.0 c.requires.whole.1 c.requires.filled (omega arith) _ c.field_run.ensures

pub field_run-requires-else-w-lt8 : goal.field_run-requires-else-w-lt8
field_run-requires-else-w-lt8 c =
    let p = wide_run c.args.main.now c.args.r c.requires.source_fits.0 c.args.shared.now c.args.y (length c.args.out.now) c.requires.source_fits.1 c.requires.whole.0 c.requires.whole.1 c.requires.filled (omega arith) in
    record { aligned = p.0; whole = p.1 }
