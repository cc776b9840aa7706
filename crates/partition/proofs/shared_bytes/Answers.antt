use native.Mathlib.Omega.{arith}
use Prim.Native.Nat.{◌+◌}
use lib.ListN.{length}
use Rattle.geometry.specs.Indexes.{index_of}
use Rattle.fields.specs.Lanes.{few}
use Rattle.partition.specs.Reach.{SourceFits, row_fits}
use Rattle.partition.proofs.Numbers.{pages_le}
use Rattle.partition.proofs.Lanes.{columns_in}
use Rattle.partition.proofs.shared_bytes.Goals as goal

pub page_source-r-requires : goal.page_source-r-requires
page_source-r-requires c =
    let p = c.requires.unit_sound.1 in
    (c.requires.unit_sound.0, p, omega (arith, c.requires.p_bound, pages_le c.args.chip.unit (c.args.set.rounds + 1) c.requires.unit_sound.0 (omega (arith, p))))

pub overflow_add-s : goal.overflow_add-s
overflow_add-s c =
    let fits : SourceFits (length c.args.main.now) c.page_source-r.result
    = rw c.page_source-r.ensures (row_fits c.args.chip.unit c.requires.unit_sound.0.0 c.requires.unit_sound.0.1 (index_of c.args.set.index) c.args.set.rounds c.args.p
    (length c.args.main.now) c.requires.unit_sound.1 c.requires.p_bound c.requires.in_main) in
    omega (arith, (columns_in c.args.main.now c.page_source-r.result fits).1)

pub columns-requires : goal.columns-requires
columns-requires c =
    let fits : SourceFits (length c.args.main.now) c.page_source-r.result
    = rw c.page_source-r.ensures (row_fits c.args.chip.unit c.requires.unit_sound.0.0 c.requires.unit_sound.0.1 (index_of c.args.set.index) c.args.set.rounds c.args.p
    (length c.args.main.now) c.requires.unit_sound.1 c.requires.p_bound c.requires.in_main) in
    let i = columns_in c.args.main.now c.page_source-r.result fits in
    (few c.args.main.now c.page_source-r.result.l1 c.page_source-r.result.w fits.l1_aligned (omega arith), i.0, i.1, c.requires.out_len)
