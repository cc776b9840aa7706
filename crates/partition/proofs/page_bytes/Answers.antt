use native.Mathlib.Omega.{arith}
use Prim.Native.Nat.{◌-◌}
use mathlib.Core.Path.{refl}
use lib.ListN.{length}
use Rattle.fields.specs.Lists.{take_lt}
use Rattle.partition.proofs.Pages.{Cuts, old_run, old_part, l1_part, made}
use Rattle.partition.proofs.page_bytes.Goals as goal

pub field_run-requires : goal.field_run-requires
field_run-requires c =
    let cuts : Cuts c.args.r c.args.y (length c.args.out.now) c.below-a.result c.below-b.result c.saturating_sub-from.result
    = record { a_is = c.below-a.ensures; b_is = c.below-b.ensures; from_is = c.saturating_sub-from.ensures } in
    record {
      aligned = (
        c.requires.source_fits.0.old_aligned,
        c.requires.source_fits.0.old_near,
        λ i h. old_run c.args.main.now c.args.r c.args.y (length c.args.out.now) c.below-a.result c.below-b.result c.saturating_sub-from.result c.requires.source_fits.0 cuts i (let t = take_lt c.args.out.now (c.below-a.result - 0) i h in omega arith),
      );
      whole = old_part c.args.main.now c.args.r c.args.y (length c.args.out.now) c.below-a.result c.below-b.result c.saturating_sub-from.result c.requires.source_fits.0 cuts c.requires.whole.0 c.requires.whole.1 c.args.out.now refl;
    }

pub l1_bytes-requires : goal.l1_bytes-requires
l1_bytes-requires c =
    let cuts : Cuts c.args.r c.args.y (length c.args.out.now) c.below-a.result c.below-b.result c.saturating_sub-from.result
    = record { a_is = c.below-a.ensures; b_is = c.below-b.ensures; from_is = c.saturating_sub-from.ensures } in
    let o = c.field_run in
    let l = l1_part c.args.main.now c.args.r c.args.y (length c.args.out.now) c.below-a.result c.below-b.result c.saturating_sub-from.result c.requires.source_fits.0 cuts c.requires.whole.0 c.requires.whole.1 c.args.out.now refl o.new.out o.ensures in
    record { source_fits = c.requires.source_fits; whole = l.0; filled = l.1 }

pub returns : goal.returns
returns c =
    let cuts : Cuts c.args.r c.args.y (length c.args.out.now) c.below-a.result c.below-b.result c.saturating_sub-from.result
    = record { a_is = c.below-a.ensures; b_is = c.below-b.ensures; from_is = c.saturating_sub-from.ensures } in
    let o = c.field_run in
    let l = c.l1_bytes in
    made c.args.main.now c.args.r c.args.y (length c.args.out.now) c.below-a.result c.below-b.result c.saturating_sub-from.result c.requires.source_fits.0 cuts
    c.args.out.now o.new.out l.new.out c.fill.new.self refl
    o.ensures l.ensures (c.fill.ensures.after (λ y e. e))
