use native.Mathlib.Omega.{arith}
use native.Mathlib.Nat.{mul-le-mul}
use Prim.Native.Nat.{◌+◌}
use Rattle.partition.proofs.Numbers.{width_of, next_le, sector_le}
use Rattle.partition.proofs.page_source.Goals as goal

pub source_of-old-requires : goal.source_of-old-requires
source_of-old-requires c =
    let w = width_of c.args.chip.unit (c.args.set.rounds + 1) c.set_width-w.result c.requires.0 (omega (arith, c.requires.1)) c.set_width-w.ensures in
    let v = width_of c.args.chip.unit c.args.set.rounds c.set_width-v.result c.requires.0 (omega (arith, c.requires.1)) c.set_width-v.ensures in
    let l = c.args.chip.small in (
      omega (arith, c.block_address-side.ensures, mul-le-mul c.side_block.ensures.1 l),
      omega (arith, c.page_size-page.ensures, l),
      w.1,
      rw (w.0, v.0) (next_le c.args.chip.unit c.args.set.rounds c.requires.0 c.requires.1),
      omega (arith, v.2),
      c.requires.2,
    )

pub source_of-l1-requires : goal.source_of-l1-requires
source_of-l1-requires c =
    let w = width_of c.args.chip.unit (c.args.set.rounds + 1) c.set_width-w.result c.requires.0 (omega (arith, c.requires.1)) c.set_width-w.ensures in
    let l = c.args.chip.small in (
      omega (arith, c.block_address-first.ensures, mul-le-mul c.args.set.index.near l),
      omega (arith, c.page_address.ensures, l),
      w.1,
      rw (w.0, c.sector_size.ensures) (sector_le c.args.chip.unit (c.args.set.rounds + 1) c.requires.0 (omega (arith, c.requires.1))),
      omega (arith, c.sector_size.ensures, l),
      c.requires.2,
    )
