use native.Mathlib.Omega.{arith}
use Prim.Native.Nat.{ℕ, ◌+◌, ◌/◌, ◌%◌}
use mathlib.Core.Path.{ap, ◌∙◌}
use lib.ListN.{length}
use Rattle.memory.specs.Lists.{tabulate}
use Rattle.geometry.specs.Indexes.{index_of}
use Rattle.partition.specs.Reach.{row_fits}
use Rattle.partition.specs.Sources.{page_byte}
use Rattle.partition.proofs.Numbers.{pages_le}
use Rattle.partition.proofs.Pages.{sectors_are}
use Rattle.partition.proofs.Lanes.{whole_sectors}
use Rattle.partition.proofs.set_sectors.Goals as goal

pub page_source-r-requires : goal.page_source-r-requires
page_source-r-requires c =
    let p = c.requires.unit_sound.1 in
    (c.requires.unit_sound.0, p, omega (arith, c.requires.j_bound, pages_le c.args.chip.unit (c.args.set.rounds + 1) c.requires.unit_sound.0 (omega (arith, p))))

pub page_bytes-requires : goal.page_bytes-requires
page_bytes-requires c =
    let p = c.requires.unit_sound.1 in
    let u = c.args.chip.unit in
    let U = c.requires.unit_sound.0 in record {
      source_fits = (
        rw c.page_source-r.ensures (row_fits u U.0 U.1 (index_of c.args.set.index) c.args.set.rounds (c.args.j / 4) (length c.args.main.now) p (omega (arith, c.requires.j_bound)) c.requires.in_main),
        rw c.page_source-r.ensures c.requires.shares,
      );
      whole = rw c.page_source-r.ensures (
        whole_sectors u U.0 U.1.power (c.args.set.rounds + 1) (omega (arith, p)) (c.args.j % 4) c.sector_address-y.result c.sector_address-y.ensures,
        whole_sectors u U.0 U.1.power (c.args.set.rounds + 1) (omega (arith, p)) c.requires.in_page.whole.0 (length c.args.out.now) c.requires.in_page.whole.1,
      );
    }

pub returns : goal.returns
returns c =
    let U = c.requires.unit_sound.0 in
    let n = length c.args.out.now in
    c.page_bytes.ensures
    ∙ ap (λ (y : ℕ). tabulate n (λ (i : ℕ). page_byte c.args.main.now c.page_source-r.result (y + i))) c.sector_address-y.ensures
    ∙ sectors_are c.args.chip.unit U.0 U.1.power (index_of c.args.set.index) c.args.main.now c.args.set.full_sets c.args.set.rounds c.requires.unit_sound.1 c.args.j n c.page_source-r.result c.page_source-r.ensures c.requires.in_page.room
