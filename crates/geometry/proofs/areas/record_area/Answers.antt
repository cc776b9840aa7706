use Rattle.std.proofs.Common.{arith}
use Rattle.laws.specs.Units.{unit_times}
use Rattle.geometry.specs.Powers.{power_is}
use Rattle.geometry.specs.Shape.{unit_sound}
use Rattle.geometry.proofs.areas.record_area.Goals as goal

pub invariant_of-result : goal.invariant_of-result
invariant_of-result c =
    let g = c.args.g in
    record {
      small = omega arith;
      power = power_is _ (rw c.records_per_page.ensures (unit_times 2 g.chip.unit (unit_sound g)));
      page = (omega arith, omega arith);
      near = (omega arith, omega arith);
    }

pub returns : goal.returns
returns c = rw (c.before.records_per_page.ensures, c.ra_ram.ensures)
