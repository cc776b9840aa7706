use Rattle.std.proofs.Common.{◌*◌}
use Rattle.memory.specs.Lists.{write_append}
use Rattle.layout.specs.Geometry.{sector}
use Rattle.flash.proofs.program_joined.Goals as goal

pub returns : goal.returns
returns c =
    let x = c.args in
    let e = write_append x.main.now (x.s * sector x.chip.unit) x.a.now x.b.now in
    cc
