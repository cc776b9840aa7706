use Rattle.std.proofs.Common.{◌∙◌}
use Rattle.layout.specs.Flash.{flash_of}
use Rattle.flash.proofs.Laws.{erase_more}
use Rattle.flash.proofs.erase_blocks.Goals as goal

pub loop-i-preserved : goal.loop-i-preserved
loop-i-preserved c =
    let x = c.args in
    let l = c.loop-i in
    let e = c.erase_block in
    l.invariant ∙ erase_more x.chip.unit x.b x.k l.i (flash_of l.main l.spare) (flash_of e.new.main e.new.spare) c.loop-i-test.true e.ensures
