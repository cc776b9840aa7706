use Prim.Native.Nat.{◌-◌}
use mathlib.Core.Path.{◌∙◌}
use Rattle.layout.specs.Flash.{flash_of}
use Rattle.plan.specs.Runs.{done_wipes}
use Rattle.plan.proofs.wipe_run.Goals as goal

pub returns : goal.returns
returns c =
    let x = c.args in
    c.erase_blocks.ensures
    ∙ done_wipes x.chip.unit x.blocks.first x.part.from (x.part.to - x.part.from) (flash_of x.main.now x.spare.now)
