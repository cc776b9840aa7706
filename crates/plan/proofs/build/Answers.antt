use native.Mathlib.Nat.{le_refl}
use Rattle.layout.specs.Flash.{flash_of}
use Rattle.plan.specs.Spans.{among_le}
use Rattle.plan.specs.Fits.{fewer}
use Rattle.plan.specs.Plans.{build_run}
use Rattle.plan.proofs.build.Goals as goal

pub set_run-requires : goal.set_run-requires
set_run-requires c =
    let x = c.args in
    fewer x.chip.unit x.s.next x.s.set.first x.s.set.count _ _ c.requires.set c.among.result.to
    (among_le _ _ _ _ c.among.ensures (le_refl x.s.set.count))

pub returns : goal.returns
returns c =
    let x = c.args in
    build_run x.chip.unit x.s x.part c.behind-second.result (flash_of x.main.now x.spare.now) c.behind-third.result
    c.among.result c.among-2.result c.among-3.result
    c.behind-second.ensures c.behind-third.ensures c.among.ensures c.among-2.ensures c.among-3.ensures
    c.set_run.ensures c.wipe_run.ensures c.wipe_run-2.ensures
