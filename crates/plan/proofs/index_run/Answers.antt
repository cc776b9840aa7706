use Rattle.layout.specs.Flash.{flash_of}
use Rattle.plan.specs.Plans.{build_of, index_run, none_run}
use Rattle.plan.proofs.index_run.Goals as goal

pub returns-then-later-eq0 : goal.returns-then-later-eq0
returns-then-later-eq0 c =
    let x = c.args in
    let u = x.chip.unit in
    index_run u x.s x.part c.behind-later.result (flash_of x.main.now x.spare.now) x.fourths.now x.ram.now
    c.among.result c.behind-later.ensures c.among.ensures c.program_span.ensures
    (none_run u (build_of u x.s) c.behind-later.result _ c.if-later-eq0.true)

pub returns : goal.returns
returns c =
    let x = c.args in
    index_run x.chip.unit x.s x.part c.behind-later.result (flash_of x.main.now x.spare.now) x.fourths.now x.ram.now
    c.among.result c.behind-later.ensures c.among.ensures c.program_span.ensures c.build.ensures
