use Rattle.layout.specs.Flash.{flash_of}
use Rattle.plan.specs.Plans.{whole_run}
use Rattle.plan.proofs.run.Goals as goal

pub returns : goal.returns
returns c =
    let x = c.args in
    let e = c.deletion_count-n.ensures in
    whole_run x.p x.new.now x.filters.now x.ram.now x.part c.behind-second.result (flash_of x.main.now x.spare.now)
    c.among.result (rw e at c.behind-second.ensures) (rw e at c.among.ensures) c.deletion_run.ensures c.record_run.ensures
