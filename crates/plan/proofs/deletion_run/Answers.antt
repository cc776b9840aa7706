use Rattle.layout.specs.Flash.{flash_of}
use Rattle.plan.specs.Plans.{deletion_run}
use Rattle.plan.proofs.deletion_run.Goals as goal

pub returns : goal.returns
returns c =
    let x = c.args in
    deletion_run x.p x.new.now x.filters.now x.ram.now x.part c.behind-second.result (flash_of x.main.now x.spare.now)
    c.page_address.result c.among.result c.page_address.ensures c.behind-second.ensures c.among.ensures
    c.program_span.ensures c.index_run.ensures
