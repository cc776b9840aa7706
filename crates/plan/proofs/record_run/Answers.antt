use native.Mathlib.Omega.{arith}
use Rattle.layout.specs.Flash.{flash_of}
use Rattle.plan.specs.Plans.{record_run}
use Rattle.plan.proofs.record_run.Goals as goal

pub returns : goal.returns
returns c =
    let x = c.args in
    record_run x.p x.new.now x.filters.now x.ram.now x.part c.behind-second.result (flash_of x.main.now x.spare.now)
    c.page_address.result c.page_address-2.result c.behind-third.result c.among.result c.among-2.result
    (omega (arith, c.page_address.ensures)) (omega (arith, c.page_address-2.ensures)) c.behind-second.ensures c.behind-third.ensures
    c.among.ensures c.among-2.ensures c.program_span.ensures c.program_span-2.ensures c.index_run.ensures
