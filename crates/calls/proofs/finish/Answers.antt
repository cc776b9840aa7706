use borrow.Author.Tests.{not-true, not-false}
use Rattle.layout.specs.Flash.{flash_of}
use Rattle.layout.specs.Header.{pages}
use Rattle.laws.specs.HeaderLaws.{pages_part}
use Rattle.changes.specs.Tasks.{task_result}
use Rattle.calls.proofs.FinishLaws.{ran_cut_lem, ran_all, pages_back}
use Rattle.calls.proofs.finish.Goals as goal

-- the pages are lent
pub carry_on-r-requires-clause-volume_fits : goal.carry_on-r-requires-clause-volume_fits
carry_on-r-requires-clause-volume_fits c =
    rw (pages_part c.args.ram.now c.pages_end-n.result c.pages_end-n.ensures) (c.requires.header_size_in_bounds.1, c.requires.prepared.0)

pub carry_on-r-requires-clause-from_in_bounds : goal.carry_on-r-requires-clause-from_in_bounds
carry_on-r-requires-clause-from_in_bounds c = rw (pages_part c.args.ram.now c.pages_end-n.result c.pages_end-n.ensures) c.requires.prepared.1

-- ---- what the operations leave

pub returns-then-not-r : goal.returns-then-not-r
returns-then-not-r c =
    let x = c.args in
    let n = c.pages_end-n in
    let k = c.carry_on-r in
    ran_cut_lem x.t.g.chip.unit (task_result x.t x.main.now x.spare.now (pages x.ram.now) x.from) x.budget
    (flash_of x.main.now x.spare.now) (flash_of k.new.main k.new.spare) k.result x.ram.now k.new.ram _
    (rw (pages_part x.ram.now n.result n.ensures) at k.ensures) (pages_back x.ram.now k.new.ram n.result n.ensures) (not-true _ c.if-not-r.true)

-- ---- all of it

pub returns : goal.returns
returns c =
    let x = c.args in
    let n = c.pages_end-n in
    let k = c.carry_on-r in
    ran_all x.t.g.chip.unit (task_result x.t x.main.now x.spare.now (pages x.ram.now) x.from) x.budget
    (flash_of x.main.now x.spare.now) (flash_of k.new.main k.new.spare) k.result x.ram.now k.new.ram _
    (rw (pages_part x.ram.now n.result n.ensures) at k.ensures) (pages_back x.ram.now k.new.ram n.result n.ensures)
    (not-false _ c.if-not-r.false) c.requires.header_size_in_bounds.0 _ (rw c.counted_state.ensures at c.clear.ensures)
