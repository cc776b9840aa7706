use native.Mathlib.Omega.{arith}
use mathlib.Core.Path.{sym, ap}
use lib.ListN.{take}
use Rattle.layout.specs.Calls.{maybe_deleted}
use Rattle.laws.specs.WalkLaws.{pages_none, part_few, part_next, part_free}
use Rattle.geometry.specs.Shape.{shape}
use Rattle.deletions.specs.Test.{held}
use Rattle.deletions.specs.Walk.{test_stop, try_held}
use Rattle.deletions.proofs.Volume.{per_page, pages_few, pages_then_lem}
use Rattle.deletions.proofs.in_pages.Goals as goal

-- What is left of the search at each block of filters.

pub overflow_add-opened : goal.overflow_add-opened
overflow_add-opened c =
    let x = c.args in
    let part = part_free (maybe_deleted (shape x.t.g) (held x.t x.main.now x.ram.now) (take x.count x.ps)) (try_held x.t x.main.now x.ram.now x.j) (per_page x.t) c.in_block-first.ensures.found in
    omega (arith, part_few c.loop-below.invariant part, pages_then_lem c.requires.0, pages_few c.requires.0)

pub loop-below-preserved : goal.loop-below-preserved
loop-below-preserved c =
    let x = c.args in
    let part = part_free (maybe_deleted (shape x.t.g) (held x.t x.main.now x.ram.now) (take x.count x.ps)) (try_held x.t x.main.now x.ram.now x.j) (per_page x.t) c.in_block-first.ensures.found in
    part_next c.loop-below.invariant part (ap (test_stop x.j) c.if-r.false) (omega (arith, c.in_block-first.ensures.start))

pub returns : goal.returns
returns c = sym (pages_none c.loop-below.invariant (omega arith)).0
