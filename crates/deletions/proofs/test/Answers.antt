use mathlib.Core.Path.{◌∙◌}
use mathlib.Core.Bool.{true, false}
use Rattle.memory.specs.Words.{bytes4}
use Rattle.layout.specs.Hash.{fnv_family}
use Rattle.laws.specs.Positions.{take_positions}
use Rattle.deletions.proofs.Volume.{page_some, test_is, test_open}
use Rattle.deletions.proofs.test.Goals as goal

-- The numbers past the last full page first, then full pages.

pub returns-then-in_open : goal.returns-then-in_open
returns-then-in_open c =
    let x = c.args in
    let e = rw c.if-in_open.true at c.in_open.ensures in
    test_is x.t x.main.now x.ram.now x.j true e

pub returns-then-t-deletions_per_page : goal.returns-then-t-deletions_per_page
returns-then-t-deletions_per_page c =
    let x = c.args in
    let e = rw c.if-in_open.false at c.in_open.ensures in
    test_open x.t x.main.now x.ram.now x.j (page_some c.requires)
    (rw c.deletions_per_page.ensures at c.if-t-deletions_per_page.true) e

pub returns : goal.returns
returns c =
    let x = c.args in
    let e = rw c.if-in_open.false at c.in_open.ensures in
    let f = rw (
      c.positions-ps.ensures.equal,
      c.of_number.ensures,
      take_positions fnv_family x.t.g.hashes x.t.g.chip.unit (bytes4 x.j),
    ) at c.in_pages.ensures in
    f ∙ test_is x.t x.main.now x.ram.now x.j false e
