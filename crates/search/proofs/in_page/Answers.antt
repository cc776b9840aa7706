use native.Mathlib.Omega.{arith}
use borrow.Author.Tests.{not-true, not-false}
use mathlib.Core.Path.{refl, sym}
use Rattle.keys.specs.Key.{key_is}
use Rattle.search.proofs.Entries.{left_none, left_first}
use Rattle.search.proofs.Volume.{same_bytes, row_corrupt, row_less, row_paid, row_found, row_next, row_most}
use Rattle.search.proofs.in_page.Goals as goal

-- What is left of the scan of a page's entries, at each with the key.

pub loop-e-init : goal.loop-e-init
loop-e-init c =
    let x = c.args in
    left_first (same_bytes x.v x.main.now x.ram.now (key_is x.key) x.page.now x.start x.count) 0 c.find_entry-e.result c.find_entry-e.ensures

pub returns-then-j-v : goal.returns-then-j-v
returns-then-j-v c =
    let x = c.args in
    let e = row_corrupt x.v x.main.now x.ram.now c.loop-e.invariant c.in-Some.is c.number_at-j.ensures c.if-j-v.true in
    record { end_value = sym e.0; opened = refl; pages = omega (arith, e.1) }

-- ---- the test of a number

pub overflow_add-da_pages : goal.overflow_add-da_pages
overflow_add-da_pages c =
    let x = c.args in
    omega (
      arith,
      row_paid x.v x.main.now x.ram.now c.loop-e.invariant c.in-Some.is c.number_at-j.ensures c.if-j-v.false c.deletions_of.ensures
          c.test-seen.result c.test-seen.ensures,
      row_most c.requires.0 (key_is x.key) x.page.now x.start x.count c.requires.2,
    )

pub returns-then-not-seen : goal.returns-then-not-seen
returns-then-not-seen c =
    let x = c.args in
    let e = row_found x.v x.main.now x.ram.now c.loop-e.invariant c.in-Some.is c.number_at-j.ensures c.if-j-v.false c.deletions_of.ensures
    c.test-seen.result c.test-seen.ensures (not-true c.test-seen.result.met c.if-not-seen.true) in
    record { end_value = sym e.0; opened = refl; pages = omega (arith, e.1) }

pub loop-e-smaller : goal.loop-e-smaller
loop-e-smaller c =
    let x = c.args in
    row_less x.v x.main.now x.ram.now c.loop-e.invariant c.in-Some.is c.number_at-j.ensures
    c.find_entry-e-in-Some.result c.find_entry-e-in-Some.ensures

pub loop-e-preserved : goal.loop-e-preserved
loop-e-preserved c =
    let x = c.args in
    row_next x.v x.main.now x.ram.now c.loop-e.invariant c.in-Some.is c.number_at-j.ensures c.if-j-v.false c.deletions_of.ensures
    c.test-seen.result c.test-seen.ensures c.find_entry-e-in-Some.result (not-false c.test-seen.result.met c.if-not-seen.false)
    c.find_entry-e-in-Some.ensures

pub returns : goal.returns
returns c =
    let e = left_none c.loop-e.invariant c.in_default.is in
    record { end_value = sym e.0; opened = refl; pages = omega (arith, e.1) }
