use native.Mathlib.Omega.{arith}
use mathlib.Core.Path.{sym}
use lib.ListN.{take}
use Rattle.layout.specs.Calls.{maybe_in}
use Rattle.laws.specs.WalkLaws.{Part, pages_none, part_few, part_most}
use Rattle.geometry.specs.Shape.{shape}
use Rattle.keys.specs.Key.{key_is}
use Rattle.search.specs.Find.{stop_of, viewed, try_of, cost_of}
use Rattle.search.proofs.Volume.{per_page, pages_then, pages_few, pages_then_lem, below_most}
use Rattle.search.proofs.in_pages.Goals as goal

-- What is left of the search at each block of filters.

pub overflow_add-opened : goal.overflow_add-opened
overflow_add-opened c =
    let x = c.args in
    let w = c.in_block-first.result in
    let part : Part (maybe_in (shape x.v.g) (viewed x.v x.main.now x.ram.now) (take x.count x.ps)) (try_of x.v x.main.now x.ram.now (key_is x.key)) (cost_of x.v x.main.now x.ram.now (key_is x.key)) (per_page x.v) c.loop-below.below w.1 w.0.opened w.0.da_pages (stop_of w.0.end)
    = record { found = c.in_block-first.ensures.found; price = c.in_block-first.ensures.pages } in
    omega (arith, part_few c.loop-below.invariant part, pages_then_lem c.requires.0, pages_few c.requires.0)

pub overflow_add-da_pages : goal.overflow_add-da_pages
overflow_add-da_pages c =
    let x = c.args in
    let w = c.in_block-first.result in
    let part : Part (maybe_in (shape x.v.g) (viewed x.v x.main.now x.ram.now) (take x.count x.ps)) (try_of x.v x.main.now x.ram.now (key_is x.key)) (cost_of x.v x.main.now x.ram.now (key_is x.key)) (per_page x.v) c.loop-below.below w.1 w.0.opened w.0.da_pages (stop_of w.0.end)
    = record { found = c.in_block-first.ensures.found; price = c.in_block-first.ensures.pages } in
    omega (
      arith,
      part_most c.loop-below.invariant part,
      below_most c.requires.0 (key_is x.key) (take x.count x.ps) (pages_then x.v) (omega arith),
    )

pub returns : goal.returns
returns c =
    let w = pages_none c.loop-below.invariant (omega arith) in
    record { result_value = sym w.0; pages = w.1 }
