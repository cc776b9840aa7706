use lib.ListN.{take}
use Rattle.layout.specs.Calls.{maybe_in}
use Rattle.laws.specs.WalkLaws.{Pages}
use Rattle.geometry.specs.Shape.{shape}
use Rattle.keys.specs.Key.{key_is}
use Rattle.search.specs.Find.{viewed, try_of, cost_of}
use Rattle.search.proofs.Volume.{per_page, pages_then}
use Rattle.search.proofs.in_pages.Given as goal

abbrev pub invariant-loop-below : goal.invariant-loop-below
invariant-loop-below l =
    Pages (maybe_in (shape l.v.g) (viewed l.v l.main l.ram) (take l.count l.ps)) (try_of l.v l.main l.ram (key_is l.key)) (cost_of l.v l.main l.ram (key_is l.key))
    (per_page l.v) (pages_then l.v) l.opened l.da_pages l.below

abbrev pub decreases-loop-below : goal.decreases-loop-below
decreases-loop-below l = l.below
