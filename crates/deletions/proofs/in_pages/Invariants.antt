use lib.ListN.{take}
use Rattle.layout.specs.Calls.{maybe_deleted}
use Rattle.laws.specs.WalkLaws.{Pages, free}
use Rattle.geometry.specs.Shape.{shape}
use Rattle.deletions.specs.Test.{held}
use Rattle.deletions.specs.Walk.{try_held}
use Rattle.deletions.proofs.Volume.{per_page, pages_then}
use Rattle.deletions.proofs.in_pages.Given as goal

abbrev pub invariant-loop-below : goal.invariant-loop-below
invariant-loop-below l =
    Pages (maybe_deleted (shape l.t.g) (held l.t l.main l.ram) (take l.count l.ps)) (try_held l.t l.main l.ram l.j) free (per_page l.t) (pages_then l.t)
    l.opened 0 l.below

abbrev pub decreases-loop-below : goal.decreases-loop-below
decreases-loop-below l = l.below
