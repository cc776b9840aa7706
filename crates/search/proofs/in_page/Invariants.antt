use Rattle.keys.specs.Key.{key_is}
use Rattle.search.specs.Find.{try_in, cost_in}
use Rattle.search.proofs.Entries.{Left}
use Rattle.search.proofs.Places.{past}
use Rattle.search.proofs.in_page.Given as goal

abbrev pub invariant-loop-e : goal.invariant-loop-e
invariant-loop-e l =
    Left l.page l.start (key_is l.key) (try_in l.v l.main l.ram (key_is l.key) l.page l.start) (cost_in l.v l.main l.ram (key_is l.key) l.page l.start) 0 l.count 0 l.e l.da_pages

abbrev pub decreases-loop-e : goal.decreases-loop-e
decreases-loop-e l = past l.e
