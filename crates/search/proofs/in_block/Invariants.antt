use mathlib.Core.Path.{◌≡◌}
use Rattle.memory.specs.Bits.{bit}
use Rattle.laws.specs.WalkLaws.{Words}
use Rattle.keys.specs.Key.{key_is}
use Rattle.search.specs.declared.End.TheVariants.{Nothing}
use Rattle.search.specs.Find.{try_of, cost_of, try_in, cost_in}
use Rattle.search.proofs.Tries.{measure}
use Rattle.search.proofs.Bits.{Word}
use Rattle.search.proofs.Entries.{Left}
use Rattle.search.proofs.Places.{past}
use Rattle.search.proofs.Volume.{per_page}
use Rattle.search.proofs.in_block.Given as goal

abbrev pub invariant-entries : goal.invariant-entries
invariant-entries l =
    Left l.main l.hit.page (key_is l.key) (try_in l.v l.main l.ram (key_is l.key) l.main l.hit.page) (cost_in l.v l.main l.ram (key_is l.key) l.main l.hit.page) 0 (per_page l.v) l.initial.da_pages l.e l.da_pages
    × (l.end ≡ Nothing)

abbrev pub decreases-entries : goal.decreases-entries
decreases-entries l = past l.e

abbrev pub invariant-bits : goal.invariant-bits
invariant-bits l =
    Word (try_of l.v l.main l.ram (key_is l.key)) (cost_of l.v l.main l.ram (key_is l.key)) (per_page l.v) l.b.start l.below l.b.words l.opened l.da_pages l.w l.bits × (l.end ≡ Nothing)

abbrev pub decreases-bits : goal.decreases-bits
decreases-bits l = measure l.bits

abbrev pub invariant-filters : goal.invariant-filters
invariant-filters l =
    Words (try_of l.v l.main l.ram (key_is l.key)) (cost_of l.v l.main l.ram (key_is l.key)) (per_page l.v) bit 64 l.b.start l.below l.b.words l.opened l.da_pages l.w × (l.end ≡ Nothing)
