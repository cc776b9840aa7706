-- The filters of the pages that a change fills, by their fourths.
use Rattle.std.specs.Prelude.{◌≡◌, true, List, ℕ}
use Rattle.layout.specs.Keys.{Key}
use Rattle.layout.specs.Geometry.{Geometry}
use Rattle.layout.specs.Hash.{fnv_family}
use Rattle.layout.specs.Items.{KA, DA, fills}
use Rattle.layout.specs.Calls.{new_filter, new_half}
use Rattle.filter.specs.Fourths.{FourthsOf}
use Rattle.plan.specs.Plans.{deletion_fourths, entry_fourths}
use Rattle.planning.specs.declared.Slots.{Slots}
use Rattle.planning.specs.declared.Slots.TheVariants.{Delete, Insert, Update}

-- the fourths are those of the filters of the page that deletion d, of record j, fills
abbrev pub DeletionFilters : Geometry → ℕ → ℕ → List ℕ → List ℕ → Type 0
DeletionFilters g d j ram fourths = fills (DA g) d ≡ true → FourthsOf g.u 2 (λ i. new_half fnv_family g d j i ram) fourths

-- the filter of the page that entry n, with the key, fills
abbrev pub EntryFilter : Geometry → ℕ → Key → List ℕ → List ℕ → Type 0
EntryFilter g n key ram fourths = fills (KA g) n ≡ true → FourthsOf g.u 1 (λ i. new_filter fnv_family g n key ram) fourths

-- those of a change
abbrev pub FiltersOf : Geometry → ℕ → Key → List ℕ → List ℕ → Slots → Type 0
FiltersOf g j key ram filters (Delete d) = DeletionFilters g d j ram (deletion_fourths filters)
FiltersOf g j key ram filters (Insert n) = EntryFilter g n key ram (entry_fourths filters)
FiltersOf g j key ram filters (Update d n) =
    DeletionFilters g d j ram (deletion_fourths filters) × EntryFilter g n key ram (entry_fourths filters)
