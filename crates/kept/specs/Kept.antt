-- The RAM after a change, out of its new bytes and the fourths of its new filters.
use Rattle.std.specs.Prelude.{cond, List, ℕ, ◌+◌, ◌-◌, ◌*◌}
use Rattle.layout.specs.Geometry.{Geometry, fourth_size}
use Rattle.layout.specs.Items.{Ra, KA, DA, fills, item_ram}
use Rattle.layout.specs.Index.{Index, in_ska, filter_ram}
use Rattle.layout.specs.Calls.{key_index, key_filters, deletion_index, deletion_filters}
use Rattle.filter.specs.Fourths.{with_fourths}
use Rattle.plan.specs.Plans.{deletion_in, record_in, entry_in, deletion_fourths, entry_fourths}
use Rattle.planning.specs.declared.Slots.{Slots}
use Rattle.planning.specs.declared.Slots.TheVariants.{Delete, Insert, Update}

-- n new filters, the first of them F, in their places, or the SKA page that they fill zeroed
abbrev pub filters_kept : ℕ → Index → ℕ → ℕ → List ℕ → List ℕ → List ℕ
filters_kept u ix F n fourths ram =
    filter_ram u ix (F + (n - 1)) (with_fourths u (n * fourth_size u) (ix.ska + in_ska F * fourth_size u) fourths ram)

module _ (g : Geometry) where
  -- deletion d; the filters of the page that it fills
  abbrev pub deletion_kept : ℕ → List ℕ → List ℕ → List ℕ → List ℕ
  deletion_kept d new filters ram =
      let appended : List ℕ = item_ram g.u (DA g) d (deletion_in new) ram in
      cond (fills (DA g) d) (filters_kept g.u (deletion_index g) (deletion_filters g d) 2 (deletion_fourths filters) appended) appended

  -- record n, then its entry
  abbrev pub entered : ℕ → List ℕ → List ℕ → List ℕ
  entered n new ram = item_ram g.u (KA g) n (entry_in new) (item_ram g.u (Ra g) n (record_in new) ram)

  abbrev pub record_kept : ℕ → List ℕ → List ℕ → List ℕ → List ℕ
  record_kept n new filters ram =
      cond (fills (KA g) n) (filters_kept g.u (key_index g) (key_filters g n) 1 (entry_fourths filters) (entered n new ram))
      (entered n new ram)

  abbrev pub kept : List ℕ → List ℕ → List ℕ → Slots → List ℕ
  kept new filters ram (Delete d) = deletion_kept d new filters ram
  kept new filters ram (Insert n) = record_kept n new filters ram
  kept new filters ram (Update d n) = record_kept n new filters (deletion_kept d new filters ram)
