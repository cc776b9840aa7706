-- The layout's plan of a change, by its numbers, for any geometry of the layout: of given new bytes and filters, and, since how long it is
-- depends on none of the bytes, of some whatever the RAM.
use Rattle.std.specs.Prelude.{◌≡◌, refl, List, ◌++◌, ℕ, ◌≤◌, ◌<◌, length}
use Rattle.std.proofs.Common.{sym, ap, ◌∙◌}
use Rattle.layout.specs.Geometry.{Geometry, ram_size}
use Rattle.layout.specs.Hash.{Family}
use Rattle.layout.specs.Keys.{Key}
use Rattle.layout.specs.Items.{Record, record_bytes}
use Rattle.layout.specs.Calls.{deletion_plan, insertion_plan}
use Rattle.plan.specs.Plans.{planned_by, planned_count_by, planned_count_by_lem}
use Rattle.planning.specs.declared.Slots.{Slots}
use Rattle.planning.specs.declared.Slots.TheVariants.{Delete, Insert, Update}
use Rattle.planning.specs.LayoutNumbers.{deletion_numbers, insertion_numbers, update_numbers, numbers_of}
use Rattle.planning.specs.LayoutOperations.{deletion_planned, insertion_planned, update_planned}
use Rattle.planning.specs.Edits.{plan_of, Given}
use Rattle.planning.specs.SomeGiven.{some_new, some_filters, all_given}

-- with the new bytes and filters of a change its numbers stand for the layout's plan
module _ (h : Family) (g : Geometry) (j : ℕ) (key : Key) (bytes new filters ram : List ℕ) where
  pub edit_planned : 0 < g.u → ram_size g ≤ length ram → (e : Slots) → Given h g j key bytes new filters ram e
      → planned_by (numbers_of g e) new filters ram ≡ plan_of g h j key bytes ram e
  edit_planned pos long (Delete d) G = deletion_planned h g d j new filters ram pos long G.number_is G.filters_are
  edit_planned pos long (Insert n) G =
      insertion_planned h g n key bytes new filters ram G.size G.record_is_lem G.entry_is G.filter_is
  edit_planned pos long (Update d n) G =
      update_planned h g n key bytes new filters ram G.1.size G.1.record_is_lem G.1.entry_is G.1.filter_is
      d j pos long G.0.number_is G.0.filters_are

-- ---- whatever the RAM

module _ (h : Family) (g : Geometry) (pos : 0 < g.u) (most : g.u ≤ 32) (j : ℕ) (r : Record) (ram : List ℕ) (long : ram_size g ≤ length ram)
  where
    abbrev new : Slots → List ℕ
    new e = some_new h g most j r ram e

    abbrev filters : Slots → List ℕ
    filters e = some_filters h g most j r ram e

    a_deletion : (d : ℕ) → planned_by (deletion_numbers g d) (new (Delete d)) (filters (Delete d)) ram ≡ deletion_plan h g d j ram
    a_deletion d =
        let G = all_given h g most j r ram (Delete d) in
        deletion_planned h g d j (new (Delete d)) (filters (Delete d)) ram pos long G.number_is G.filters_are

    an_insertion : (n : ℕ) → planned_by (insertion_numbers g n) (new (Insert n)) (filters (Insert n)) ram
        ≡ insertion_plan h g n r.key (record_bytes r) ram
    an_insertion n =
        let G = all_given h g most j r ram (Insert n) in
        insertion_planned h g n r.key (record_bytes r) (new (Insert n)) (filters (Insert n)) ram
        G.size G.record_is_lem G.entry_is G.filter_is

    an_update : (d n : ℕ) → planned_by (update_numbers g d n) (new (Update d n)) (filters (Update d n)) ram
        ≡ deletion_plan h g d j ram ++ insertion_plan h g n r.key (record_bytes r) ram
    an_update d n =
        let G = all_given h g most j r ram (Update d n) in
        update_planned h g n r.key (record_bytes r) (new (Update d n)) (filters (Update d n)) ram
        G.1.size G.1.record_is_lem G.1.entry_is G.1.filter_is d j pos long G.0.number_is G.0.filters_are

    -- how many there are
    pub edit_length : (e : Slots) → length (plan_of g h j r.key (record_bytes r) ram e) ≡ planned_count_by (numbers_of g e)
    edit_length (Delete d) =
        ap length (sym (a_deletion d)) ∙ planned_count_by_lem (deletion_numbers g d) (new (Delete d)) (filters (Delete d)) ram
    edit_length (Insert n) =
        ap length (sym (an_insertion n)) ∙ planned_count_by_lem (insertion_numbers g n) (new (Insert n)) (filters (Insert n)) ram
    edit_length (Update d n) =
        ap length (sym (an_update d n)) ∙ planned_count_by_lem (update_numbers g d n) (new (Update d n)) (filters (Update d n)) ram

-- there are new bytes and filters for which the numbers' plan is the layout's
pub edit_some : (h : Family) (g : Geometry) → 0 < g.u → g.u ≤ 32 → (j : ℕ) (r : Record) (ram : List ℕ) → ram_size g ≤ length ram
    → (e : Slots)
    → (new : List ℕ) × (filters : List ℕ) × (planned_by (numbers_of g e) new filters ram ≡ plan_of g h j r.key (record_bytes r) ram e)
edit_some h g pos most j r ram long (Delete d) =
    (some_new h g most j r ram (Delete d), some_filters h g most j r ram (Delete d), a_deletion h g pos most j r ram long d)
edit_some h g pos most j r ram long (Insert n) =
    (some_new h g most j r ram (Insert n), some_filters h g most j r ram (Insert n), an_insertion h g pos most j r ram long n)
edit_some h g pos most j r ram long (Update d n) =
    (some_new h g most j r ram (Update d n), some_filters h g most j r ram (Update d n), an_update h g pos most j r ram long d n)

-- the unit of its numbers
pub unit_is : (g : Geometry) (e : Slots) → (numbers_of g e).unit ≡ g.u
unit_is g (Delete d) = refl
unit_is g (Insert n) = refl
unit_is g (Update d n) = refl
