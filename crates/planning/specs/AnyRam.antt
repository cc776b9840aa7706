-- The layout's plan of a change, by the numbers of the code's: how long it is. That depends on none of the bytes, so that it holds
-- whatever the RAM.
use Rattle.std.specs.Prelude.{◌≡◌, List, ℕ, ◌≤◌, length}
use Rattle.std.proofs.Common.{sym, ap, ◌∙◌}
use Rattle.layout.specs.Geometry.{ram_size}
use Rattle.layout.specs.Flash.{Planned}
use Rattle.layout.specs.Hash.{Family}
use Rattle.layout.specs.Items.{Record, record_bytes}
use Rattle.geometry.specs.declared.volume.Geometry.{Geometry}
use Rattle.geometry.specs.Shape.{shape}
use Rattle.plan.specs.Numbers.{plan_numbers}
use Rattle.plan.specs.Plans.{planned, planned_count, planned_count_lem}
use Rattle.planning.specs.declared.Slots.{Slots}
use Rattle.planning.specs.declared.Slots.TheVariants.{Delete, Insert, Update}
use Rattle.planning.specs.LayoutNumbers as numbers
use Rattle.planning.specs.Numbers.{deletion_numbers_are, insertion_numbers_are, update_numbers_are}
use Rattle.planning.specs.Edits.{numbers_of, plan_of, edit_planned}
use Rattle.planning.specs.LayoutEdits as layout
use Rattle.planning.specs.SomeGiven.{some_new, some_filters, all_given}

-- its numbers are the layout's
pub numbers_are : (g : Geometry) (e : Slots) → plan_numbers (numbers_of g e) ≡ numbers.numbers_of (shape g) e
numbers_are g (Delete d) = deletion_numbers_are g d
numbers_are g (Insert n) = insertion_numbers_are g n
numbers_are g (Update d n) = update_numbers_are g d n

-- whatever the RAM: there are new bytes and filters for which the code's plan is the layout's
module _ (h : Family) (g : Geometry) (j : ℕ) (r : Record) (ram : List ℕ) (long : ram_size (shape g) ≤ length ram) where
  abbrev new : Slots → List ℕ
  new e = some_new h (shape g) g.power.most j r ram e

  abbrev filters : Slots → List ℕ
  filters e = some_filters h (shape g) g.power.most j r ram e

  some_planned : (e : Slots) → planned (numbers_of g e) (new e) (filters e) ram ≡ plan_of (shape g) h j r.key (record_bytes r) ram e
  some_planned e =
      edit_planned h g j r.key (record_bytes r) (new e) (filters e) ram long e (all_given h (shape g) g.power.most j r ram e)

pub edit_some : (h : Family) (g : Geometry) (j : ℕ) (r : Record) (ram : List ℕ) → ram_size (shape g) ≤ length ram → (e : Slots)
    → (new : List ℕ) × (filters : List ℕ) × (planned (numbers_of g e) new filters ram ≡ plan_of (shape g) h j r.key (record_bytes r) ram e)
edit_some h g j r ram long e = (new h g j r ram long e, filters h g j r ram long e, some_planned h g j r ram long e)

-- the unit of its numbers
pub unit_is : (g : Geometry) (e : Slots) → (numbers_of g e).chip.unit ≡ g.chip.unit
unit_is g (Delete d) = layout.unit_is (shape g) (Delete d)
unit_is g (Insert n) = layout.unit_is (shape g) (Insert n)
unit_is g (Update d n) = layout.unit_is (shape g) (Update d n)

module _ (h : Family) (g : Geometry) (j : ℕ) (r : Record) (ram : List ℕ) (long : ram_size (shape g) ≤ length ram) (e : Slots) where
  abbrev plan : List Planned
  plan = plan_of (shape g) h j r.key (record_bytes r) ram e

  -- how many there are
  pub edit_length : length plan ≡ planned_count (numbers_of g e)
  edit_length =
      let s = edit_some h g j r ram long e in
      ap length (sym s.2) ∙ planned_count_lem (numbers_of g e) s.0 s.1 ram
