-- A deletion, an insertion and an update as one.
use Rattle.std.specs.Prelude.{◌≡◌, Bool, true, ◌||◌, List, [], ◌++◌, ℕ, ◌+◌, ◌-◌, ◌*◌, ◌/◌, ◌%◌, ◌≤◌, ◌<◌, length}
use Rattle.std.proofs.Common.{sym, ◌∙◌, arith, eqb-true, eq-eqb}
use Rattle.std.proofs.Math.Bool.{false}
use Rattle.std.proofs.lemmas.Bool.{false≢true}
use Rattle.memory.specs.Cases.{either, bool?}
use Rattle.memory.specs.Numbers.{euclid, mod_of}
use Rattle.layout.specs.Keys.{Key}
use Rattle.layout.specs.Geometry.{Geometry, record_capacity, deletion_capacity, ram_size}
use Rattle.layout.specs.Flash.{Planned}
use Rattle.layout.specs.Hash.{Family}
use Rattle.layout.specs.Items.{Ra, KA, DA, fills, deletion_bytes, entry_bytes}
use Rattle.layout.specs.Calls.{new_filter, new_half, deletion_plan, deletion_ram, insertion_plan, insertion_ram}
use Rattle.laws.specs.Lengths.{Long}
use Rattle.geometry.specs.declared.volume.Geometry.{Geometry as CodeGeometry}
use Rattle.geometry.specs.Shape.{shape, sound_of}
use Rattle.filter.specs.Fourths.{FourthsOf}
use Rattle.plan.specs.declared.Plan.{Plan}
use Rattle.plan.specs.Plans.{PlanFits, deletion_in, record_in, entry_in, deletion_fourths, entry_fourths, planned}
use Rattle.planning.specs.declared.Slots.{Slots}
use Rattle.planning.specs.declared.Slots.TheVariants.{Delete, Insert, Update}
use Rattle.planning.specs.Numbers.{deletion_numbers, insertion_numbers, update_numbers}
use Rattle.planning.specs.Operations.{deletion_planned, insertion_planned, update_planned}
use Rattle.planning.specs.Fits.{deletion_fits, insertion_fits, update_fits}

abbrev pub numbers_of : CodeGeometry → Slots → Plan
numbers_of g (Delete d) = deletion_numbers g d
numbers_of g (Insert n) = insertion_numbers g n
numbers_of g (Update d n) = update_numbers g d n

module _ (g : Geometry) where
  -- there is room for it
  abbrev pub Room : Slots → Type 0
  Room (Delete d) = d < deletion_capacity g
  Room (Insert n) = n < record_capacity g
  Room (Update d n) = (d < deletion_capacity g) × (n < record_capacity g)

  abbrev pub programs_in : Slots → Bool
  programs_in (Delete d) = fills (DA g) d
  programs_in (Insert n) = fills (Ra g) n
  programs_in (Update d n) = fills (DA g) d || fills (Ra g) n

  -- the layout's plan and RAM, of the deletion of record j and of a record with its key and bytes
  module _ (h : Family) (j : ℕ) (key : Key) (bytes ram : List ℕ) where
    abbrev pub plan_of : Slots → List Planned
    plan_of (Delete d) = deletion_plan h g d j ram
    plan_of (Insert n) = insertion_plan h g n key bytes ram
    plan_of (Update d n) = deletion_plan h g d j ram ++ insertion_plan h g n key bytes ram

    abbrev pub ram_of : Slots → List ℕ
    ram_of (Delete d) = deletion_ram h g d j ram
    ram_of (Insert n) = insertion_ram h g n key bytes ram
    ram_of (Update d n) = insertion_ram h g n key bytes (deletion_ram h g d j ram)

-- ---- the new bytes and the fourths of the new filters are those of a change

-- of deletion d, of record j; the filters where the deletion fills its page
pub record DeletionGiven (h : Family) (g : Geometry) (d j : ℕ) (new filters ram : List ℕ) : Type 0 where
  pub number_is : deletion_in new ≡ deletion_bytes j
  pub filters_are : fills (DA g) d ≡ true → FourthsOf g.u 2 (λ i. new_half h g d j i ram) (deletion_fourths filters)

-- of record n and its entry; the filter where the entry fills its page
pub record RecordGiven (h : Family) (g : Geometry) (n : ℕ) (key : Key) (bytes new filters ram : List ℕ) : Type 0 where
  pub size : length bytes ≡ 16
  pub record_is_lem : record_in new ≡ bytes
  pub entry_is : entry_in new ≡ entry_bytes key n
  pub filter_is : fills (KA g) n ≡ true → FourthsOf g.u 1 (λ i. new_filter h g n key ram) (entry_fourths filters)

module _ (h : Family) (g : Geometry) (j : ℕ) (key : Key) (bytes new filters ram : List ℕ) where
  abbrev pub Given : Slots → Type 0
  Given (Delete d) = DeletionGiven h g d j new filters ram
  Given (Insert n) = RecordGiven h g n key bytes new filters ram
  Given (Update d n) = DeletionGiven h g d j new filters ram × RecordGiven h g n key bytes new filters ram

-- then the plan stands for the layout's
module _ (h : Family) (g : CodeGeometry) (j : ℕ) (key : Key) (bytes new filters ram : List ℕ) where
  pub edit_planned : ram_size (shape g) ≤ length ram → (e : Slots) → Given h (shape g) j key bytes new filters ram e
      → planned (numbers_of g e) new filters ram ≡ plan_of (shape g) h j key bytes ram e
  edit_planned long (Delete d) G = deletion_planned h g d j new filters ram g.power.some long G.number_is G.filters_are
  edit_planned long (Insert n) G =
      insertion_planned h g n key bytes new filters ram G.size G.record_is_lem G.entry_is G.filter_is
  edit_planned long (Update d n) G =
      update_planned h g n key bytes new filters ram G.1.size G.1.record_is_lem G.1.entry_is G.1.filter_is
      d j g.power.some long G.0.number_is G.0.filters_are

-- and it fits
pub edit_fits : (g : CodeGeometry) → (main spare ram : List ℕ) → Long (shape g) main spare ram → (e : Slots) → Room (shape g) e
    → PlanFits (numbers_of g e) (length main) (length spare) (length ram)
edit_fits g main spare ram L (Delete d) R = deletion_fits g (sound_of g) main spare ram L d R
edit_fits g main spare ram L (Insert n) R = insertion_fits g (sound_of g) main spare ram L n R
edit_fits g main spare ram L (Update d n) R = update_fits g (sound_of g) main spare ram L d n R.0 R.1

-- ---- a change that fills no page of records or deletions plans nothing

-- an entry that fills its page comes with a record that fills its own
pub entry_then_record : (g : Geometry) (n : ℕ) → 0 < g.u → fills (KA g) n ≡ true → fills (Ra g) n ≡ true
entry_then_record g n pos e =
    let a : n % (8 * g.u) + 1 ≡ 8 * g.u = eqb-true (n % (8 * g.u) + 1) (8 * g.u) e in
    let w = euclid n (8 * g.u) (omega (arith, pos)) in
    let r : n % (4 * g.u) ≡ 4 * g.u - 1
    = mod_of n (4 * g.u) (n / (8 * g.u) * 2 + 1) (4 * g.u - 1) (omega (arith, w.whole, a, pos)) (omega (arith, pos)) in
    eq-eqb (n % (4 * g.u) + 1) (4 * g.u) (omega (arith, r, pos))

module _ (h : Family) (g : Geometry) (pos : 0 < g.u) (j : ℕ) (key : Key) (bytes ram : List ℕ) where
  deletion_none : (d : ℕ) → fills (DA g) d ≡ false → deletion_plan h g d j ram ≡ []
  unfolding deletion_plan
  deletion_none d e = rw e

  insertion_none : (n : ℕ) → fills (Ra g) n ≡ false → insertion_plan h g n key bytes ram ≡ []
  unfolding insertion_plan
  insertion_none n e =
      let f : fills (KA g) n ≡ false
      = either (bool? (fills (KA g) n)) (λ t. absurd (false≢true (sym e ∙ entry_then_record g n pos t))) (λ t. t) in
      rw (e, f)

  pub nothing_planned : (e : Slots) → programs_in g e ≡ false → plan_of g h j key bytes ram e ≡ []
  nothing_planned (Delete d) t = deletion_none d t
  nothing_planned (Insert n) t = insertion_none n t
  nothing_planned (Update d n) t =
      either (bool? (fills (DA g) d))
      (λ a. absurd (false≢true (sym (rw a at t))))
      (λ a. let b : fills (Ra g) n ≡ false = rw a at t in rw (deletion_none d a, insertion_none n b))
