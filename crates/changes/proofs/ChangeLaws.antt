-- The refusals of a change and its plan, by the steps of the code.
use Rattle.std.specs.Prelude as std
use Rattle.std.specs.Prelude.{Ok, Err}
use mathlib.Core.Path.{◌≡◌, refl, sym, ap, ◌∙◌}
use mathlib.Core.Bool.{Bool, true, false, cond, ◌&&◌}
use mathlib.Core.List.{List, []}
use Prim.Native.Nat.{ℕ, ◌≤◌, ◌<◌}
use lib.ListN.{length}
use Rattle.geometry.specs.declared.volume.Geometry.{Geometry as CodeGeometry}
use Rattle.geometry.specs.Shape.{shape}
use Rattle.layout.specs.Geometry.{Geometry, ram_size}
use Rattle.layout.specs.Flash.{Flash, Planned, plan_ops, all_fresh}
use Rattle.layout.specs.Hash.{fnv_family}
use Rattle.layout.specs.Items.{record_bytes}
use Rattle.layout.specs.Calls.{Volume, one, no_room, no_deletion, change_plan}
use Rattle.laws.specs.Done.{done_count}
use Rattle.keys.specs.Key.{key_is}
use Rattle.state.specs.Contract.{record_is}
use Rattle.state.specs.declared.Refusal.{Refusal}
use Rattle.state.specs.declared.Refusal.TheVariants.{Full, DeletionsFull, NotFresh}
use Rattle.plan.specs.declared.Plan.{Plan}
use Rattle.plan.specs.Plans.{planned}
use Rattle.planning.specs.declared.Slots.{Slots}
use Rattle.planning.specs.Edits.{Room, numbers_of, programs_in, nothing_planned}
use Rattle.changes.specs.declared.Edit.{Edit}
use Rattle.changes.specs.Edits.{edit_is, old_number, new_record, slots_of, room_refusal}
use Rattle.changes.specs.Room.{room_tests}
use Rattle.changes.specs.Tasks.{change_refusal}
use Rattle.changes.specs.Places.{plan_of_lem}
use Rattle.planning.specs.AnyRam.{edit_some, unit_is}

module _ (cg : CodeGeometry) (v : Volume) (e : Edit) where
  abbrev g : Geometry
  g = shape cg

  abbrev S : Slots
  S = slots_of v.state.records v.state.deletions e

  -- ---- the plan by what code makes of the places alone

  -- a change that fills no page plans nothing
  pub no_plan : programs_in g S ≡ false → change_plan fnv_family g v (edit_is e) ≡ []
  no_plan t =
      sym (plan_of_lem g v e)
      ∙ nothing_planned fnv_family g cg.power.some (old_number e) (key_is (new_record e).key) (record_bytes (record_is (new_record e))) v.ram S t

  module _ (long : ram_size g ≤ length v.ram) (p : Plan) (p_is : p ≡ numbers_of cg S) where
    -- it is the plan of some bytes and filters
    some_plan : (new : List ℕ) × (filters : List ℕ) × (planned p new filters v.ram ≡ change_plan fnv_family g v (edit_is e))
    some_plan =
        let s = edit_some fnv_family cg (old_number e) (record_is (new_record e)) v.ram long S in
        (s.0, s.1, ap (λ (q : Plan). planned q s.0 s.1 v.ram) p_is ∙ s.2 ∙ plan_of_lem g v e)

    pub fresh_told : (f : Bool) → ((new filters ram : List ℕ) (c : Flash)
        → f ≡ all_fresh v.flash.spare (plan_ops p.chip.unit (planned p new filters ram) c))
        → f ≡ all_fresh v.flash.spare (plan_ops g.u (change_plan fnv_family g v (edit_is e)) v.flash)
    fresh_told f h =
        let s = some_plan in
        h s.0 s.1 v.ram v.flash
        ∙ ap (λ (q : Plan). all_fresh v.flash.spare (plan_ops q.chip.unit (planned p s.0 s.1 v.ram) v.flash)) p_is
        ∙ ap (λ (u : ℕ). all_fresh v.flash.spare (plan_ops u (planned p s.0 s.1 v.ram) v.flash)) (unit_is cg S)
        ∙ ap (λ (l : List Planned). all_fresh v.flash.spare (plan_ops g.u l v.flash)) s.2

    pub done_told : (k : ℕ) → ((new filters ram : List ℕ) → k ≡ done_count v.flash.spare (planned p new filters ram))
        → k ≡ done_count v.flash.spare (change_plan fnv_family g v (edit_is e))
    done_told k h =
        let s = some_plan in
        h s.0 s.1 v.ram ∙ ap (done_count v.flash.spare) s.2

  -- ---- the refusal

  -- 5 or 6
  pub change_full : (i : Refusal) → Err i ≡ room_refusal g v.state.records v.state.deletions (edit_is e) → Err i ≡ change_refusal g v (edit_is e)
  change_full i is = by (one (edit_is e).inserts && no_room g v) (one (edit_is e).deletes && no_deletion g v) _ is
    where
      by : (a b : Bool) (x : std.Result Unit Refusal) → Err i ≡ cond a (Err Full) (cond b (Err DeletionsFull) (Ok (tt {0})))
          → Err i ≡ cond a (Err Full) (cond b (Err DeletionsFull) x)
      by true b x q = q
      by false true x q = q
      by false false x q = cc

  -- where there is room, 7 or none
  module _ (room : Room g S) where
    pub change_fresh : (x : std.Result Unit Refusal) (f : Bool)
        → f ≡ all_fresh v.flash.spare (plan_ops g.u (change_plan fnv_family g v (edit_is e)) v.flash)
        → x ≡ cond f (Ok tt) (Err NotFresh) → x ≡ change_refusal g v (edit_is e)
    change_fresh x f f_is q =
        let t = room_tests g v.state.records v.state.deletions e room in
        rw (t.0, t.1, ← f_is) q

    pub change_nothing : programs_in g S ≡ false → Ok tt ≡ change_refusal g v (edit_is e)
    unfolding all_fresh
    change_nothing t = change_fresh (Ok tt) true (rw (no_plan t)) refl
