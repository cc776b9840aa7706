-- The operations of any changing call, and of any that a restart goes on with, are few: a budget of a word's largest number is enough. Nor
-- does any of these count pages.
use Rattle.std.specs.Prelude.{◌≡◌, Bool, ◌&&◌, cond, List, ℕ, ◌+◌, ◌^◌, ◌≤◌, ◌<◌, length, eqb}
use Rattle.std.proofs.Math.Path.{refl}
use Rattle.std.proofs.Math.Bool.{true, false}
use Rattle.std.proofs.Math.Option.{Option, none, some}
use Rattle.std.proofs.Common.{arith, length-drop, sym, subst}
use Rattle.memory.specs.Cases.{either, bool?}
use Rattle.layout.specs.Geometry as layout
use Rattle.layout.specs.Flash.{Planned, plan_ops, all_fresh}
use Rattle.layout.specs.Hash.{fnv_family}
use Rattle.layout.specs.Search.{Stop, found, corrupt}
use Rattle.layout.specs.Calls.{Volume, Result, bad_state, too_short, judge_first, one, no_room, no_deletion, change_plan, search}
use Rattle.layout.specs.Calls.{Commit, performed, commit, change_by, insert_by, update_by, delete_by, answer_by}
use Rattle.layout.specs.Later.{later_plan, commit_later, call_again}
use Rattle.layout.specs.Header.{on_pages, kind_in}
use Rattle.layout.specs.Budgets.{result_of, pending_on}
use Rattle.laws.specs.Lengths.{long_of}
use Rattle.laws.specs.Done.{ops_length, done_count, later_drop}
use Rattle.geometry.specs.Shape.{shape, geometry_for, shape_is}
use Rattle.state.specs.Judge.{is_allowed}
use Rattle.geometry.specs.declared.volume.Geometry.{Geometry}
use Rattle.keys.specs.Key.{key_is}
use Rattle.state.specs.Contract.{record_is, call_of}
use Rattle.state.specs.declared.Record.{Record}
use Rattle.state.specs.declared.Request.{Request}
use Rattle.state.specs.declared.Request.TheVariants as request
use Rattle.changes.specs.Edits.{edit_is}
use Rattle.changes.specs.Room.{room_of}
use Rattle.changes.specs.declared.Edit.{Edit}
use Rattle.changes.specs.declared.Edit.TheVariants.{Insert, Delete, Replace}
use Rattle.changes.specs.Few.{few_changes}

-- ---- a result of few operations

abbrev Few : Result → Type 0
Few r = (r.count ≡ 0) × (length r.ops < 2 ^ 32)

few_either : (t : Bool) (r s : Result) → Few r → Few s → Few (cond t r s)
few_either true r s p q = p
few_either false r s p q = q

-- ---- an end of a change makes no more of them than are planned

abbrev FewEnd : Commit → Type 0
FewEnd end = (g : layout.Geometry) (v : Volume) (n d : ℕ) (plan : List Planned) (ram : List ℕ) → length plan < 2 ^ 32
    → Few (end g v n d plan ram)

performed_few : FewEnd performed
performed_few g v n d plan ram l = (refl, omega (arith, ops_length g.u plan v.flash, l))

commit_few : FewEnd commit
unfolding commit
commit_few g v n d plan ram l =
    few_either (all_fresh v.flash.spare (plan_ops g.u plan v.flash)) _ _ (performed_few g v n d plan ram l) (refl, omega arith)

later_length : (spare : List ℕ) (ps : List Planned) → length (later_plan spare ps) ≤ length ps
later_length spare ps = rw (later_drop spare ps) (omega (arith, length-drop (done_count spare ps) ps))

later_few : FewEnd commit_later
unfolding commit_later
later_few g v n d plan ram l =
    performed_few g v n d (later_plan v.flash.spare plan) ram (omega (arith, later_length v.flash.spare plan, l))

-- ---- a change, then a call

module _ (end : Commit) (few_end : FewEnd end) (v : Volume) where
  module _ (g : Geometry) (long : layout.ram_size (shape g) ≤ length v.ram) where
    change_few : (e : Edit) → Few (change_by end fnv_family (shape g) v (edit_is e))
    unfolding change_by
    change_few e =
        either (bool? (one (edit_is e).inserts && no_room (shape g) v)) (λ p. rw p (refl, omega arith))
        (λ p. either (bool? (one (edit_is e).deletes && no_deletion (shape g) v)) (λ q. rw (p, q) (refl, omega arith))
        (λ q. rw (p, q)
        (few_end (shape g) v _ _ (change_plan fnv_family (shape g) v (edit_is e)) _ (few_changes g v e long (room_of (shape g) v.state.records v.state.deletions e p q)))))

    insert_few : (r : Record) (s : Option Stop) → Few (insert_by end fnv_family (shape g) v (record_is r) s)
    insert_few r none = change_few (Insert r)
    insert_few r (some corrupt) = (refl, omega arith)
    insert_few r (some (found j)) = (refl, omega arith)

    update_few : (r : Record) (s : Option Stop) → Few (update_by end fnv_family (shape g) v (record_is r) s)
    update_few r none = change_few (Insert r)
    update_few r (some corrupt) = (refl, omega arith)
    update_few r (some (found j)) = change_few (Replace j r)

    delete_few : (s : Option Stop) → Few (delete_by end fnv_family (shape g) v s)
    delete_few none = (refl, omega arith)
    delete_few (some corrupt) = (refl, omega arith)
    delete_few (some (found j)) = change_few (Delete j)

    answer_few : (q : Request) → Few (answer_by end fnv_family (shape g) v (call_of q))
    answer_few (request.Insert r) = insert_few r (search fnv_family (shape g) v (key_is r.key)).stop
    answer_few (request.Update r) = update_few r (search fnv_family (shape g) v (key_is r.key)).stop
    answer_few (request.Delete key) = delete_few (search fnv_family (shape g) v (key_is key)).stop

  -- a volume that is not refused has the geometry of its sizes, and its RAM is long enough
  judged_few : (r : Result)
      → (shape (geometry_for v.state.sizes) ≡ layout.geometry v.state.sizes → layout.ram_size (layout.geometry v.state.sizes) ≤ length v.ram → Few r)
      → Few (judge_first v r)
  unfolding judge_first
  judged_few r f =
      either (bool? (bad_state v.state)) (λ p. rw p (refl, omega arith))
      (λ p. either (bool? (too_short (layout.geometry v.state.sizes) v.flash v.ram)) (λ q. rw (p, q) (refl, omega arith))
      (λ q. rw (p, q)
      (f (shape_is v.state.sizes (is_allowed v.state p)) (long_of (layout.geometry v.state.sizes) v.flash v.ram q).read.ram_fits)))

  -- the answer over the geometry of the sizes
  answer_named : (q : Request) → shape (geometry_for v.state.sizes) ≡ layout.geometry v.state.sizes
      → layout.ram_size (layout.geometry v.state.sizes) ≤ length v.ram → Few (answer_by end fnv_family (layout.geometry v.state.sizes) v (call_of q))
  answer_named q s long =
      subst (λ G. Few (answer_by end fnv_family G v (call_of q))) s
      (answer_few (geometry_for v.state.sizes) (subst (λ G. layout.ram_size G ≤ length v.ram) (sym s) long) q)

-- ---- the intent and the finished RAM beside them

result_few : (v : Volume) (q : Request) → Few (result_of fnv_family v (call_of q))
result_few v q =
    judged_few commit commit_few (on_pages v) _
    (λ s long. few_either (eqb (kind_in v.ram) 0) _ _ (answer_named commit commit_few (on_pages v) q s long) (refl, omega arith))

pub few_ops : (v : Volume) (q : Request) → length (result_of fnv_family v (call_of q)).ops + 2 ≤ 18446744073709551615
few_ops v q = omega (arith, (result_few v q).1)

pub none_counted : (v : Volume) (q : Request) → (result_of fnv_family v (call_of q)).count ≡ 0
none_counted v q = (result_few v q).0

again_few : (w : Volume) (q : Request) → Few (call_again fnv_family w (call_of q))
unfolding call_again
again_few w q =
    judged_few commit_later later_few w _ (λ s long. answer_named commit_later later_few w q s long)

pub few_again : (v : Volume) (q : Request) → length (call_again fnv_family (pending_on v) (call_of q)).ops + 1 ≤ 18446744073709551615
few_again v q = omega (arith, (again_few (pending_on v) q).1)
