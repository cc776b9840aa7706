-- Which refusals a call may give, whatever volume it is handed; an update of a key that is not live is an insert.
use Rattle.std.specs.Prelude.{◌≡◌, Bool, true, false, cond, List, [], ◌∷◌, ℕ}
use Rattle.std.proofs.Math.Path.{refl}
use Rattle.std.proofs.Math.Option.{Option, none, some}
use Rattle.memory.specs.Ranges.{memb}
use Rattle.layout.specs.Geometry.{Geometry, geometry}
use Rattle.layout.specs.Flash.{Planned, plan_ops, all_fresh}
use Rattle.layout.specs.Hash.{Family}
use Rattle.layout.specs.Items.{Record}
use Rattle.layout.specs.Refusals as refusal
use Rattle.layout.specs.Search.{Stop, found, corrupt}
use Rattle.layout.specs.Keys.{Key}
use Rattle.layout.specs.Calls.{Volume, Call, insert, update, delete, lookup, Result}
use Rattle.layout.specs.Calls.{bad_state, too_short, judge_first, search, commit, no_room, no_deletion, change_by, insert_after, update_after}
use Rattle.layout.specs.Calls.{delete_after, lookup_after, answer, call}
use Rattle.history.specs.CallRefusals.{refusals_of, Among}

-- document 02, request 4: "An update of a key that is not live now inserts it"
pub update_absent : (h : Family) (v : Volume) (r : Record) → (search h (geometry v.state.sizes) v r.key).stop ≡ none
    → call h v (update r) ≡ call h v (insert r)
unfolding call
update_absent h v r e = rw e

-- one of two results
pub either_among : (is : List ℕ) (t : Bool) (r s : Result) → Among is r.outcome → Among is s.outcome → Among is (cond t r s).outcome
either_among is true r s a b = a
either_among is false r s a b = b

-- 1 and 2 are of every call
first : (c : Call) → (memb refusal.bad_state (refusals_of c) ≡ true) × (memb refusal.too_short (refusals_of c) ≡ true)
unfolding memb
first (insert r) = (refl, refl)
first (update r) = (refl, refl)
first (delete key) = (refl, refl)
first (lookup key) = (refl, refl)

module _ (h : Family) (g : Geometry) (v : Volume) where
  commit_among : (is : List ℕ) (n d : ℕ) (plan : List Planned) (ram : List ℕ) → memb refusal.not_fresh is ≡ true
      → Among is (commit g v n d plan ram).outcome
  unfolding commit
  commit_among is n d plan ram e = either_among is (all_fresh v.flash.spare (plan_ops g.u plan v.flash)) _ _ tt e

  insert_among : (r : Record) (s : Option Stop) → Among (refusals_of (insert r)) (insert_after h g v r s).outcome
  unfolding change_by memb
  insert_among r (some corrupt) = refl
  insert_among r (some (found j)) = refl
  insert_among r none =
      let is : List ℕ = refusals_of (insert r) in
      either_among is (no_room g v) _ _ refl (commit_among is _ _ _ _ refl)

  update_among : (r : Record) (s : Option Stop) → Among (refusals_of (update r)) (update_after h g v r s).outcome
  unfolding change_by memb
  update_among r (some corrupt) = refl
  update_among r none =
      let is : List ℕ = refusals_of (update r) in
      either_among is (no_room g v) _ _ refl (commit_among is _ _ _ _ refl)
  update_among r (some (found j)) =
      let is : List ℕ = refusals_of (update r) in
      either_among is (no_room g v) _ _ refl (either_among is (no_deletion g v) _ _ refl (commit_among is _ _ _ _ refl))

  delete_among : (key : Key) (s : Option Stop) → Among (refusals_of (delete key)) (delete_after h g v s).outcome
  unfolding change_by memb
  delete_among key (some corrupt) = refl
  delete_among key none = refl
  delete_among key (some (found j)) =
      let is : List ℕ = refusals_of (delete key) in
      either_among is (no_deletion g v) _ _ refl (commit_among is _ _ _ _ refl)

  lookup_among : (key : Key) (opened da_pages : ℕ) (s : Option Stop)
      → Among (refusals_of (lookup key)) (lookup_after g v opened da_pages s).outcome
  unfolding lookup_after memb
  lookup_among key opened da_pages (some corrupt) = refl
  lookup_among key opened da_pages none = tt
  lookup_among key opened da_pages (some (found j)) = tt

  answer_among : (c : Call) → Among (refusals_of c) (answer h g v c).outcome
  answer_among (insert r) = insert_among r (search h g v r.key).stop
  answer_among (update r) = update_among r (search h g v r.key).stop
  answer_among (delete key) = delete_among key (search h g v key).stop
  answer_among (lookup key) = lookup_among key (search h g v key).opened _ (search h g v key).stop

pub call_refusals : (h : Family) (v : Volume) (c : Call) → Among (refusals_of c) (call h v c).outcome
unfolding call judge_first
call_refusals h v c =
    let g : Geometry = geometry v.state.sizes in
    either_among _ (bad_state v.state) _ _ (first c).0
    (either_among _ (too_short g v.flash v.ram) _ _ (first c).1 (answer_among h g v c))

-- "for such an update 5 and 7 apply, and 6 does not"; without the header, so without 10
pub absent_refusals : (h : Family) (v : Volume) (r : Record) → (search h (geometry v.state.sizes) v r.key).stop ≡ none
    → Among (refusal.bad_state ∷ refusal.too_short ∷ refusal.full ∷ refusal.not_fresh ∷ []) (call h v (update r)).outcome
unfolding call judge_first change_by memb
absent_refusals h v r e =
    let g : Geometry = geometry v.state.sizes in
    let is : List ℕ = refusal.bad_state ∷ refusal.too_short ∷ refusal.full ∷ refusal.not_fresh ∷ [] in
    rw e
    (either_among is (bad_state v.state) _ _ refl
    (either_among is (too_short g v.flash v.ram) _ _ refl
    (either_among is (no_room g v) _ _ refl (commit_among h g v is _ _ _ _ refl))))
