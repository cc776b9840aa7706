-- Restart on any volume, whatever its bytes: when it refuses, what it hands back then, and that it programs fresh sectors only.
use Rattle.std.specs.Prelude.{◌≡◌, refl, ◌⊎◌, Bool, true, false, cond, ◌&&◌, List, [], ◌∷◌, ℕ, zero, suc, ◌≤◌, ◌<◌, length, get_or, take, ltb}
use Rattle.std.proofs.Common.{ap, ◌∙◌, arith, lt-ltb}
use Rattle.std.proofs.Math.Logic.{inl, inr}
use Rattle.std.proofs.Math.Bool.{and-eq-true_iff}
use Rattle.std.proofs.Math.Option.{Option, none, some}
use Rattle.memory.specs.Booleans.{cond_pos}
use Rattle.memory.specs.Cases.{either, bool?}
use Rattle.layout.specs.Geometry.{Geometry, geometry, Sizes, unit_of, allowed, blocks}
use Rattle.layout.specs.Flash.{Op, program, erase, plan_ops, Planned, fresh, all_fresh}
use Rattle.layout.specs.Hash.{Family}
use Rattle.layout.specs.Items.{Record}
use Rattle.layout.specs.Refusals as refusal
use Rattle.layout.specs.Search.{Stop, found, corrupt}
use Rattle.layout.specs.Calls.{Volume, Call, insert, update, delete, lookup, Outcome, accepted, hit, miss, refused, Result, refuse}
use Rattle.layout.specs.Calls.{bad_state}
use Rattle.layout.specs.Calls.{too_short, judge_first, one, no_room, no_deletion, Edit, commit, search, call, lookup_after, format, formatted}
use Rattle.history.proofs.FlashLaws.{fresh_erases}
use Rattle.layout.specs.Calls.{change_by, insert_by, update_by, delete_by, answer_by}
use Rattle.layout.specs.Later.{commit_later, call_again}
use Rattle.cuts.proofs.LaterLaws.{later_ops_fresh}
use Rattle.layout.specs.Header.{pages, on_pages, intended, format_intended, finished, state_in, Pending, nothing, changing, formatting}
use Rattle.layout.specs.Header.{unknown, pending_in}
use Rattle.layout.specs.Budgets.{Step, last_steps, call_steps, taken_by, taken, format_for, pending_on, result_of, call_for, found_none, resumed}
use Rattle.layout.specs.Budgets.{restart_for}
use Rattle.cuts.proofs.Idle.{restart_resumes}
use Rattle.cuts.proofs.Finish.{ops_cut}
use Rattle.cuts.specs.RestartLaws.{SameBut7, Orderly, FreshOps}

module _ (h : Family) (g : Geometry) (v : Volume) where
  commit_same : (n d : ℕ) (plan : List Planned) (ram : List ℕ) → SameBut7 (commit g v n d plan ram) (commit_later g v n d plan ram)
  unfolding commit commit_later
  commit_same n d plan ram =
      either (bool? (all_fresh v.flash.spare (plan_ops g.u plan v.flash))) (λ q. inl (rw q)) (λ q. inr (rw q, refl))

  change_same : (e : Edit) → SameBut7 (change_by commit h g v e) (change_by commit_later h g v e)
  unfolding change_by
  change_same e =
      either (bool? (one e.inserts && no_room g v)) (λ q. rw q (inl refl))
      (λ q. either (bool? (one e.deletes && no_deletion g v)) (λ t. rw (q, t) (inl refl)) (λ t. rw (q, t) (commit_same _ _ _ _)))

  insert_same : (r : Record) (s : Option Stop) → SameBut7 (insert_by commit h g v r s) (insert_by commit_later h g v r s)
  insert_same r none = change_same _
  insert_same r (some corrupt) = inl refl
  insert_same r (some (found j)) = inl refl

  update_same : (r : Record) (s : Option Stop) → SameBut7 (update_by commit h g v r s) (update_by commit_later h g v r s)
  update_same r none = change_same _
  update_same r (some corrupt) = inl refl
  update_same r (some (found j)) = change_same _

  delete_same : (s : Option Stop) → SameBut7 (delete_by commit h g v s) (delete_by commit_later h g v s)
  delete_same none = inl refl
  delete_same (some corrupt) = inl refl
  delete_same (some (found j)) = change_same _

  answer_same : (c : Call) → SameBut7 (answer_by commit h g v c) (answer_by commit_later h g v c)
  answer_same (insert r) = insert_same r (search h g v r.key).stop
  answer_same (update r) = update_same r (search h g v r.key).stop
  answer_same (delete key) = delete_same (search h g v key).stop
  answer_same (lookup key) = inl refl

pub again_same : (h : Family) (v : Volume) (c : Call) → SameBut7 (call h v c) (call_again h v c)
unfolding call call_again judge_first
again_same h v c =
    either (bool? (bad_state v.state)) (λ q. rw q (inl refl))
    (λ q. either (bool? (too_short (geometry v.state.sizes) v.flash v.ram)) (λ t. rw (q, t) (inl refl))
    (λ t. rw (q, t) (answer_same h (geometry v.state.sizes) v c)))

-- a budget changes no outcome
pub taken_outcome : (b u : ℕ) (v : Volume) (ss : List Step) (r : Result) → (taken b u v ss r).outcome ≡ r.outcome
taken_outcome b u v ss r = by r.outcome
  where
    by : (o : Outcome) → (taken_by o b u v ss r).outcome ≡ o
    by accepted = refl
    by (hit place bytes) = refl
    by miss = refl
    by (refused i) = refl

pub call_outcome : (h : Family) (b : ℕ) (v : Volume) (c : Call) → (call_for h b v c).outcome ≡ (result_of h v c).outcome
unfolding call_for
call_outcome h b v c = taken_outcome b (unit_of v.state.sizes) v (call_steps (intended v c) (result_of h v c)) (result_of h v c)

pub format_outcome : (b : ℕ) (v : Volume) (sizes : Sizes) → (format_for b v sizes).outcome ≡ (format (on_pages v) sizes).outcome
unfolding format_for
format_outcome b v sizes =
    taken_outcome b (unit_of sizes) v (call_steps (format_intended v sizes) (format (on_pages v) sizes)) (format (on_pages v) sizes)

module _ (h : Family) (b : ℕ) (v : Volume) (long : 64 ≤ length v.ram) where
  pub restart_is : restart_for h b v ≡ resumed h b v (pending_in v.ram)
  restart_is = restart_resumes h b v (pending_in v.ram) long refl

  -- by the header's state, whatever state is handed in
  pub restart_as : (c : Call) → pending_in v.ram ≡ changing c
      → ((restart_for h b v).outcome ≡ (call h (pending_on v) c).outcome)
      ⊎ (((call h (pending_on v) c).outcome ≡ refused refusal.not_fresh) × ((restart_for h b v).outcome ≡ accepted))
  restart_as c q =
      let e : (restart_for h b v).outcome ≡ (call_again h (pending_on v) c).outcome
      = ap (λ (r : Result). r.outcome) (restart_is ∙ ap (resumed h b v) q)
      ∙ taken_outcome b (unit_of (state_in v.ram).sizes) v (last_steps (call_again h (pending_on v) c)) (call_again h (pending_on v) c) in
      either (again_same h (pending_on v) c) (λ s. inl (e ∙ s)) (λ s. inr (s.0, e ∙ s.1))

  pub restart_format : (sizes : Sizes) → pending_in v.ram ≡ formatting sizes
      → (restart_for h b v).outcome ≡ (format (pending_on v) sizes).outcome
  restart_format sizes q =
      ap (λ (r : Result). r.outcome) (restart_is ∙ ap (resumed h b v) q)
      ∙ taken_outcome b (unit_of sizes) v (last_steps (format (pending_on v) sizes)) (format (pending_on v) sizes)

  -- "an unknown kind by 1"
  pub unknown_kind : pending_in v.ram ≡ unknown → restart_for h b v ≡ refuse v refusal.bad_state
  unknown_kind q = restart_is ∙ ap (resumed h b v) q

  -- "with none, by 1 and 2", else the header's state comes back and nothing changes
  pub restart_none : pending_in v.ram ≡ nothing → restart_for h b v ≡ found_none h v
  restart_none q = restart_is ∙ ap (resumed h b v) q

-- "a desk under 64 bytes by 2 first"
pub short_ram : (h : Family) (b : ℕ) (v : Volume) → length v.ram < 64 → restart_for h b v ≡ refuse v refusal.too_short
unfolding restart_for
short_ram h b v l = cond_pos (ltb (length v.ram) 64) _ _ (lt-ltb (length v.ram) 64 l)

take_fresh : (spare : List ℕ) (b : ℕ) (os : List Op) → all_fresh spare os ≡ true → all_fresh spare (take b os) ≡ true
unfolding all_fresh
take_fresh spare zero os q = refl
take_fresh spare (suc b) [] q = refl
take_fresh spare (suc b) (program s bytes ∷ os) q =
    let p = (and-eq-true_iff (fresh (get_or spare s 0)) (all_fresh spare os)).0 q in
    rw p.0 (take_fresh spare b os p.1)
take_fresh spare (suc b) (erase k ∷ os) q = take_fresh spare b os q

none_fresh : (spare : List ℕ) → all_fresh spare [] ≡ true
unfolding all_fresh
none_fresh spare = refl

not_refused : (i : ℕ) → accepted ≡ refused i → ⊥
not_refused i e = let z : ◌≡◌ {A = ℕ} 0 1 = cc in omega arith

same_number : (j i : ℕ) → refused j ≡ refused i → j ≡ i
same_number j i e = cc

refuse_orderly : (v : Volume) (j : ℕ) → Orderly v (refuse v j)
refuse_orderly v j = record {
  refused_back = λ i e. ap (refuse v) (same_number j i e);
  ops_fresh = none_fresh v.flash.spare;
}

taken_orderly : (b u : ℕ) (v : Volume) (r : Result) → all_fresh v.flash.spare r.ops ≡ true → Orderly v (taken b u v (last_steps r) r)
taken_orderly b u v r f = by r.outcome
  where
    by : (o : Outcome) → Orderly v (taken_by o b u v (last_steps r) r)
    by accepted = record {
      refused_back = λ i e. absurd (not_refused i e);
      ops_fresh = rw (ops_cut u (finished r.volume) r.ops b) (take_fresh v.flash.spare b r.ops f);
    }
    by (hit place bytes) = record {
      refused_back = λ i e. absurd (let z : ◌≡◌ {A = ℕ} 0 1 = cc in omega arith);
      ops_fresh = none_fresh v.flash.spare;
    }
    by miss = record {
      refused_back = λ i e. absurd (let z : ◌≡◌ {A = ℕ} 0 1 = cc in omega arith);
      ops_fresh = none_fresh v.flash.spare;
    }
    by (refused j) = refuse_orderly v j

fresh_either : (v : Volume) (t : Bool) (r s : Result) → FreshOps v r → FreshOps v s → FreshOps v (cond t r s)
fresh_either v true r s p q = p
fresh_either v false r s p q = q

module _ (h : Family) (g : Geometry) (v : Volume) where
  nothing_fresh : all_fresh v.flash.spare [] ≡ true
  nothing_fresh = none_fresh v.flash.spare

  commit_fresh : (n d : ℕ) (plan : List Planned) (ram : List ℕ) → FreshOps v (commit_later g v n d plan ram)
  unfolding commit_later
  commit_fresh n d plan ram = later_ops_fresh g.u v.flash.spare plan v.flash

  change_fresh : (e : Edit) → FreshOps v (change_by commit_later h g v e)
  unfolding change_by
  change_fresh e =
      fresh_either v (one e.inserts && no_room g v) _ _ nothing_fresh
      (fresh_either v (one e.deletes && no_deletion g v) _ _ nothing_fresh (commit_fresh _ _ _ _))

  insert_fresh : (r : Record) (s : Option Stop) → FreshOps v (insert_by commit_later h g v r s)
  insert_fresh r none = change_fresh _
  insert_fresh r (some corrupt) = nothing_fresh
  insert_fresh r (some (found j)) = nothing_fresh

  update_fresh : (r : Record) (s : Option Stop) → FreshOps v (update_by commit_later h g v r s)
  update_fresh r none = change_fresh _
  update_fresh r (some corrupt) = nothing_fresh
  update_fresh r (some (found j)) = change_fresh _

  delete_fresh : (s : Option Stop) → FreshOps v (delete_by commit_later h g v s)
  delete_fresh none = nothing_fresh
  delete_fresh (some corrupt) = nothing_fresh
  delete_fresh (some (found j)) = change_fresh _

  lookup_fresh : (opened da_pages : ℕ) (s : Option Stop) → FreshOps v (lookup_after g v opened da_pages s)
  unfolding lookup_after
  lookup_fresh opened da_pages none = nothing_fresh
  lookup_fresh opened da_pages (some corrupt) = nothing_fresh
  lookup_fresh opened da_pages (some (found j)) = nothing_fresh

  answer_fresh : (c : Call) → FreshOps v (answer_by commit_later h g v c)
  answer_fresh (insert r) = insert_fresh r (search h g v r.key).stop
  answer_fresh (update r) = update_fresh r (search h g v r.key).stop
  answer_fresh (delete key) = delete_fresh (search h g v key).stop
  answer_fresh (lookup key) = lookup_fresh _ _ (search h g v key).stop

again_fresh : (h : Family) (v : Volume) (c : Call) → FreshOps v (call_again h v c)
unfolding call_again judge_first
again_fresh h v c =
    fresh_either v (bad_state v.state) _ _ (none_fresh v.flash.spare)
    (fresh_either v (too_short (geometry v.state.sizes) v.flash v.ram) _ _ (none_fresh v.flash.spare)
    (answer_fresh h (geometry v.state.sizes) v c))

format_fresh : (v : Volume) (sizes : Sizes) → FreshOps v (format v sizes)
unfolding format formatted
format_fresh v sizes =
    fresh_either v (allowed sizes) _ _
    (fresh_either v (too_short (geometry sizes) v.flash v.ram) _ _ (none_fresh v.flash.spare)
    (fresh_erases v.flash.spare 0 (blocks (geometry sizes)))) (none_fresh v.flash.spare)

module _ (h : Family) (b : ℕ) (v : Volume) where
  orderly_either : (t : Bool) (r s : Result) → Orderly v r → Orderly v s → Orderly v (cond t r s)
  orderly_either true r s p q = p
  orderly_either false r s p q = q

  resumed_orderly : (p : Pending) → Orderly v (resumed h b v p)
  resumed_orderly nothing =
      orderly_either (bad_state (state_in v.ram)) _ _ (refuse_orderly v 1)
      (orderly_either (too_short (geometry (state_in v.ram).sizes) v.flash (pages v.ram)) _ _ (refuse_orderly v 2)
      (record { refused_back = λ i e. absurd (not_refused i e); ops_fresh = none_fresh v.flash.spare }))
  resumed_orderly (changing c) =
      taken_orderly b (unit_of (state_in v.ram).sizes) v (call_again h (pending_on v) c) (again_fresh h (pending_on v) c)
  resumed_orderly (formatting sizes) = taken_orderly b (unit_of sizes) v (format (pending_on v) sizes) (format_fresh (pending_on v) sizes)
  resumed_orderly unknown = refuse_orderly v 1

  pub restart_orderly : Orderly v (restart_for h b v)
  unfolding restart_for
  restart_orderly = orderly_either (ltb (length v.ram) 64) _ _ (refuse_orderly v 2) (resumed_orderly (pending_in v.ram))
