-- Calls that are not cut, on a volume with a header of its state and no intent: they are document 01's calls, whatever the bytes. So all
-- theorems about lists of calls are theorems about these too, and 10 is never met.
use Rattle.std.specs.Prelude.{◌≡◌, Bool, true, false, cond, ◌&&◌, List, [], ◌∷◌, ◌++◌, ℕ, suc, ◌+◌, ◌-◌, ◌≤◌, length, eqb}
use Rattle.std.proofs.Math.Path.{refl, ap}
use Rattle.std.proofs.Common.{sym, ◌∙◌, arith}
use Rattle.std.proofs.Math.Option.{Option, none, some}
use Rattle.memory.specs.Booleans.{cond_pos}
use Rattle.memory.specs.Cases.{either, bool?}
use Rattle.layout.specs.Geometry.{Geometry, geometry, Sizes, unit_of}
use Rattle.layout.specs.Flash.{Op, Planned, plan_ops, all_fresh}
use Rattle.layout.specs.Hash.{Family}
use Rattle.layout.specs.Items.{Record}
use Rattle.layout.specs.Search.{Stop, found, corrupt}
use Rattle.layout.specs.Refusals as refusal
use Rattle.layout.specs.Calls.{Volume, Call, insert, update, delete, lookup, Outcome, accepted, hit, miss, refused, Result, refuse}
use Rattle.layout.specs.Calls.{bad_state}
use Rattle.layout.specs.Calls.{too_short, judge_first, format, one, no_room, no_deletion, Edit, commit, change_by, change}
use Rattle.layout.specs.Calls.{insert_after, update_after, delete_after, lookup_after, search, answer, call}
use Rattle.history.specs.Runs.{after, ops_of, HandedOn, Agrees}
use Rattle.history.proofs.WornCalls.{format_done}
use Rattle.layout.specs.FiniteMap.{Step}
use Rattle.layout.specs.Header.{on_pages, no_intent, header_bytes, kind_in, intended, finished}
use Rattle.layout.specs.Budgets.{steps_of, step_count, call_steps, taken_by, taken, result_of, call_for, call_whole, format_whole}
use Rattle.cuts.specs.Events.{lift, Finished}
use Rattle.cuts.proofs.Headers.{pages_stored, idle_kind}
use Rattle.cuts.proofs.Whole.{call_enough, format_whole_is}
use Rattle.cuts.specs.Uncut.{Shown, lift_result, whole_after, whole_ops}

shown_either : (v : Volume) (t : Bool) (r s : Result) → Shown r.outcome v r → Shown s.outcome v s
    → Shown (cond t r s).outcome v (cond t r s)
shown_either v true r s p q = p
shown_either v false r s p q = q

shown_as : (v : Volume) (r : Result) (o o' : Outcome) → o ≡ o' → Shown o v r → Shown o' v r
shown_as v r o o' e s = rw e at s

module _ (h : Family) (v : Volume) where
  abbrev g : Geometry
  g = geometry v.state.sizes

  commit_shown : (n d : ℕ) (plan : List Planned) (ram : List ℕ) → Shown (commit g v n d plan ram).outcome v (commit g v n d plan ram)
  unfolding commit
  commit_shown n d plan ram =
      either (bool? (all_fresh v.flash.spare (plan_ops g.u plan v.flash))) (λ q. rw q (refl, refl, refl)) (λ q. rw q refl)

  change_shown : (e : Edit) → Shown (change h g v e).outcome v (change h g v e)
  unfolding change_by
  change_shown e =
      shown_either v (one e.inserts && no_room g v) _ _ refl
      (shown_either v (one e.deletes && no_deletion g v) _ _ refl (commit_shown _ _ _ _))

  insert_shown : (r : Record) (s : Option Stop) → Shown (insert_after h g v r s).outcome v (insert_after h g v r s)
  insert_shown r none = change_shown _
  insert_shown r (some corrupt) = refl
  insert_shown r (some (found j)) = refl

  update_shown : (r : Record) (s : Option Stop) → Shown (update_after h g v r s).outcome v (update_after h g v r s)
  update_shown r none = change_shown _
  update_shown r (some corrupt) = refl
  update_shown r (some (found j)) = change_shown _

  delete_shown : (s : Option Stop) → Shown (delete_after h g v s).outcome v (delete_after h g v s)
  delete_shown none = refl
  delete_shown (some corrupt) = refl
  delete_shown (some (found j)) = change_shown _

  lookup_shown : (opened da_pages : ℕ) (s : Option Stop)
      → Shown (lookup_after g v opened da_pages s).outcome v (lookup_after g v opened da_pages s)
  unfolding lookup_after
  lookup_shown opened da_pages none = (refl, refl)
  lookup_shown opened da_pages (some corrupt) = refl
  lookup_shown opened da_pages (some (found j)) = (refl, refl)

  answer_shown : (c : Call) → Shown (answer h g v c).outcome v (answer h g v c)
  answer_shown (insert r) = insert_shown r (search h g v r.key).stop
  answer_shown (update r) = update_shown r (search h g v r.key).stop
  answer_shown (delete key) = delete_shown (search h g v key).stop
  answer_shown (lookup key) = lookup_shown _ _ (search h g v key).stop

  call_shown : (c : Call) → Shown (call h v c).outcome v (call h v c)
  unfolding call judge_first
  call_shown c =
      shown_either v (bad_state v.state) _ _ refl (shown_either v (too_short g v.flash v.ram) _ _ refl (answer_shown c))

-- ---- one call

-- a call sees the pages
pub lifted_is : (h : Family) (w : Volume) (c : Call) → result_of h (lift w) c ≡ call h w c
unfolding call
lifted_is h w c =
    let idle : eqb (kind_in (w.ram ++ header_bytes w.state no_intent)) 0 ≡ true = rw (idle_kind w.ram w.state) in
    ap (judge_first (on_pages (lift w)))
    (cond_pos (eqb (kind_in (w.ram ++ header_bytes w.state no_intent)) 0)
    (answer h (geometry w.state.sizes) (on_pages (lift w)) c) (refuse (on_pages (lift w)) refusal.pending) idle)
    ∙ ap (λ (p : List ℕ). judge_first (record { state = w.state; flash = w.flash; ram = p })
    (answer h (geometry w.state.sizes) (record { state = w.state; flash = w.flash; ram = p }) c))
    (pages_stored w.ram w.state no_intent refl)

module _ (h : Family) (w : Volume) (c : Call) where
  abbrev r : Result
  r = call h w c

  quiet_lifted : (b u : ℕ) (o : Outcome) → r.outcome ≡ o → (o ≡ accepted → ⊥) → Shown o w r
      → taken_by o b u (lift w) (call_steps (intended (lift w) c) r) r ≡ lift_result r
  quiet_lifted b u accepted e other s = absurd (other refl)
  quiet_lifted b u (hit place bytes) e other s = rw (e, s.0, s.1)
  quiet_lifted b u miss e other s = rw (e, s.0, s.1)
  quiet_lifted b u (refused i) e other s = rw s

  not_accepted : (i : ℕ) → refused i ≡ accepted → ⊥
  not_accepted i e = let z : ◌≡◌ {A = ℕ} 0 1 = cc in omega arith

  abbrev u : ℕ
  u = unit_of w.state.sizes

  call_taken : (b : ℕ) → call_for h b (lift w) c ≡ taken b u (lift w) (call_steps (intended (lift w) c) r) r
  unfolding call_for
  call_taken b = ap (λ (x : Result). taken b u (lift w) (call_steps (intended (lift w) c) x) x) (lifted_is h w c)

  accepted_lifted : (b : ℕ) → length r.ops + 2 ≤ b → (acc : r.outcome ≡ accepted) → Shown accepted w r
      → call_for h b (lift w) c ≡ lift_result r
  accepted_lifted b l acc s =
      let k : b ≡ suc (b - 1) = omega (arith, l) in
      call_taken b
      ∙ ap (λ (n : ℕ). taken n u (lift w) (call_steps (intended (lift w) c) r) r) k
      ∙ call_enough u (lift w) r acc (intended (lift w) c) (b - 1) (omega (arith, l))
      ∙ rw (acc, s.0, s.1, s.2)

  quiet_is : (b : ℕ) (o : Outcome) → r.outcome ≡ o → (o ≡ accepted → ⊥) → call_for h b (lift w) c ≡ lift_result r
  quiet_is b o e other =
      call_taken b
      ∙ ap (λ (x : Outcome). taken_by x b u (lift w) (call_steps (intended (lift w) c) r) r) e
      ∙ quiet_lifted b u o e other (shown_as w r (call h w c).outcome _ e (call_shown h w c))

  by_outcome : (b : ℕ) (o : Outcome) → r.outcome ≡ o → steps_of o r ≤ b → call_for h b (lift w) c ≡ lift_result r
  by_outcome b accepted e l = accepted_lifted b l e (shown_as w r (call h w c).outcome _ e (call_shown h w c))
  by_outcome b (hit place bytes) e l = quiet_is b (hit place bytes) e (λ q. let z : ◌≡◌ {A = ℕ} 0 1 = cc in omega arith)
  by_outcome b miss e l = quiet_is b miss e (λ q. let z : ◌≡◌ {A = ℕ} 0 1 = cc in omega arith)
  by_outcome b (refused i) e l = quiet_is b (refused i) e (not_accepted i)

  -- with enough it is document 01's call: outcome, counts, state, chip, pages and operations
  pub enough_lifted : (b : ℕ) → step_count r ≤ b → call_for h b (lift w) c ≡ lift_result (call h w c)
  enough_lifted b l = by_outcome b (call h w c).outcome refl l

  count_most : (o : Outcome) → steps_of o r ≤ length r.ops + 2
  count_most accepted = omega arith
  count_most (hit place bytes) = omega arith
  count_most miss = omega arith
  count_most (refused i) = omega arith

  pub whole_lifted : call_whole h (lift w) c ≡ lift_result (call h w c)
  whole_lifted =
      ap (λ (x : Result). call_for h (length x.ops + 2) (lift w) c) (lifted_is h w c)
      ∙ enough_lifted (length r.ops + 2) (count_most (call h w c).outcome)

-- without its header it is the volume of document 01
pub pages_lifted : (w : Volume) → on_pages (lift w) ≡ w
pages_lifted w =
    ap (λ (p : List ℕ). record { state = w.state; flash = w.flash; ram = p }) (pages_stored w.ram w.state no_intent refl)

pub finished_lifted : (w : Volume) → Finished (lift w)
finished_lifted w = ap finished (sym (pages_lifted w))

-- a caller sees of it what agrees with the map
handed_lifted : (o : Outcome) (v w : Volume) → HandedOn o v w → HandedOn o (lift v) (lift w)
handed_lifted accepted v w e = tt
handed_lifted (hit place bytes) v w e = ap lift e
handed_lifted miss v w e = ap lift e
handed_lifted (refused i) v w e = ap lift e

pub agrees_lifted : (sizes : Sizes) (v : Volume) (o : Outcome) (n : ℕ) (w : Volume) (s : Step)
    → Agrees sizes v o n w s → Agrees sizes (lift v) o n (lift w) s
agrees_lifted sizes v o n w s A = record {
  says = A.says;
  state_is_lem = A.state_is_lem;
  live = A.live;
  once = A.once;
  possible = A.possible;
  handed_on = handed_lifted o v w A.handed_on;
  count_le = A.count_le;
}

-- ---- a format

pub format_lifted_ops : (v : Volume) (sizes : Sizes) → (format (on_pages v) sizes).outcome ≡ accepted
    → (format_whole v sizes).ops ≡ (format (on_pages v) sizes).ops
format_lifted_ops v sizes acc = ap (λ (r : Result). r.ops) (format_whole_is v sizes acc)

pub format_lifted_outcome : (v : Volume) (sizes : Sizes) → (format (on_pages v) sizes).outcome ≡ accepted
    → (format_whole v sizes).outcome ≡ accepted
format_lifted_outcome v sizes acc = ap (λ (r : Result). r.outcome) (format_whole_is v sizes acc)

pub format_lifted : (v : Volume) (sizes : Sizes) → (format (on_pages v) sizes).outcome ≡ accepted
    → (format_whole v sizes).volume ≡ lift (format (on_pages v) sizes).volume
format_lifted v sizes acc =
    ap (λ (r : Result). r.volume) (format_whole_is v sizes acc) ∙ rw (format_done (on_pages v) sizes)

pub ops_lifted : (h : Family) (w : Volume) (cs : List Call) → whole_ops h (lift w) cs ≡ ops_of h w cs
ops_lifted h w [] = refl
ops_lifted h w (c ∷ cs) =
    ap (λ (r : Result). r.ops ++ whole_ops h r.volume cs) (whole_lifted h w c)
    ∙ ap (λ (l : List Op). (call h w c).ops ++ l) (ops_lifted h (call h w c).volume cs)

pub after_lifted : (h : Family) (w : Volume) (cs : List Call) → whole_after h (lift w) cs ≡ lift (after h w cs)
after_lifted h w [] = refl
after_lifted h w (c ∷ cs) =
    ap (λ (r : Result). whole_after h r.volume cs) (whole_lifted h w c) ∙ after_lifted h (call h w c).volume cs
