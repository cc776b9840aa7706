-- Of every call with any budget on any volume: the count's bound, the sizes stay, and bytes past the volume are kept by calls in turn, as a
-- load's rows are, whatever their bytes.
use Rattle.std.specs.Prelude.{◌≡◌, Bool, true, false, cond, ◌&&◌, List, [], ◌∷◌, ℕ, ◌+◌, ◌/◌, ◌≤◌, length, eqb, leb}
use Rattle.std.proofs.Math.Path.{refl}
use Rattle.std.proofs.Common.{◌∙◌, zero-le, arith}
use Rattle.std.proofs.Math.Option.{Option, none, some}
use Rattle.memory.specs.Cases.{either, bool?}
use Rattle.layout.specs.Geometry.{Geometry, geometry, entries_per_page, State, Sizes, unit_of}
use Rattle.layout.specs.Flash.{Planned, plan_ops, all_fresh}
use Rattle.layout.specs.Hash.{Family}
use Rattle.layout.specs.Search.{Stop, found, corrupt}
use Rattle.layout.specs.Calls.{Volume, Call, insert, update, delete, lookup, Outcome, accepted, hit, miss, refused, Result, refuse}
use Rattle.layout.specs.Calls.{bad_state, too_short, judge_first, search, one, no_room, no_deletion, Commit, commit, Edit, change_by, insert_by}
use Rattle.layout.specs.Calls.{update_by, delete_by, answer_by, lookup_after, search_da_pages, call}
use Rattle.layout.specs.Later.{commit_later, call_again}
use Rattle.layout.specs.Header.{pages, on_pages, intended, kind_in}
use Rattle.layout.specs.Budgets.{Step, call_steps, taken_by, taken, result_of, call_for, call_whole}
use Rattle.history.proofs.Every.{count_most}
use Rattle.cuts.proofs.Whole as whole
use Rattle.cuts.specs.Uncut.{whole_after}
use Rattle.cuts.specs.EveryCut.{CutBeyond}
use Rattle.cuts.proofs.EveryCut.{cut_beyond}
use Rattle.cuts.specs.EveryTurn.{SizesStay}

-- ---- "It is at most floor(n / (S/2))"

taken_most : (m b u : ℕ) (v : Volume) (ss : List Step) (r : Result) (o : Outcome) → r.count ≤ m → (taken_by o b u v ss r).count ≤ m
taken_most m b u v ss r accepted p = zero-le
taken_most m b u v ss r (hit place bytes) p = p
taken_most m b u v ss r miss p = p
taken_most m b u v ss r (refused i) p = zero-le

refused_most : (m : ℕ) (v : Volume) (i : ℕ) (r : Result) → r ≡ refuse v i → r.count ≤ m
refused_most m v i r e = rw e zero-le

module _ (h : Family) (b : ℕ) (v : Volume) (c : Call) where
  abbrev m : ℕ
  m = v.state.records / entries_per_page (unit_of v.state.sizes)

  idle_most : eqb (kind_in v.ram) 0 ≡ true → (call_for h b v c).count ≤ m
  unfolding call_for call
  idle_most k =
      let e : result_of h v c ≡ call h (on_pages v) c = rw k in
      taken_most m b (unit_of v.state.sizes) v (call_steps (intended v c) (result_of h v c)) (result_of h v c) (result_of h v c).outcome
      (rw e (count_most h (on_pages v) c))

  pub cut_count_most : (call_for h b v c).count ≤ v.state.records / entries_per_page (unit_of v.state.sizes)
  cut_count_most =
      either (bool? (bad_state v.state))
      (λ p. refused_most m v 1 (call_for h b v c) (whole.one h b v c p))
      (λ p. either (bool? (too_short (geometry v.state.sizes) v.flash (pages v.ram)))
      (λ q. refused_most m v 2 (call_for h b v c) (whole.two h b v c p q))
      (λ q. either (bool? (eqb (kind_in v.ram) 0)) idle_most
      (λ k. refused_most m v 10 (call_for h b v c) (whole.ten h b v c p q k))))

stay_either : (v : Volume) (t : Bool) (r s : Result) → SizesStay v r → SizesStay v s → SizesStay v (cond t r s)
stay_either v true r s a b = a
stay_either v false r s a b = b

-- by either end of a change
module _ (end : Commit)
    (end_stay : (g : Geometry) (v : Volume) (n d : ℕ) (plan : List Planned) (ram : List ℕ) → SizesStay v (end g v n d plan ram))
    (h : Family) (g : Geometry) (v : Volume) where
  change_stay : (e : Edit) → SizesStay v (change_by end h g v e)
  unfolding change_by
  change_stay e =
      stay_either v (one e.inserts && no_room g v) _ _ refl
      (stay_either v (one e.deletes && no_deletion g v) _ _ refl (end_stay g v _ _ _ _))

  answer_stay : (c : Call) → SizesStay v (answer_by end h g v c)
  unfolding lookup_after
  answer_stay (insert r) = by (search h g v r.key).stop
    where
      by : (s : Option Stop) → SizesStay v (insert_by end h g v r s)
      by none = change_stay _
      by (some corrupt) = refl
      by (some (found j)) = refl
  answer_stay (update r) = by (search h g v r.key).stop
    where
      by : (s : Option Stop) → SizesStay v (update_by end h g v r s)
      by none = change_stay _
      by (some corrupt) = refl
      by (some (found j)) = change_stay _
  answer_stay (delete key) = by (search h g v key).stop
    where
      by : (s : Option Stop) → SizesStay v (delete_by end h g v s)
      by none = refl
      by (some corrupt) = refl
      by (some (found j)) = change_stay _
  answer_stay (lookup key) = by (search h g v key).stop
    where
      by : (s : Option Stop) → SizesStay v (lookup_after g v (search h g v key).opened (search_da_pages h g v key) s)
      by none = refl
      by (some corrupt) = refl
      by (some (found j)) = refl

commit_stay : (g : Geometry) (v : Volume) (n d : ℕ) (plan : List Planned) (ram : List ℕ) → SizesStay v (commit g v n d plan ram)
unfolding commit
commit_stay g v n d plan ram = stay_either v (all_fresh v.flash.spare (plan_ops g.u plan v.flash)) _ _ refl refl

later_stay : (g : Geometry) (v : Volume) (n d : ℕ) (plan : List Planned) (ram : List ℕ) → SizesStay v (commit_later g v n d plan ram)
unfolding commit_later
later_stay g v n d plan ram = refl

-- a call gone on with by a restart
pub again_stay : (h : Family) (v : Volume) (c : Call) → (call_again h v c).volume.state.sizes ≡ v.state.sizes
unfolding call_again judge_first
again_stay h v c =
    stay_either v (bad_state v.state) _ _ refl
    (stay_either v (too_short (geometry v.state.sizes) v.flash v.ram) _ _ refl
    (answer_stay commit_later later_stay h (geometry v.state.sizes) v c))

-- a budget leaves the state handed in or the new one
pub taken_stay : (b u : ℕ) (v : Volume) (ss : List Step) (r : Result) (z : Sizes) → r.volume.state.sizes ≡ z → v.state.sizes ≡ z
    → (taken b u v ss r).volume.state.sizes ≡ z
taken_stay b u v ss r z p q = by r.outcome
  where
    state_either : (t : Bool) (s s' : State) → s.sizes ≡ z → s'.sizes ≡ z → (cond t s s').sizes ≡ z
    state_either true s s' p q = p
    state_either false s s' p q = q

    by : (o : Outcome) → (taken_by o b u v ss r).volume.state.sizes ≡ z
    by accepted = state_either (leb (length ss) b) r.volume.state v.state p q
    by (hit place bytes) = q
    by miss = q
    by (refused i) = q

module _ (h : Family) (v : Volume) (c : Call) where
  pub result_stay : (result_of h v c).volume.state.sizes ≡ v.state.sizes
  unfolding judge_first
  result_stay =
      stay_either v (bad_state v.state) _ _ refl
      (stay_either v (too_short (geometry v.state.sizes) v.flash (pages v.ram)) _ _ refl
      (stay_either v (eqb (kind_in v.ram) 0) _ _ (answer_stay commit commit_stay h (geometry v.state.sizes) (on_pages v) c) refl))

  pub sizes_stay : (b : ℕ) → (call_for h b v c).volume.state.sizes ≡ v.state.sizes
  unfolding call_for
  sizes_stay b = taken_stay b (unit_of v.state.sizes) v (call_steps (intended v c) (result_of h v c)) (result_of h v c) _ result_stay refl

-- ---- calls in turn

pub beyond_on : (g : Geometry) (v w x : Volume) → CutBeyond g v w → CutBeyond g w x → CutBeyond g v x
beyond_on g v w x A B = record {
  main = λ a l. B.main a l ∙ A.main a l;
  spare = λ a l. B.spare a l ∙ A.spare a l;
  main_length = B.main_length ∙ A.main_length;
  spare_length = B.spare_length ∙ A.spare_length;
  ram = record {
    same = λ a l n. B.ram.same a l (omega (arith, n, A.ram.long)) ∙ A.ram.same a l n;
    long = B.ram.long ∙ A.ram.long;
  };
}

pub calls_beyond : (h : Family) (v : Volume) (cs : List Call) → CutBeyond (geometry v.state.sizes) v (whole_after h v cs)
calls_beyond h v [] = record {
  main = λ a l. refl;
  spare = λ a l. refl;
  main_length = refl;
  spare_length = refl;
  ram = record { same = λ a l n. refl; long = refl };
}
calls_beyond h v (c ∷ cs) =
    let w : Volume = (call_whole h v c).volume in
    let rest : CutBeyond (geometry v.state.sizes) w (whole_after h w cs)
    = rw (sizes_stay h v c (length (result_of h v c).ops + 2)) at (calls_beyond h w cs) in
    beyond_on (geometry v.state.sizes) v w (whole_after h w cs) (cut_beyond h (length (result_of h v c).ops + 2) v c) rest
