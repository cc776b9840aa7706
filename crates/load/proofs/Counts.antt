-- A row that is accepted adds one record, within the volume's capacities, and no call is pending after it.
use mathlib.Core.Path.{◌≡◌, refl, ap, ◌∙◌}
use mathlib.Core.Bool.{Bool, true, false, cond, true≢false}
use mathlib.Core.Option.{Option, none, some}
use mathlib.Core.List.{List}
use Prim.Native.Nat.{ℕ, suc, ◌+◌, ◌≤◌, ◌<◌}
use native.Mathlib.Omega.{arith}
use lib.ListN.{length, take}
use lib.Dec.{eqb}
use borrow.Author.Tests.{le-leb, leb-false, lt-ltb}
use Rattle.layout.specs.Geometry.{Geometry, geometry, State, record_capacity, deletion_capacity}
use Rattle.layout.specs.Hash.{Family}
use Rattle.layout.specs.Items.{Record}
use Rattle.layout.specs.Refusals as refusal
use Rattle.layout.specs.Search.{Stop, found, corrupt}
use Rattle.layout.specs.Flash.{Planned, plan_ops, all_fresh}
use Rattle.layout.specs.Calls.{Volume, Outcome, accepted, hit, miss, refused, Result, refuse, bad_state, too_short, judge_first, search}
use Rattle.layout.specs.Calls.{no_room, no_deletion, commit, change_by, change, update, update_after}
use Rattle.layout.specs.Header.{on_pages, kind_in, finished}
use Rattle.layout.specs.Budgets.{Memory, memory, steps, last_steps, call_steps, taken_by, result_of, call_for}
use Rattle.laws.specs.StepLaws.{last_cut, last_length}
use Rattle.tab.specs.Grammar.{Row}
use Rattle.load.specs.Load.{row_record, row_call, row_whole}
use Rattle.load.proofs.LoadLaws.{row_result}

-- the state with one record more and at most one deletion more, for which there was room
pub record Added (g : Geometry) (s t : State) : Type 0 where
  pub by_one : t.records ≡ s.records + 1
  pub sizes_are : t.sizes ≡ s.sizes
  pub n_room : s.records < record_capacity g
  pub d_most : t.deletions ≤ s.deletions + 1
  pub d_room : s.deletions ≤ deletion_capacity g → t.deletions ≤ deletion_capacity g

module _ (g : Geometry) (v : Volume) where
  pub record Counts (r : Result) : Type 0 where
    pub added : r.outcome ≡ accepted → Added g v.state r.volume.state

  counts_refuse : (i : ℕ) → Counts (refuse v i)
  counts_refuse i = record { added = λ e. absurd (let z : true ≡ false = cc in true≢false z) }

  counts_cond : (t : Bool) (a b : Result) → Counts a → (t ≡ false → Counts b) → Counts (cond t a b)
  counts_cond true a b p q = p
  counts_cond false a b p q = q refl

  counts_commit : (n d : ℕ) (plan : List Planned) (ram : List ℕ)
      → Added g v.state (record { sizes = v.state.sizes; records = n; deletions = d }) → Counts (commit g v n d plan ram)
  unfolding commit
  counts_commit n d plan ram e =
      by (all_fresh v.flash.spare (plan_ops g.u plan v.flash)) _ _ (record { added = λ z. e }) (counts_refuse refusal.not_fresh)
    where
      by : (t : Bool) (a b : Result) → Counts a → Counts b → Counts (cond t a b)
      by true a b p q = p
      by false a b p q = q

  module _ (h : Family) (r : Record) where
    -- whatever it deletes
    counts_change : (j : Option ℕ) → Counts (change h g v (record { deletes = j; inserts = some r }))
    unfolding change_by
    counts_change none =
        counts_cond (no_room g v) _ _ (counts_refuse refusal.full)
        (λ p. counts_commit _ _ _ _ (record {
          by_one = refl;
          sizes_are = refl;
          n_room = leb-false (record_capacity g) v.state.records p;
          d_most = omega arith;
          d_room = λ l. l;
        }))
    counts_change (some j) =
        counts_cond (no_room g v) _ _ (counts_refuse refusal.full)
        (λ p. counts_cond (no_deletion g v) _ _ (counts_refuse refusal.deletions_full)
        (λ q. counts_commit _ _ _ _ (record {
          by_one = refl;
          sizes_are = refl;
          n_room = leb-false (record_capacity g) v.state.records p;
          d_most = omega arith;
          d_room = λ l. let below = leb-false (deletion_capacity g) v.state.deletions q in omega (arith, below);
        })))

    counts_update : (o : Option Stop) → Counts (update_after h g v r o)
    counts_update none = counts_change none
    counts_update (some corrupt) = counts_refuse refusal.corrupt_entry
    counts_update (some (found j)) = counts_change (some j)

  counts_judge : (x : Result) → Counts x → Counts (judge_first v x)
  unfolding judge_first
  counts_judge x p =
      counts_cond (bad_state v.state) _ _ (counts_refuse refusal.bad_state)
      (λ a. counts_cond (too_short (geometry v.state.sizes) v.flash v.ram) _ _ (counts_refuse refusal.too_short) (λ b. p))

module _ (h : Family) (v : Volume) where
  abbrev g : Geometry
  g = geometry v.state.sizes

  result_counts : (r : Record) → Counts g (on_pages v) (result_of h v (update r))
  result_counts r =
      counts_judge g (on_pages v) _
      (by (eqb (kind_in v.ram) 0) _ _
      (counts_update g (on_pages v) h r (search h g (on_pages v) r.key).stop) (counts_refuse g (on_pages v) refusal.pending))
    where
      by : (t : Bool) (a b : Result) → Counts g (on_pages v) a → Counts g (on_pages v) b → Counts g (on_pages v) (cond t a b)
      by true a b p q = p
      by false a b p q = q

  -- with all of its steps: the state, and the RAM with a header that has no intent
  pub record Whole (r : Result) : Type 0 where
    pub added : r.outcome ≡ accepted → Added g v.state r.volume.state
    pub stored : r.outcome ≡ accepted → (w : Volume) × (r.volume.ram ≡ finished w)

  whole_taken : (o : Outcome) (b u : ℕ) (intent : List ℕ) (r : Result) → r.outcome ≡ o → length r.ops < b → Counts g (on_pages v) r
      → Whole (taken_by o (suc b) u v (call_steps intent r) r)
  whole_taken accepted b u intent r e l p =
      let n = last_length r in
      let last : (steps u (take b (last_steps r)) (memory v.flash intent)).ram ≡ finished r.volume
      = ap (λ (m : Memory). m.ram) (last_cut u b r.ops (finished r.volume) intent v.flash) ∙ rw (lt-ltb (length r.ops) b l) in
      record {
        added = λ z. rw (le-leb (length (call_steps intent r)) (suc b) (omega (arith, n, l))) (p.added e);
        stored = λ z. (r.volume, last);
      }
  whole_taken (hit place bytes) b u intent r e l p = record {
    added = λ q. absurd (let z : true ≡ false = cc in true≢false z);
    stored = λ q. absurd (let z : true ≡ false = cc in true≢false z);
  }
  whole_taken miss b u intent r e l p = record {
    added = λ q. absurd (let z : true ≡ false = cc in true≢false z);
    stored = λ q. absurd (let z : true ≡ false = cc in true≢false z);
  }
  whole_taken (refused i) b u intent r e l p = record {
    added = λ q. absurd (let z : true ≡ false = cc in true≢false z);
    stored = λ q. absurd (let z : true ≡ false = cc in true≢false z);
  }

  -- a row's call
  pub row_counts : (r : Row) → Whole (row_whole h v r)
  unfolding call_for
  row_counts r =
      let x : Result = result_of h v (row_call h (on_pages v) r) in
      let two : length x.ops + 2 ≡ suc (length x.ops + 1) = omega arith in
      rw two (whole_taken x.outcome (length x.ops + 1) _ _ x refl (omega arith) (rw (row_result h v r) (result_counts (row_record r))))
