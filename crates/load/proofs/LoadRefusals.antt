-- Which refusals a load may give, whatever volume it is handed: neither 3 nor 4, since a row does what an update does.
use Rattle.std.specs.Prelude.{◌≡◌, Bool, true, false, ◌&&◌, ◌||◌, cond, ℕ, eqb}
use Rattle.std.proofs.Math.Path.{refl}
use Rattle.std.proofs.Math.Option.{Option, none, some}
use mathlib.Core.List.{List, [], ◌∷◌}
use Rattle.memory.specs.Ranges.{memb}
use Rattle.layout.specs.Geometry.{Geometry, geometry, unit_of}
use Rattle.layout.specs.Flash.{all_fresh}
use Rattle.layout.specs.Hash.{Family}
use Rattle.layout.specs.Items.{Record}
use Rattle.layout.specs.Refusals as refusal
use Rattle.layout.specs.Search.{Stop, found, corrupt}
use Rattle.layout.specs.Calls.{Volume, Call, Outcome, accepted, hit, miss, refused, Result, bad_state, too_short, judge_first, search, call}
use Rattle.layout.specs.Calls.{Edit, one, no_room, no_deletion, commit, change_by, change, update_after}
use Rattle.layout.specs.Header.{pages, on_pages, kind_in, intended}
use Rattle.layout.specs.Budgets.{Step, call_steps, taken_by, result_of, call_for}
use Rattle.layout.specs.Several.{Several, go_on}
use Rattle.tab.specs.Grammar.{Row}
use Rattle.tab.specs.Reader.{body, rows_of}
use Rattle.load.proofs.LoadLaws.{row_update, row_result}
use Rattle.load.specs.Load.{row_key, row_record, end_of, row_call, load_rows_by, load_lines_by, load, row_whole, load_whole}
use Rattle.load.specs.LoadRefusals.{load_refusals, load_whole_refusals, OutcomeIn, LoadOutcome, LoadWholeOutcome}

-- what holds without a header
or_pending : (o : Outcome) → LoadOutcome o → LoadWholeOutcome o
unfolding memb
or_pending accepted p = tt
or_pending (hit place bytes) p = tt
or_pending miss p = tt
or_pending (refused i) p = by (eqb refusal.pending i) (memb i load_refusals) p
  where
    by : (a b : Bool) → b ≡ true → (a || b) ≡ true
    by true b e = refl
    by false b e = e

-- a budget leaves the outcome
taken_outcome : (is : List ℕ) (o : Outcome) (b u : ℕ) (v : Volume) (ss : List Step) (r : Result) → OutcomeIn is o
    → OutcomeIn is (taken_by o b u v ss r).outcome
taken_outcome is accepted b u v ss r p = tt
taken_outcome is (hit place bytes) b u v ss r p = tt
taken_outcome is miss b u v ss r p = tt
taken_outcome is (refused i) b u v ss r p = p

-- ---- rows in turn, each with its result

module _ (is : List ℕ) where
  either_way : (t : Bool) (r s : Result) → OutcomeIn is r.outcome → OutcomeIn is s.outcome → OutcomeIn is (cond t r s).outcome
  either_way true r s a b = a
  either_way false r s a b = b

  several_way : (t : Bool) (r s : Several) → OutcomeIn is r.outcome → OutcomeIn is s.outcome → OutcomeIn is (cond t r s).outcome
  several_way true r s a b = a
  several_way false r s a b = b

  on_outcome : (o : Outcome) (v : Volume) (s : Several) → OutcomeIn is o → OutcomeIn is s.outcome → OutcomeIn is (go_on o v s).outcome
  on_outcome accepted v s a b = b
  on_outcome (hit place bytes) v s a b = b
  on_outcome miss v s a b = b
  on_outcome (refused i) v s a b = a

  module _ (malformed : memb refusal.malformed is ≡ true) where
    end_outcome : (rest : List ℕ) → OutcomeIn is (end_of rest)
    end_outcome [] = tt
    end_outcome (c ∷ cs) = malformed

    module _ (row : Volume → Row → Result) (row_in : (v : Volume) (r : Row) → OutcomeIn is (row v r).outcome) where
      rows_outcome : (v : Volume) (rs : List Row) (end : Outcome) → OutcomeIn is end → OutcomeIn is (load_rows_by row v rs end).outcome
      unfolding load_rows_by
      rows_outcome v [] end p = p
      rows_outcome v (r ∷ rs) end p =
          let c : Result = row v r in
          on_outcome c.outcome c.volume (load_rows_by row c.volume rs end) (row_in v r) (rows_outcome c.volume rs end p)

      lines_outcome : (v : Volume) (o : Option (List ℕ)) → OutcomeIn is (load_lines_by row v o).outcome
      lines_outcome v none = malformed
      lines_outcome v (some lines) =
          rows_outcome v (rows_of lines).rows (end_of (rows_of lines).rest) (end_outcome (rows_of lines).rest)

module _ (h : Family) where
  change_outcome : (g : Geometry) (v : Volume) (e : Edit) → LoadOutcome (change h g v e).outcome
  unfolding change_by commit memb
  change_outcome g v e =
      either_way load_refusals (one e.inserts && no_room g v) _ _ refl
      (either_way load_refusals (one e.deletes && no_deletion g v) _ _ refl
      (either_way load_refusals (all_fresh _ _) _ _ tt refl))

  update_outcome : (g : Geometry) (v : Volume) (r : Record) (s : Option Stop) → LoadOutcome (update_after h g v r s).outcome
  unfolding memb
  update_outcome g v r none = change_outcome g v _
  update_outcome g v r (some corrupt) = refl
  update_outcome g v r (some (found j)) = change_outcome g v _

  -- ---- on document 01's volumes

  pub row_outcome : (v : Volume) (r : Row) → LoadOutcome (call h v (row_call h v r)).outcome
  unfolding call judge_first memb
  row_outcome v r =
      let g : Geometry = geometry v.state.sizes in
      rw (row_update h v r)
      (either_way load_refusals (bad_state v.state) _ _ refl
      (either_way load_refusals (too_short g v.flash v.ram) _ _ refl
      (update_outcome g v (row_record r) (search h g v (row_key r)).stop)))

  pub load_outcome : (v : Volume) (text : List ℕ) → LoadOutcome (load h v text).outcome
  unfolding load memb
  load_outcome v text =
      several_way load_refusals (bad_state v.state) _ _ refl
      (several_way load_refusals (too_short (geometry v.state.sizes) v.flash v.ram) _ _ refl
      (lines_outcome load_refusals refl (λ w r. call h w (row_call h w r)) row_outcome v (body text)))

  -- ---- on volumes with a header: 10 too

  result_outcome : (v : Volume) (r : Row) → LoadWholeOutcome (result_of h v (row_call h (on_pages v) r)).outcome
  unfolding judge_first memb
  result_outcome v r =
      let g : Geometry = geometry v.state.sizes in
      rw (row_result h v r)
      (either_way load_whole_refusals (bad_state v.state) _ _ refl
      (either_way load_whole_refusals (too_short g v.flash (pages v.ram)) _ _ refl
      (either_way load_whole_refusals (eqb (kind_in v.ram) 0) _ _
      (or_pending (update_after h g (on_pages v) (row_record r) (search h g (on_pages v) (row_key r)).stop).outcome
      (update_outcome g (on_pages v) (row_record r) (search h g (on_pages v) (row_key r)).stop)) refl)))

  pub row_whole_outcome : (v : Volume) (r : Row) → LoadWholeOutcome (row_whole h v r).outcome
  unfolding call_for
  row_whole_outcome v r =
      let c : Call = row_call h (on_pages v) r in
      let x : Result = result_of h v c in
      taken_outcome load_whole_refusals x.outcome _ (unit_of v.state.sizes) v (call_steps (intended v c) x) x (result_outcome v r)

  pub load_whole_outcome : (v : Volume) (text : List ℕ) → LoadWholeOutcome (load_whole h v text).outcome
  unfolding load_whole memb
  load_whole_outcome v text =
      several_way load_whole_refusals (bad_state v.state) _ _ refl
      (several_way load_whole_refusals (too_short (geometry v.state.sizes) v.flash (pages v.ram)) _ _ refl
      (several_way load_whole_refusals (eqb (kind_in v.ram) 0) _ _
      (lines_outcome load_whole_refusals refl (row_whole h) row_whole_outcome v (body text)) refl))
