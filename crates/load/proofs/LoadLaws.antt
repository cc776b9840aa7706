-- A load loads the rows of the grammar's reading of its tab.
use Rattle.std.specs.Prelude.{◌≡◌, Bool, true, false, cond, ◌≢◌, length, eqb}
use Rattle.std.proofs.Math.Path.{refl, ap}
use Rattle.std.proofs.Common.{sym, ◌∙◌, true≢false}
use Rattle.std.proofs.Math.Option.{Option, none, some}
use mathlib.Core.List.{List, [], ◌∷◌}
use Prim.Native.Nat.{ℕ, suc}
use borrow.Author.Tests.{eq-eqb, ne_eqb}
use Rattle.layout.specs.Geometry.{Geometry, geometry}
use Rattle.layout.specs.Hash.{Family}
use Rattle.layout.specs.Search.{Stop, found, corrupt}
use Rattle.layout.specs.Calls.{Volume, insert, update, Outcome, accepted, hit, miss, refused, Result, refuse, judge_first}
use Rattle.layout.specs.Calls.{key_of, search, insert_after, update_after, answer, call}
use Rattle.layout.specs.Header.{on_pages, kind_in}
use Rattle.layout.specs.Budgets.{result_of}
use Rattle.layout.specs.Refusals as refusal
use Rattle.layout.specs.Several.{Several, ended, go_on, is_live, put_call}
use Rattle.tab.specs.Grammar.{lf, cr, Row, Reading}
use Rattle.tab.specs.Reader.{body}
use Rattle.tab.proofs.Agree.{reading_is, reading_only, reading_empty, line_end_unread, return_line_end_unread}
use Rattle.load.specs.Load.{row_key, row_record, end_of, row_call, load_rows_by, load_lines_by, load_rows, load_lines, load, row_whole}
use Rattle.load.specs.Load.{load_whole}
use Rattle.load.specs.LoadLaws.{Judged, Idle}

module _ (h : Family) where
  -- a row does what an update of its level does: an update of a key that is not live inserts it
  module _ (v : Volume) (r : Row) where
    abbrev shape : Geometry
    shape = geometry v.state.sizes

    abbrev met : Option Stop
    met = (search h shape v (row_key r)).stop

    put : (t : Bool) → answer h shape v (cond t (update (row_record r)) (insert (row_record r)))
        ≡ cond t (update_after h shape v (row_record r) met) (insert_after h shape v (row_record r) met)
    put true = refl
    put false = refl

    alike : (o : Option Stop) → cond (is_live o) (update_after h shape v (row_record r) o) (insert_after h shape v (row_record r) o)
        ≡ update_after h shape v (row_record r) o
    alike none = refl
    alike (some corrupt) = refl
    alike (some (found j)) = refl

    -- the key of its call, whichever it is
    put_key : (t : Bool) → key_of (cond t (update (row_record r)) (insert (row_record r))) ≡ row_key r
    put_key true = refl
    put_key false = refl

    pub row_key_lem : key_of (row_call h v r) ≡ row_key r
    unfolding put_call
    row_key_lem = put_key (is_live met)

    row_answer : answer h shape v (row_call h v r) ≡ answer h shape v (update (row_record r))
    unfolding put_call
    row_answer = put (is_live met) ∙ alike met

  pub row_update : (v : Volume) (r : Row) → call h v (row_call h v r) ≡ call h v (update (row_record r))
  unfolding call
  row_update v r = ap (judge_first v) (row_answer v r)

  -- and on a volume with a header, whatever its budget; its intent alone is an insert's or an update's
  pub row_result : (v : Volume) (r : Row) → result_of h v (row_call h (on_pages v) r) ≡ result_of h v (update (row_record r))
  row_result v r =
      ap (λ (x : Result). judge_first (on_pages v) (cond (eqb (kind_in v.ram) 0) x (refuse (on_pages v) refusal.pending)))
      (row_answer (on_pages v) r)

  -- "The rows loaded are to be exactly those a reading by the RFC's grammar, so widened, gives up to that end"
  pub load_reading : (v : Volume) (text : List ℕ) (rows : List Row) (rest : List ℕ) → Judged v → Reading text rows rest
      → load h v text ≡ load_rows h v rows (end_of rest)
  unfolding load
  load_reading v text rows rest J R =
      let O = reading_only text rows rest R in
      rw (J.0, J.1, O.body_is, O.rows_are)

  -- and without one the header is missing
  pub load_unread : (v : Volume) (text : List ℕ) → Judged v → ((rows : List Row) (rest : List ℕ) → Reading text rows rest → ⊥)
      → load h v text ≡ ended (refused refusal.malformed) v
  unfolding load
  load_unread v text J unread = rw (J.0, J.1) (go (body text) refl)
    where
      go : (o : Option (List ℕ)) → body text ≡ o → load_lines h v o ≡ ended (refused refusal.malformed) v
      go none e = refl
      go (some lines) e = absurd (unread _ _ (reading_is text lines e))

  -- request 6: "a file of no bytes .. now loads with zero rows and leaves the volume alone"
  pub load_empty : (v : Volume) → Judged v → load h v [] ≡ ended accepted v
  unfolding load_rows_by
  load_empty v J = load_reading v [] [] [] J reading_empty

  -- "A file with only a line end still draws 9"
  pub load_line_end : (v : Volume) → Judged v → load h v (lf ∷ []) ≡ ended (refused refusal.malformed) v
  load_line_end v J = load_unread v (lf ∷ []) J line_end_unread

  pub load_return_line_end : (v : Volume) → Judged v → load h v (cr ∷ lf ∷ []) ≡ ended (refused refusal.malformed) v
  load_return_line_end v J = load_unread v (cr ∷ lf ∷ []) J return_line_end_unread

  -- ---- an accepted load has read the whole tab, and loaded each row

  on_whole : (o : Outcome) (v : Volume) (s : Several) → (go_on o v s).outcome ≡ accepted
      → (s.outcome ≡ accepted) × ((go_on o v s).done ≡ suc s.done)
  on_whole accepted v s e = (e, refl)
  on_whole (hit place bytes) v s e = (e, refl)
  on_whole miss v s e = (e, refl)
  on_whole (refused i) v s e = absurd (let z : true ≡ false = cc in true≢false z)

  rows_whole : (v : Volume) (rs : List Row) (end : Outcome) → (load_rows h v rs end).outcome ≡ accepted
      → (end ≡ accepted) × ((load_rows h v rs end).done ≡ length rs)
  unfolding load_rows_by
  rows_whole v [] end e = (e, refl)
  rows_whole v (r ∷ rs) end e =
      let w : Volume = (call h v (row_call h v r)).volume in
      let O = on_whole (call h v (row_call h v r)).outcome w (load_rows h w rs end) e in
      let I = rows_whole w rs end O.0 in
      (I.0, O.1 ∙ ap suc I.1)

  end_whole : (rest : List ℕ) → end_of rest ≡ accepted → rest ≡ []
  end_whole [] e = refl
  end_whole (c ∷ cs) e = absurd (let z : true ≡ false = cc in true≢false z)

  pub load_whole_lem : (v : Volume) (text : List ℕ) (rows : List Row) (rest : List ℕ) → Judged v → Reading text rows rest
      → (load h v text).outcome ≡ accepted → (rest ≡ []) × ((load h v text).done ≡ length rows)
  load_whole_lem v text rows rest J R e =
      let p = load_reading v text rows rest J R in
      let I = rows_whole v rows (end_of rest) (sym (ap (λ (s : Several). s.outcome) p) ∙ e) in
      (end_whole rest I.0, ap (λ (s : Several). s.done) p ∙ I.1)

  -- ---- on volumes with a header

  pub load_whole_reading : (v : Volume) (text : List ℕ) (rows : List Row) (rest : List ℕ) → Idle v → Reading text rows rest
      → load_whole h v text ≡ load_rows_by (row_whole h) v rows (end_of rest)
  unfolding load_whole
  load_whole_reading v text rows rest I R =
      let O = reading_only text rows rest R in
      rw (I.0.0, I.0.1, eq-eqb (kind_in v.ram) 0 I.1, O.body_is, O.rows_are)

  pub load_whole_unread : (v : Volume) (text : List ℕ) → Idle v → ((rows : List Row) (rest : List ℕ) → Reading text rows rest → ⊥)
      → load_whole h v text ≡ ended (refused refusal.malformed) v
  unfolding load_whole
  load_whole_unread v text I unread = rw (I.0.0, I.0.1, eq-eqb (kind_in v.ram) 0 I.1) (go (body text) refl)
    where
      go : (o : Option (List ℕ)) → body text ≡ o → load_lines_by (row_whole h) v o ≡ ended (refused refusal.malformed) v
      go none e = refl
      go (some lines) e = absurd (unread _ _ (reading_is text lines e))

  pub load_whole_empty : (v : Volume) → Idle v → load_whole h v [] ≡ ended accepted v
  unfolding load_rows_by
  load_whole_empty v I = load_whole_reading v [] [] [] I reading_empty

  -- request 8: "10, a call other than format and restart while the kind is not 0", whatever the tab is
  pub load_whole_pending : (v : Volume) (text : List ℕ) → Judged (on_pages v) → kind_in v.ram ≢ 0
      → load_whole h v text ≡ ended (refused refusal.pending) v
  unfolding load_whole
  load_whole_pending v text J n = rw (J.0, J.1, ne_eqb (kind_in v.ram) 0 n)
