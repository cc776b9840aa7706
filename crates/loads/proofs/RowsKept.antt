-- Of any volume, whatever its state and bytes: a row that is refused changes nothing, a load leaves what the rows before it left, and
-- bytes past the volume stay. Document 02, request 1: "that row changes nothing, earlier rows remain".
use Rattle.std.specs.Prelude.{◌≡◌, Bool, true, false, cond, ℕ, ◌+◌, length, take, eqb}
use Rattle.std.proofs.Math.Path.{refl}
use Rattle.std.proofs.Common.{sym, ap, subst, ◌∙◌}
use Rattle.std.proofs.Math.Option.{Option, none, some}
use mathlib.Core.List.{List, [], ◌∷◌}
use Rattle.layout.specs.Geometry.{geometry}
use Rattle.layout.specs.Hash.{Family}
use Rattle.layout.specs.Calls.{Volume, Call, Outcome, accepted, hit, miss, refused, Result, refuse, bad_state, too_short}
use Rattle.layout.specs.Header.{pages, on_pages, kind_in}
use Rattle.layout.specs.Budgets.{result_of}
use Rattle.layout.specs.Several.{Several}
use Rattle.cuts.specs.EveryCut.{CutBeyond}
use Rattle.cuts.proofs.EveryCut.{cut_refusal_keeps, cut_beyond}
use Rattle.cuts.proofs.EveryTurn.{sizes_stay, beyond_on, calls_beyond}
use Rattle.tab.specs.Grammar.{Row, Reading}
use Rattle.tab.specs.Reader.{body, rows_of}
use Rattle.load.specs.Load.{end_of, row_call, load_rows_by, load_lines_by, row_whole, load_whole}
use Rattle.load.specs.LoadLaws.{Idle}
use Rattle.load.proofs.LoadLaws.{load_whole_reading}

module _ (h : Family) where
  pub row_refused_keeps : (v : Volume) (r : Row) (i : ℕ) → (row_whole h v r).outcome ≡ refused i → row_whole h v r ≡ refuse v i
  row_refused_keeps v r i e = cut_refusal_keeps h _ v (row_call h (on_pages v) r) i e

  -- rows in turn
  abbrev pub rows_after : Volume → List Row → Volume
  rows_after v [] = v
  rows_after v (r ∷ rs) = rows_after (row_whole h v r).volume rs

  abbrev loaded : Volume → List Row → Outcome → Several
  loaded v rs end = load_rows_by (row_whole h) v rs end

  -- wherever the load ends, it has done a beginning of the rows, and nothing else
  pub rows_kept : (v : Volume) (rs : List Row) (end : Outcome) → (loaded v rs end).volume ≡ rows_after v (take (loaded v rs end).done rs)
  unfolding load_rows_by
  rows_kept v [] end = refl
  rows_kept v (r ∷ rs) end = go (rows_kept (row_whole h v r).volume rs end) (row_whole h v r).outcome refl
    where
      go : let w = (row_whole h v r).volume in (loaded w rs end).volume ≡ rows_after w (take (loaded w rs end).done rs)
          → (o : Outcome) → (row_whole h v r).outcome ≡ o
          → (loaded v (r ∷ rs) end).volume ≡ rows_after v (take (loaded v (r ∷ rs) end).done (r ∷ rs))
      go ih accepted e = rw e ih
      go ih (hit place bytes) e = rw e ih
      go ih miss e = rw e ih
      go ih (refused i) e = rw e (ap (λ (x : Result). x.volume) (row_refused_keeps v r i e))

  pub load_kept : (v : Volume) (text : List ℕ) (rows : List Row) (rest : List ℕ) → Idle v → Reading text rows rest
      → (load_whole h v text).volume ≡ rows_after v (take (load_whole h v text).done rows)
  load_kept v text rows rest I R =
      let p = load_whole_reading h v text rows rest I R in
      ap (λ (s : Several). s.volume) p ∙ rows_kept v rows (end_of rest)
      ∙ ap (λ (s : Several). rows_after v (take s.done rows)) (sym p)

  -- ---- "bytes past the volume and past the desk's 20S never change"

  rows_beyond : (v : Volume) (rs : List Row) → CutBeyond (geometry v.state.sizes) v (rows_after v rs)
  rows_beyond v [] = calls_beyond h v []
  rows_beyond v (r ∷ rs) =
      let c : Call = row_call h (on_pages v) r in
      let b : ℕ = length (result_of h v c).ops + 2 in
      let w : Volume = (row_whole h v r).volume in
      let rest : CutBeyond (geometry v.state.sizes) w (rows_after w rs) = rw (sizes_stay h v c b) at (rows_beyond w rs) in
      beyond_on (geometry v.state.sizes) v w (rows_after w rs) (cut_beyond h b v c) rest

  -- what a load leaves has those of v, and all lengths
  abbrev BeyondKept : Volume → Several → Type 0
  BeyondKept v s = CutBeyond (geometry v.state.sizes) v s.volume

  either_beyond : (v : Volume) (t : Bool) (s u : Several) → BeyondKept v s → BeyondKept v u → BeyondKept v (cond t s u)
  either_beyond v true s u p q = p
  either_beyond v false s u p q = q

  loaded_beyond : (v : Volume) (rs : List Row) (end : Outcome) → BeyondKept v (loaded v rs end)
  loaded_beyond v rs end =
      subst (CutBeyond (geometry v.state.sizes) v) (sym (rows_kept v rs end)) (rows_beyond v (take (loaded v rs end).done rs))

  lines_beyond : (v : Volume) (o : Option (List ℕ)) → BeyondKept v (load_lines_by (row_whole h) v o)
  lines_beyond v none = calls_beyond h v []
  lines_beyond v (some lines) = loaded_beyond v (rows_of lines).rows (end_of (rows_of lines).rest)

  -- so of main area, spare bytes, and RAM between the pages and the header
  pub load_beyond : (v : Volume) (text : List ℕ) → CutBeyond (geometry v.state.sizes) v (load_whole h v text).volume
  unfolding load_whole
  load_beyond v text =
      let same : CutBeyond (geometry v.state.sizes) v v = calls_beyond h v [] in
      either_beyond v (bad_state v.state) _ _ same
      (either_beyond v (too_short (geometry v.state.sizes) v.flash (pages v.ram)) _ _ same
      (either_beyond v (eqb (kind_in v.ram) 0) _ _ (lines_beyond v (body text)) same))
