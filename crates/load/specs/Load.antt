-- Loading a tab. Document 02, requests 1, 6 and 8.
use Rattle.std.specs.Prelude.{cond, List, [], ◌∷◌, ℕ, eqb}
use Rattle.std.proofs.Math.Option.{Option, none, some}
use Rattle.layout.specs.Geometry.{geometry}
use Rattle.layout.specs.Hash.{Family}
use Rattle.layout.specs.Keys.{Key}
use Rattle.layout.specs.Items.{Record, record_of}
use Rattle.layout.specs.Refusals as refusal
use Rattle.layout.specs.Calls.{Volume, Call, Outcome, accepted, refused, Result, bad_state, too_short, call}
use Rattle.layout.specs.Header.{pages, on_pages, kind_in}
use Rattle.layout.specs.Budgets.{call_whole}
use Rattle.layout.specs.Several.{Several, ended, go_on, put_call}
use Rattle.tab.specs.Grammar.{Row}
use Rattle.tab.specs.Reader.{Read, body, rows_of}

-- the key of the level that a row names
abbrev pub row_key : Row → Key
row_key r = r.level

-- "the free word is 0"
abbrev pub row_record : Row → Record
row_record r = record_of (row_key r) r.moves r.goal 0

-- how a load ends where no row is left to read: at the end of the tab, or at a line that is no row
abbrev pub end_of : List ℕ → Outcome
end_of [] = accepted
end_of (c ∷ cs) = refused refusal.malformed

-- rows in turn, each with its result
module _ (row : Volume → Row → Result) where
  -- "Loading ends at the first row that is malformed or refused by the store; .. earlier rows remain, and the answer gives their number
  -- and the refusal"
  unfoldable pub load_rows_by : Volume → List Row → Outcome → Several
  load_rows_by v [] end = ended end v
  load_rows_by v (r ∷ rs) end =
      let c : Result = row v r in
      go_on c.outcome c.volume (load_rows_by c.volume rs end)

  -- the rows read, and what is left after them
  abbrev pub load_read_by : Volume → Read → Several
  load_read_by v r = load_rows_by v r.rows (end_of r.rest)

  -- "header missing"
  abbrev pub load_lines_by : Volume → Option (List ℕ) → Several
  load_lines_by v none = ended (refused refusal.malformed) v
  load_lines_by v (some lines) = load_read_by v (rows_of lines)

module _ (h : Family) where
  -- "Each row is an insert, or an update if the level is live"
  abbrev pub row_call : Volume → Row → Call
  row_call v r = put_call h v (row_record r)

  -- ---- on document 01's volumes

  abbrev pub load_rows : Volume → List Row → Outcome → Several
  load_rows v rs end = load_rows_by (λ w r. call h w (row_call w r)) v rs end

  abbrev pub load_read : Volume → Read → Several
  load_read v r = load_read_by (λ w r. call h w (row_call w r)) v r

  abbrev pub load_lines : Volume → Option (List ℕ) → Several
  load_lines v o = load_lines_by (λ w r. call h w (row_call w r)) v o

  -- "found after 1 and 2 and before the store sees that row"; request 6: a tab of no bytes "loads with zero rows", by `body`
  unfoldable pub load : Volume → List ℕ → Several
  load v tab =
      cond (bad_state v.state) (ended (refused refusal.bad_state) v)
      (cond (too_short (geometry v.state.sizes) v.flash v.ram) (ended (refused refusal.too_short) v) (load_lines v (body tab)))

  -- ---- on volumes with a header, each row a call with enough steps: "Of a call made of several, as a load, each is cut and finished by itself"

  abbrev pub row_whole : Volume → Row → Result
  row_whole v r = call_whole h v (row_call (on_pages v) r)

  -- 1 and 2, then 10, then the header of the tab
  unfoldable pub load_whole : Volume → List ℕ → Several
  load_whole v tab =
      cond (bad_state v.state) (ended (refused refusal.bad_state) v)
      (cond (too_short (geometry v.state.sizes) v.flash (pages v.ram)) (ended (refused refusal.too_short) v)
      (cond (eqb (kind_in v.ram) 0) (load_lines_by row_whole v (body tab)) (ended (refused refusal.pending) v)))
