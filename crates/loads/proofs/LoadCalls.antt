-- A load is the calls of its rows, up to the first that the store refuses and with it: it leaves what they leave, and tells how many of
-- them were accepted.
use Rattle.std.specs.Prelude.{◌≡◌, length}
use Rattle.std.proofs.Math.Path.{refl}
use Rattle.std.proofs.Common.{ap}
use Rattle.std.proofs.Math.Option.{Option, none, some}
use mathlib.Core.List.{List, [], ◌∷◌}
use Prim.Native.Nat.{ℕ, zero, suc}
use Rattle.layout.specs.Hash.{Family}
use Rattle.layout.specs.Keys.{KeyOk}
use Rattle.layout.specs.Calls.{Volume, Call, Outcome, accepted, hit, miss, refused, call}
use Rattle.history.specs.Runs.{KeyWord, KeyWords, after}
use Rattle.layout.specs.Several.{Several, go_on}
use Rattle.tab.specs.Grammar.{Row}
use Rattle.tab.specs.Reader.{GotLine, body, row, rows_in, rows_of, continue}
use Rattle.tab.proofs.Agree.{row_sound}
use Rattle.load.specs.Load.{row_key, end_of, row_call, load_rows_by, load_rows, load_lines, load}
use Rattle.load.specs.LoadLaws.{Judged}
use Rattle.load.proofs.LoadLaws.{row_key_lem}
use Rattle.loads.specs.LoadCalls.{accepts, counted, row_calls, lines_calls, tab_calls}

module _ (h : Family) where
  -- how many of the calls are accepted
  abbrev pub accepted_calls : Volume → List Call → ℕ
  accepted_calls v [] = 0
  accepted_calls v (c ∷ cs) = counted (call h v c).outcome (accepted_calls (call h v c).volume cs)

  -- ---- what a load leaves, and its number

  -- how a load of rows stands to its calls
  abbrev Same : Volume → Several → List Call → Type 0
  Same v s cs = (s.volume ≡ after h v cs) × (s.done ≡ accepted_calls v cs)

  row_same : (v : Volume) (c : Call) (o : Outcome) (rest : Several) (cs : List Call) → (call h v c).outcome ≡ o
      → Same (call h v c).volume rest cs → Same v (go_on o (call h v c).volume rest) (accepts o c cs)
  row_same v c accepted rest cs e S = (S.0, rw e (ap suc S.1))
  row_same v c (hit place bytes) rest cs e S = (S.0, rw e (ap suc S.1))
  row_same v c miss rest cs e S = (S.0, rw e (ap suc S.1))
  row_same v c (refused i) rest cs e S = (refl, rw e)

  rows_same : (v : Volume) (rs : List Row) (end : Outcome) → Same v (load_rows h v rs end) (row_calls h v rs)
  unfolding load_rows_by row_calls
  rows_same v [] end = (refl, refl)
  rows_same v (r ∷ rs) end =
      let c : Call = row_call h v r in
      row_same v c (call h v c).outcome (load_rows h (call h v c).volume rs end) (row_calls h (call h v c).volume rs) refl
      (rows_same (call h v c).volume rs end)

  lines_same : (v : Volume) (o : Option (List ℕ)) → Same v (load_lines h v o) (lines_calls h v o)
  lines_same v none = (refl, refl)
  lines_same v (some lines) = rows_same v (rows_of lines).rows (end_of (rows_of lines).rest)

  pub load_volume : (v : Volume) (text : List ℕ) → Judged v → (load h v text).volume ≡ after h v (tab_calls h v text)
  unfolding load
  load_volume v text J = rw (J.0, J.1) (lines_same v (body text)).0

  pub load_done : (v : Volume) (text : List ℕ) → Judged v → (load h v text).done ≡ accepted_calls v (tab_calls h v text)
  unfolding load
  load_done v text J = rw (J.0, J.1) (lines_same v (body text)).1

  -- ---- their keys are allowed

  abbrev pub RowWords : List Row → Type 0
  RowWords [] = Unit {0}
  RowWords (r ∷ rs) = KeyOk (row_key r) × RowWords rs

  pub row_word : (v : Volume) (r : Row) → KeyOk (row_key r) → KeyWord (row_call h v r)
  row_word v r w = rw (row_key_lem h v r) w

  accepts_words : (o : Outcome) (c : Call) (cs : List Call) → KeyWord c → KeyWords cs → KeyWords (accepts o c cs)
  accepts_words accepted c cs w ws = (w, ws)
  accepts_words (hit place bytes) c cs w ws = (w, ws)
  accepts_words miss c cs w ws = (w, ws)
  accepts_words (refused i) c cs w ws = (w, tt)

  calls_words : (v : Volume) (rs : List Row) → RowWords rs → KeyWords (row_calls h v rs)
  unfolding row_calls
  calls_words v [] w = tt
  calls_words v (r ∷ rs) w =
      let c : Call = row_call h v r in
      accepts_words (call h v c).outcome c _ (row_word v r w.0) (calls_words (call h v c).volume rs w.1)

  pub read_words : (k : ℕ) (text : List ℕ) → RowWords (rows_in k text).rows
  unfolding rows_in
  read_words zero text = tt
  read_words (suc k) text = go (row text) refl (λ next. read_words k next)
    where
      go : (o : Option GotLine) → row text ≡ o → ((next : List ℕ) → RowWords (rows_in k next).rows)
          → RowWords (continue text o (rows_in k)).rows
      go none e ih = tt
      go (some g) e ih = (record { level_lt = (row_sound text g e).says.first.decimal.below }, ih g.next)

  lines_words : (v : Volume) (o : Option (List ℕ)) → KeyWords (lines_calls h v o)
  lines_words v none = tt
  lines_words v (some lines) = calls_words v (rows_of lines).rows (read_words (length lines) lines)

  pub tab_words : (v : Volume) (text : List ℕ) → KeyWords (tab_calls h v text)
  tab_words v text = lines_words v (body text)
