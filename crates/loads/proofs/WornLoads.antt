-- Worn marks change nothing of a load either: for lists of calls and loads after an accepted format. Document 02, §3.
use Rattle.std.specs.Prelude.{◌≡◌, true, false, ℕ, suc, length}
use Rattle.std.proofs.Math.Path.{refl, ap}
use Rattle.std.proofs.Common.{◌∙◌}
use Rattle.std.proofs.Math.Bool.{cond}
use Rattle.std.proofs.Math.Option.{Option, none, some}
use mathlib.Core.List.{List, [], ◌∷◌}
use Rattle.layout.specs.Geometry.{Sizes, Geometry, geometry, allowed, spare_size, unit_of}
use Rattle.layout.specs.Flash.{apply_all}
use Rattle.layout.specs.Hash.{Family}
use Rattle.layout.specs.Search.{Found}
use Rattle.layout.specs.Calls.{Volume, Call, insert, update, Outcome, accepted, hit, miss, refused, too_short, format, call}
use Rattle.layout.specs.Several.{Several, go_on, is_live, put_call}
use Rattle.layout.specs.FiniteMap.{Map, empty_map, map_of}
use Rattle.history.specs.Reached.{Reached}
use Rattle.history.proofs.Reached.{reach_call, reach_format}
use Rattle.history.specs.Runs.{after, ops_of}
use Rattle.history.specs.Worn.{Worn, with_spare, SpareKept, WornResult, SameRun}
use Rattle.history.proofs.WornCalls.{search_same, short_same}
use Rattle.history.proofs.WornRuns.{call_same, run_same}
use Rattle.tab.specs.Grammar.{Row}
use Rattle.tab.specs.Reader.{body, rows_of}
use Rattle.load.specs.Load.{row_key, row_record, end_of, row_call, load_rows_by, load_rows, load_lines, load}
use Rattle.load.specs.LoadLaws.{Judged}
use Rattle.loads.specs.LoadCalls.{accepts}
use Rattle.loads.specs.LoadCalls.{row_calls, lines_calls, tab_calls}
use Rattle.loads.proofs.LoadCalls.{load_volume, RowWords, row_word, read_words, tab_words}
use Rattle.loads.specs.LoadMap.{map_tab}
use Rattle.loads.proofs.LoadMap.{load_agrees, reached_judged}
use Rattle.loads.specs.Moves.{Move, one, tab, MoveWords}
use Rattle.loads.specs.WornLoads.{SameRows}

-- a load of a tab on the volume v and on the worn volume w
pub record SameLoad (h : Family) (sizes : Sizes) (v w : Volume) (text : List ℕ) : Type 0 where
  -- the same answer: the refusal and the number of rows
  pub outcome : (load h w text).outcome ≡ (load h v text).outcome
  pub done : (load h w text).done ≡ (load h v text).done
  -- the same main area, RAM and state
  pub volume_is : (load h w text).volume ≡ with_spare (load h w text).volume.flash.spare (load h v text).volume
  -- by the same calls and the same operations; the marks are those that they leave
  pub calls : tab_calls h w text ≡ tab_calls h v text
  pub ops : ops_of h w (tab_calls h w text) ≡ ops_of h v (tab_calls h v text)
  pub flash_is : apply_all (unit_of sizes) (ops_of h w (tab_calls h w text)) w.flash ≡ (load h w text).volume.flash
  pub spare_kept : SpareKept v (load h v text).volume w (load h w text).volume
  pub worn : Worn (spare_size (geometry sizes)) (load h v text).volume.flash.spare (load h w text).volume.flash.spare

-- each call and each load of a list from the volume v on: before each, the chip may show any wrong bits, at most three in a mark
abbrev pub MovesSame : Family → Sizes → Volume → List Move → Type 0
MovesSame h sizes v [] = Unit {0}
MovesSame h sizes v (one c ∷ ms) =
    ((spare : List ℕ) → Worn (spare_size (geometry sizes)) v.flash.spare spare
    → WornResult sizes v (with_spare spare v) (call h v c) (call h (with_spare spare v) c))
    × MovesSame h sizes (call h v c).volume ms
MovesSame h sizes v (tab text ∷ ms) =
    ((spare : List ℕ) → Worn (spare_size (geometry sizes)) v.flash.spare spare
    → SameLoad h sizes v (with_spare spare v) text)
    × MovesSame h sizes (load h v text).volume ms

-- one row, then the others
goes_same : (o : Outcome) (v w : Volume) (c : Call) (s t : Several) (cs ds : List Call) → SameRows s t cs ds
    → SameRows (go_on o v s) (go_on o w t) (accepts o c cs) (accepts o c ds)
goes_same accepted v w c s t cs ds G =
    record { outcome = G.outcome; done = ap suc G.done; calls = ap (λ (l : List Call). c ∷ l) G.calls }
goes_same (hit place bytes) v w c s t cs ds G =
    record { outcome = G.outcome; done = ap suc G.done; calls = ap (λ (l : List Call). c ∷ l) G.calls }
goes_same miss v w c s t cs ds G =
    record { outcome = G.outcome; done = ap suc G.done; calls = ap (λ (l : List Call). c ∷ l) G.calls }
goes_same (refused i) v w c s t cs ds G = record { outcome = refl; done = refl; calls = refl }

module _ (h : Family) (sizes : Sizes) where
  abbrev g : Geometry
  g = geometry sizes

  -- a row is the same call
  row_same : (v : Volume) (spare : List ℕ) (r : Row) → row_call h (with_spare spare v) r ≡ row_call h v r
  unfolding put_call
  row_same v spare r =
      ap (λ (f : Found). cond (is_live f.stop) (update (row_record r)) (insert (row_record r))) (search_same h v spare (row_key r))

  -- loads of rows on v and on w
  abbrev RowsSame : Volume → Volume → List Row → Outcome → Type 0
  RowsSame v w rs end = SameRows (load_rows h v rs end) (load_rows h w rs end) (row_calls h v rs) (row_calls h w rs)

  moved : (v w w' : Volume) (rs : List Row) (end : Outcome) → w ≡ w' → RowsSame v w' rs end → RowsSame v w rs end
  moved v w w' rs end p X = rw p X

  rows_same : (v : Volume) (m : Map) (spare : List ℕ) (rs : List Row) (end : Outcome) → Reached h sizes v m → RowWords h rs
      → Worn (spare_size g) v.flash.spare spare → RowsSame v (with_spare spare v) rs end
  unfolding load_rows_by row_calls
  rows_same v m spare [] end X k W = record { outcome = refl; done = refl; calls = refl }
  rows_same v m spare (r ∷ rs) end X k W =
      let c : Call = row_call h v r in
      let w : Volume = with_spare spare v in
      let F = call_same h sizes v m c spare X (row_word h v r k.0) W in
      rw (row_same v spare r, F.same.outcome)
      (goes_same (call h v c).outcome (call h v c).volume (call h w c).volume c (load_rows h (call h v c).volume rs end)
      (load_rows h (call h w c).volume rs end) (row_calls h (call h v c).volume rs) (row_calls h (call h w c).volume rs)
      (moved (call h v c).volume (call h w c).volume _ rs end F.same.volume_is
      (rows_same (call h v c).volume (map_of g m c).next (call h w c).volume.flash.spare rs end
      (reach_call h sizes v m c X (row_word h v r k.0)) k.1 F.worn)))

  lines_same : (v : Volume) (m : Map) (spare : List ℕ) (o : Option (List ℕ)) → Reached h sizes v m
      → Worn (spare_size g) v.flash.spare spare
      → SameRows (load_lines h v o) (load_lines h (with_spare spare v) o) (lines_calls h v o) (lines_calls h (with_spare spare v) o)
  lines_same v m spare none X W = record { outcome = refl; done = refl; calls = refl }
  lines_same v m spare (some lines) X W =
      rows_same v m spare (rows_of lines).rows (end_of (rows_of lines).rest) X (read_words h (length lines) lines) W

  -- a load is the run of its calls
  module _ (v w : Volume) (text : List ℕ) (J : Judged v) (K : Judged w)
      (E : SameRows (load h v text) (load h w text) (tab_calls h v text) (tab_calls h w text))
      (R : SameRun h sizes v w (tab_calls h v text)) where
    v_is : (load h v text).volume ≡ after h v (tab_calls h v text)
    v_is = load_volume h v text J

    w_is : (load h w text).volume ≡ after h w (tab_calls h v text)
    w_is = load_volume h w text K ∙ ap (after h w) E.calls

    run_load : SameLoad h sizes v w text
    run_load = record {
      outcome = E.outcome;
      done = E.done;
      volume_is = rw (v_is, w_is) R.volume_is;
      calls = E.calls;
      ops = rw E.calls R.ops;
      flash_is = rw (w_is, E.calls) R.flash_is;
      spare_kept = rw (v_is, w_is) R.spare_kept;
      worn = rw (v_is, w_is) R.worn;
    }

  ends_same : (v : Volume) (m : Map) (text spare : List ℕ) → Reached h sizes v m → Worn (spare_size g) v.flash.spare spare → Judged v
      → SameRows (load h v text) (load h (with_spare spare v) text) (tab_calls h v text) (tab_calls h (with_spare spare v) text)
  unfolding load
  ends_same v m text spare X W J =
      rw (short_same (geometry v.state.sizes) v spare W.long, J.0, J.1) (lines_same v m spare (body text) X W)

  -- a load of a volume that calls reach
  pub load_same : (v : Volume) (m : Map) (text spare : List ℕ) → Reached h sizes v m → Worn (spare_size g) v.flash.spare spare
      → SameLoad h sizes v (with_spare spare v) text
  load_same v m text spare X W =
      let J = reached_judged h sizes v m X in
      run_load v (with_spare spare v) text J (J.0, short_same (geometry v.state.sizes) v spare W.long ∙ J.1)
      (ends_same v m text spare X W J) (run_same h sizes v m spare (tab_calls h v text) X (tab_words h v text) W)

  moves_same : (v : Volume) (m : Map) (ms : List Move) → Reached h sizes v m → MoveWords ms → MovesSame h sizes v ms
  moves_same v m [] X k = tt
  moves_same v m (one c ∷ ms) X k = (
    λ spare W. call_same h sizes v m c spare X k.0 W,
    moves_same (call h v c).volume (map_of g m c).next ms (reach_call h sizes v m c X k.0) k.1,
  )
  moves_same v m (tab text ∷ ms) X k = (
    λ spare W. load_same v m text spare X W,
    moves_same (load h v text).volume (map_tab g m text).map ms (load_agrees h sizes v m text X).reached k,
  )

  -- every call and every load after the format
  pub worn_moves : (v : Volume) (ms : List Move) → allowed sizes ≡ true → too_short g v.flash v.ram ≡ false → MoveWords ms
      → MovesSame h sizes (format v sizes).volume ms
  worn_moves v ms can long k = moves_same (format v sizes).volume empty_map ms (reach_format h sizes v can long) k
