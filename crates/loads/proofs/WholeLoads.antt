-- Loads on volumes with a header: a load that is not cut is document 01's, so demands 2 and 3 hold of lists of calls and loads with enough
-- steps; and a load that is cut in a row is finished by a restart, also in lists of calls and loads. Document 02, requests 1 and 8.
use Rattle.std.specs.Prelude.{◌≡◌, Bool, false, cond, length}
use Rattle.std.proofs.Math.Path.{refl, ap}
use Rattle.std.proofs.Common.{sym, subst, ◌∙◌, arith}
use Rattle.std.proofs.Math.Bool.{true}
use Rattle.std.proofs.Math.Option.{Option, none, some}
use mathlib.Core.List.{List, [], ◌∷◌, ◌++◌}
use Prim.Native.Nat.{ℕ, zero, suc, ◌^◌, ◌≤◌, ◌<◌}
use Rattle.std.proofs.Math.Dec.{eqb}
use Rattle.memory.specs.Cases.{either, bool?}
use Rattle.layout.specs.Geometry.{Sizes, Geometry, geometry, allowed, spare_size, unit_of}
use Rattle.layout.specs.Flash.{apply_all}
use Rattle.layout.specs.Hash.{Family}
use Rattle.layout.specs.Keys.{KeyOk}
use Rattle.layout.specs.Calls.{Volume, Call, Outcome, accepted, hit, miss, refused, Result, bad_state, too_short, search}
use Rattle.layout.specs.Calls.{format, call}
use Rattle.layout.specs.FiniteMap.{Map, empty_map, map_of}
use Rattle.layout.specs.Header.{pages, on_pages, no_intent, kind_in}
use Rattle.layout.specs.Budgets.{call_whole, format_whole, restarts, restart_whole}
use Rattle.layout.specs.Several.{Several, go_on, is_live, put_call}
use Rattle.history.proofs.Every.{can_accepted}
use Rattle.history.specs.Live.{empty_history}
use Rattle.history.specs.Reached.{Reached}
use Rattle.history.specs.Worn.{Worn, with_spare}
use Rattle.history.specs.Runs.{after, ops_of, ProgramOrder, ResultAgrees, history_of, ImageOf, reply_of}
use Rattle.cuts.specs.Events.{lift, Finished, Numbers, Format, format_end, format_ops}
use Rattle.cuts.proofs.Headers.{pages_stored, idle_kind}
use Rattle.cuts.specs.Uncut.{whole_ops}
use Rattle.cuts.proofs.Uncut.{pages_lifted, finished_lifted, agrees_lifted, whole_lifted, format_lifted, format_lifted_ops}
use Rattle.cuts.specs.Uncut.{whole_after}
use Rattle.cuts.proofs.Uncut.{ops_lifted, after_lifted}
use Rattle.cuts.specs.Several.{CallNumbers, Turn, TurnNumbers}
use Rattle.cuts.specs.Several.{several_for, begun, all_steps}
use Rattle.cuts.proofs.Several.{all_begun, several_whole, several_end}
use Rattle.cuts.specs.Several.{whole_turn, cut_turn}
use Rattle.cuts.specs.Several.{turns_after, turns_ops, turns_begun}
use Rattle.cuts.proofs.Several.{turns_end, turns_flash, turns_in_order}
use Rattle.tab.specs.Grammar.{Row}
use Rattle.tab.specs.Reader.{GotLine, body, row, rows_in, rows_of, continue}
use Rattle.tab.proofs.Agree.{row_sound}
use Rattle.load.specs.Load.{row_key, end_of, row_call, load_rows_by, load_rows, load_lines_by, load_lines, load, row_whole, load_whole}
use Rattle.loads.specs.LoadCalls.{accepts}
use Rattle.loads.specs.LoadCalls.{row_calls, lines_calls, tab_calls}
use Rattle.loads.specs.LoadMap.{MapLoaded, map_tab}
use Rattle.loads.proofs.LoadMap.{LoadAgrees}
use Rattle.loads.specs.Moves.{Move, one, tab, MoveWords}
use Rattle.loads.specs.Moves.{after_moves, calls_of}
use Rattle.loads.proofs.Moves.{MovesAgree, calls_leave, demand_3_answers}
use Rattle.loads.proofs.Moves.{load_is, demand_3_loads, demand_2_loads}
use Rattle.loads.proofs.WornLoads.{load_same}
use Rattle.loads.specs.WholeLoads.{lift_several, CutMove, whole_call, whole_load, cut_call, cut_load, idle_move, CutNumbers, LoadWorn}

on_lifted : (o : Outcome) (v : Volume) (s : Several) → go_on o (lift v) (lift_several s) ≡ lift_several (go_on o v s)
on_lifted accepted v s = refl
on_lifted (hit place bytes) v s = refl
on_lifted miss v s = refl
on_lifted (refused i) v s = refl

module _ (h : Family) where
  row_lifted : (w : Volume) (r : Row) → call_whole h (lift w) (row_call h (on_pages (lift w)) r) ≡ call_whole h (lift w) (row_call h w r)
  row_lifted w r = ap (λ (x : Volume). call_whole h (lift w) (row_call h x r)) (pages_lifted w)

  rows_lifted : (w : Volume) (rs : List Row) (end : Outcome)
      → load_rows_by (row_whole h) (lift w) rs end ≡ lift_several (load_rows h w rs end)
  unfolding load_rows_by
  rows_lifted w [] end = refl
  rows_lifted w (r ∷ rs) end =
      let c : Call = row_call h w r in
      let v : Volume = (call h w (row_call h w r)).volume in
      ap (λ (x : Result). go_on x.outcome x.volume (load_rows_by (row_whole h) x.volume rs end))
      (row_lifted w r ∙ whole_lifted h w (row_call h w r))
      ∙ ap (go_on (call h w c).outcome (lift v)) (rows_lifted v rs end)
      ∙ on_lifted (call h w c).outcome v (load_rows h v rs end)

  lines_lifted : (w : Volume) (o : Option (List ℕ)) → load_lines_by (row_whole h) (lift w) o ≡ lift_several (load_lines h w o)
  lines_lifted w none = refl
  lines_lifted w (some lines) = rows_lifted w (rows_of lines).rows (end_of (rows_of lines).rest)

  either_lifted : (t : Bool) (s u s' u' : Several) → s' ≡ lift_several s → u' ≡ lift_several u → cond t s' u' ≡ lift_several (cond t s u)
  either_lifted true s u s' u' p q = p
  either_lifted false s u s' u' p q = q

  pub load_lifted : (w : Volume) (text : List ℕ) → load_whole h (lift w) text ≡ lift_several (load h w text)
  unfolding load_whole load
  load_lifted w text =
      let idle : eqb (kind_in (lift w).ram) 0 ≡ true = rw (idle_kind w.ram w.state) in
      rw (pages_stored w.ram w.state no_intent refl, idle)
      (either_lifted (bad_state w.state) _ _ _ _ refl
      (either_lifted (too_short (geometry w.state.sizes) w.flash w.ram) _ _ _ _ refl (lines_lifted w (body text))))

  -- ---- lists of calls and loads, each with enough

  abbrev pub after_whole : Volume → List Move → Volume
  after_whole v [] = v
  after_whole v (one c ∷ ms) = after_whole (call_whole h v c).volume ms
  after_whole v (tab text ∷ ms) = after_whole (load_whole h v text).volume ms

  pub moves_lifted : (w : Volume) (ms : List Move) → after_whole (lift w) ms ≡ lift (after_moves h w ms)
  moves_lifted w [] = refl
  moves_lifted w (one c ∷ ms) =
      ap (λ (r : Result). after_whole r.volume ms) (whole_lifted h w c) ∙ moves_lifted (call h w c).volume ms
  moves_lifted w (tab text ∷ ms) =
      ap (λ (s : Several). after_whole s.volume ms) (load_lifted w text) ∙ moves_lifted (load h w text).volume ms

  module _ (sizes : Sizes) where
    abbrev g : Geometry
    g = geometry sizes

    -- a load and the map's: the pages have the map's levels, and the header has the state and no intent
    pub record WholeAgrees (s : Several) (t : MapLoaded) : Type 0 where
      pub says : reply_of s.outcome ≡ t.says
      pub done : s.done ≡ t.done
      pub reached : Reached h sizes (on_pages s.volume) t.map
      pub finished : Finished s.volume

    -- each call and each load answers as the map does
    abbrev pub WholeMovesAgree : Volume → Map → List Move → Type 0
    WholeMovesAgree v m [] = Unit {0}
    WholeMovesAgree v m (one c ∷ ms) =
        ResultAgrees sizes v (call_whole h v c) (map_of g m c) × WholeMovesAgree (call_whole h v c).volume (map_of g m c).next ms
    WholeMovesAgree v m (tab text ∷ ms) =
        WholeAgrees (load_whole h v text) (map_tab g m text) × WholeMovesAgree (load_whole h v text).volume (map_tab g m text).map ms

    pub loaded_lifted : (s : Several) (t : MapLoaded) → LoadAgrees h sizes s t → WholeAgrees (lift_several s) t
    loaded_lifted s t A = record {
      says = A.says;
      done = A.done;
      reached = rw (pages_lifted s.volume) A.reached;
      finished = finished_lifted s.volume;
    }

    agree_lifted : (w : Volume) (m : Map) (ms : List Move) → MovesAgree h sizes w m ms → WholeMovesAgree (lift w) m ms
    agree_lifted w m [] A = tt
    agree_lifted w m (one c ∷ ms) A =
        rw (whole_lifted h w c) (
          agrees_lifted sizes w (call h w c).outcome (call h w c).count (call h w c).volume (map_of g m c) A.0,
          agree_lifted (call h w c).volume (map_of g m c).next ms A.1,
        )
    agree_lifted w m (tab text ∷ ms) A =
        rw (load_lifted w text)
        (loaded_lifted (load h w text) (map_tab g m text) A.0, agree_lifted (load h w text).volume (map_tab g m text).map ms A.1)

    module _ (v : Volume) (can : allowed sizes ≡ true) (long : too_short g v.flash (pages v.ram) ≡ false)
        (ms : List Move) (words : MoveWords ms) where
      abbrev pub first : Volume
      first = (format_whole v sizes).volume

      -- document 01's format, on the pages
      abbrev pub start : Volume
      start = (format (on_pages v) sizes).volume

      first_is : (format_whole v sizes).volume ≡ lift (format (on_pages v) sizes).volume
      first_is = format_lifted v sizes (can_accepted (on_pages v) sizes can long)

      -- demand 3: each answer is the map's, those of loads too
      pub whole_answers : WholeMovesAgree (format_whole v sizes).volume empty_map ms
      whole_answers = rw first_is (agree_lifted start empty_map ms (demand_3_answers h sizes (on_pages v) can long ms words))

      pub whole_end : after_whole (format_whole v sizes).volume ms ≡ lift (after h start (calls_of h start ms))
      whole_end =
          ap (λ (x : Volume). after_whole x ms) first_is ∙ moves_lifted start ms
          ∙ ap lift (calls_leave h sizes (on_pages v) can long ms words)

      -- demand 2: the pages are the image of the history of the calls, those of loads among them
      pub whole_image : ImageOf h g (history_of h start empty_history (calls_of h start ms)) (on_pages v)
          (on_pages (after_whole (format_whole v sizes).volume ms))
      whole_image =
          subst (ImageOf h g (history_of h start empty_history (calls_of h start ms)) (on_pages v))
          (sym (ap (λ (x : Volume). on_pages (after_whole x ms)) first_is ∙ ap on_pages (moves_lifted start ms)
          ∙ pages_lifted (after_moves h start ms)))
          (demand_2_loads h sizes (on_pages v) can long ms words)

      ops_are : (format_whole v sizes).ops ++ whole_ops h (format_whole v sizes).volume (calls_of h start ms)
          ≡ (format (on_pages v) sizes).ops ++ ops_of h start (calls_of h start ms)
      ops_are = rw (format_lifted_ops v sizes (can_accepted (on_pages v) sizes can long), first_is, ops_lifted h start (calls_of h start ms))

      -- the chip operations of all calls, in order, give the flash in the end
      pub whole_flash : apply_all (unit_of sizes)
          ((format_whole v sizes).ops ++ whole_ops h (format_whole v sizes).volume (calls_of h start ms)) v.flash
          ≡ (after_whole (format_whole v sizes).volume ms).flash
      whole_flash =
          ap (λ os. apply_all (unit_of sizes) os v.flash) ops_are
          ∙ (demand_3_loads h sizes (on_pages v) can long ms words).flash_is
          ∙ ap (λ (x : Volume). x.flash) (sym whole_end)

      -- and keep the chip's program order
      pub whole_in_order : (P : ℕ → Bool)
          → ProgramOrder ((format_whole v sizes).ops ++ whole_ops h (format_whole v sizes).volume (calls_of h start ms)) P
      whole_in_order P = rw ops_are ((demand_3_loads h sizes (on_pages v) can long ms words).in_order P)

  -- ---- a load that is cut

  -- all numbers of the rows are 32-bit numbers
  abbrev RowNumbers : List Row → Type 0
  RowNumbers [] = Unit {0}
  RowNumbers (r ∷ rs) = (KeyOk (row_key r) × (r.moves < 2 ^ 32) × (r.goal < 2 ^ 32)) × RowNumbers rs

  row_numbers : (v : Volume) (r : Row) → KeyOk (row_key r) × (r.moves < 2 ^ 32) × (r.goal < 2 ^ 32) → Numbers (row_call h v r)
  unfolding put_call
  row_numbers v r n =
      either (bool? (is_live (search h (geometry v.state.sizes) v (row_key r)).stop))
      (λ c. rw c (n.0, n.1, n.2, omega arith)) (λ c. rw c (n.0, n.1, n.2, omega arith))

  accepts_numbers : (o : Outcome) (c : Call) (cs : List Call) → Numbers c → CallNumbers cs → CallNumbers (accepts o c cs)
  accepts_numbers accepted c cs n ns = (n, ns)
  accepts_numbers (hit place bytes) c cs n ns = (n, ns)
  accepts_numbers miss c cs n ns = (n, ns)
  accepts_numbers (refused i) c cs n ns = (n, tt)

  calls_numbers : (v : Volume) (rs : List Row) → RowNumbers rs → CallNumbers (row_calls h v rs)
  unfolding row_calls
  calls_numbers v [] n = tt
  calls_numbers v (r ∷ rs) n =
      let c : Call = row_call h v r in
      accepts_numbers (call h v c).outcome c _ (row_numbers v r n.0) (calls_numbers (call h v c).volume rs n.1)

  read_numbers : (k : ℕ) (text : List ℕ) → RowNumbers (rows_in k text).rows
  unfolding rows_in
  read_numbers zero text = tt
  read_numbers (suc k) text = go (row text) refl (λ next. read_numbers k next)
    where
      go : (o : Option GotLine) → row text ≡ o → ((next : List ℕ) → RowNumbers (rows_in k next).rows)
          → RowNumbers (continue text o (rows_in k)).rows
      go none e ih = tt
      go (some g) e ih =
          let S = (row_sound text g e).says in
          ((record { level_lt = S.first.decimal.below }, S.second.decimal.below, S.third.decimal.below), ih g.next)

  lines_numbers : (v : Volume) (o : Option (List ℕ)) → CallNumbers (lines_calls h v o)
  lines_numbers v none = tt
  lines_numbers v (some lines) = calls_numbers v (rows_of lines).rows (read_numbers (length lines) lines)

  pub tab_numbers : (v : Volume) (text : List ℕ) → CallNumbers (tab_calls h v text)
  tab_numbers v text = lines_numbers v (body text)

  -- "Of a call made of several, as a load, each is cut and finished by itself": with b steps for all rows, then any restarts and one with
  -- enough, the rows up to the one that was cut are loaded, that one too if a step of it was done
  pub load_cut : (sizes : Sizes) (w : Volume) (m : Map) (text : List ℕ) (b : ℕ) (bs : List ℕ) → Reached h sizes w m
      → (restart_whole h (restarts h bs (several_for h b (lift w) (tab_calls h w text)))).volume ≡ lift (after h w (begun h b w (tab_calls h w text)))
  load_cut sizes w m text b bs X = several_end h sizes w m b bs (tab_calls h w text) (tab_numbers w text) X

  -- with as many steps as all rows have, these are all rows, and the volume is that of the load with enough
  pub load_begun : (w : Volume) (text : List ℕ) (b : ℕ) → all_steps h w (tab_calls h w text) ≤ b
      → begun h b w (tab_calls h w text) ≡ tab_calls h w text
  load_begun w text b l = all_begun h w b (tab_calls h w text) l

  pub load_enough : (sizes : Sizes) (w : Volume) (m : Map) (text : List ℕ) (b : ℕ) → Reached h sizes w m
      → all_steps h w (tab_calls h w text) ≤ b
      → several_for h b (lift w) (tab_calls h w text) ≡ (load_whole h (lift w) text).volume
  load_enough sizes w m text b X l =
      several_whole h w b (tab_calls h w text) l ∙ ap lift (sym (load_is h sizes w m text X))
      ∙ ap (λ (s : Several). s.volume) (sym (load_lifted w text))

  -- a load with enough leaves what its rows leave, each with enough
  pub load_rows_lem : (sizes : Sizes) (w : Volume) (m : Map) (text : List ℕ) → Reached h sizes w m
      → (load_whole h (lift w) text).volume ≡ whole_after h (lift w) (tab_calls h w text)
  load_rows_lem sizes w m text X =
      ap (λ (s : Several). s.volume) (load_lifted w text) ∙ ap lift (load_is h sizes w m text X)
      ∙ sym (after_lifted h w (tab_calls h w text))

module _ (h : Family) where
  -- a load is the calls of its rows
  abbrev pub turn_of : CutMove → Turn
  turn_of (whole_call c) = whole_turn (λ w. c ∷ [])
  turn_of (whole_load text) = whole_turn (λ w. tab_calls h w text)
  turn_of (cut_call c b bs) = cut_turn (λ w. c ∷ []) b bs
  turn_of (cut_load text b bs) = cut_turn (λ w. tab_calls h w text) b bs
  turn_of (idle_move bs) = cut_turn (λ w. []) 0 bs

  -- all of a list
  abbrev pub turns_of : List CutMove → List Turn
  turns_of [] = []
  turns_of (m ∷ ms) = turn_of m ∷ turns_of ms

  pub turn_numbers : (ms : List CutMove) → CutNumbers ms → TurnNumbers (turns_of ms)
  turn_numbers [] n = tt
  turn_numbers (whole_call c ∷ ms) n = ((λ w. (n.0, tt)), turn_numbers ms n.1)
  turn_numbers (whole_load text ∷ ms) n = ((λ w. tab_numbers h w text), turn_numbers ms n)
  turn_numbers (cut_call c b bs ∷ ms) n = ((λ w. (n.0, tt)), turn_numbers ms n.1)
  turn_numbers (cut_load text b bs ∷ ms) n = ((λ w. tab_numbers h w text), turn_numbers ms n)
  turn_numbers (idle_move bs ∷ ms) n = ((λ w. tt), turn_numbers ms n)

  module _ (v : Volume) (sizes : Sizes) (can : allowed sizes ≡ true) (long : too_short (geometry sizes) v.flash (pages v.ram) ≡ false)
      (f : Format) (ms : List CutMove) (n : CutNumbers ms) where
    -- from a format on, whole or cut too, they leave what document 01's calls leave, of each load those up to its cut
    pub loads_cut : turns_after h (format_end h v sizes f) (turns_of ms)
        ≡ lift (after h (format (on_pages v) sizes).volume (turns_begun h (format (on_pages v) sizes).volume (turns_of ms)))
    loads_cut = turns_end h v sizes can long f (turns_of ms) (turn_numbers ms n)

    -- the operations of the format, of all calls, of all rows and of all restarts, done in order on the chip handed to the format, give the
    -- chip in the end
    pub loads_flash : apply_all (unit_of sizes) (format_ops h v sizes f ++ turns_ops h (format_end h v sizes f) (turns_of ms)) v.flash
        ≡ (turns_after h (format_end h v sizes f) (turns_of ms)).flash
    loads_flash = turns_flash h v sizes can long f (turns_of ms) (turn_numbers ms n)

    -- "The rule against programming twice counts both runs as one history": these operations keep the chip's program order
    pub loads_in_order : (P : ℕ → Bool) → ProgramOrder (format_ops h v sizes f ++ turns_ops h (format_end h v sizes f) (turns_of ms)) P
    loads_in_order P = turns_in_order h v sizes can long f (turns_of ms) (turn_numbers ms n) P

pub worn_load : (h : Family) (sizes : Sizes) (w : Volume) (m : Map) (text spare : List ℕ) → Reached h sizes w m
    → Worn (spare_size (geometry sizes)) w.flash.spare spare
    → LoadWorn (spare_size (geometry sizes)) (load_whole h (lift w) text) (load_whole h (with_spare spare (lift w)) text)
worn_load h sizes w m text spare X W =
    let L = load_same h sizes w m text spare X W in
    rw (load_lifted h w text, load_lifted h (with_spare spare w) text)
    (record { outcome = L.outcome; done = L.done; volume_is = ap lift L.volume_is; worn = L.worn })
