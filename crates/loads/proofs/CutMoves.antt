-- Demand 3 of lists of calls and loads with power cuts: from a format on each call and each load, whole or cut, agrees with the finite map,
-- move by move. Document 01's map, document 02's requests 1 and 8.
use Rattle.std.specs.Prelude.{◌≡◌, refl, Bool, true, false, ◌&&◌, cond, List, [], ◌∷◌, ℕ, zero, suc, ◌≤◌, leb}
use Rattle.std.proofs.Common.{sym, ap, subst, ◌∙◌, arith}
use Rattle.std.proofs.Math.Option.{Option, none, some}
use Rattle.memory.specs.Cases.{either, le?}
use Rattle.layout.specs.Geometry.{Sizes, Geometry, geometry, allowed, record_capacity, deletion_capacity}
use Rattle.layout.specs.Hash.{Family}
use Rattle.layout.specs.Calls.{Volume, Call, insert, update, delete, lookup, one, Outcome, accepted, hit, miss, refused, Result, too_short}
use Rattle.layout.specs.Calls.{format, call}
use Rattle.layout.specs.FiniteMap.{Level, Map, empty_map, find, accepts, Step, insert_map, delete_map, lookup_map, level_of, map_of}
use Rattle.layout.specs.Header.{pages, on_pages}
use Rattle.layout.specs.Budgets.{steps_of, step_count, result_of, call_for, call_whole}
use Rattle.history.specs.Runs.{after, KeyWord, ResultAgrees, reply_of}
use Rattle.history.specs.Reached.{map_after, Reached}
use Rattle.history.proofs.Reached.{map_append, reach_says, reach_format}
use Rattle.cuts.specs.Events.{lift, Finished, whole, cut, idle, finish, Format, format_end}
use Rattle.cuts.proofs.EventLaws.{key_word}
use Rattle.cuts.specs.Uncut.{whole_after}
use Rattle.cuts.proofs.Uncut.{pages_lifted, finished_lifted}
use Rattle.cuts.proofs.Formats.{format_end_lem}
use Rattle.cuts.specs.CutMap.{CutAgrees}
use Rattle.cuts.proofs.CutMap.{events_agree}
use Rattle.cuts.specs.Several.{OneNumbers, TurnNumbers}
use Rattle.cuts.specs.Several.{begun, turn_volume, turn_begun, turns_after, turns_begun}
use Rattle.cuts.proofs.Several.{several_accepts}
use Rattle.cuts.proofs.Several.{turn_end, turn_reaches}
use Rattle.load.specs.Load.{load, load_whole}
use Rattle.loads.specs.LoadCalls.{tab_calls}
use Rattle.loads.specs.LoadMap.{map_tab}
use Rattle.loads.proofs.LoadMap.{load_agrees, tab_map}
use Rattle.loads.specs.WholeLoads.{CutMove, whole_call}
use Rattle.loads.proofs.WholeLoads.{WholeAgrees, load_lifted, loaded_lifted, tab_numbers, load_rows_lem}
use Rattle.loads.specs.WholeLoads.{whole_load, cut_call, cut_load, idle_move, CutNumbers}
use Rattle.loads.proofs.WholeLoads.{turn_of, turns_of, turn_numbers}
use Rattle.loads.specs.CutMoves.{Unmoved, load_restarted, move_volume, moves_after, move_map, moves_map}

module _ (h : Family) where
  module _ (sizes : Sizes) where
    abbrev g : Geometry
    g = geometry sizes

    -- the last restart of a load that was cut: it is not refused, the pages have the levels of the map m, and the header has the state and
    -- no intent
    pub record RestartAgrees (r : Result) (m : Map) : Type 0 where
      pub accepts : r.outcome ≡ accepted
      pub reached : Reached h sizes (on_pages r.volume) m
      pub finished : Finished r.volume

    -- a call answers as the map does, however few steps it had, and a whole load too; after the restarts of a cut one the volume has the
    -- map's state; restarts that find no call change nothing
    abbrev pub MoveAgrees : Volume → Map → CutMove → Type 0
    MoveAgrees v m (whole_call c) = ResultAgrees sizes v (call_whole h v c) (map_of g m c)
    MoveAgrees v m (whole_load text) = WholeAgrees h sizes (load_whole h v text) (map_tab g m text)
    MoveAgrees v m (cut_call c b bs) =
        CutAgrees sizes v m b c (call_for h b v c).outcome (finish h bs (call_for h b v c).volume).volume
    MoveAgrees v m (cut_load text b bs) = RestartAgrees (load_restarted h v text b bs) (move_map h sizes v m (cut_load text b bs))
    MoveAgrees v m (idle_move bs) = ((finish h bs v).outcome ≡ accepted) × ((finish h bs v).volume ≡ v)

    -- each of a list
    abbrev pub CutMovesAgree : Volume → Map → List CutMove → Type 0
    CutMovesAgree v m [] = Unit {0}
    CutMovesAgree v m (x ∷ xs) = MoveAgrees v m x × CutMovesAgree (move_volume h v x) (move_map h sizes v m x) xs

either_unmoved : (m : Map) (t : Bool) (s u : Step) → Unmoved m s → Unmoved m u → Unmoved m (cond t s u)
either_unmoved m true s u p q = p
either_unmoved m false s u p q = q

map_unmoved : (g : Geometry) (m : Map) (c : Call) → Unmoved m (map_of g m c)
map_unmoved g m (insert r) = by (find m.levels r.key)
  where
    by : (o : Option Level) → Unmoved m (insert_map (record_capacity g) m (level_of r) o)
    by none = either_unmoved m (leb (record_capacity g) m.n) _ _ (λ e. refl) (λ e. absurd (e refl))
    by (some l) = λ e. refl
map_unmoved g m (update r) =
    either_unmoved m (leb (record_capacity g) m.n) _ _ (λ e. refl)
    (either_unmoved m (one (find m.levels r.key) && leb (deletion_capacity g) m.d) _ _ (λ e. refl) (λ e. absurd (e refl)))
map_unmoved g m (delete key) = by (find m.levels key)
  where
    by : (o : Option Level) → Unmoved m (delete_map (deletion_capacity g) m key o)
    by none = λ e. refl
    by (some l) = either_unmoved m (leb (deletion_capacity g) m.d) _ _ (λ e. refl) (λ e. absurd (e refl))
map_unmoved g m (lookup key) = by (find m.levels key)
  where
    by : (o : Option Level) → Unmoved m (lookup_map m o)
    by none = λ e. refl
    by (some l) = λ e. refl

-- a call without steps is not accepted
no_steps : (o : Outcome) (r : Result) → steps_of o r ≤ 0 → reply_of o ≡ accepts → ⊥
no_steps accepted r l e = omega (arith, l)
no_steps (hit place bytes) r l e = let z : ◌≡◌ {A = ℕ} 0 1 = cc in omega arith
no_steps miss r l e = let z : ◌≡◌ {A = ℕ} 0 1 = cc in omega arith
no_steps (refused i) r l e = let z : ◌≡◌ {A = ℕ} 0 1 = cc in omega arith

same_either : {A : Type 0} (t : Bool) (x : A) → cond t x x ≡ x
same_either true x = refl
same_either false x = refl

module _ (h : Family) (sizes : Sizes) where
  abbrev gg : Geometry
  gg = geometry sizes

  module _ (w : Volume) (m : Map) (X : Reached h sizes w m) where
    -- with no budget a call is not begun, or it has no steps and leaves the map
    none_begun : (c : Call) → KeyWord c → map_after gg m (begun h 0 w (c ∷ [])) ≡ m
    none_begun c k =
        either (le? (step_count (call h w c)) 0)
        (λ l. rw l.0 (map_unmoved gg m c
        (λ e. no_steps (call h w c).outcome (call h w c) l.1 (reach_says h sizes w m c X k ∙ e))))
        (λ l. rw l.0)

    move_map_lem : (x : CutMove) → OneNumbers (turn_of h x) → move_map h sizes (lift w) m x ≡ map_after gg m (turn_begun h w (turn_of h x))
    move_map_lem (whole_call c) n = refl
    move_map_lem (whole_load text) n = tab_map h sizes w m text X
    move_map_lem (cut_call c zero bs) n = sym (none_begun c (key_word c (n w).0))
    move_map_lem (cut_call c (suc b) bs) n = ap (map_after gg m) (sym (same_either (leb (step_count (call h w c)) (suc b)) (c ∷ [])))
    move_map_lem (cut_load text b bs) n = ap (λ (y : Volume). map_after gg m (begun h b y (tab_calls h y text))) (pages_lifted w)
    move_map_lem (idle_move bs) n = refl

    -- ---- a move leaves what its turn leaves, and agrees

    move_turn : (x : CutMove) → move_volume h (lift w) x ≡ turn_volume h (lift w) (turn_of h x)
    move_turn (whole_call c) = refl
    move_turn (whole_load text) =
        load_rows_lem h sizes w m text X ∙ ap (λ (y : Volume). whole_after h (lift w) (tab_calls h y text)) (sym (pages_lifted w))
    move_turn (cut_call c b bs) =
        ap (λ (y : Volume). (finish h bs y).volume)
        (sym (same_either (leb (step_count (result_of h (lift w) c)) b) (call_for h b (lift w) c).volume))
    move_turn (cut_load text b bs) = refl
    move_turn (idle_move bs) = refl

    move_end : (x : CutMove) → OneNumbers (turn_of h x) → move_volume h (lift w) x ≡ lift (after h w (turn_begun h w (turn_of h x)))
    move_end x n = move_turn x ∙ turn_end h sizes w m (turn_of h x) n X

    move_reaches : (x : CutMove) → OneNumbers (turn_of h x)
        → Reached h sizes (after h w (turn_begun h w (turn_of h x))) (move_map h sizes (lift w) m x)
    move_reaches x n =
        subst (Reached h sizes (after h w (turn_begun h w (turn_of h x)))) (sym (move_map_lem x n)) (turn_reaches h sizes w m (turn_of h x) n X)

    -- where a restart ends in a volume that calls reach
    ends_agree : (r : Result) (next : Volume) (n : Map) → r.outcome ≡ accepted → r.volume ≡ lift next → Reached h sizes next n
        → RestartAgrees h sizes r n
    ends_agree r next n a e Y = record {
      accepts = a;
      reached = rw (e, pages_lifted next) Y;
      finished = rw e (finished_lifted next);
    }

    move_agrees : (x : CutMove) → OneNumbers (turn_of h x) → MoveAgrees h sizes (lift w) m x
    move_agrees (whole_call c) n = (events_agree h sizes w m (whole c ∷ []) X ((n w).0, tt)).0
    move_agrees (whole_load text) n =
        rw (load_lifted h w text) (loaded_lifted h sizes (load h w text) (map_tab gg m text) (load_agrees h sizes w m text X))
    move_agrees (cut_call c b bs) n = (events_agree h sizes w m (cut c b bs ∷ []) X ((n w).0, tt)).0
    move_agrees (cut_load text b bs) n =
        ends_agree (load_restarted h (lift w) text b bs) _ _
        (several_accepts h sizes w m b bs (tab_calls h (on_pages (lift w)) text) (tab_numbers h (on_pages (lift w)) text) X)
        (move_end (cut_load text b bs) n) (move_reaches (cut_load text b bs) n)
    move_agrees (idle_move bs) n = (events_agree h sizes w m (idle bs ∷ []) X (tt, tt)).0

  moves_agree : (w : Volume) (m : Map) (xs : List CutMove) → TurnNumbers (turns_of h xs) → Reached h sizes w m
      → CutMovesAgree h sizes (lift w) m xs
  moves_agree w m [] n X = tt
  moves_agree w m (x ∷ xs) n X = (
    move_agrees w m X x n.0,
    rw (move_end w m X x n.0)
        (moves_agree (after h w (turn_begun h w (turn_of h x))) (move_map h sizes (lift w) m x) xs n.1 (move_reaches w m X x n.0)),
  )

  moves_turns : (w : Volume) (m : Map) (xs : List CutMove) → TurnNumbers (turns_of h xs) → Reached h sizes w m
      → moves_after h (lift w) xs ≡ turns_after h (lift w) (turns_of h xs)
  moves_turns w m [] n X = refl
  moves_turns w m (x ∷ xs) n X =
      let next : Volume = after h w (turn_begun h w (turn_of h x)) in
      ap (λ (v : Volume). moves_after h v xs) (move_end w m X x n.0)
      ∙ moves_turns next (move_map h sizes (lift w) m x) xs n.1 (move_reaches w m X x n.0)
      ∙ ap (λ (v : Volume). turns_after h v (turns_of h xs)) (sym (turn_end h sizes w m (turn_of h x) n.0 X))

  moves_map_lem : (w : Volume) (m : Map) (xs : List CutMove) → TurnNumbers (turns_of h xs) → Reached h sizes w m
      → moves_map h sizes (lift w) m xs ≡ map_after gg m (turns_begun h w (turns_of h xs))
  moves_map_lem w m [] n X = refl
  moves_map_lem w m (x ∷ xs) n X =
      let cs : List Call = turn_begun h w (turn_of h x) in
      ap (λ (v : Volume). moves_map h sizes v (move_map h sizes (lift w) m x) xs) (move_end w m X x n.0)
      ∙ moves_map_lem (after h w cs) (move_map h sizes (lift w) m x) xs n.1 (move_reaches w m X x n.0)
      ∙ ap (λ (y : Map). map_after gg y (turns_begun h (after h w cs) (turns_of h xs))) (move_map_lem w m X x n.0)
      ∙ sym (map_append gg m cs (turns_begun h (after h w cs) (turns_of h xs)))

-- ---- from a format on, whole or cut too

module _ (h : Family) (v : Volume) (sizes : Sizes) (can : allowed sizes ≡ true)
    (long : too_short (geometry sizes) v.flash (pages v.ram) ≡ false) (f : Format) (ms : List CutMove) (n : CutNumbers ms) where
  start : Reached h sizes (format (on_pages v) sizes).volume empty_map
  start = reach_format h sizes (on_pages v) can long

  -- each move agrees with the map, which makes its steps
  pub cut_moves_agree : CutMovesAgree h sizes (format_end h v sizes f) empty_map ms
  cut_moves_agree =
      rw (format_end_lem h v sizes can long f)
      (moves_agree h sizes (format (on_pages v) sizes).volume empty_map ms (turn_numbers h ms n) start)

  -- their volumes are those of `loads_cut`
  pub cut_moves_after : moves_after h (format_end h v sizes f) ms ≡ turns_after h (format_end h v sizes f) (turns_of h ms)
  cut_moves_after =
      rw (format_end_lem h v sizes can long f)
      (moves_turns h sizes (format (on_pages v) sizes).volume empty_map ms (turn_numbers h ms n) start)

  -- and the map's steps together are those of the calls made
  pub cut_moves_map : moves_map h sizes (format_end h v sizes f) empty_map ms
      ≡ map_after (geometry sizes) empty_map (turns_begun h (format (on_pages v) sizes).volume (turns_of h ms))
  cut_moves_map =
      ap (λ (x : Volume). moves_map h sizes x empty_map ms) (format_end_lem h v sizes can long f)
      ∙ moves_map_lem h sizes (format (on_pages v) sizes).volume empty_map ms (turn_numbers h ms n) start
