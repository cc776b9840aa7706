-- Demands 2 and 3 for lists of calls and loads after an accepted format: a load is its calls.
use Rattle.std.specs.Prelude.{◌≡◌, refl, true, false, List, [], ◌∷◌, ◌++◌, ℕ}
use Rattle.std.proofs.Common.{sym, ap, subst, ◌∙◌}
use Rattle.layout.specs.Geometry.{Sizes, Geometry, geometry, allowed}
use Rattle.layout.specs.Hash.{Family}
use Rattle.layout.specs.Calls.{Volume, Call, too_short, format, call}
use Rattle.layout.specs.FiniteMap.{Map, empty_map, map_of}
use Rattle.laws.specs.Sound.{sound}
use Rattle.history.specs.Live.{empty_history}
use Rattle.history.specs.Runs.{KeyWord, KeyWords, after, history_of, ImageOf, ResultAgrees}
use Rattle.history.proofs.RunLaws.{run}
use Rattle.history.specs.Reached.{Reached, map_after}
use Rattle.history.proofs.Reached.{reach, reach_call, reach_format}
use Rattle.history.specs.Demands.{Run}
use Rattle.history.proofs.Demands.{demand_2, demand_3}
use Rattle.load.specs.Load.{load}
use Rattle.loads.specs.LoadCalls.{tab_calls}
use Rattle.loads.proofs.LoadCalls.{load_volume, tab_words}
use Rattle.loads.specs.LoadMap.{map_tab}
use Rattle.loads.proofs.LoadMap.{LoadAgrees, load_agrees, reached_judged}
use Rattle.loads.specs.Moves.{Move, one, tab, MoveWords, after_moves, calls_of}

module _ (h : Family) where
  after_append : (v : Volume) (xs ys : List Call) → after h v (xs ++ ys) ≡ after h (after h v xs) ys
  after_append v [] ys = refl
  after_append v (x ∷ xs) ys = after_append (call h v x).volume xs ys

  words_append : (xs ys : List Call) → KeyWords xs → KeyWords ys → KeyWords (xs ++ ys)
  words_append [] ys a b = b
  words_append (x ∷ xs) ys a b = (a.0, words_append xs ys a.1 b)

  module _ (sizes : Sizes) where
    abbrev g : Geometry
    g = geometry sizes

    -- a load leaves what its calls leave, and is reached too
    pub load_is : (v : Volume) (m : Map) (text : List ℕ) → Reached h sizes v m → (load h v text).volume ≡ after h v (tab_calls h v text)
    load_is v m text X = load_volume h v text (reached_judged h sizes v m X)

    reach_load : (v : Volume) (m : Map) (text : List ℕ) → Reached h sizes v m
        → Reached h sizes (load h v text).volume (map_after g m (tab_calls h v text))
    reach_load v m text X =
        subst (λ (x : Volume). Reached h sizes x (map_after g m (tab_calls h v text))) (sym (load_is v m text X))
        (reach h sizes v m (tab_calls h v text) X (tab_words h v text))

    moves_words : (v : Volume) (m : Map) (ms : List Move) → MoveWords ms → Reached h sizes v m → KeyWords (calls_of h v ms)
    moves_words v m [] w X = tt
    moves_words v m (one c ∷ ms) w X =
        (w.0, moves_words (call h v c).volume (map_of g m c).next ms w.1 (reach_call h sizes v m c X w.0))
    moves_words v m (tab text ∷ ms) w X =
        words_append (tab_calls h v text) (calls_of h (load h v text).volume ms) (tab_words h v text)
        (moves_words (load h v text).volume (map_after g m (tab_calls h v text)) ms w (reach_load v m text X))

    moves_after_lem : (v : Volume) (m : Map) (ms : List Move) → MoveWords ms → Reached h sizes v m → after_moves h v ms ≡ after h v (calls_of h v ms)
    moves_after_lem v m [] w X = refl
    moves_after_lem v m (one c ∷ ms) w X = moves_after_lem (call h v c).volume (map_of g m c).next ms w.1 (reach_call h sizes v m c X w.0)
    moves_after_lem v m (tab text ∷ ms) w X =
        moves_after_lem (load h v text).volume (map_after g m (tab_calls h v text)) ms w (reach_load v m text X)
        ∙ ap (λ (x : Volume). after h x (calls_of h (load h v text).volume ms)) (load_is v m text X)
        ∙ sym (after_append v (tab_calls h v text) (calls_of h (load h v text).volume ms))

    -- each call and each load answers as the map does
    abbrev pub MovesAgree : Volume → Map → List Move → Type 0
    MovesAgree v m [] = Unit {0}
    MovesAgree v m (one c ∷ ms) =
        ResultAgrees sizes v (call h v c) (map_of g m c) × MovesAgree (call h v c).volume (map_of g m c).next ms
    MovesAgree v m (tab text ∷ ms) =
        LoadAgrees h sizes (load h v text) (map_tab g m text) × MovesAgree (load h v text).volume (map_tab g m text).map ms

    at_volume : (v w : Volume) (m : Map) (c : Call) → v ≡ w → ResultAgrees sizes w (call h w c) (map_of g m c)
        → ResultAgrees sizes v (call h v c) (map_of g m c)
    at_volume v w m c p A = rw p A

    call_agrees : (v : Volume) (m : Map) (c : Call) → Reached h sizes v m → KeyWord c → ResultAgrees sizes v (call h v c) (map_of g m c)
    call_agrees v m c X w =
        at_volume v _ m c X.is
        (run h sizes (sound sizes X.can) X.can X.H v.flash v.ram m (c ∷ []) (w, tt) X.holds X.live).agrees.0

    pub moves_agree : (v : Volume) (m : Map) (ms : List Move) → MoveWords ms → Reached h sizes v m → MovesAgree v m ms
    moves_agree v m [] w X = tt
    moves_agree v m (one c ∷ ms) w X =
        (call_agrees v m c X w.0, moves_agree (call h v c).volume (map_of g m c).next ms w.1 (reach_call h sizes v m c X w.0))
    moves_agree v m (tab text ∷ ms) w X =
        let A = load_agrees h sizes v m text X in
        (A, moves_agree (load h v text).volume (map_tab g m text).map ms w A.reached)

    module _ (v : Volume) (can : allowed sizes ≡ true) (long : too_short g v.flash v.ram ≡ false)
        (ms : List Move) (w : MoveWords ms) where
      abbrev start : Volume
      start = (format v sizes).volume

      words : KeyWords (calls_of h start ms)
      words = moves_words start empty_map ms w (reach_format h sizes v can long)

      -- the calls of a list leave what the list leaves
      pub calls_leave : after_moves h start ms ≡ after h start (calls_of h start ms)
      calls_leave = moves_after_lem start empty_map ms w (reach_format h sizes v can long)

      -- each answer is the map's, those of loads too: the refusal, the number of rows and what they leave
      pub demand_3_answers : MovesAgree start empty_map ms
      demand_3_answers = moves_agree start empty_map ms w (reach_format h sizes v can long)

      -- demand 3 holds of the calls, a refused row's among them
      pub demand_3_loads : Run h v sizes (calls_of h start ms)
      demand_3_loads = demand_3 h v sizes (calls_of h start ms) can long words

      -- and after the list the volume is the image of their history
      pub demand_2_loads : ImageOf h g (history_of h start empty_history (calls_of h start ms)) v (after_moves h start ms)
      demand_2_loads =
          subst (ImageOf h g (history_of h start empty_history (calls_of h start ms)) v) (sym calls_leave)
          (demand_2 h v sizes (calls_of h start ms) can long words)
