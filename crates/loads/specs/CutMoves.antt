-- Demand 3 of lists of calls and loads with power cuts: from a format on each call and each load, whole or cut, agrees with the finite map,
-- move by move. Document 01's map, document 02's requests 1 and 8.
use Rattle.std.specs.Prelude.{◌≡◌, List, [], ◌∷◌, ℕ}
use Rattle.layout.specs.Geometry.{Sizes, Geometry, geometry}
use Rattle.layout.specs.Hash.{Family}
use Rattle.layout.specs.Calls.{Volume, Call, Result}
use Rattle.layout.specs.FiniteMap.{Map, accepts, Step, map_of}
use Rattle.layout.specs.Header.{on_pages}
use Rattle.layout.specs.Budgets.{call_for, call_whole}
use Rattle.history.specs.Reached.{map_after}
use Rattle.cuts.specs.Events.{finish}
use Rattle.cuts.specs.CutMap.{step_for}
use Rattle.cuts.specs.Several.{several_for, begun}
use Rattle.load.specs.Load.{load_whole}
use Rattle.loads.specs.LoadCalls.{tab_calls}
use Rattle.loads.specs.LoadMap.{map_tab}
use Rattle.loads.specs.WholeLoads.{CutMove, whole_call, whole_load, cut_call, cut_load, idle_move}

module _ (h : Family) where
  -- a load with the budget b and its restarts: what the last of them answers and leaves
  abbrev pub load_restarted : Volume → List ℕ → ℕ → List ℕ → Result
  load_restarted v text b bs = finish h bs (several_for h b v (tab_calls h (on_pages v) text))

  -- the calls of its rows up to the one that is cut: "each is cut and finished by itself"
  abbrev pub rows_begun : Volume → List ℕ → ℕ → List Call
  rows_begun v text b = begun h b (on_pages v) (tab_calls h (on_pages v) text)

  -- what a move leaves
  abbrev pub move_volume : Volume → CutMove → Volume
  move_volume v (whole_call c) = (call_whole h v c).volume
  move_volume v (whole_load text) = (load_whole h v text).volume
  move_volume v (cut_call c b bs) = (finish h bs (call_for h b v c).volume).volume
  move_volume v (cut_load text b bs) = (load_restarted v text b bs).volume
  move_volume v (idle_move bs) = (finish h bs v).volume

  -- and a list of them
  abbrev pub moves_after : Volume → List CutMove → Volume
  moves_after v [] = v
  moves_after v (x ∷ xs) = moves_after (move_volume v x) xs

  module _ (sizes : Sizes) where
    abbrev g : Geometry
    g = geometry sizes

    -- the map after a move. "A cut before the intent leaves what was there", and of a load the rows behind the one that is cut are not made
    abbrev pub move_map : Volume → Map → CutMove → Map
    move_map v m (whole_call c) = (map_of g m c).next
    move_map v m (whole_load text) = (map_tab g m text).map
    move_map v m (cut_call c b bs) = (step_for g b m c).next
    move_map v m (cut_load text b bs) = map_after g m (rows_begun v text b)
    move_map v m (idle_move bs) = m

    -- after a list of them, each on the volume that those before it leave
    abbrev pub moves_map : Volume → Map → List CutMove → Map
    moves_map v m [] = m
    moves_map v m (x ∷ xs) = moves_map (move_volume v x) (move_map v m x) xs

-- ---- the map's steps are those of the calls made

-- what is not accepted leaves the map
abbrev pub Unmoved : Map → Step → Type 0
Unmoved m s = (s.says ≡ accepts → ⊥) → s.next ≡ m
