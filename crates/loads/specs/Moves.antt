-- Demands 2 and 3 for lists of calls and loads after an accepted format: a load is its calls.
use Rattle.std.specs.Prelude.{List, [], ◌∷◌, ℕ, ◌++◌}
use Rattle.layout.specs.Hash.{Family}
use Rattle.layout.specs.Calls.{Call, Volume, call}
use Rattle.history.specs.Runs.{KeyWord}
use Rattle.load.specs.Load.{load}
use Rattle.loads.specs.LoadCalls.{tab_calls}

-- a call, or a load of a tab
pub data Move : Type 0 where
  one : Call → Move
  tab : List ℕ → Move

-- the keys of the calls are allowed; nothing is asked of a tab
abbrev pub MoveWords : List Move → Type 0
MoveWords [] = Unit {0}
MoveWords (one c ∷ ms) = KeyWord c × MoveWords ms
MoveWords (tab text ∷ ms) = MoveWords ms

module _ (h : Family) where
  -- the volume after a list of calls and loads
  abbrev pub after_moves : Volume → List Move → Volume
  after_moves v [] = v
  after_moves v (one c ∷ ms) = after_moves (call h v c).volume ms
  after_moves v (tab text ∷ ms) = after_moves (load h v text).volume ms

  -- its calls, those of its loads among them
  abbrev pub calls_of : Volume → List Move → List Call
  calls_of v [] = []
  calls_of v (one c ∷ ms) = c ∷ calls_of (call h v c).volume ms
  calls_of v (tab text ∷ ms) = tab_calls h v text ++ calls_of (load h v text).volume ms
