-- Demand 3 of lists of calls with power cuts: each call answers as the map does, however few steps it had, and after its last run the
-- volume has the map's state. Document 01's map, document 02's request 8.
use Rattle.std.specs.Prelude.{◌≡◌, List, [], ◌∷◌, ℕ, zero, suc}
use Rattle.layout.specs.Geometry.{Geometry, geometry, Sizes}
use Rattle.layout.specs.Hash.{Family}
use Rattle.layout.specs.Calls.{Volume, Call, Outcome, accepted}
use Rattle.layout.specs.FiniteMap.{Map, Step, step, map_of}
use Rattle.layout.specs.Budgets.{call_for, call_whole}
use Rattle.history.specs.Reached.{map_after}
use Rattle.history.specs.Runs.{Agrees, ResultAgrees}
use Rattle.cuts.specs.Events.{Event, whole, cut, idle, calls_of, event_result}
use Rattle.cuts.specs.Events.{event_volume}

-- the map's step for a call with a budget: without a step the call is not made. It is answered all the same
abbrev pub step_for : Geometry → ℕ → Map → Call → Step
step_for g zero m c = step (map_of g m c).says m
step_for g (suc b) m c = map_of g m c

-- a call c with the budget b on the volume v, answered by o, its restarts leaving w. It hands no count back
pub record CutAgrees (sizes : Sizes) (v : Volume) (m : Map) (b : ℕ) (c : Call) (o : Outcome) (w : Volume) : Type 0 where
  pub agrees : Agrees sizes v o 0 w (step_for (geometry sizes) b m c)
  -- "a cut before the intent leaves what was there"
  pub not_made : b ≡ 0 → w ≡ v

-- an event: a call with enough answers as the map does, count and all; restarts that find no call change nothing
abbrev pub EventAgrees : Family → Sizes → Volume → Map → Event → Type 0
EventAgrees h sizes v m (whole c) = ResultAgrees sizes v (call_whole h v c) (map_of (geometry sizes) m c)
EventAgrees h sizes v m (cut c b bs) = CutAgrees sizes v m b c (call_for h b v c).outcome (event_volume h v (cut c b bs))
EventAgrees h sizes v m (idle bs) = ((event_result h v (idle bs)).outcome ≡ accepted) × (event_volume h v (idle bs) ≡ v)

-- of each event of a list; the map makes the steps of the calls made
abbrev pub EventsAgree : Family → Sizes → Volume → Map → List Event → Type 0
EventsAgree h sizes v m [] = Unit {0}
EventsAgree h sizes v m (e ∷ es) =
    EventAgrees h sizes v m e × EventsAgree h sizes (event_volume h v e) (map_after (geometry sizes) m (calls_of e)) es
