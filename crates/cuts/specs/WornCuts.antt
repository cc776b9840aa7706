-- Worn spare bytes change no answer and no byte but themselves, whatever calls, cuts and restarts come, and though they wear further
-- between any two runs: on every volume whose spare bytes are 00 and FF, and so in every list of events from a format on, whose own cut is
-- included. The words are those of `WornEvents`. Document 02, §3 and §8.
use Rattle.std.specs.Prelude.{◌≡◌, List, [], ◌∷◌, ℕ}
use Rattle.layout.specs.Geometry.{geometry, spare_size, Sizes}
use Rattle.layout.specs.Hash.{Family}
use Rattle.layout.specs.Calls.{Volume}
use Rattle.history.specs.Worn.{Worn, with_spare}
use Rattle.cuts.specs.Events.{Event, event_volume, event_ops}
use Rattle.cuts.specs.WornEvents.{Run, runs_after, event_runs}
use Rattle.cuts.specs.WornEvents.{EachRunSame, SameAnswers}
use Rattle.cuts.specs.WornSteady.{Steady, SteadyOn}

-- ---- each run

abbrev pub AllSteady : Sizes → List Run → Type 0
AllSteady sizes [] = Unit {0}
AllSteady sizes (r ∷ rs) = ((v : Volume) → Steady sizes v → SteadyOn sizes v r) × AllSteady sizes rs

-- each run is the same, and the volume that they leave is steady
abbrev pub Goes : Sizes → ℕ → Volume → List Run → Type 0
Goes sizes n v rs = EachRunSame sizes n v rs × Steady sizes (runs_after v rs)

-- an event on the volume v, and on the worn volume w, which wears no further between its runs
pub record WornEvent (h : Family) (sizes : Sizes) (v w : Volume) (e : Event) : Type 0 where
  pub answers : SameAnswers v w (event_runs h e)
  pub volume_is : event_volume h w e ≡ with_spare (event_volume h w e).flash.spare (event_volume h v e)
  pub ops : event_ops h w e ≡ event_ops h v e
  pub worn : Worn (spare_size (geometry sizes)) (event_volume h v e).flash.spare (event_volume h w e).flash.spare
