-- Loads on volumes with a header: a load that is not cut is document 01's, so demands 2 and 3 hold of lists of calls and loads with enough
-- steps; and a load that is cut in a row is finished by a restart, also in lists of calls and loads. Document 02, requests 1 and 8.
use Rattle.std.specs.Prelude.{◌≡◌}
use mathlib.Core.List.{List, [], ◌∷◌}
use Prim.Native.Nat.{ℕ}
use Rattle.layout.specs.Calls.{Call}
use Rattle.layout.specs.Several.{Several}
use Rattle.history.specs.Worn.{Worn, with_spare}
use Rattle.cuts.specs.Events.{lift, Numbers}

-- ---- a load is document 01's, whatever the bytes

abbrev pub lift_several : Several → Several
lift_several s = record { outcome = s.outcome; done = s.done; volume = lift s.volume }

-- ---- lists of calls and loads, each whole or cut

-- a call or a load with enough; one with its budget, and the budgets of the restarts after it; restarts with no call pending. After the
-- restarts one with enough follows
pub data CutMove : Type 0 where
  whole_call : Call → CutMove
  whole_load : List ℕ → CutMove
  cut_call : Call → ℕ → List ℕ → CutMove
  cut_load : List ℕ → ℕ → List ℕ → CutMove
  idle_move : List ℕ → CutMove

-- all numbers of the calls are 32-bit numbers; nothing is asked of a tab
abbrev pub CutNumbers : List CutMove → Type 0
CutNumbers [] = Unit {0}
CutNumbers (whole_call c ∷ ms) = Numbers c × CutNumbers ms
CutNumbers (whole_load text ∷ ms) = CutNumbers ms
CutNumbers (cut_call c b bs ∷ ms) = Numbers c × CutNumbers ms
CutNumbers (cut_load text b bs ∷ ms) = CutNumbers ms
CutNumbers (idle_move bs ∷ ms) = CutNumbers ms

-- ---- a load on worn spare bytes (document 02, §3)

-- what a caller sees of it on a sound chip (s) and on a worn one (t): all is the same but the spare bytes, which stay worn
pub record LoadWorn (N : ℕ) (s t : Several) : Type 0 where
  pub outcome : t.outcome ≡ s.outcome
  pub done : t.done ≡ s.done
  pub volume_is : t.volume ≡ with_spare t.volume.flash.spare s.volume
  pub worn : Worn N s.volume.flash.spare t.volume.flash.spare
