-- "Of a call made of several, as a load, each is cut and finished by itself": calls in turn with one budget of steps. A call that is cut
-- ends them, and those after it are not made. With the restarts after them they are events, so that all that holds of power cuts holds of
-- them.
use Rattle.std.specs.Prelude.{◌≡◌, List, [], ◌∷◌, ℕ, cond, ◌++◌, ◌+◌, ◌-◌, leb}
use Rattle.layout.specs.Flash.{Op}
use Rattle.layout.specs.Hash.{Family}
use Rattle.layout.specs.Calls.{Volume, Call, call}
use Rattle.layout.specs.Header.{on_pages}
use Rattle.history.specs.Runs.{after}
use Rattle.layout.specs.Budgets.{step_count, result_of, call_for}
use Rattle.cuts.specs.Events.{lift, Event, made, Numbers, AllNumbers, events_after, events_ops, made_by, finish, finish_ops}
use Rattle.cuts.specs.Uncut.{whole_after, whole_ops}

-- all numbers of the calls are 32-bit numbers
abbrev pub CallNumbers : List Call → Type 0
CallNumbers [] = Unit {0}
CallNumbers (c ∷ cs) = Numbers c × CallNumbers cs

module _ (h : Family) where
  -- the volume that calls in turn leave, with b steps for all of them
  abbrev pub several_for : ℕ → Volume → List Call → Volume
  several_for b v [] = v
  several_for b v (c ∷ cs) =
      cond (leb (step_count (result_of h v c)) b) (several_for (b - step_count (result_of h v c)) (call_for h b v c).volume cs)
      (call_for h b v c).volume

  -- and their chip operations
  abbrev pub calls_ops : ℕ → Volume → List Call → List Op
  calls_ops b v [] = []
  calls_ops b v (c ∷ cs) =
      (call_for h b v c).ops
      ++ cond (leb (step_count (result_of h v c)) b) (calls_ops (b - step_count (result_of h v c)) (call_for h b v c).volume cs) []

  -- the operations of the calls and of the restarts after them
  abbrev pub several_ops : ℕ → List ℕ → Volume → List Call → List Op
  several_ops b bs v cs = calls_ops b v cs ++ finish_ops h bs (several_for b v cs)

  -- the calls of which a step was done, or that have none: all up to the one that is cut
  abbrev pub begun : ℕ → Volume → List Call → List Call
  begun b w [] = []
  begun b w (c ∷ cs) =
      cond (leb (step_count (call h w c)) b) (c ∷ begun (b - step_count (call h w c)) (call h w c).volume cs) (made_by b c)

  -- the steps that all of them have
  abbrev pub all_steps : Volume → List Call → ℕ
  all_steps w [] = 0
  all_steps w (c ∷ cs) = step_count (call h w c) + all_steps (call h w c).volume cs

-- ---- with any number of steps, any restarts and then one with enough: a list of events

-- what the calls of a list leave and do, and the calls made, are those of events
pub record AsEvents (h : Family) (w after : Volume) (os : List Op) (cs : List Call) (es : List Event) : Type 0 where
  pub volume_is : after ≡ events_after h (lift w) es
  pub ops_are : os ≡ events_ops h (lift w) es
  pub calls_are : cs ≡ made es
  pub numbers : AllNumbers es

-- ---- lists of such calls

-- calls in turn with enough; or with one budget, and the budgets of the restarts after them, which one with enough follows. They go by the
-- volume that they find, as a load's do. One call is such a list, and so is none, where the restarts find no call
pub data Turn : Type 0 where
  whole_turn : (Volume → List Call) → Turn
  cut_turn : (Volume → List Call) → ℕ → List ℕ → Turn

-- all their numbers are 32-bit numbers
abbrev pub OneNumbers : Turn → Type 0
OneNumbers (whole_turn f) = (w : Volume) → CallNumbers (f w)
OneNumbers (cut_turn f b bs) = (w : Volume) → CallNumbers (f w)

abbrev pub TurnNumbers : List Turn → Type 0
TurnNumbers [] = Unit {0}
TurnNumbers (t ∷ ts) = OneNumbers t × TurnNumbers ts

module _ (h : Family) where
  -- what one of them leaves
  abbrev pub turn_volume : Volume → Turn → Volume
  turn_volume v (whole_turn f) = whole_after h v (f (on_pages v))
  turn_volume v (cut_turn f b bs) = (finish h bs (several_for h b v (f (on_pages v)))).volume

  -- its operations
  abbrev pub turn_ops : Volume → Turn → List Op
  turn_ops v (whole_turn f) = whole_ops h v (f (on_pages v))
  turn_ops v (cut_turn f b bs) = several_ops h b bs v (f (on_pages v))

  -- its calls that are made
  abbrev pub turn_begun : Volume → Turn → List Call
  turn_begun w (whole_turn f) = f w
  turn_begun w (cut_turn f b bs) = begun h b w (f w)

  -- what all of them leave
  abbrev pub turns_after : Volume → List Turn → Volume
  turns_after v [] = v
  turns_after v (t ∷ ts) = turns_after (turn_volume v t) ts

  -- the operations of all, in order
  abbrev pub turns_ops : Volume → List Turn → List Op
  turns_ops v [] = []
  turns_ops v (t ∷ ts) = turn_ops v t ++ turns_ops (turn_volume v t) ts

  -- the calls that are made
  abbrev pub turns_begun : Volume → List Turn → List Call
  turns_begun w [] = []
  turns_begun w (t ∷ ts) = turn_begun w t ++ turns_begun (after h w (turn_begun w t)) ts
