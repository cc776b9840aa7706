-- One event of a list with power cuts: a call with enough, a call that is cut and finished, restarts that find no call.
use Rattle.std.specs.Prelude.{◌≡◌, ℕ}
use Rattle.layout.specs.Flash.{apply_all}
use Rattle.layout.specs.Hash.{Family}
use Rattle.layout.specs.Calls.{Volume, Outcome, accepted, hit, miss, refused}
use Rattle.history.specs.FlashLaws.{AllAllowed}
use Rattle.history.specs.ProgramOrder.{Below}
use Rattle.cuts.specs.Events.{lift, Event}
use Rattle.cuts.specs.Events.{event_volume, event_ops, EventAccepts}

-- an answer that changes nothing
abbrev pub Quiet : Outcome → Type 0
Quiet accepted = ⊥
Quiet (hit place bytes) = Unit {0}
Quiet miss = Unit {0}
Quiet (refused i) = Unit {0}

-- what an event leaves
pub record EventIs (u N : ℕ) (h : Family) (w next : Volume) (e : Event) : Type 0 where
  pub volume_is : event_volume h (lift w) e ≡ lift next
  pub flash_is : apply_all u (event_ops h (lift w) e) w.flash ≡ next.flash
  pub ops_allowed : AllAllowed u (event_ops h (lift w) e) w.flash
  pub inside : Below N (event_ops h (lift w) e)
  -- the last restart is not refused
  pub accepts : EventAccepts h (lift w) e
