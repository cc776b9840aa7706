-- Request 8's claim, on the layout's definitions, for every hash family, every format, every list of calls, cut or not, every list of
-- budgets, and restarts between the calls.
use Rattle.std.specs.Prelude.{◌≡◌, List, ℕ}
use Rattle.layout.specs.Flash.{apply_all}
use Rattle.layout.specs.Hash.{Family}
use Rattle.layout.specs.Calls.{Volume}
use Rattle.history.specs.FlashLaws.{AllAllowed}
use Rattle.history.specs.Runs.{after}
use Rattle.history.specs.ProgramOrder.{Below}
use Rattle.cuts.specs.Events.{lift, Event, made, events_after, EventsAccept, events_ops}

-- what calls with power cuts leave: the volume of the same calls without them, those uncut or of which a step was done
pub record EventsAre (u N : ℕ) (h : Family) (w : Volume) (es : List Event) : Type 0 where
  pub volume_is : events_after h (lift w) es ≡ lift (after h w (made es))
  pub flash_is : apply_all u (events_ops h (lift w) es) w.flash ≡ (after h w (made es)).flash
  pub ops_allowed : AllAllowed u (events_ops h (lift w) es) w.flash
  pub inside : Below N (events_ops h (lift w) es)
  pub accepts : EventsAccept h (lift w) es
