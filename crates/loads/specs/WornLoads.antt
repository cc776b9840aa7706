-- Worn marks change nothing of a load either: for lists of calls and loads after an accepted format. Document 02, §3.
use Rattle.std.specs.Prelude.{◌≡◌}
use mathlib.Core.List.{List}
use Rattle.layout.specs.Calls.{Call}
use Rattle.layout.specs.Several.{Several}

-- how loads s and t end, and their calls
pub record SameRows (s t : Several) (cs ds : List Call) : Type 0 where
  pub outcome : t.outcome ≡ s.outcome
  pub done : t.done ≡ s.done
  pub calls : ds ≡ cs
