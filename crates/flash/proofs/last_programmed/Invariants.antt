use Rattle.std.proofs.Common.{◌≡◌}
use Rattle.flash.specs.Fresh.{last_programmed}
use Rattle.flash.proofs.last_programmed.Given as goal

abbrev pub invariant-loop-k : goal.invariant-loop-k
invariant-loop-k l = last_programmed l.spare l.step l.first l.count ≡ last_programmed l.spare l.step l.first l.k
