use Rattle.std.proofs.Common.{◌≡◌}
use Rattle.flash.specs.Fresh.{fresh_run}
use Rattle.flash.proofs.Laws.{left_fresh}
use Rattle.flash.proofs.all_fresh.Given as goal

abbrev pub invariant-loop-i : goal.invariant-loop-i
invariant-loop-i l = fresh_run l.spare l.stride l.s l.k ≡ left_fresh l.spare l.s l.stride l.k l.all l.i
