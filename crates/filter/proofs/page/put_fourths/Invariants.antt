use Rattle.filter.specs.Filter.{array_bit}
use Rattle.filter.proofs.Pairs.{Putting}
use Rattle.filter.proofs.page.put_fourths.Given as goal

abbrev pub invariant-loop-i : goal.invariant-loop-i
invariant-loop-i l = Putting l.piece l.i l.f (array_bit l.bits) l.initial.out l.out
