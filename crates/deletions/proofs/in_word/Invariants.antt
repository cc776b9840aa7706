use Rattle.layout.specs.Geometry.{deletions_per_page}
use Rattle.deletions.specs.Walk.{try_word, either_bit}
use Rattle.deletions.proofs.Bits.{Left}
use Rattle.deletions.proofs.in_word.Given as goal

abbrev pub invariant-loop-f : goal.invariant-loop-f
invariant-loop-f l =
    Left (either_bit l.bits) (try_word l.main l.start l.j) (deletions_per_page l.chip.unit) l.initial.f-iterator.left l.f-iterator.left l.opened
