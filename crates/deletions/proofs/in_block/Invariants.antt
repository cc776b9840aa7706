use Prim.Native.Nat.{◌/◌}
use Rattle.laws.specs.WalkLaws.{free}
use Rattle.laws.specs.WalkLaws.{Words}
use Rattle.deletions.specs.Walk.{try_held, either_bit}
use Rattle.deletions.proofs.Volume.{per_page}
use Rattle.deletions.proofs.in_block.Given as goal

abbrev pub invariant-loop-w : goal.invariant-loop-w
invariant-loop-w l =
    Words (try_held l.t l.main l.ram l.j) free (per_page l.t) either_bit 32 (l.b.start / 2) l.below l.b.words l.opened 0 l.w
