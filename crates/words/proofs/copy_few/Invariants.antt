use Prim.Native.Nat.{ℕ, ◌*◌}
use lib.ListN.{get_or}
use Rattle.memory.specs.Lists.{Done}
use Rattle.words.proofs.copy_few.Given as goal

abbrev pub invariant-loop-k : goal.invariant-loop-k
invariant-loop-k l = Done (λ (j : ℕ). get_or l.src j 0) l.dst (8 * l.k)

abbrev pub invariant-loop-j : goal.invariant-loop-j
invariant-loop-j l = Done (λ (j : ℕ). get_or l.src j 0) l.dst l.j
