use Prim.Native.Nat.{ℕ, ◌+◌, ◌*◌}
use Rattle.fields.specs.Sources.{run_byte}
use Rattle.memory.specs.Lists.{Done}
use Rattle.fields.proofs.whole_runs.Given as goal

abbrev pub invariant-loop-k : goal.invariant-loop-k
invariant-loop-k g l = Done (λ (j : ℕ). run_byte l.bytes l.at l.stride g.row.N (l.y + j)) l.out (l.k * g.row.N)
