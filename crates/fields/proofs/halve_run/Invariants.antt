use Prim.Native.Nat.{ℕ, ◌+◌}
use Rattle.fields.specs.Sources.{field_byte}
use Rattle.memory.specs.Lists.{Done}
use Rattle.fields.proofs.halve_run.Given as goal

abbrev pub invariant-loop-i : goal.invariant-loop-i
invariant-loop-i l = Done (λ (k : ℕ). field_byte l.bytes l.s l.w (l.y + k)) l.out l.i
