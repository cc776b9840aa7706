use Prim.Native.Nat.{◌*◌}
use Rattle.memory.specs.Lists.{Done}
use Rattle.fields.specs.Columns.{column_byte}
use Rattle.fields.proofs.columns.Given as goal

abbrev pub invariant-loop-i : goal.invariant-loop-i
invariant-loop-i l = Done (column_byte l.bytes l.at l.stride l.w) l.out (8 * l.i)
