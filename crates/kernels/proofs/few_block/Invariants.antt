use Prim.Native.Nat.{◌+◌, ◌*◌, ◌/◌}
use Rattle.kernels.specs.Rows.{all_in}
use Rattle.kernels.proofs.Fews.{Filled}
use Rattle.kernels.proofs.few_block.Given as goal

abbrev pub invariant-loop-k : goal.invariant-loop-k
invariant-loop-k g l = Filled (all_in l.bytes l.rows g.row.W) l.first (l.b * (8 / g.row.W) + l.k) l.r

abbrev pub invariant-loop-b : goal.invariant-loop-b
invariant-loop-b g l = Filled (all_in l.bytes l.rows g.row.W) l.first (l.b * (8 / g.row.W)) l.r
