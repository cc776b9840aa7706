use Prim.Native.Nat.{ℕ, ◌+◌, ◌<◌}
use lib.ListN.{get_or}
use Rattle.kernels.proofs.Filters.{Firsts}
use Rattle.kernels.proofs.field_block.Given as goal

abbrev pub invariant-loop-row : goal.invariant-loop-row
invariant-loop-row l =
    (j : ℕ) → j < 8 → Firsts l.bytes l.rows l.row-index (l.q + j) (get_or l.r j 0)
