use mathlib.Core.Path.{◌≡◌}
use Prim.Native.Nat.{◌+◌, ◌*◌, min}
use lib.ListN.{length}
use Rattle.kernels.specs.Rows.{all_in}
use Rattle.kernels.specs.Blocks.{Upto}
use Rattle.kernels.proofs.wide_block.Given as goal

abbrev pub invariant-loop-j : goal.invariant-loop-j
invariant-loop-j l =
    (length l.r ≡ 8) × Upto (λ k i. all_in l.bytes l.rows l.w (l.first + (k * 64 + i))) (min (l.j * 64) l.n) l.r
