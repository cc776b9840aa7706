use mathlib.Core.Path.{◌≡◌}
use Prim.Native.Nat.{◌*◌, min}
use lib.ListN.{get_or, length}
use Rattle.memory.specs.Bits.{bit}
use Rattle.kernels.specs.Blocks.{Upto}
use Rattle.kernels.proofs.part.Given as goal

abbrev pub invariant-loop-j : goal.invariant-loop-j
invariant-loop-j l =
    (length l.r ≡ 8) × Upto (λ k i. bit (get_or l.f k 0) i) (min (l.j * 64) l.n) l.r
