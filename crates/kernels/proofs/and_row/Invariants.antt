use mathlib.Core.Path.{◌≡◌}
use mathlib.Core.Bool.{◌&&◌}
use Prim.Native.Nat.{ℕ, ◌+◌, ◌*◌, ◌≤◌, ◌<◌}
use lib.ListN.{get_or, length}
use Rattle.memory.specs.Bits.{bit, bit_in}
use Rattle.kernels.proofs.and_row.Given as goal

-- the words before word j are done, and the others are as they were
abbrev pub invariant-loop-j : goal.invariant-loop-j
invariant-loop-j l =
    record {
      eight : length l.r ≡ 8;
      left : (k : ℕ) → l.j ≤ k → get_or l.r k 0 ≡ get_or l.initial.r k 0;
      done : (k : ℕ) → k < l.j → (i : ℕ) → l.row.low + i < 64
          → bit (get_or l.r k 0) i ≡ (bit_in l.bytes (l.row.at + (l.q + k) * 8) (l.row.low + i) && bit (get_or l.initial.r k 0) i);
    }
