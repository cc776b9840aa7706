use mathlib.Core.Path.{◌≡◌}
use Prim.Native.Nat.{ℕ, ◌+◌, ◌-◌, ◌*◌, ◌%◌, ◌<◌}
use lib.ListN.{get_or}
use Rattle.memory.specs.Bits.{bit}
use Rattle.kernels.proofs.row_bits.Given as goal

abbrev pub invariant-loop-j : goal.invariant-loop-j
invariant-loop-j l =
    ((i : ℕ) → i < (l.n - l.j) * 8 → bit l.r i ≡ bit (get_or l.bytes (l.at + (l.j * 8 + i) * l.step) 0) (l.low % 8))
    × ((i : ℕ) → (l.n - l.j) * 8 + i < 64 → bit l.r ((l.n - l.j) * 8 + i) ≡ bit l.above i)
