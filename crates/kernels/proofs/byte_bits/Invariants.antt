use mathlib.Core.Bool.{Bool}
use mathlib.Core.List.{List}
use Prim.Native.Nat.{ℕ, ◌+◌, ◌-◌, ◌*◌, ◌%◌, ◌^◌}
use lib.ListN.{get_or}
use Rattle.memory.specs.Bits.{bit}
use Rattle.kernels.proofs.Gather.{Packed}
use Rattle.kernels.proofs.byte_bits.Given as goal

-- the bit of byte k
abbrev pub has : ℕ → ℕ → ℕ → List ℕ → ℕ → Bool
has at low step bytes k = bit (get_or bytes (at + k * step) 0) (low % 8)

-- those from byte k on are gathered
abbrev pub invariant-loop-k : goal.invariant-loop-k
invariant-loop-k l = Packed (has l.at l.low l.step l.bytes) l.s l.k (l.n - l.k) (2 ^ (l.n - l.k)) l.r
