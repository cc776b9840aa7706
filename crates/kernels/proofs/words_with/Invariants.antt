use Prim.Native.Nat.{◌-◌}
use Rattle.kernels.specs.Blocks.{Open}
use Rattle.kernels.specs.Masks.{has_mask}
use Rattle.kernels.proofs.words_with.Given as goal

abbrev pub invariant-loop-k : goal.invariant-loop-k
invariant-loop-k l = Open (has_mask l.bytes l.at 64 l.m) l.k (l.n - l.k) l.r
