use mathlib.Core.Path.{◌≡◌}
use mathlib.Core.Bool.{Bool}
use Prim.Native.Nat.{ℕ, ◌+◌, ◌*◌, ◌^◌, ◌≤◌, ◌<◌}
use Rattle.kernels.specs.Masks.{has_mask, Shut}
use Rattle.kernels.proofs.lacking.Given as goal

abbrev pub invariant-loop-j : goal.invariant-loop-j
invariant-loop-j l =
    (l.r < 2 ^ 64)
    × ((gate : ℕ → Bool) (q : ℕ) → q + l.n ≤ 16 → Shut gate q l.start
    → ((g : ℕ) → g < 4 * l.n → gate (4 * q + g) ≡ has_mask l.bytes l.at 16 l.m g) → Shut gate (q + l.j) l.r)
