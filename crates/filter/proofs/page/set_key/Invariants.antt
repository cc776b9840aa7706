use mathlib.Core.Path.{◌≡◌}
use mathlib.Core.Bool.{◌||◌}
use Prim.Native.Nat.{ℕ, ◌<◌}
use lib.Dec.{eqb}
use lib.ListN.{length, get_or}
use Rattle.memory.specs.Ranges.{any}
use Rattle.filter.specs.Filter.{array_bit}
use Rattle.filter.proofs.page.set_key.Given as goal

abbrev pub invariant-loop-p : goal.invariant-loop-p
invariant-loop-p l =
    (length l.bits ≡ length l.initial.bits)
    × ((x : ℕ) → x < 2048 → array_bit l.bits x ≡ (any (λ j. eqb (get_or l.p-items j 0) x) l.p-index || array_bit l.initial.bits x))
