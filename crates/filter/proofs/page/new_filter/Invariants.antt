use Prim.Native.Nat.{ℕ, ◌+◌, ◌*◌, ◌<◌}
use mathlib.Core.Path.{◌≡◌}
use lib.ListN.{length}
use Rattle.memory.specs.Ranges.{any}
use Rattle.filter.specs.Filter.{array_bit, key_bit, item_bytes}
use Rattle.filter.proofs.page.new_filter.Given as goal

abbrev pub invariant-loop-i : goal.invariant-loop-i
invariant-loop-i l =
    (length l.bits ≡ 256)
    × ((x : ℕ) → x < 2048 → array_bit l.bits x ≡ any (λ j. key_bit l.chip.unit l.count (item_bytes l.ram (l.at + j * l.step)) x) l.i)
