-- What is in use of the buffer stays within it; each turn reads a byte at least.
use Rattle.std.specs.Prelude.{◌≡◌, ◌-◌, ◌≤◌, length}
use Rattle.load_tab.proofs.read_full.Given as goal

abbrev pub invariant-loop-done : goal.invariant-loop-done
invariant-loop-done g l = (l.done ≤ length l.tab) × (length l.tab ≡ length l.initial.tab)

abbrev pub decreases-loop-done : goal.decreases-loop-done
decreases-loop-done g l = length l.tab - l.done
