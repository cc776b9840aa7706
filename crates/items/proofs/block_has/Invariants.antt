use mathlib.Core.Path.{◌≡◌}
use Rattle.memory.specs.Ranges.{any}
use Rattle.items.specs.Scans.{is_word}
use Rattle.items.proofs.block_has.Given as goal

abbrev pub invariant-loop-i : goal.invariant-loop-i
invariant-loop-i g l = l.found ≡ any (is_word l.s l.at l.j) l.i
