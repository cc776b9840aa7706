use mathlib.Core.Path.{◌≡◌}
use Rattle.memory.specs.Ranges.{any}
use Rattle.items.specs.Scans.{is_word}
use Rattle.items.proofs.rest_have.Given as goal

abbrev pub invariant-loop-i : goal.invariant-loop-i
invariant-loop-i l = l.found ≡ any (is_word l.s l.at l.j) l.i
