use Prim.Native.Nat.{◌*◌}
use mathlib.Core.Path.{◌≡◌}
use mathlib.Core.Bool.{false}
use Rattle.items.specs.Scans.{has_word}
use Rattle.items.proofs.has_word.Given as goal

abbrev pub invariant-loop-b : goal.invariant-loop-b
invariant-loop-b l = has_word l.s l.at (l.b * 64) l.j ≡ false
