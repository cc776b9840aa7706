use Prim.Native.Nat.{◌+◌, ◌*◌}
use mathlib.Core.Path.{◌≡◌}
use Rattle.keys.specs.Key.{key_is}
use Rattle.items.specs.Scans.{last_entry}
use Rattle.items.proofs.find_entry.Given as goal

abbrev pub invariant-loop-b : goal.invariant-loop-b
invariant-loop-b l = last_entry l.s l.at l.count (key_is l.key) ≡ last_entry l.s l.at (l.rest + l.b * 64) (key_is l.key)
