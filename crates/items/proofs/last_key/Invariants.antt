use mathlib.Core.Path.{◌≡◌}
use Rattle.keys.specs.Key.{key_is}
use Rattle.items.specs.Scans.{last_entry}
use Rattle.items.proofs.last_key.Given as goal

abbrev pub invariant-loop-e : goal.invariant-loop-e
invariant-loop-e l = last_entry l.s l.at l.n (key_is l.key) ≡ last_entry l.s l.at l.e (key_is l.key)
