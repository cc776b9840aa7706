use mathlib.Core.Path.{◌≡◌}
use Rattle.kept.specs.Pieces.{pieces_of}
use Rattle.kept.proofs.put_fourths.Given as goal

abbrev pub invariant-loop-i : goal.invariant-loop-i
invariant-loop-i l = l.ram ≡ pieces_of l.chip.unit l.piece l.at l.i l.fourths l.initial.ram
