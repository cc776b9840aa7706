-- A line by its fields, and rows in turn.
use Rattle.std.specs.Prelude.{◌≡◌, Bool, List, ℕ, ◌-◌, ◌<◌, length, drop}
use Rattle.std.proofs.Common.{arith, length-drop}
use Rattle.std.proofs.Math.Option.{some}
use Rattle.tab.specs.Reader.{got_line, line, row}
use Rattle.tab.specs.Lines.{InOrder}
use Rattle.tab.specs.declared.Field.{Field}
use Rattle.tab.proofs.Agree.{row_shorter}

-- three fields, each where the one before it ended, are a line
pub all_good : (tab : List ℕ) (header : Bool) (at : ℕ) (level moves goal : Field) → InOrder tab at header level moves goal
    → line header (drop at tab) ≡ some (got_line level.value moves.value goal.value (drop goal.next tab))
unfolding line
all_good tab header at level moves goal I = rw (← I.0, ← I.1, ← I.2)

-- a row that was read leaves less of the tab: whoever reads row after row comes to an end
pub row_goes_on : (tab : List ℕ) (at a b c next : ℕ) → row (drop at tab) ≡ some (got_line a b c (drop next tab))
    → length tab - next < length tab - at
row_goes_on tab at a b c next e =
    omega (arith, row_shorter (drop at tab) (got_line a b c (drop next tab)) e, length-drop next tab, length-drop at tab)
