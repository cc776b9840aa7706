-- What is read through a reader: a field, and the fields of a line in order.
use Rattle.std.specs.Prelude.{◌≡◌, Bool, List, ℕ, drop, Option as Maybe, Some, None, IfNone}
use Rattle.std.proofs.Math.Option.{Option, none, some}
use Rattle.tab.specs.Reader.{Got, got, field, GotLine, got_line}
use Rattle.tab.specs.Places.{field_in}
use Rattle.tab.specs.declared.Column.{Column}
use Rattle.tab.specs.declared.Column.TheVariants.{Level, Moves, Goal}
use Rattle.tab.specs.declared.Field.{Field}
use Rattle.tab.specs.declared.reader.Reader.{Reader}
use Rattle.tab.specs.declared.reader.Row.{Row}

-- f is the field of column c at a place of the tab
abbrev pub FieldAt : List ℕ → ℕ → Column → Bool → Maybe Field → Type 0
FieldAt tab at c header f = field_in tab f ≡ field header c (drop at tab)

-- each field stands where the one before it ended
abbrev pub InOrder : List ℕ → ℕ → Bool → Field → Field → Field → Type 0
InOrder tab at header level moves goal =
    FieldAt tab at Level header (Some level) × FieldAt tab level.next Moves header (Some moves)
    × FieldAt tab moves.next Goal header (Some goal)

-- what was read, and the text from the reader's place on
abbrev pub read_to : Reader → Maybe ℕ → Option Got
read_to r None = none
read_to r (Some v) = some (got v (drop r.at r.tab.now))

-- the field of column c at the reader's place was read, and the reader went on behind it; a malformed one leaves the reader as it was
pub record ReadOn (r : Reader) (c : Column) (header : Bool) (v : Maybe ℕ) (r' : Reader) : Type 0 where
  pub read : read_to r' v ≡ field header c (drop r.at r.tab.now)
  pub tab : r'.tab ≡ r.tab
  pub stays : IfNone v (r'.at ≡ r.at)

-- the code's lines as those of the tab's reader
abbrev pub line_in : List ℕ → Maybe Row → Option GotLine
line_in tab None = none
line_in tab (Some l) = some (got_line l.level l.moves l.goal (drop l.next tab))
