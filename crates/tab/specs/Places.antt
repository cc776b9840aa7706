-- The code's places in the lent tab as the texts of Reader.
use Rattle.std.specs.Prelude.{List, ℕ, drop, Option as Maybe, Some, None}
use Rattle.std.proofs.Math.Option.{Option, none, some}
use Rattle.tab.specs.Reader.{Got, got}
use Rattle.tab.specs.declared.Field.{Field}

-- the text from a place on
abbrev pub place_in : List ℕ → Maybe ℕ → Option (List ℕ)
place_in tab None = none
place_in tab (Some next) = some (drop next tab)

-- what was read, and the text from its end on
abbrev pub field_in : List ℕ → Maybe Field → Option Got
field_in tab None = none
field_in tab (Some f) = some (got f.value (drop f.next tab))
