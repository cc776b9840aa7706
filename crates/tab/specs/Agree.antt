-- The reader reads what the grammar says, and the grammar has one reading of a tab.
use Rattle.std.specs.Prelude.{◌≡◌, ℕ}
use Rattle.std.proofs.Math.Option.{some}
use mathlib.Core.List.{List}
use Rattle.tab.specs.Grammar.{Row}
use Rattle.tab.specs.Reader.{body, rows_of}

-- a reading by the grammar is what the reader makes of the tab
pub record Only (text : List ℕ) (rows : List Row) (rest : List ℕ) : Type 0 where
  pub lines : List ℕ
  pub body_is : body text ≡ some lines
  pub rows_are : rows_of lines ≡ record { rows = rows; rest = rest }
