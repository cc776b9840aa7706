-- Tabs and what is read of them, computed: quotes, endings, zeros, and each way to be malformed.
use Rattle.std.specs.Prelude.{◌≡◌, List, ℕ}
use Rattle.std.proofs.Math.Option.{Option, none, some, map}
use Prim.Native.String.{String}
use Rattle.text.specs.Text.{ascii}
use Rattle.tab.specs.Grammar.{Row}
use Rattle.tab.specs.Reader.{body, Read, rows_of}

abbrev pub row_of : ℕ → ℕ → ℕ → Row
row_of a b c = record { level = a; moves = b; goal = c }

abbrev read_of : List ℕ → Option Read
read_of text = map rows_of (body text)

-- a tab, its rows, and what is left
abbrev pub Reads : String → List Row → String → Type 0
Reads text rows rest = read_of (ascii text) ≡ some (record { rows = rows; rest = ascii rest })

abbrev pub NoHeader : String → Type 0
NoHeader text = read_of (ascii text) ≡ none
