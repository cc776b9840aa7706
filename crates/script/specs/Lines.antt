-- The lines of a script. Document 01, "Replay program".
use Rattle.std.specs.Prelude.{cond, List, [], ◌∷◌, ℕ, ◌^◌, ltb, eqb}
use Rattle.std.proofs.Math.Option.{Option, none, some}
use Prim.Native.Char.{code}
use Rattle.text.specs.Text.{digits_from}
use Rattle.layout.specs.Keys.{Key}
use Rattle.layout.specs.Items.{record_of}
use Rattle.layout.specs.Calls.{Call, insert, update, delete, lookup}

-- what a line asks for; any line that asks for nothing is bad
pub data Command : Type 0 where
  format : ℕ → ℕ → ℕ → Command
  call : Call → Command
  bad : Command

-- ---- numbers

-- "below 2^32"
abbrev pub small : Option ℕ → Option ℕ
small none = none
small (some v) = cond (ltb v (2 ^ 32)) (some v) none

-- "in decimal below 2^32 without leading zeros"
unfoldable pub number : List ℕ → Option ℕ
number [] = none
number (c ∷ []) = digits_from 0 (c ∷ [])
number (c ∷ d ∷ cs) = cond (eqb c (code "0")) none (small (digits_from 0 (c ∷ d ∷ cs)))

-- ---- words

-- a byte before the first word
abbrev pub lengthen : ℕ → List (List ℕ) → List (List ℕ)
lengthen c [] = (c ∷ []) ∷ []
lengthen c (w ∷ ws) = (c ∷ w) ∷ ws

-- the words between "single spaces": a second space in a row, or one at an end, makes an empty word
unfoldable pub fields : List ℕ → List (List ℕ)
fields [] = [] ∷ []
fields (c ∷ cs) = cond (eqb c (code " ")) ([] ∷ fields cs) (lengthen c (fields cs))

-- ---- commands

-- the key of the level that a line's number names
abbrev pub line_key : ℕ → Key
line_key x = x

-- `d key` and `l key`
abbrev pub one_number : ℕ → Option ℕ → Command
one_number c none = bad
one_number c (some key) = cond (eqb c (code "d")) (call (delete (line_key key))) (cond (eqb c (code "l")) (call (lookup (line_key key))) bad)

-- `i key moves` and `u key moves`; "goal and free word are 0"
abbrev pub two_numbers : ℕ → Option ℕ → Option ℕ → Command
two_numbers c none moves = bad
two_numbers c (some key) none = bad
two_numbers c (some key) (some moves) =
    cond (eqb c (code "i")) (call (insert (record_of (line_key key) moves 0 0)))
    (cond (eqb c (code "u")) (call (update (record_of (line_key key) moves 0 0))) bad)

-- `f S R D`
abbrev pub three_numbers : ℕ → Option ℕ → Option ℕ → Option ℕ → Command
three_numbers c none R D = bad
three_numbers c (some S) none D = bad
three_numbers c (some S) (some R) none = bad
three_numbers c (some S) (some R) (some D) = cond (eqb c (code "f")) (format S R D) bad

-- the command with the letter c and these words after it
abbrev pub letter_command : ℕ → List (List ℕ) → Command
letter_command c [] = bad
letter_command c (x ∷ []) = one_number c (number x)
letter_command c (x ∷ y ∷ []) = two_numbers c (number x) (number y)
letter_command c (x ∷ y ∷ z ∷ []) = three_numbers c (number x) (number y) (number z)
letter_command c (x ∷ y ∷ z ∷ w ∷ ws) = bad

abbrev pub words_command : List (List ℕ) → Command
words_command [] = bad
words_command ([] ∷ ws) = bad
words_command ((c ∷ []) ∷ ws) = letter_command c ws
words_command ((c ∷ d ∷ cs) ∷ ws) = bad

-- what a line, without its line feed, asks for
unfoldable pub command : List ℕ → Command
command line = words_command (fields line)
