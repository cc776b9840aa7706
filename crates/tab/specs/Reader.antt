-- The reader of a tab, by steps on the text that is left: what the code's contracts cite. Agree ties it to the grammar.
use Rattle.std.specs.Prelude.{Bool, true, false, cond, List, [], ◌∷◌, ℕ, zero, suc, ◌+◌, ◌-◌, ◌*◌, ◌^◌, length, ltb, eqb}
use Rattle.std.proofs.Math.Option.{Option, none, some, map}
use Prim.Native.Char.{code}
use Rattle.text.specs.Text.{ascii, is_digit}
use Rattle.tab.specs.Grammar.{dquote, comma, lf, cr, Row}
use Rattle.tab.specs.declared.Column.{Column}
use Rattle.tab.specs.declared.Column.TheVariants.{Level, Moves, Goal}

-- what was read, and the text after it; of a name 0 is read
pub record Got : Type 0 where
  pub value : ℕ
  pub rest : List ℕ

abbrev pub got : ℕ → List ℕ → Got
got v t = record { value = v; rest = t }

-- ---- a field without quotes

-- as many digits as there are, after those that made v
unfoldable pub digits : ℕ → List ℕ → Got
digits v [] = got v []
digits v (c ∷ cs) = cond (is_digit c) (digits (v * 10 + (c - code "0")) cs) (got v (c ∷ cs))

abbrev pub small : Got → Option Got
small g = cond (ltb g.value (2 ^ 32)) (some g) none

-- one digit or more, below 2^32
unfoldable pub decimal : List ℕ → Option Got
decimal [] = none
decimal (c ∷ cs) = cond (is_digit c) (small (digits 0 (c ∷ cs))) none

-- the bytes of w
unfoldable pub word : List ℕ → List ℕ → Option Got
word [] text = some (got 0 text)
word (x ∷ w) [] = none
word (x ∷ w) (c ∷ cs) = cond (eqb c x) (word w cs) none

abbrev pub name_of : Column → List ℕ
name_of Level = ascii "level"
name_of Moves = ascii "moves"
name_of Goal = ascii "goal"

-- a column's name in the header, a number in a row
unfoldable pub bare : Bool → Column → List ℕ → Option Got
bare true c = word (name_of c)
bare false c = decimal

-- ---- a field and what ends it

-- the text after one given byte
abbrev pub after : ℕ → List ℕ → Option (List ℕ)
after x [] = none
after x (c ∷ cs) = cond (eqb c x) (some cs) none

-- the text after a line's end
unfoldable pub line_end : List ℕ → Option (List ℕ)
line_end [] = some []
line_end (c ∷ cs) = cond (eqb c lf) (some cs) (cond (eqb c cr) (after lf cs) none)

-- what was read, and the text after what `end` takes
abbrev pub ended : (List ℕ → Option (List ℕ)) → Option Got → Option Got
ended end none = none
ended end (some g) = map (got g.value) (end g.rest)

-- "quoted or not"
unfoldable pub quoted : (List ℕ → Option Got) → List ℕ → Option Got
quoted f [] = f []
quoted f (c ∷ cs) = cond (eqb c dquote) (ended (after dquote) (f cs)) (f (c ∷ cs))

-- a comma ends a field, and the line's end the last
abbrev pub ends : Column → List ℕ → Option (List ℕ)
ends Level = after comma
ends Moves = after comma
ends Goal = line_end

unfoldable pub field : Bool → Column → List ℕ → Option Got
field header c text = ended (ends c) (quoted (bare header c) text)

-- ---- a line

pub record GotLine : Type 0 where
  pub row : Row
  pub next : List ℕ

abbrev pub got_line : ℕ → ℕ → ℕ → List ℕ → GotLine
got_line a b c t = record { row = record { level = a; moves = b; goal = c }; next = t }

-- the columns in their order, each on the text that the one before it left
abbrev pub from_goal : ℕ → ℕ → Option Got → Option GotLine
from_goal a b none = none
from_goal a b (some g) = some (got_line a b g.value g.rest)

abbrev pub from_moves : Bool → ℕ → Option Got → Option GotLine
from_moves header a none = none
from_moves header a (some g) = from_goal a g.value (field header Goal g.rest)

abbrev pub from_level : Bool → Option Got → Option GotLine
from_level header none = none
from_level header (some g) = from_moves header g.value (field header Moves g.rest)

unfoldable pub line : Bool → List ℕ → Option GotLine
line header text = from_level header (field header Level text)

-- a row, and the text of the lines after it
abbrev pub row : List ℕ → Option GotLine
row text = line false text

-- the text of the lines after the header
abbrev pub header : List ℕ → Option (List ℕ)
header text = map (λ g. g.next) (line true text)

-- the text of a tab's rows, behind its header; request 6: a tab of no bytes needs none
abbrev pub body : List ℕ → Option (List ℕ)
body [] = some []
body (c ∷ cs) = header (c ∷ cs)

-- ---- rows, until none can be read

pub record Read : Type 0 where
  pub rows : List Row
  pub rest : List ℕ

abbrev pub read_more : Row → Read → Read
read_more r s = record { rows = r ∷ s.rows; rest = s.rest }

abbrev pub continue : List ℕ → Option GotLine → (List ℕ → Read) → Read
continue text none f = record { rows = []; rest = text }
continue text (some g) f = read_more g.row (f g.next)

-- at most k rows
unfoldable pub rows_in : ℕ → List ℕ → Read
rows_in zero text = record { rows = []; rest = text }
rows_in (suc k) text = continue text (row text) (rows_in k)

-- all of them: a row has a byte at least
abbrev pub rows_of : List ℕ → Read
rows_of text = rows_in (length text) text
