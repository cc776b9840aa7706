-- A tab of levels: the grammar of RFC 4180, section 2, widened as document 02 says, requests 1 and 6. Each production stands as a relation
-- between a text and what it says: `++` is concatenation, a sum a choice, a list a repetition. No reader is named here.
use Rattle.std.specs.Prelude.{◌≡◌, ◌≢◌, ◌⊎◌, Bool, true, ◌&&◌, ◌||◌, cond, List, [], ◌∷◌, ◌++◌, ℕ, ◌^◌, ◌<◌, leb, eqb}
use Rattle.std.proofs.Math.Option.{some}
use Rattle.text.specs.Text.{ascii, digits_from}

-- ---- bytes

-- DQUOTE = %x22, COMMA = %x2C, LF = %x0A, CR = %x0D
abbrev pub dquote : ℕ
dquote = 0x22

abbrev pub comma : ℕ
comma = 0x2C

abbrev pub lf : ℕ
lf = 0x0A

abbrev pub cr : ℕ
cr = 0x0D

-- TEXTDATA = %x20-21 / %x23-2B / %x2D-7E
abbrev pub text_data : ℕ → Bool
text_data c = (leb 0x20 c && leb c 0x21) || ((leb 0x23 c && leb c 0x2B) || (leb 0x2D c && leb c 0x7E))

-- TEXTDATA / COMMA / CR / LF, and DQUOTE, which 2DQUOTE stands for
abbrev pub quotable : ℕ → Bool
quotable c = text_data c || (eqb c comma || (eqb c cr || (eqb c lf || eqb c dquote)))

unfoldable pub each : (ℕ → Bool) → List ℕ → Bool
each f [] = true
each f (c ∷ cs) = f c && each f cs

-- ---- fields: a text, and the value that it stands for

-- 2DQUOTE: a quote of the value is written twice
unfoldable pub doubled : List ℕ → List ℕ
doubled [] = []
doubled (c ∷ cs) = cond (eqb c dquote) (dquote ∷ dquote ∷ doubled cs) (c ∷ doubled cs)

-- escaped = DQUOTE *(TEXTDATA / COMMA / CR / LF / 2DQUOTE) DQUOTE
pub record Escaped (text value : List ℕ) : Type 0 where
  pub may : each quotable value ≡ true
  pub is : text ≡ dquote ∷ (doubled value ++ (dquote ∷ []))

-- non-escaped = *TEXTDATA
pub record NonEscaped (text value : List ℕ) : Type 0 where
  pub may : each text_data value ≡ true
  pub is : text ≡ value

-- field = (escaped / non-escaped); name = field
abbrev pub Field : List ℕ → List ℕ → Type 0
Field text value = Escaped text value ⊎ NonEscaped text value

-- "decimal numbers below 2^32, leading zeros allowed"
pub record Decimal (value : List ℕ) (n : ℕ) : Type 0 where
  pub some_digit : value ≢ []
  pub is : digits_from 0 value ≡ some n
  pub below : n < 2 ^ 32

-- a field whose value is a number
pub record Number (text : List ℕ) (n : ℕ) : Type 0 where
  pub value : List ℕ
  pub field : Field text value
  pub decimal : Decimal value n

-- ---- lines

-- record = field *(COMMA field), header = name *(COMMA name): of three fields, which A, B and C are said of
pub record Line (A B C : List ℕ → Type 0) (line : List ℕ) : Type 0 where
  pub a : List ℕ
  pub b : List ℕ
  pub c : List ℕ
  pub is : line ≡ a ++ (comma ∷ (b ++ (comma ∷ c)))
  pub first : A a
  pub second : B b
  pub third : C c

-- "a header `level,moves,goal`"
abbrev pub HeaderLine : List ℕ → Type 0
HeaderLine = Line (λ a. Field a (ascii "level")) (λ b. Field b (ascii "moves")) (λ c. Field c (ascii "goal"))

pub record Row : Type 0 where
  pub level : ℕ
  pub moves : ℕ
  pub goal : ℕ

-- "rows .. of three decimal numbers"
abbrev pub RowLine : Row → List ℕ → Type 0
RowLine r = Line (λ a. Number a r.level) (λ b. Number b r.moves) (λ c. Number c r.goal)

-- "lines ended by LF or CRLF"
pub record Ended (t next : List ℕ) : Type 0 where
  pub ending : List ℕ
  pub ends : (ending ≡ lf ∷ []) ⊎ (ending ≡ cr ∷ lf ∷ [])
  pub is : t ≡ ending ++ next

-- what follows a line: nothing, or an ending and the next lines; "the last ending optional and opening no row"
abbrev pub Follows : List ℕ → List ℕ → Type 0
Follows t next = ((t ≡ []) × (next ≡ [])) ⊎ Ended t next

-- a text that begins with a line of which L is said, and the text of the lines after it
pub record LineThen (L : List ℕ → Type 0) (text next : List ℕ) : Type 0 where
  pub line : List ℕ
  pub t : List ℕ
  pub is : text ≡ line ++ t
  pub says : L line
  pub follows : Follows t next

-- ---- the tab

-- a row, and then what Rest is said of
pub record RowThen (r : Row) (Rest : List ℕ → Type 0) (text : List ℕ) : Type 0 where
  pub next : List ℕ
  pub first : LineThen (RowLine r) text next
  pub others : Rest next

-- "then rows, if any": a text is these rows and the rest
abbrev pub Rows : List Row → List ℕ → List ℕ → Type 0
Rows [] rest text = text ≡ rest
Rows (r ∷ rs) rest text = RowThen r (Rows rs rest) text

-- a header, and the text of the lines after it; request 6: "a file of no bytes" has neither
abbrev pub Headed : List ℕ → List ℕ → Type 0
Headed text lines = ((text ≡ []) × (lines ≡ [])) ⊎ LineThen HeaderLine text lines

-- a reading of a tab: its header, if it has bytes, and its rows up to its end or up to a line that is no row
pub record Reading (text : List ℕ) (rows : List Row) (rest : List ℕ) : Type 0 where
  pub lines : List ℕ
  pub headed : Headed text lines
  pub reads : Rows rows rest lines
  pub ends : (r : Row) (next : List ℕ) → LineThen (RowLine r) rest next → ⊥
