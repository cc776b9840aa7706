-- Fields: the reader reads those of the grammar, and no others.
use Rattle.std.specs.Prelude.{◌≡◌, Bool, true, false, ℕ, eqb}
use Rattle.std.proofs.Math.Option.{some}
use mathlib.Core.List.{List, [], ◌∷◌, ◌++◌}
use Rattle.text.specs.Text.{is_digit, digits_from}
use Rattle.tab.specs.Grammar.{dquote, text_data, quotable, each, doubled, Field, Number}
use Rattle.tab.specs.Reader.{Got, digits, name_of}
use Rattle.tab.specs.declared.Column.{Column}

-- ---- values that are written alike with quotes and without

pub record Simple (value : List ℕ) : Type 0 where
  pub text : each text_data value ≡ true
  pub quotes : each quotable value ≡ true
  pub same : doubled value ≡ value

-- a text that does not begin with a quote
abbrev pub Unquoted : List ℕ → Type 0
Unquoted [] = ⊥
Unquoted (c ∷ cs) = eqb c dquote ≡ false

-- a text that does not begin with a digit
abbrev pub Stops : List ℕ → Type 0
Stops [] = Unit {0}
Stops (c ∷ cs) = is_digit c ≡ false

-- ---- what is read without quotes, as a value of which P is said

pub record Shown (P : List ℕ → ℕ → Type 0) (text : List ℕ) (g : Got) : Type 0 where
  pub value : List ℕ
  pub is : text ≡ value ++ g.rest
  pub simple : Simple value
  pub says : P value g.value

-- the digits at the start of a text
pub record Digits (v : ℕ) (text : List ℕ) : Type 0 where
  pub value : List ℕ
  pub is : text ≡ value ++ (digits v text).rest
  pub says : digits_from v value ≡ some (digits v text).value

-- a text that is w and stands for 0
abbrev pub Named : List ℕ → List ℕ → ℕ → Type 0
Named w value n = (value ≡ w) × (n ≡ 0)

-- what is read with quotes or without, as a field's value of which P is said
pub record FieldShown (P : List ℕ → ℕ → Type 0) (text : List ℕ) (g : Got) : Type 0 where
  pub field : List ℕ
  pub value : List ℕ
  pub is : text ≡ field ++ g.rest
  pub field_is : Field field value
  pub says : P value g.value

-- ---- the field of a column: its name in the header, a number in a row

abbrev pub Means : Bool → Column → List ℕ → ℕ → Type 0
Means true c text n = Field text (name_of c) × (n ≡ 0)
Means false c text n = Number text n

-- a field, and the text after it
pub record Content (header : Bool) (c : Column) (text : List ℕ) (g : Got) : Type 0 where
  pub field : List ℕ
  pub is : text ≡ field ++ g.rest
  pub means : Means header c field g.value
