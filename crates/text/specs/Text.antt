-- Texts as lists of bytes, and the decimal numbers in them.
use Rattle.std.specs.Prelude.{Bool, ◌&&◌, cond, List, [], ◌∷◌, ℕ, ◌+◌, ◌*◌, ◌-◌, leb}
use Rattle.std.proofs.Math.Option.{Option, none, some}
use Prim.Native.Char.{code}
use Prim.Native.String.{String, [] as end, ◌∷◌ as ◌then◌}

-- the code of each character
abbrev pub ascii : String → List ℕ
ascii end = []
ascii (c then s) = code c ∷ ascii s

-- the digits 0 to 9
abbrev pub is_digit : ℕ → Bool
is_digit c = leb (code "0") c && leb c (code "9")

-- the number that decimal digits make after those that made v; none where a byte is no digit
unfoldable pub digits_from : ℕ → List ℕ → Option ℕ
digits_from v [] = some v
digits_from v (c ∷ cs) = cond (is_digit c) (digits_from (v * 10 + (c - code "0")) cs) none
