-- The answers to a script's lines. Document 01, "Replay program".
use Rattle.std.specs.Prelude.{cond, List, [], ◌∷◌, ◌++◌, ℕ, zero, suc, ◌+◌, ◌/◌, ◌%◌, ltb}
use Prim.Native.Char.{code}
use Rattle.text.specs.Text.{ascii}

-- "`ok n d`, `hit moves count`, `miss count` or `no number` answers each; other lines answer `bad`"
pub data Answer : Type 0 where
  ok : ℕ → ℕ → Answer
  hit : ℕ → ℕ → Answer
  miss : ℕ → Answer
  no : ℕ → Answer
  bad : Answer

-- the digits of a number of at most k digits
unfoldable pub digits : ℕ → ℕ → List ℕ
digits zero n = []
digits (suc k) n = cond (ltb n 10) ((n + code "0") ∷ []) (digits k (n / 10) ++ ((n % 10 + code "0") ∷ []))

-- a number below 2^32 in decimal: it has at most ten digits
abbrev pub decimal : ℕ → List ℕ
decimal n = digits 10 n

-- an answer's line, with its line feed
unfoldable pub text : Answer → List ℕ
text (ok n d) = ascii "ok " ++ (decimal n ++ (ascii " " ++ (decimal d ++ ascii "\n")))
text (hit moves count) = ascii "hit " ++ (decimal moves ++ (ascii " " ++ (decimal count ++ ascii "\n")))
text (miss count) = ascii "miss " ++ (decimal count ++ ascii "\n")
text (no number) = ascii "no " ++ (decimal number ++ ascii "\n")
text bad = ascii "bad\n"
