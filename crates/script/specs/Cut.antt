-- A line that asks for something has at most 34 bytes; so a line may be cut after 64.
use Rattle.std.specs.Prelude.{List, [], ◌∷◌, ℕ, suc, ◌+◌, length}

-- ---- the words are as long as the line

-- each word with a byte that ends it
unfoldable pub total : List (List ℕ) → ℕ
total [] = 0
total (w ∷ ws) = suc (length w + total ws)
