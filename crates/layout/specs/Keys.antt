-- The key of a level. Every rule about keys goes by these names, the theorems' proofs by the laws
-- of `history/proofs/KeyLaws.antt`. Document 01, "Records, entries, deletions", "Filters".
use Rattle.std.specs.Prelude.{Bool, List, ℕ, ◌+◌, ◌^◌, ◌<◌, eqb}
use Rattle.memory.specs.Words.{word, bytes4}

-- bytes of a number
abbrev pub word_size : ℕ
word_size = 4

-- "level key, .. 4 bytes"
abbrev pub Key : Type 0
Key = ℕ

-- "All 2^32 keys are allowed"
pub record KeyOk (k : Key) : Type 0 where
  pub level_lt : k < 2 ^ 32

-- do two keys name the same level
unfoldable pub same_key : Key → Key → Bool
same_key a b = eqb a b

-- what is hashed of a key: "j, then the key", its bytes and not its number
abbrev pub key_bytes : Key → List ℕ
key_bytes k = bytes4 k

-- an entry's two words are "key, then j"
abbrev pub key_in : ℕ → ℕ → Key
key_in first second = first

abbrev pub number_in : ℕ → ℕ
number_in second = second

-- the key of the entry from byte `at` on
abbrev pub key_at : List ℕ → ℕ → Key
key_at bytes at = key_in (word bytes at) (word bytes (at + word_size))
