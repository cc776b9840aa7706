-- Records, entries and deletions: their lengths and the bytes of their words.
use Rattle.std.specs.Prelude.{◌≡◌, [], ◌∷◌, ℕ, ◌+◌, ◌*◌, ◌<◌, length, get_or}
use Rattle.std.proofs.Common.{arith}
use Rattle.memory.specs.Words.{byte_of, length_words, words_byte}
use Rattle.layout.specs.Keys.{Key}
use Rattle.layout.specs.Items.{Record, record_bytes, entry_bytes, deletion_bytes}

-- ---- lengths

pub length_record : (r : Record) → length (record_bytes r) ≡ 16
unfolding record_bytes
length_record r = length_words (r.key ∷ r.moves ∷ r.goal ∷ r.free ∷ [])

pub length_entry : (key : Key) (j : ℕ) → length (entry_bytes key j) ≡ 8
unfolding entry_bytes
length_entry key j = length_words (key ∷ j ∷ [])

pub length_deletion : (j : ℕ) → length (deletion_bytes j) ≡ 4
unfolding deletion_bytes
length_deletion j = length_words (j ∷ [])

-- ---- the bytes of words

pub entry_key : (key : Key) (j b : ℕ) → b < 4 → get_or (entry_bytes key j) (0 * 4 + b) 0 ≡ byte_of key b
unfolding entry_bytes
entry_key key j b h = words_byte (key ∷ j ∷ []) 0 b (omega arith) h

pub entry_number : (key : Key) (j b : ℕ) → b < 4 → get_or (entry_bytes key j) (1 * 4 + b) 0 ≡ byte_of j b
unfolding entry_bytes
entry_number key j b h = words_byte (key ∷ j ∷ []) 1 b (omega arith) h

pub deletion_number : (j b : ℕ) → b < 4 → get_or (deletion_bytes j) (0 * 4 + b) 0 ≡ byte_of j b
unfolding deletion_bytes
deletion_number j b h = words_byte (j ∷ []) 0 b (omega arith) h
