-- The header that the RAM gains, and what it says. Document 02, request 8.
use Rattle.std.specs.Prelude.{cond, List, [], ◌∷◌, ◌++◌, ℕ, ◌-◌, ◌*◌, length, take, drop, eqb}
use Rattle.memory.specs.Words.{word, words_bytes}
use Rattle.layout.specs.Geometry.{State, state_of, Sizes, sizes_of}
use Rattle.layout.specs.Items.{record_of}
use Rattle.layout.specs.Calls.{Volume, Call, insert, update, delete, lookup}

-- "gains a header in the last 64 bytes lent"
abbrev pub header_size : ℕ
header_size = 64

-- all bytes before it: what the calls of document 01 know as the RAM
unfoldable pub pages : List ℕ → List ℕ
pages ram = take (length ram - header_size) ram

unfoldable pub header : List ℕ → List ℕ
header ram = drop (length ram - header_size) ram

-- the volume without its header
abbrev pub on_pages : Volume → Volume
on_pages v = record { state = v.state; flash = v.flash; ram = pages v.ram }

-- ---- what is stored: sixteen words of 4 bytes

-- "S, R, D, k, n, d"
abbrev pub state_words : State → List ℕ
state_words s =
    s.sizes.sector_size ∷ s.sizes.ra_blocks ∷ s.sizes.da_blocks ∷ s.sizes.hash_count ∷ s.records ∷ s.deletions ∷ []

-- bytes of these six words
abbrev pub state_size : ℕ
state_size = 24

-- "the pending call: kind (1 insert, 2 update, 3 delete, 4 format) and arguments (record; key to delete; ..), 4 bytes each, zeros after"; a
-- lookup changes nothing and has none
abbrev pub intent_words : Call → List ℕ
intent_words (insert r) = 1 ∷ r.key ∷ r.moves ∷ r.goal ∷ r.free ∷ 0 ∷ 0 ∷ 0 ∷ 0 ∷ 0 ∷ []
intent_words (update r) = 2 ∷ r.key ∷ r.moves ∷ r.goal ∷ r.free ∷ 0 ∷ 0 ∷ 0 ∷ 0 ∷ 0 ∷ []
intent_words (delete key) = 3 ∷ key ∷ 0 ∷ 0 ∷ 0 ∷ 0 ∷ 0 ∷ 0 ∷ 0 ∷ 0 ∷ []
intent_words (lookup key) = 0 ∷ 0 ∷ 0 ∷ 0 ∷ 0 ∷ 0 ∷ 0 ∷ 0 ∷ 0 ∷ 0 ∷ []

-- "or new S, R, D, k"
abbrev pub format_words : Sizes → List ℕ
format_words sizes =
    4 ∷ sizes.sector_size ∷ sizes.ra_blocks ∷ sizes.da_blocks ∷ sizes.hash_count ∷ 0 ∷ 0 ∷ 0 ∷ 0 ∷ 0 ∷ []

-- "without one, zeros"
abbrev pub no_intent : List ℕ
no_intent = 0 ∷ 0 ∷ 0 ∷ 0 ∷ 0 ∷ 0 ∷ 0 ∷ 0 ∷ 0 ∷ 0 ∷ []

unfoldable pub header_bytes : State → List ℕ → List ℕ
header_bytes s intent = words_bytes (state_words s ++ intent)

-- "An accepted changing call first stores its intent and, format aside, the state handed over": the RAM with them
abbrev pub intended : Volume → Call → List ℕ
intended v c = pages v.ram ++ header_bytes v.state (intent_words c)

-- of a format: the state's words stay as they are
abbrev pub format_intended : Volume → Sizes → List ℕ
format_intended v sizes = pages v.ram ++ (take state_size (header v.ram) ++ words_bytes (format_words sizes))

-- "the finished desk with the new state and the intent cleared": document 01's RAM with a header of its state and no intent
abbrev pub finished : Volume → List ℕ
finished w = w.ram ++ header_bytes w.state no_intent

-- ---- what is read

-- word i
unfoldable pub header_word : List ℕ → ℕ → ℕ
header_word ram i = word (header ram) (i * 4)

-- the kind, 0 if no call is pending
abbrev pub kind_in : List ℕ → ℕ
kind_in ram = header_word ram 6

abbrev pub state_in : List ℕ → State
state_in ram =
    state_of (sizes_of (header_word ram 0) (header_word ram 1) (header_word ram 2) (header_word ram 3)) (header_word ram 4) (header_word ram 5)

-- the pending call
pub data Pending : Type 0 where
  nothing : Pending
  changing : Call → Pending
  formatting : Sizes → Pending
  unknown : Pending

-- by its kind and its first four arguments
abbrev pub pending_of : ℕ → ℕ → ℕ → ℕ → ℕ → Pending
pending_of kind a b c d =
    cond (eqb kind 0) nothing
    (cond (eqb kind 1) (changing (insert (record_of a b c d)))
    (cond (eqb kind 2) (changing (update (record_of a b c d)))
    (cond (eqb kind 3) (changing (delete a))
    (cond (eqb kind 4) (formatting (sizes_of a b c d)) unknown))))

unfoldable pub pending_in : List ℕ → Pending
pending_in ram = pending_of (kind_in ram) (header_word ram 7) (header_word ram 8) (header_word ram 9) (header_word ram 10)
