-- The refusals by name, with their numbers. Document 01, "Calls": the table; document 02, §1: 9, §8: 10.
use Rattle.std.specs.Prelude.{ℕ}

-- "S, R or D not allowed; n or d above capacity; d above n"; §2: k too
abbrev pub bad_state : ℕ
bad_state = 1

-- "cells under 64SB, marks under 64B or desk under 20S bytes"; §5: "the larger sums", 24S bytes of RAM; §8: 64 more
abbrev pub too_short : ℕ
too_short = 2

-- "insert of a live key"
abbrev pub present : ℕ
present = 3

-- "update or delete of a key not live"; document 02, request 4: "Refusal 4 remains for delete only"
abbrev pub absent : ℕ
absent = 4

-- "insert or update, n at capacity"
abbrev pub full : ℕ
full = 5

-- "update or delete, d at capacity"; not of an update of a key that is not live
abbrev pub deletions_full : ℕ
deletions_full = 6

-- "a sector to be programmed is not fresh"
abbrev pub not_fresh : ℕ
not_fresh = 7

-- "the search meets its key with a record number of n or more"
abbrev pub corrupt_entry : ℕ
corrupt_entry = 8

-- document 02, request 1: "9, header missing or row malformed"
abbrev pub malformed : ℕ
malformed = 9

-- request 8: "10, a call other than format and restart while the kind is not 0"
abbrev pub pending : ℕ
pending = 10
