-- A byte of each of many rows: the fields of w bits that they hold, one after another for each field of the byte.
use Rattle.std.specs.Prelude.{◌≡◌, List, ℕ, ◌+◌, ◌*◌, ◌/◌, ◌%◌, ◌<◌, get_or}
use Rattle.memory.specs.Bits.{bit, pack}

-- r has byte a of eight rows `stride` bytes apart
abbrev pub Column : List ℕ → ℕ → ℕ → ℕ → Type 0
Column bytes a stride r = (i : ℕ) → i < 64 → bit r i ≡ bit (get_or bytes (a + i / 8 * stride) 0) (i % 8)

-- of the 8 / w fields of each byte the first ones, then the second ones: bit i of them is bit row_bit of byte row
abbrev pub row : ℕ → ℕ → ℕ
row w i = i % (8 * w) / w

abbrev pub row_bit : ℕ → ℕ → ℕ
row_bit w i = i / (8 * w) * w + i % w

abbrev pub Split : ℕ → ℕ → ℕ → Type 0
Split w x r = (i : ℕ) → i < 64 → bit r i ≡ bit x (row w i * 8 + row_bit w i)

-- byte k of a column: of rows k / 8 * 8 to k / 8 * 8 + 7
unfoldable pub column_byte : List ℕ → ℕ → ℕ → ℕ → ℕ → ℕ
column_byte bytes at stride w k =
    pack 8 (λ b. bit (get_or bytes (at + (k / 8 * 8 + row w (k % 8 * 8 + b)) * stride) 0) (row_bit w (k % 8 * 8 + b)))
