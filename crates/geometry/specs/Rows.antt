-- The table of sector sizes as the contracts have it, and its rules, computed over all rows.
use Rattle.std.specs.Prelude.{ℕ, ◌*◌, ◌/◌, ◌^◌, ◌≤◌, ◌≡◌, Bool, true, ◌&&◌, List, [], ◌∷◌, leb, eqb, get_or, find, Option}
use Rattle.memory.specs.Power.{log2up}
use Rattle.geometry.specs.declared.table.SizeRow.{SizeRow}

abbrev pub row : ℕ → ℕ → ℕ → ℕ → SizeRow
row s n e m = record { sector = s; records = n; entries = e; bits = m }

-- document 01's table
abbrev pub rows : List SizeRow
rows =
    row 16 4 8 64
    ∷ row 32 8 16 128
    ∷ row 64 16 32 256
    ∷ row 128 32 64 512
    ∷ row 256 64 128 1024
    ∷ row 512 128 256 2048
    ∷ []

abbrev pub row_of : ℕ → SizeRow
row_of i = get_or rows i (row 0 0 0 0)

-- the row with this sector size
unfoldable pub row_with : ℕ → Option SizeRow
row_with S = find (λ r. eqb r.sector S) rows

-- ---- the table's rules: "records a page (S/4)", "entries a page (S/2)", "filter bits m (4S)"

abbrev pub records_of : ℕ → ℕ
records_of S = S / 4

abbrev pub entries_of : ℕ → ℕ
entries_of S = S / 2

abbrev pub bits_of : ℕ → ℕ
bits_of S = 4 * S

-- a sector is 16 times a power of two, and 512 bytes at most
abbrev pub power_of : ℕ → ℕ
power_of S = 16 * 2 ^ log2up (S / 16)

-- the row of a sector size, by the rules
abbrev pub row_for : ℕ → SizeRow
row_for S = row S (records_of S) (entries_of S) (bits_of S)

pub record Ruled (r : SizeRow) : Type 0 where
  pub records : r.records ≡ records_of r.sector
  pub entries : r.entries ≡ entries_of r.sector
  pub bits : r.bits ≡ bits_of r.sector
  pub power : r.sector ≡ power_of r.sector
  pub most : r.sector ≤ 512

abbrev pub test : SizeRow → Bool
test r =
    eqb r.records (records_of r.sector)
    && (eqb r.entries (entries_of r.sector)
    && (eqb r.bits (bits_of r.sector) && (eqb r.sector (power_of r.sector) && leb r.sector 512)))

-- a test passes at each row
abbrev pub every : (SizeRow → Bool) → List SizeRow → Bool
every f [] = true
every f (x ∷ xs) = f x && every f xs
