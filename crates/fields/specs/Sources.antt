-- Fields of bits in a row of bytes, and the bytes that they make when w bits of each are taken, one field after another.
use Rattle.std.specs.Prelude.{◌≡◌, ◌⊎◌, List, ℕ, ◌+◌, ◌*◌, ◌/◌, ◌%◌, ◌^◌, ◌≤◌, ◌<◌, get_or}
use Rattle.memory.specs.Bits.{bit_in, pack}
use Rattle.fields.specs.declared.Source.{Source}

-- byte y of a row that takes w bits of each field of a source, one field after another
unfoldable pub field_byte : List ℕ → Source → ℕ → ℕ → ℕ
field_byte bytes s w y = pack 8 (λ b. bit_in bytes s.at ((y * 8 + b) / w * s.step + (s.low + (y * 8 + b) % w)))

-- byte y of runs of n bytes, `stride` bytes from one to the next, the first from byte `at` on
abbrev pub run_byte : List ℕ → ℕ → ℕ → ℕ → ℕ → ℕ
run_byte bytes at stride n y = get_or bytes (at + (y / n * stride + y % n)) 0

-- ---- where the code may read

-- fields are whole multiples of w, a power of two, and so are their first bits
pub record Aligned (s : Source) (w : ℕ) : Type 0 where
  pub k : ℕ
  pub small : k < 8
  pub w_is : w ≡ 2 ^ k
  pub steps : ℕ
  pub step_is : s.step ≡ steps * w
  pub lows : ℕ
  pub low_is : s.low ≡ lows * w
  pub room : s.low + w ≤ s.step

-- fields of less than a byte are taken whole or by half
abbrev pub Near : Source → ℕ → Type 0
Near s w = (8 ≤ w) ⊎ ((s.step ≡ w) ⊎ (s.step ≡ 2 * w))

-- x is so many times n
abbrev pub Whole : ℕ → ℕ → Type 0
Whole n x = (m : ℕ) × (x ≡ m * n)

-- bytes of a field that has whole ones
abbrev pub Size : ℕ → Type 0
Size n = (n ≡ 1) ⊎ ((n ≡ 2) ⊎ ((n ≡ 4) ⊎ ((n ≡ 8) ⊎ (n ≡ 16))))

-- the last bit of byte y is there
pub record Reaches (len : ℕ) (s : Source) (w y : ℕ) : Type 0 where
  pub short : y < 2048
  pub few : (y * 8 + 7) / w * s.step + (s.low + w) ≤ 65536
  pub inside : s.at * 8 + ((y * 8 + 7) / w * s.step + (s.low + w)) ≤ len * 8

-- and that of each of n bytes from byte y on
abbrev pub Run : ℕ → Source → ℕ → ℕ → ℕ → Type 0
Run len s w y n = (i : ℕ) → i < n → Reaches len s w (y + i)

-- the same of runs of n bytes
abbrev pub Runs : ℕ → ℕ → ℕ → ℕ → ℕ → ℕ → Type 0
Runs len at stride n y k = (i : ℕ) → i < k → at + ((y + i) / n * stride + (y + i) % n) < len
