-- Blocks of filters: up to 512 of a level or of an index, and which of them have all bits of some positions.
use Rattle.std.specs.Prelude.{◌≡◌, List, ℕ, ◌+◌, ◌-◌, ◌*◌, ◌/◌, ◌%◌, ◌^◌, ◌≤◌, ◌<◌, length, get_or}
use Rattle.memory.specs.Ranges.{all_of}
use Rattle.layout.specs.Index.{Index, filter_bit}
use Rattle.kernels.specs.Blocks.{OpenBlock}
use Rattle.filter.specs.Groups.{row_at, level_has}
use Rattle.filter.specs.declared.groups.Block.{Block}
use Rattle.filter.specs.declared.groups.Level.{Level}

-- the row of position x of n filters of whole bytes lies within `len` bytes, eight filters at a time
pub record EightsIn (l : Level) (x n len : ℕ) : Type 0 where
  pub some : 3 ≤ l.exponent
  pub few : l.exponent < 10
  pub reach : row_at l x + (n + 7) / 8 * 2 ^ l.exponent ≤ len

-- the same of all of the positions
abbrev pub EightsOf : Level → List ℕ → ℕ → ℕ → Type 0
EightsOf l ps n len = (i : ℕ) → i < length ps → EightsIn l (get_or ps i 0) n len

-- that of n filters lies within them in whole blocks of 64 bytes
pub record BlocksIn (l : Level) (x n len : ℕ) : Type 0 where
  pub reach : row_at l x + (n * 2 ^ l.exponent + 511) / 512 * 64 ≤ len
  pub small : n * 2 ^ l.exponent < 2 ^ 60

-- the block has the level's filters from its start to `below` - 1, 512 at the most and from an even one of the level on, and shows which of
-- them have all of the positions
pub record BlockOf (l : Level) (bytes : List ℕ) (below : ℕ) (ps : List ℕ) (b : Block) : Type 0 where
  pub start_le : l.start ≤ b.start
  pub start_lt : b.start < below
  pub few : below ≤ b.start + 512
  pub pairs : (b.start - l.start) % 2 ≡ 0
  pub shown : OpenBlock (λ f. level_has l bytes ps (f - l.start)) b.start (below - b.start) b.words

-- the same of an index with F filters, every level of which starts at an even one
pub record BlockAt (u : ℕ) (ix : Index) (main ram : List ℕ) (F below : ℕ) (ps : List ℕ) (b : Block) : Type 0 where
  pub start_lt : b.start < below
  pub few : below ≤ b.start + 512
  pub even : b.start % 2 ≡ 0
  pub shown : OpenBlock (λ f. all_of (filter_bit u ix main ram F f) ps) b.start (below - b.start) b.words
