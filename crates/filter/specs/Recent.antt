-- The filters since the last round: L1's and, behind them, those of the SKA page. All positions of a key lie in one row of each.
use Rattle.std.specs.Prelude.{◌≡◌, Bool, cond, List, ℕ, ◌+◌, ◌-◌, ◌*◌, ◌/◌, ◌%◌, ◌^◌, ◌≤◌, ◌<◌, ltb, eqb, length, get_or}
use Rattle.memory.specs.Bits.{bit}
use Rattle.memory.specs.Ranges.{any}
use Rattle.kernels.specs.Blocks.{OpenBlock}
use Rattle.filter.specs.Groups.{row_at, level_has}
use Rattle.filter.specs.declared.groups.Block.{Block}
use Rattle.filter.specs.declared.groups.Recent.{Recent}

-- m has, among w bits, those of the first `count` positions
abbrev pub MaskOf : List ℕ → ℕ → ℕ → ℕ → Type 0
MaskOf ps count w m = (b : ℕ) → b < 64 → bit m b ≡ any (λ i. eqb b (get_or ps i 0 % w)) count

-- these lie in one row, if a filter has 2 ^ e bits in each
abbrev pub OneRow : List ℕ → ℕ → ℕ → Type 0
OneRow ps count e = (i : ℕ) → i < count → get_or ps i 0 / 2 ^ e ≡ get_or ps 0 0 / 2 ^ e

-- has filter f all of the positions, in L1 or in the SKA page
abbrev pub recent_has : Recent → List ℕ → List ℕ → List ℕ → ℕ → Bool
recent_has rs main ram ps f =
    cond (ltb f rs.ska.start) (level_has rs.l1 main ps (f - rs.l1.start)) (level_has rs.ska ram ps (f - rs.ska.start))

-- L1 has whole flushes, fewer than a round, the SKA page what is behind them; the rows of the positions lie within the bytes
pub record RecentIn (rs : Recent) (ps : List ℕ) (main ram : ℕ) : Type 0 where
  pub some : 3 ≤ rs.l1.exponent
  pub narrow : rs.l1.exponent < 10
  pub same : rs.ska.exponent ≡ rs.l1.exponent
  pub order : rs.l1.start ≤ rs.ska.start
  pub flushes : (rs.ska.start - rs.l1.start) % 8 ≡ 0
  pub round : rs.ska.start < rs.l1.start + 128
  pub start_lt : rs.l1.start < rs.below
  pub below_le : rs.below ≤ rs.ska.start + 8
  pub on_flash_lem : (i : ℕ) → i < length ps → row_at rs.l1 (get_or ps i 0) + 16 * 2 ^ rs.l1.exponent ≤ main
  pub in_ram_lem : (i : ℕ) → i < length ps → row_at rs.ska (get_or ps i 0) + 2 ^ rs.l1.exponent ≤ ram

-- the block has filters up to `below` - 1, from an even one on, and shows which of them have all of the positions
pub record RecentOf (rs : Recent) (main ram : List ℕ) (ps : List ℕ) (b : Block) : Type 0 where
  pub start_le : rs.l1.start ≤ b.start
  pub start_lt : b.start < rs.below
  pub few : rs.below ≤ b.start + 512
  pub pairs : (b.start - rs.l1.start) % 2 ≡ 0
  pub shown : OpenBlock (recent_has rs main ram ps) b.start (rs.below - b.start) b.words
