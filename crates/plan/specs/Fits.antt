-- Where segments fit, by the lengths of the main area, the spare area and the RAM.
use Rattle.std.specs.Prelude.{◌≡◌, ℕ, ◌+◌, ◌-◌, ◌*◌, ◌≤◌, ◌<◌}
use Rattle.std.proofs.Common.{mul-le-mul_right, arith}
use Rattle.layout.specs.Geometry.{sectors_per_page, sectors_per_block, sector, page, block, side_blocks}
use Rattle.layout.specs.Index.{flushes_per_round, full_block, set_pages, set_block}
use Rattle.geometry.specs.Indexes.{index_of}
use Rattle.laws.specs.Units.{UnitSound}
use Rattle.plan.specs.declared.Page.{Page}
use Rattle.plan.specs.declared.Flush.{Flush}
use Rattle.plan.specs.declared.Segment.{Segment}
use Rattle.geometry.specs.declared.sets.Set.{Set}

pub record PageFits (u : ℕ) (p : Page) (main spare ram : ℕ) : Type 0 where
  pub small : u ≤ 32
  pub in_main : (p.sector + sectors_per_page) * sector u ≤ main
  pub in_spare : p.sector + sectors_per_page ≤ spare
  pub in_ram_lem : p.at + page u ≤ ram

-- sectors from the first of a flush to its last
abbrev pub flush_reach : ℕ
flush_reach = (sectors_per_page - 1) * flushes_per_round + 1

pub record FlushFits (u : ℕ) (f : Flush) (fourths main spare ram : ℕ) : Type 0 where
  pub some : 0 < u
  pub small : u ≤ 32
  pub in_sector : f.piece ≤ sector u
  pub in_fourths : sectors_per_page * f.piece ≤ fourths
  pub in_main : (f.sector + flush_reach) * sector u ≤ main
  pub in_spare : f.sector + flush_reach ≤ spare
  pub in_ram_lem : f.at + page u ≤ ram

-- the first n sectors of the next set from sector s on, and what they are made of
pub record NextFits (u : ℕ) (set : Set) (s n main spare : ℕ) : Type 0 where
  pub unit : UnitSound u
  pub rounds : set.rounds < side_blocks u
  pub near : set.index.first ≤ 20000
  pub sides : full_block u (index_of set.index) 0 * block u ≤ main
  pub sectors : n ≤ set_pages (set.rounds + 1) * sectors_per_page
  pub place : 0 < n → s ≡ set_block u (index_of set.index) set.full_sets set.rounds * sectors_per_block
  pub in_main : (s + n) * sector u ≤ main
  pub in_spare : s + n ≤ spare

pub record WipeFits (u : ℕ) (b : Segment) (main spare : ℕ) : Type 0 where
  pub small : u ≤ 32
  pub in_main : (b.first + b.count) * block u ≤ main
  pub in_spare : (b.first + b.count) * sectors_per_block ≤ spare

-- fewer sectors of the next set
pub fewer : (u : ℕ) (set : Set) (s n main spare : ℕ) → NextFits u set s n main spare → (k : ℕ) → k ≤ n → NextFits u set s k main spare
fewer u set s n main spare F k h =
    let l : s + k ≤ s + n = omega arith in
    record {
      unit = F.unit;
      rounds = F.rounds;
      near = F.near;
      sides = F.sides;
      sectors = omega (arith, h, F.sectors);
      place = λ l. F.place (omega (arith, h));
      in_main = omega (arith, mul-le-mul_right (sector u) l, F.in_main);
      in_spare = omega (arith, h, F.in_spare);
    }
