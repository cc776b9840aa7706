-- A PBFilter index: bloom filters on their way through RAM, L1, partition sets and full sets. Document 01, "Filters".
-- An index knows its first block, its SKA page in RAM and how many filters it has, and nothing of keys.
use Rattle.std.specs.Prelude.{Bool, true, false, ◌&&◌, cond, List, [], ◌++◌, ℕ, zero, suc, ◌+◌, ◌-◌, ◌*◌, ◌/◌, ◌%◌, ◌^◌, get_or, ltb, eqb}
use Rattle.memory.specs.Lists.{pieces, tabulate}
use Rattle.memory.specs.Bits.{bit, pack}
use Rattle.memory.specs.Power.{log2up}
use Rattle.layout.specs.Geometry.{sectors_per_page, pages_per_block, sectors_per_block}
use Rattle.layout.specs.Geometry.{sector, page, block, filter_bits, fourth_size, side_blocks}
use Rattle.layout.specs.Flash.{Planned, known, made, wipe, planned_from}
use Rattle.layout.specs.Items.{zero_page}

pub record Index : Type 0 where
  pub first : ℕ
  pub ska : ℕ

-- ---- rows: every filter bit lies in a row of bits, that of filter g of the row at bit g * w + (place in its w bits)

-- a bit of a row that holds, of each filter below N, the w bits from `lo` on; "the rest is zero"
unfoldable pub row_bit : (ℕ → ℕ → Bool) → ℕ → ℕ → ℕ → ℕ → Bool
row_bit G N w lo q = ltb (q / w) N && G (q / w) (lo + q % w)

-- byte y of the row; "Bit 0 is the lowest bit of a byte"
unfoldable pub row_byte : (ℕ → ℕ → Bool) → ℕ → ℕ → ℕ → ℕ → ℕ
row_byte G N w lo y = pack 8 (λ b. row_bit G N w lo (y * 8 + b))

-- where a filter bit lies: in RAM or on flash, the row's first byte, the bit of the row
pub record BitPlace : Type 0 where
  pub in_ram : Bool
  pub row : ℕ
  pub at : ℕ

unfoldable pub bit_at : List ℕ → List ℕ → BitPlace → Bool
bit_at main ram p = bit (get_or (cond p.in_ram ram main) (p.row + p.at / 8) 0) (p.at % 8)

-- ---- the configuration that F filters make

-- "Eight filters fill the SKA page"; flushes 0 to 15 make a round
abbrev pub filters_per_flush : ℕ
filters_per_flush = 8

abbrev pub flushes_per_round : ℕ
flushes_per_round = 16

abbrev pub filters_per_round : ℕ
filters_per_round = flushes_per_round * filters_per_flush

-- pages of L1 for each fourth of the filters' bits, a sector of each flush
abbrev pub pages_per_fourth : ℕ
pages_per_fourth = flushes_per_round / sectors_per_page

abbrev pub in_ska : ℕ → ℕ
in_ska F = F % filters_per_flush

-- flushes in L1
abbrev pub in_l1 : ℕ → ℕ
in_l1 F = F / filters_per_flush % flushes_per_round

-- "P being 16 times the least power of two not below i - 1": pages of set number c + 1
abbrev pub set_pages : ℕ → ℕ
set_pages c = pages_per_block * 2 ^ log2up c

-- blocks of set number c + 1; none for c = 0: "Set 2 has no earlier set"
abbrev pub set_blocks : ℕ → ℕ
set_blocks zero = 0
set_blocks (suc c) = 2 ^ log2up (suc c)

module _ (u : ℕ) where
  -- rounds in the current set, of S/4; c rounds make set number c + 1
  abbrev pub in_set : ℕ → ℕ
  in_set F = F / filters_per_flush / flushes_per_round % side_blocks u

  -- full sets
  abbrev pub in_full : ℕ → ℕ
  in_full F = F / filters_per_flush / flushes_per_round / side_blocks u

  -- "w = m/P"
  abbrev pub set_width : ℕ → ℕ
  set_width c = filter_bits u / set_pages c

  -- filters of a full set
  abbrev pub full_filters : ℕ
  full_filters = filters_per_round * side_blocks u

  -- filter g of a set from block b on: "page p holds bits pw to pw+w-1"
  abbrev pub set_place : ℕ → ℕ → ℕ → ℕ → BitPlace
  set_place b w g x = record { in_ram = false; row = b * block u + x / w * page u; at = g * w + x % w }

  module _ (ix : Index) where
    -- "An even i goes to side A, an odd one to side B": first block of set number c + 1
    abbrev pub side_block : ℕ → ℕ
    side_block c = cond (eqb (c % 2) 1) (ix.first + 1) (ix.first + 1 + side_blocks u)

    -- first block of full set k
    abbrev pub full_block : ℕ → ℕ
    full_block k = ix.first + 1 + 2 * side_blocks u + k * side_blocks u

    -- ---- where bit x of a filter lies

    -- filter s of the SKA page: "sector i holds bits iS to iS+S-1 of each filter"
    abbrev pub ska_place : ℕ → ℕ → BitPlace
    ska_place s x = record { in_ram = true; row = ix.ska + x / sector u * sector u; at = s * sector u + x % sector u }

    -- filter f of the round in L1: "sector t mod 4 of page 4i + floor(t/4)" for flush t = f / 8, slot f mod 8
    abbrev pub l1_place : ℕ → ℕ → BitPlace
    l1_place f x =
        let t : ℕ = f / filters_per_flush in
        record {
          in_ram = false;
          row = ix.first * block u + ((pages_per_fourth * (x / sector u) + t / sectors_per_page) * page u + t % sectors_per_page * sector u);
          at = f % filters_per_flush * sector u + x % sector u;
        }

    -- filter f on flash, with z full sets and c rounds in the current one
    abbrev pub flash_place : ℕ → ℕ → ℕ → ℕ → BitPlace
    flash_place z c f x =
        cond (ltb f (z * full_filters)) (set_place (full_block (f / full_filters)) 1 (f % full_filters) x)
        (cond (ltb f (z * full_filters + filters_per_round * c)) (set_place (side_block c) (set_width c) (f - z * full_filters) x)
        (l1_place (f - (z * full_filters + filters_per_round * c)) x))

    -- filter f of F
    abbrev pub filter_place : ℕ → ℕ → ℕ → BitPlace
    filter_place F f x =
        cond (ltb f (F / filters_per_flush * filters_per_flush)) (flash_place (in_full F) (in_set F) f x)
        (ska_place (f - F / filters_per_flush * filters_per_flush) x)

    unfoldable pub filter_bit : List ℕ → List ℕ → ℕ → ℕ → ℕ → Bool
    filter_bit main ram F f x = bit_at main ram (filter_place F f x)

    -- ---- one more filter

    -- "a filter whole, over what the SKA page held there": S/8 bytes in each of the four sectors
    abbrev pub with_filter : ℕ → (ℕ → Bool) → List ℕ → List ℕ
    with_filter s new ram =
        pieces (fourth_size u) (sector u) (ix.ska + s * fourth_size u) sectors_per_page
        (λ i y. pack 8 (λ b. new (i * sector u + (y * 8 + b)))) ram

    -- sector i of flush t: sector t mod 4 of page 4i + floor(t/4), which is sector t + 16 i of L1
    abbrev pub flush_sector : ℕ → List ℕ → ℕ → Planned
    flush_sector t ram i =
        known (ix.first * sectors_per_block + t + i * flushes_per_round) (tabulate (sector u) (λ y. get_or ram (ix.ska + (i * sector u + y)) 0))

    -- byte y of the j-th sector of set number c + 2, "built out of L1 and set i-1" as their bits stand
    unfoldable pub set_byte : List ℕ → ℕ → ℕ → ℕ → ℕ → ℕ
    set_byte main z c j y =
        row_byte (λ g x. bit_at main [] (flash_place z c (z * full_filters + g) x)) (filters_per_round * (c + 1)) (set_width (c + 1))
        (j / sectors_per_page * set_width (c + 1)) (j % sectors_per_page * sector u + y)

    -- "Set S/4 + 1 is full at m pages and goes to the next sealed place instead"
    abbrev pub set_block : ℕ → ℕ → ℕ
    set_block z c = cond (eqb (c + 1) (side_blocks u)) (full_block z) (side_block (c + 1))

    -- sector j of the next set, with the bits as they stand when it is programmed
    abbrev pub set_sector : ℕ → ℕ → ℕ → Planned
    set_sector z c j = made (set_block z c * sectors_per_block + j) (λ main. tabulate (sector u) (set_byte main z c j))

    -- "set pages, each rising; last the erases, L1, then the blocks of set i-1"; last of an index: since §5 a call may have two
    abbrev pub build_plan : ℕ → ℕ → List Planned
    build_plan z c =
        planned_from (set_sector z c) 0 (set_pages (c + 1) * sectors_per_page)
        ++ (planned_from (λ j. wipe (ix.first + j)) 0 1 ++ planned_from (λ j. wipe (side_block c + j)) 0 (set_blocks c))

    -- flush t of a round, and after flush 15 the next set
    unfoldable pub flush_and_build : ℕ → List ℕ → List Planned
    flush_and_build F ram =
        planned_from (flush_sector (in_l1 F) ram) 0 sectors_per_page
        ++ cond (eqb (in_l1 F + 1) flushes_per_round) (build_plan (in_full F) (in_set F)) []

    -- what filter F plans, which the RAM holds already: "Eight filters fill the SKA page"
    abbrev pub filter_plan : ℕ → List ℕ → List Planned
    filter_plan F ram = cond (eqb (in_ska F + 1) filters_per_flush) (flush_and_build F ram) []

    -- and the RAM after it
    abbrev pub filter_ram : ℕ → List ℕ → List ℕ
    filter_ram F ram = cond (eqb (in_ska F + 1) filters_per_flush) (zero_page u ix.ska ram) ram
