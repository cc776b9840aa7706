-- Document 01, "Examples": its starred lines, one table and one theorem.
use Rattle.std.specs.Prelude.{◌≡◌, refl, List, [], ◌∷◌, ◌++◌, ℕ, zero, suc, ◌+◌, ◌-◌, ◌*◌, ◌/◌, ◌%◌, length, get_or}
use Rattle.memory.specs.Bits.{num}
use Rattle.memory.specs.Power.{log2up}
use Rattle.layout.specs.Keys.{Key}
use Rattle.layout.specs.Geometry.{Geometry, sizes_of, geometry, blocks, index_block, record_capacity, sector_sizes, sector, page}
use Rattle.layout.specs.Geometry.{records_per_page, entries_per_page, filter_bits, block, deletions_per_page, deletions_per_filter}
use Rattle.layout.specs.Geometry.{fourth_size, side_blocks, full_sets, deletion_sets, ram_size, deletion_capacity}
use Rattle.layout.specs.Flash.{Planned, known, made, wipe, planned_from}
use Rattle.layout.specs.Hash.{Family, fnv_from, fnv1a}
use Rattle.layout.specs.Index.{Index, BitPlace, in_ska, in_l1, set_pages, set_width, set_place, l1_place, flush_sector, flush_and_build}
use Rattle.layout.specs.Items.{Ra, KA, Place, item_place}
use Rattle.layout.specs.Calls.{key_filters, insertion_plan}

-- a line: what the definitions give, and what the document says
pub record Line : Type 0 where
  pub is : ℕ
  pub says : ℕ

abbrev line : ℕ → ℕ → Line
line a b = record { is = a; says = b }

abbrev pub computed : List Line → List ℕ
computed [] = []
computed (r ∷ rs) = r.is ∷ computed rs

abbrev pub expected : List Line → List ℕ
expected [] = []
expected (r ∷ rs) = r.says ∷ expected rs

abbrev B : ℕ → ℕ → ℕ → ℕ
B S R D = blocks (geometry (sizes_of S R D 3))

-- the sectors that a plan programs, and the blocks that it erases, in order
abbrev pub sectors_of : List Planned → List ℕ
sectors_of [] = []
sectors_of (known s bytes ∷ ps) = s ∷ sectors_of ps
sectors_of (made s bytes ∷ ps) = s ∷ sectors_of ps
sectors_of (wipe b ∷ ps) = sectors_of ps

abbrev pub blocks_of : List Planned → List ℕ
blocks_of [] = []
blocks_of (known s bytes ∷ ps) = blocks_of ps
blocks_of (made s bytes ∷ ps) = blocks_of ps
blocks_of (wipe b ∷ ps) = b ∷ blocks_of ps

-- an index that starts at block 0
abbrev index : Index
index = record { first = 0; ska = 0 }

-- set 3 is made of two rounds; position 13 of filter 200 at S = 16
abbrev partition : BitPlace
partition = set_place 1 0 (set_width 1 2) 200 13

-- the third sector of flush 6 at S = 16: as programmed, and as read for filter 48 of the round, bit 2S
abbrev flushed : ℕ
flushed = get_or (sectors_of (planned_from (flush_sector 1 index 6 []) 0 4)) 2 0

abbrev flush_read : ℕ
flush_read = (l1_place 1 index 48 (2 * sector 1)).row / sector 1

-- record j of n at S = 16
abbrev record_at : ℕ → ℕ → Place
record_at n j = item_place 1 (Ra (geometry (sizes_of 16 1 1 3))) n j

-- S = 16, R = 16, n = 1023: its filters, and what one more insert does
abbrev g16 : Geometry
g16 = geometry (sizes_of 16 16 1 3)

abbrev filters : ℕ
filters = key_filters g16 1023

-- how many of the first k entries are in RAM, by their places
abbrev entries_in_ram : ℕ → ℕ
entries_in_ram zero = 0
entries_in_ram (suc j) = num (item_place 1 (KA g16) 1023 j).in_ram + entries_in_ram j

abbrev one_more : Family → Key → List ℕ → List Planned
one_more h key bytes = insertion_plan h g16 1023 key bytes []

-- the last line's insert is of any record, whatever the hash functions
abbrev pub examples : Family → Key → List ℕ → List Line
examples h key bytes =
    -- FNV-1a of nothing, and of the letter a
    line (fnv1a []) 0x811C9DC5
    ∷ line (fnv1a (97 ∷ [])) 0xE40C292C
    -- S = 16, D = 1: B, with the index over DA (document 02, §5), and the capacity at R = 1
    ∷ line (B 16 1 1) 21
    ∷ line (record_capacity (geometry (sizes_of 16 1 1 3))) 64
    ∷ line (B 16 32 1) 67
    ∷ line (B 16 63 1) 114
    ∷ line (B 16 64 1) 119
    -- S = 512, R = 2048, D = 1
    ∷ line (B 512 2048 1) 3715
    -- P for i = 2 to 6; set i has i - 1 rounds
    ∷ line (set_pages (2 - 1)) 16
    ∷ line (set_pages (3 - 1)) 32
    ∷ line (set_pages (4 - 1)) 64
    ∷ line (set_pages (5 - 1)) 64
    ∷ line (set_pages (6 - 1)) 128
    -- S = 16, set 3, position 13, filter 200: page 6, byte 50, bit 1
    ∷ line (partition.row / page 1) 6
    ∷ line (partition.at / 8) 50
    ∷ line (partition.at % 8) 1
    -- flush 6, i = 2: L1 page 9, sector 2
    ∷ line (flushed / 4) 9
    ∷ line (flushed % 4) 2
    ∷ line (flush_read / 4) 9
    ∷ line (flush_read % 4) 2
    -- S = 16, n = 5: record 3 at cell 48, record 4 at desk byte 0
    ∷ line (num (record_at 5 3).in_ram) 0
    ∷ line (record_at 5 3).at 48
    ∷ line (num (record_at 5 4).in_ram) 1
    ∷ line (record_at 5 4).at 0
    -- S = 16, R = 16, n = 1023: 15 flushes, 7 filters and 7 entries on the desk
    ∷ line (in_l1 filters) 15
    ∷ line (in_ska filters) 7
    ∷ line (entries_in_ram 1023) 7
    -- one more insert builds set 2: after its Ra page, its KA page and the flush's four sectors come 16 pages of side A; and erases L1
    ∷ line (length (sectors_of (one_more h key bytes))) (4 + 4 + 4 + 16 * 4)
    ∷ line (get_or (sectors_of (one_more h key bytes)) 12 0) ((index_block g16 + 1) * 64)
    ∷ line (length (blocks_of (one_more h key bytes))) 1
    ∷ line (get_or (blocks_of (one_more h key bytes)) 0 0) (index_block g16)
    ∷ []

pub examples_hold : (h : Family) (key : Key) (bytes : List ℕ) → computed (examples h key bytes) ≡ expected (examples h key bytes)
unfolding fnv_from log2up insertion_plan flush_and_build
examples_hold h key bytes = refl

-- ---- the table of sector sizes: "records a page (S/4)", "entries a page (S/2)", "filter bits m (4S)"; and every other size in bytes or
-- items that the documents name by S: a page 4S, a block 64S, deletions a page S and a filter S/2, bytes of a filter's fourth S/8, blocks of
-- a side S/4, the RAM 24S, capacities 4RS and 16DS; and floor(R/(4S)) and floor(D/S) places for full sets

abbrev sets : ℕ → ℕ → ℕ → List ℕ
sets S R D = let g : Geometry = geometry (sizes_of S R D 3) in full_sets g ∷ deletion_sets g ∷ []

abbrev units : ℕ → List ℕ
units S =
    let u : ℕ = S / 16 in
    sector u ∷ records_per_page u ∷ entries_per_page u ∷ filter_bits u ∷ page u ∷ block u ∷ deletions_per_page u ∷ deletions_per_filter u
    ∷ fourth_size u ∷ side_blocks u ∷ ram_size (geometry (sizes_of S 1 1 3))
    ∷ record_capacity (geometry (sizes_of S 3 5 3)) ∷ deletion_capacity (geometry (sizes_of S 3 5 3)) ∷ sets S (4 * S - 1) (S - 1) ++ (sets S (4 * S) S ++ sets S (8 * S - 1) (2 * S - 1))

abbrev row : ℕ → List ℕ
row S =
    S ∷ S / 4 ∷ S / 2 ∷ (4 * S) ∷ (4 * S) ∷ (64 * S) ∷ S ∷ S / 2 ∷ S / 8 ∷ S / 4 ∷ (24 * S) ∷ (4 * 3 * S) ∷ (16 * 5 * S) ∷ 0 ∷ 0 ∷ 1 ∷ 1 ∷ 1 ∷ 1 ∷ []

-- each of them for each sector size
abbrev each : (ℕ → List ℕ) → List ℕ → List (List ℕ)
each f [] = []
each f (S ∷ ss) = f S ∷ each f ss

pub rows : each units sector_sizes ≡ each row sector_sizes
rows = refl
