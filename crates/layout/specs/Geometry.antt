-- Sizes, areas and capacities. Document 01, "The chip and the desk"; document 02, §2: the number of hash functions, §5: a second index.
-- Every allowed sector size is a multiple of 16, so all sizes are counted in units of a sixteenth of a sector:
-- with S = 16 u, the table's S/4, S/2 and 4S are 4 u, 8 u and 64 u (`Examples.rows` shows it for each row).
use Rattle.std.specs.Prelude.{Bool, ◌&&◌, List, [], ◌∷◌, ℕ, ◌+◌, ◌*◌, ◌/◌, leb}
use Rattle.memory.specs.Ranges.{memb}

-- what a format names: S, R, D, k
pub record Sizes : Type 0 where
  pub sector_size : ℕ
  pub ra_blocks : ℕ
  pub da_blocks : ℕ
  pub hash_count : ℕ

abbrev pub sizes_of : ℕ → ℕ → ℕ → ℕ → Sizes
sizes_of S R D k = record { sector_size = S; ra_blocks = R; da_blocks = D; hash_count = k }

-- k where a format does not name it: "Volumes and replays of document 01 have k = 3"
abbrev pub default_hash_count : ℕ
default_hash_count = 3

-- "The state is S, R, D, n, d"; §2: "k joins S, R and D in the state"
pub record State : Type 0 where
  pub sizes : Sizes
  pub records : ℕ
  pub deletions : ℕ

abbrev pub state_of : Sizes → ℕ → ℕ → State
state_of sizes n d = record { sizes = sizes; records = n; deletions = d }

-- a volume's shape: u = S/16, R, D and k
pub record Geometry : Type 0 where
  pub u : ℕ
  pub R : ℕ
  pub D : ℕ
  pub k : ℕ

abbrev pub unit_of : Sizes → ℕ
unit_of sizes = sizes.sector_size / 16

abbrev pub geometry : Sizes → Geometry
geometry sizes = record { u = unit_of sizes; R = sizes.ra_blocks; D = sizes.da_blocks; k = sizes.hash_count }

-- "S takes one row of this table; R and D are 1 to 4096"
abbrev pub sector_sizes : List ℕ
sector_sizes = 16 ∷ 32 ∷ 64 ∷ 128 ∷ 256 ∷ 512 ∷ []

abbrev pub blocks_allowed : ℕ → Bool
blocks_allowed b = leb 1 b && leb b 4096

-- §2: "k, 1 to 8 hash functions beside h0"
abbrev pub hashes_allowed : ℕ → Bool
hashes_allowed k = leb 1 k && leb k 8

-- "S, R or D not allowed"; §2: "A k outside the range falls under refusal 1"
unfoldable pub allowed : Sizes → Bool
allowed sizes =
    memb sizes.sector_size sector_sizes
    && (blocks_allowed sizes.ra_blocks && (blocks_allowed sizes.da_blocks && hashes_allowed sizes.hash_count))

-- ---- sizes: "A page is always four sectors, a block always sixteen pages"

abbrev pub sectors_per_page : ℕ
sectors_per_page = 4

abbrev pub pages_per_block : ℕ
pages_per_block = 16

abbrev pub sectors_per_block : ℕ
sectors_per_block = pages_per_block * sectors_per_page

-- in bytes

module _ (u : ℕ) where
  abbrev pub sector : ℕ
  sector = 16 * u

  abbrev pub page : ℕ
  page = 64 * u

  abbrev pub block : ℕ
  block = 1024 * u

  -- the table: records, entries, deletions a page, bits of a filter
  abbrev pub records_per_page : ℕ
  records_per_page = 4 * u

  abbrev pub entries_per_page : ℕ
  entries_per_page = 8 * u

  abbrev pub deletions_per_page : ℕ
  deletions_per_page = 16 * u

  abbrev pub filter_bits : ℕ
  filter_bits = 64 * u

  -- §5: a filter over DA is of half a page's numbers
  abbrev pub deletions_per_filter : ℕ
  deletions_per_filter = 8 * u

  -- bytes of a fourth of a filter: S/8
  abbrev pub fourth_size : ℕ
  fourth_size = 2 * u

  -- blocks of a side, and of a full partition set: S/4
  abbrev pub side_blocks : ℕ
  side_blocks = 4 * u

  -- blocks of an index with `places` for full sets: L1, both sides, the places
  abbrev pub index_blocks : ℕ → ℕ
  index_blocks places = 1 + 2 * side_blocks + places * side_blocks

-- ---- areas in order; each starts where the one before it ends

module _ (g : Geometry) where
  abbrev pub ra_block : ℕ
  ra_block = 0

  abbrev pub ka_block : ℕ
  ka_block = ra_block + g.R

  abbrev pub ka_blocks : ℕ
  ka_blocks = (g.R + 1) / 2

  abbrev pub da_block : ℕ
  da_block = ka_block + ka_blocks

  -- L1, both sides and the full sets are the index over KA, from its first block on
  abbrev pub index_block : ℕ
  index_block = da_block + g.D

  -- places for full ("sealed") sets: floor(R / (4S))
  abbrev pub full_sets : ℕ
  full_sets = g.R / filter_bits g.u

  -- the index over DA: "B gains 1 + S/2 + floor(D/S) × S/4 blocks after the present ones"
  abbrev pub deletion_index_block : ℕ
  deletion_index_block = index_block + index_blocks g.u full_sets

  -- its places for full sets: floor(D/S)
  abbrev pub deletion_sets : ℕ
  deletion_sets = g.D / sector g.u

  -- B
  abbrev pub blocks : ℕ
  blocks = deletion_index_block + index_blocks g.u deletion_sets

  -- "Record capacity is 4RS, deletion capacity 16DS"
  abbrev pub record_capacity : ℕ
  record_capacity = 4 * g.R * sector g.u

  abbrev pub deletion_capacity : ℕ
  deletion_capacity = 16 * g.D * sector g.u

  -- bytes of data ("cells"), of spare ("marks", one a sector), of RAM ("desk"), a page more since §5
  abbrev pub main_size : ℕ
  main_size = blocks * block g.u

  abbrev pub spare_size : ℕ
  spare_size = blocks * sectors_per_block

  abbrev pub ram_size : ℕ
  ram_size = 6 * page g.u

-- ---- the RAM's pages: RA, KA, DA, SKA and work, in that order, and the SKA page of the index over DA: "a page of 4S bytes after the work
-- page"

module _ (u : ℕ) where
  abbrev pub ra_ram : ℕ
  ra_ram = 0

  abbrev pub ka_ram : ℕ
  ka_ram = page u

  abbrev pub da_ram : ℕ
  da_ram = 2 * page u

  abbrev pub ska_ram : ℕ
  ska_ram = 3 * page u

  abbrev pub work_ram : ℕ
  work_ram = 4 * page u

  abbrev pub deletion_ska_ram : ℕ
  deletion_ska_ram = 5 * page u
