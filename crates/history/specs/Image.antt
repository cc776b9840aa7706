-- The image of a history: every byte of main area, spare area and RAM by its address, with no operation replayed. Demand 2.
use Rattle.std.specs.Prelude.{Bool, cond, ◌≡◌, List, ℕ, ◌+◌, ◌-◌, ◌*◌, ◌/◌, ◌%◌, ◌<◌, length, get_or, ltb, eqb}
use Rattle.layout.specs.Geometry.{Geometry, sectors_per_page, sectors_per_block, sector, page, block, side_blocks, entries_per_page}
use Rattle.layout.specs.Geometry.{deletions_per_filter}
use Rattle.layout.specs.Geometry.{ka_block, da_block, index_block, deletion_index_block, ka_ram, da_ram, ska_ram, work_ram, deletion_ska_ram}
use Rattle.layout.specs.Hash.{Family}
use Rattle.layout.specs.Items.{Area, Ra, KA, DA, Record, no_record, record_bytes, entry_bytes, deletion_bytes}
use Rattle.layout.specs.Index.{filters_per_flush, flushes_per_round, filters_per_round}
use Rattle.layout.specs.Index.{Index, row_byte, in_ska, in_l1, in_set, in_full, set_width, set_blocks, full_filters, side_block, full_block}
use Rattle.layout.specs.Calls.{key_positions, number_positions, key_filters, deletion_filters, filter_of}

-- ---- the history of accepted calls

-- the records accepted and the record numbers deleted, each oldest first
pub record History : Type 0 where
  pub records : List Record
  pub deleted : List ℕ

abbrev pub records_in : History → ℕ
records_in H = length H.records

abbrev pub deletions_in : History → ℕ
deletions_in H = length H.deleted

-- its filters, one of each full KA page
abbrev pub filters_in : Geometry → History → ℕ
filters_in g H = key_filters g (records_in H)

-- and two of each full DA page
abbrev pub deletion_filters_in : Geometry → History → ℕ
deletion_filters_in g H = deletion_filters g (deletions_in H)

abbrev pub record_at : History → ℕ → Record
record_at H j = get_or H.records j no_record

-- ---- Ra, KA and DA: byte b of item j

abbrev pub ra_item : History → ℕ → ℕ → ℕ
ra_item H j b = get_or (record_bytes (record_at H j)) b 0

abbrev pub ka_item : History → ℕ → ℕ → ℕ
ka_item H j b = get_or (entry_bytes (record_at H j).key j) b 0

abbrev pub da_item : History → ℕ → ℕ → ℕ
da_item H j b = get_or (deletion_bytes (get_or H.deleted j 0)) b 0

-- byte i of an area of n items on flash: full pages, then erased; item j has byte b at f j b
abbrev pub area_byte : Area → (ℕ → ℕ → ℕ) → ℕ → ℕ → ℕ
area_byte a f n i = cond (ltb i (n / a.per_page * (a.per_page * a.size))) (f (i / a.size) (i % a.size)) 255

-- byte i of its RAM page: the items after the full pages, then zeros
abbrev pub area_ram_byte : Area → (ℕ → ℕ → ℕ) → ℕ → ℕ → ℕ
area_ram_byte a f n i =
    cond (ltb i (n % a.per_page * a.size))
    (f ((n / a.per_page * (a.per_page * a.size) + i) / a.size) ((n / a.per_page * (a.per_page * a.size) + i) % a.size)) 0

-- mark x of the area: the sectors of full pages are programmed
abbrev pub area_spare_byte : Area → ℕ → ℕ → ℕ
area_spare_byte a n x = cond (ltb x (n / a.per_page * sectors_per_page)) 0 255

-- ---- an index: F f x is bit x of filter f

module _ (u : ℕ) where
  -- byte i of the SKA page with s filters after `flushes` flushes: a row of S bits a filter in each sector
  abbrev pub ska_byte : (ℕ → ℕ → Bool) → ℕ → ℕ → ℕ → ℕ
  ska_byte F flushes s i = row_byte (λ g. F (filters_per_flush * flushes + g)) s (sector u) (i / sector u * sector u) (i % sector u)

  -- byte i of L1 with t flushes, the round's first filter being `base`: sector x is piece x / 16 of flush x mod 16
  abbrev pub l1_byte : (ℕ → ℕ → Bool) → ℕ → ℕ → ℕ → ℕ
  l1_byte F base t i =
      cond (ltb (i / sector u % flushes_per_round) t)
      (row_byte (λ g. F (base + filters_per_flush * (i / sector u % flushes_per_round) + g)) filters_per_flush (sector u)
      (i / sector u / flushes_per_round * sector u) (i % sector u)) 255

  -- byte i of a set of N filters from `base` on, w bits of each to a page
  abbrev pub partition_byte : (ℕ → ℕ → Bool) → ℕ → ℕ → ℕ → ℕ → ℕ
  partition_byte F base N w i = row_byte (λ g. F (base + g)) N w (i / page u * w) (i % page u)

  -- byte i of the side that holds the set of c rounds; past its pages it is erased
  abbrev pub side_byte : (ℕ → ℕ → Bool) → ℕ → ℕ → ℕ → ℕ
  side_byte F base c i = cond (ltb i (set_blocks c * block u)) (partition_byte F base (filters_per_round * c) (set_width u c) i) 255

  -- byte i of place k for full sets, of which z are taken
  abbrev pub full_byte : (ℕ → ℕ → Bool) → ℕ → ℕ → ℕ → ℕ
  full_byte F z k i = cond (ltb k z) (partition_byte F (k * full_filters u) (full_filters u) 1 i) 255

  -- byte i of the blocks of an index of N filters: L1, side A, side B, the places for full sets;
  -- set number c + 1 is on side A if that is even
  abbrev pub index_byte : (ℕ → ℕ → Bool) → ℕ → ℕ → ℕ
  index_byte F N i =
      let z : ℕ = in_full u N in
      let c : ℕ = in_set u N in
      cond (ltb i (block u)) (l1_byte F (z * full_filters u + filters_per_round * c) (in_l1 N) i)
      (cond (ltb i ((1 + side_blocks u) * block u))
      (cond (eqb (c % 2) 1) (side_byte F (z * full_filters u) c (i - block u)) 255)
      (cond (ltb i ((1 + 2 * side_blocks u) * block u))
      (cond (eqb (c % 2) 1) 255 (side_byte F (z * full_filters u) c (i - (1 + side_blocks u) * block u)))
      (full_byte F z ((i - (1 + 2 * side_blocks u) * block u) / (side_blocks u * block u))
      ((i - (1 + 2 * side_blocks u) * block u) % (side_blocks u * block u)))))

  -- mark x of its sectors
  abbrev pub index_spare_byte : ℕ → ℕ → ℕ
  index_spare_byte N x =
      let c : ℕ = in_set u N in
      cond (ltb x sectors_per_block) (cond (ltb (x % flushes_per_round) (in_l1 N)) 0 255)
      (cond (ltb x ((1 + side_blocks u) * sectors_per_block))
      (cond (eqb (c % 2) 1) (cond (ltb (x - sectors_per_block) (set_blocks c * sectors_per_block)) 0 255) 255)
      (cond (ltb x ((1 + 2 * side_blocks u) * sectors_per_block))
      (cond (eqb (c % 2) 1) 255 (cond (ltb (x - (1 + side_blocks u) * sectors_per_block) (set_blocks c * sectors_per_block)) 0 255))
      (cond (ltb ((x - (1 + 2 * side_blocks u) * sectors_per_block) / (side_blocks u * sectors_per_block)) (in_full u N)) 0 255)))

  module _ (ix : Index) (Z : ℕ) where
    -- z full sets of Z places, c rounds in the current set, t flushes in L1
    pub record IndexMain (F : ℕ → ℕ → Bool) (z c t : ℕ) (main : List ℕ) : Type 0 where
      pub l1 : (i : ℕ) → i < block u → get_or main (ix.first * block u + i) 0 ≡ l1_byte F (z * full_filters u + filters_per_round * c) t i
      pub here : (i : ℕ) → i < side_blocks u * block u → get_or main (side_block u ix c * block u + i) 0 ≡ side_byte F (z * full_filters u) c i
      pub there : (i : ℕ) → i < side_blocks u * block u → get_or main (side_block u ix (c + 1) * block u + i) 0 ≡ 255
      pub full : (k i : ℕ) → k < Z → i < side_blocks u * block u → get_or main (full_block u ix k * block u + i) 0 ≡ full_byte F z k i

    pub record IndexSpare (z c t : ℕ) (spare : List ℕ) : Type 0 where
      pub l1 : (x : ℕ) → x < sectors_per_block → get_or spare (ix.first * sectors_per_block + x) 0 ≡ cond (ltb (x % flushes_per_round) t) 0 255
      pub here : (x : ℕ) → x < side_blocks u * sectors_per_block →
          get_or spare (side_block u ix c * sectors_per_block + x) 0 ≡ cond (ltb x (set_blocks c * sectors_per_block)) 0 255
      pub there : (x : ℕ) → x < side_blocks u * sectors_per_block → get_or spare (side_block u ix (c + 1) * sectors_per_block + x) 0 ≡ 255
      pub full : (k x : ℕ) → k < Z → x < side_blocks u * sectors_per_block →
          get_or spare (full_block u ix k * sectors_per_block + x) 0 ≡ cond (ltb k z) 0 255

    -- an index of N filters in main area, spare area and RAM
    pub record IndexIs (F : ℕ → ℕ → Bool) (N : ℕ) (main spare ram : List ℕ) : Type 0 where
      pub on_main_lem : IndexMain F (in_full u N) (in_set u N) (in_l1 N) main
      pub on_spare : IndexSpare (in_full u N) (in_set u N) (in_l1 N) spare
      pub on_ram_lem : (i : ℕ) → i < page u → get_or ram (ix.ska + i) 0 ≡ ska_byte F (N / filters_per_flush) (in_ska N) i

-- ---- an area in main area, spare area and RAM; it has `blocks` blocks

pub record AreaIs (u : ℕ) (a : Area) (blocks : ℕ) (f : ℕ → ℕ → ℕ) (n : ℕ) (main spare ram : List ℕ) : Type 0 where
  pub on_main_lem : (i : ℕ) → i < blocks * block u → get_or main (a.first * block u + i) 0 ≡ area_byte a f n i
  pub on_spare : (x : ℕ) → x < blocks * sectors_per_block → get_or spare (a.first * sectors_per_block + x) 0 ≡ area_spare_byte a n x
  pub on_ram_lem : (i : ℕ) → i < page u → get_or ram (a.ram + i) 0 ≡ area_ram_byte a f n i

module _ (h : Family) (g : Geometry) where
  -- bit x of the filter of KA page f: some key of the page has x among its positions
  unfoldable pub key_filter : History → ℕ → ℕ → Bool
  key_filter H f = filter_of (λ i. key_positions h g (record_at H (f * entries_per_page g.u + i)).key) (entries_per_page g.u)

  -- and of filter f over DA: some number of that half page has
  unfoldable pub deletion_filter : History → ℕ → ℕ → Bool
  deletion_filter H f =
      filter_of (λ i. number_positions h g (get_or H.deleted (f * deletions_per_filter g.u + i) 0)) (deletions_per_filter g.u)

-- ---- every byte by its address

module _ (h : Family) (g : Geometry) (H : History) where
  abbrev F : ℕ → ℕ → Bool
  F = key_filter h g H

  abbrev G : ℕ → ℕ → Bool
  G = deletion_filter h g H

  -- byte a of the main area, below `main_size g`
  unfoldable pub main_image : ℕ → ℕ
  main_image a =
      cond (ltb a (ka_block g * block g.u)) (area_byte (Ra g) (ra_item H) (records_in H) a)
      (cond (ltb a (da_block g * block g.u)) (area_byte (KA g) (ka_item H) (records_in H) (a - ka_block g * block g.u))
      (cond (ltb a (index_block g * block g.u)) (area_byte (DA g) (da_item H) (deletions_in H) (a - da_block g * block g.u))
      (cond (ltb a (deletion_index_block g * block g.u)) (index_byte g.u F (filters_in g H) (a - index_block g * block g.u))
      (index_byte g.u G (deletion_filters_in g H) (a - deletion_index_block g * block g.u)))))

  -- byte a of the RAM, below `ram_size g`: the pages Ra, KA, DA, SKA, work and SKA of the index over DA
  unfoldable pub ram_image : ℕ → ℕ
  ram_image a =
      cond (ltb a (ka_ram g.u)) (area_ram_byte (Ra g) (ra_item H) (records_in H) a)
      (cond (ltb a (da_ram g.u)) (area_ram_byte (KA g) (ka_item H) (records_in H) (a - ka_ram g.u))
      (cond (ltb a (ska_ram g.u)) (area_ram_byte (DA g) (da_item H) (deletions_in H) (a - da_ram g.u))
      (cond (ltb a (work_ram g.u))
      (ska_byte g.u F (filters_in g H / filters_per_flush) (in_ska (filters_in g H)) (a - ska_ram g.u))
      (cond (ltb a (deletion_ska_ram g.u)) 0
      (ska_byte g.u G (deletion_filters_in g H / filters_per_flush) (in_ska (deletion_filters_in g H)) (a - deletion_ska_ram g.u))))))

-- mark x of the spare area, below `spare_size g`
unfoldable pub spare_image : Geometry → History → ℕ → ℕ
spare_image g H x =
    cond (ltb x (ka_block g * sectors_per_block)) (area_spare_byte (Ra g) (records_in H) x)
    (cond (ltb x (da_block g * sectors_per_block)) (area_spare_byte (KA g) (records_in H) (x - ka_block g * sectors_per_block))
    (cond (ltb x (index_block g * sectors_per_block)) (area_spare_byte (DA g) (deletions_in H) (x - da_block g * sectors_per_block))
    (cond (ltb x (deletion_index_block g * sectors_per_block)) (index_spare_byte g.u (filters_in g H) (x - index_block g * sectors_per_block))
    (index_spare_byte g.u (deletion_filters_in g H) (x - deletion_index_block g * sectors_per_block)))))
