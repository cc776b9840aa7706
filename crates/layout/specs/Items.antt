-- Areas that grow at their end: records, entries and deletions. Document 01, "Records, entries, deletions".
use Rattle.std.specs.Prelude.{Bool, true, false, cond, List, [], ◌∷◌, ℕ, ◌+◌, ◌*◌, ◌/◌, ◌%◌, get_or, replicate, ltb, eqb}
use Rattle.memory.specs.Lists.{write, part, tabulate}
use Rattle.memory.specs.Words.{word, words_bytes}
use Rattle.layout.specs.Keys.{word_size, Key}
use Rattle.layout.specs.Geometry.{Geometry, sectors_per_page, sectors_per_block, sector, page, block}
use Rattle.layout.specs.Geometry.{records_per_page, entries_per_page, deletions_per_page, ra_block, ka_block, da_block, ra_ram, ka_ram, da_ram}
use Rattle.layout.specs.Flash.{Planned, known, planned_from}

-- items of `size` bytes, `per_page` to a page, from block `first` on; the page that is not full yet is in RAM from byte `ram` on
pub record Area : Type 0 where
  pub size : ℕ
  pub per_page : ℕ
  pub first : ℕ
  pub ram : ℕ

-- "A record is 16 bytes", "a KA entry of 8 bytes", "the 4-byte record number"
abbrev pub record_size : ℕ
record_size = 16

abbrev pub entry_size : ℕ
entry_size = 8

abbrev pub deletion_size : ℕ
deletion_size = 4

module _ (g : Geometry) where
  abbrev pub Ra : Area
  Ra = record { size = record_size; per_page = records_per_page g.u; first = ra_block g; ram = ra_ram g.u }

  abbrev pub KA : Area
  KA = record { size = entry_size; per_page = entries_per_page g.u; first = ka_block g; ram = ka_ram g.u }

  abbrev pub DA : Area
  DA = record { size = deletion_size; per_page = deletions_per_page g.u; first = da_block g; ram = da_ram g.u }

-- "level key, moves, goal, free word"
pub record Record : Type 0 where
  pub key : Key
  pub moves : ℕ
  pub goal : ℕ
  pub free : ℕ

abbrev pub record_of : Key → ℕ → ℕ → ℕ → Record
record_of key moves goal free = record { key = key; moves = moves; goal = goal; free = free }

-- in the place of a record that is not there
abbrev pub no_record : Record
no_record = record_of 0 0 0 0

-- "4 bytes each"; "key, then j"; the record number
unfoldable pub record_bytes : Record → List ℕ
record_bytes r = words_bytes (r.key ∷ r.moves ∷ r.goal ∷ r.free ∷ [])

unfoldable pub entry_bytes : Key → ℕ → List ℕ
entry_bytes key j = words_bytes (key ∷ j ∷ [])

unfoldable pub deletion_bytes : ℕ → List ℕ
deletion_bytes j = words_bytes (j ∷ [])

-- ---- where item j of n lies

-- a byte in RAM or on flash
pub record Place : Type 0 where
  pub in_ram : Bool
  pub at : ℕ

-- "those of a page not yet full from the start of their desk page", the others "from the start of their area"
abbrev pub item_place : ℕ → Area → ℕ → ℕ → Place
item_place u a n j =
    cond (ltb j (n / a.per_page * a.per_page))
    (record { in_ram = false; at = a.first * block u + j * a.size })
    (record { in_ram = true; at = a.ram + j % a.per_page * a.size })

-- bytes and words at a place
abbrev pub source : List ℕ → List ℕ → Place → List ℕ
source main ram p = cond p.in_ram ram main

abbrev pub bytes_at : List ℕ → List ℕ → Place → ℕ → List ℕ
bytes_at main ram p size = part (source main ram p) p.at size

-- word i of item j of n
unfoldable pub item_word : ℕ → Area → ℕ → List ℕ → List ℕ → ℕ → ℕ → ℕ
item_word u a n main ram j i = word (source main ram (item_place u a n j)) ((item_place u a n j).at + i * word_size)

-- ---- one more item

-- the RAM with item n in its place
unfoldable pub put : Area → ℕ → List ℕ → List ℕ → List ℕ
put a n item ram = write ram (a.ram + n % a.per_page * a.size) item

-- does item n fill its page
abbrev pub fills : Area → ℕ → Bool
fills a n = eqb (n % a.per_page + 1) a.per_page

-- sector j of the page of item n, with the bytes of its RAM page
abbrev pub page_sector : ℕ → Area → ℕ → List ℕ → ℕ → Planned
page_sector u a n ram j =
    known (a.first * sectors_per_block + n / a.per_page * sectors_per_page + j)
    (tabulate (sector u) (λ y. get_or ram (a.ram + (j * sector u + y)) 0))

-- a RAM page from byte `at` on zeroed
abbrev pub zero_page : ℕ → ℕ → List ℕ → List ℕ
zero_page u at ram = write ram at (replicate (page u) 0)

-- what item n plans: "A page is programmed by the call that fills it", its four sectors, out of the RAM handed in with the item in its
-- place
abbrev pub item_plan : ℕ → Area → ℕ → List ℕ → List ℕ → List Planned
item_plan u a n item ram = cond (fills a n) (planned_from (page_sector u a n (put a n item ram)) 0 sectors_per_page) []

-- the RAM after it: "zeroes each desk page it has programmed"
abbrev pub item_ram : ℕ → Area → ℕ → List ℕ → List ℕ → List ℕ
item_ram u a n item ram = cond (fills a n) (zero_page u a.ram (put a n item ram)) (put a n item ram)
