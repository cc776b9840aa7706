-- The chip operations that the layout's plans are on a chip, written out.
use Rattle.std.specs.Prelude.{cond, List, [], ◌∷◌, ◌++◌, ℕ, zero, suc, ◌+◌, ◌*◌, ◌/◌, get_or, eqb}
use Rattle.memory.specs.Lists.{tabulate}
use Rattle.layout.specs.Geometry.{Geometry, sectors_per_page, sectors_per_block, sector}
use Rattle.layout.specs.Flash.{Flash, Op, program, erases, apply_all}
use Rattle.layout.specs.Hash.{Family}
use Rattle.layout.specs.Items.{Area, Ra, KA, DA, entry_bytes, deletion_bytes, put, fills, item_ram}
use Rattle.layout.specs.Keys.{Key}
use Rattle.layout.specs.Index.{Index, filters_per_flush, flushes_per_round, in_ska, in_l1, in_set, in_full}
use Rattle.layout.specs.Index.{set_pages, set_blocks, side_block, set_block, set_byte, with_filter}
use Rattle.layout.specs.Calls.{key_index, key_filters, summarized, deletion_index, deletion_filters, new_half}

module _ (u : ℕ) where
  -- k sectors, the j-th being s + j * d; byte y of the j-th is f j y
  abbrev pub programs : ℕ → ℕ → ℕ → (ℕ → ℕ → ℕ) → List Op
  programs d s zero f = []
  programs d s (suc k) f = program s (tabulate (sector u) (f zero)) ∷ programs d (s + d) k (λ j. f (suc j))

  -- the page that item n fills
  abbrev pub page_ops : Area → ℕ → List ℕ → List Op
  page_ops a n ram =
      programs 1 (a.first * sectors_per_block + n / a.per_page * sectors_per_page) sectors_per_page
      (λ j y. get_or ram (a.ram + (j * sector u + y)) 0)

  abbrev pub item_ops : Area → ℕ → List ℕ → List ℕ → List Op
  item_ops a n item ram = cond (fills a n) (page_ops a n (put a n item ram)) []

  module _ (ix : Index) where
    -- flush t
    abbrev pub flush_ops : ℕ → List ℕ → List Op
    flush_ops t ram =
        programs flushes_per_round (ix.first * sectors_per_block + t) sectors_per_page (λ i y. get_or ram (ix.ska + (i * sector u + y)) 0)

    -- the next set out of the main area as it is before the set's first sector, and the erases
    abbrev pub build_ops : List ℕ → ℕ → ℕ → List Op
    build_ops main z c =
        programs 1 (set_block u ix z c * sectors_per_block) (set_pages (c + 1) * sectors_per_page) (set_byte u ix main z c)
        ++ (erases ix.first 1 ++ erases (side_block u ix c) (set_blocks c))

    unfoldable pub flush_and_build_ops : Flash → ℕ → List ℕ → List Op
    flush_and_build_ops flash F ram =
        let flushed : List Op = flush_ops (in_l1 F) ram in
        flushed ++ cond (eqb (in_l1 F + 1) flushes_per_round) (build_ops (apply_all u flushed flash).main (in_full u F) (in_set u F)) []

    -- filter F, which the RAM holds already
    abbrev pub filter_ops : Flash → ℕ → List ℕ → List Op
    filter_ops flash F ram = cond (eqb (in_ska F + 1) filters_per_flush) (flush_and_build_ops flash F ram) []

-- ---- deletion d and the filters of a page that it fills, each step on what the one before it leaves

abbrev pub number_ops : Geometry → ℕ → ℕ → List ℕ → List Op
number_ops g d j ram = item_ops g.u (DA g) d (deletion_bytes j) ram

abbrev pub number_ram : Geometry → ℕ → ℕ → List ℕ → List ℕ
number_ram g d j ram = item_ram g.u (DA g) d (deletion_bytes j) ram

-- the RAM with the first filter of the page, which is then never flushed, and with both
abbrev pub one_half : Family → Geometry → ℕ → ℕ → List ℕ → List ℕ
one_half h g d j ram = with_filter g.u (deletion_index g) (in_ska (deletion_filters g d)) (new_half h g d j 0 ram) (number_ram g d j ram)

abbrev pub both_halves : Family → Geometry → ℕ → ℕ → List ℕ → List ℕ
both_halves h g d j ram =
    with_filter g.u (deletion_index g) (in_ska (deletion_filters g d + 1)) (new_half h g d j 1 ram) (one_half h g d j ram)

abbrev pub deletion_ops : Family → Geometry → ℕ → ℕ → List ℕ → Flash → List Op
deletion_ops h g d j ram flash =
    number_ops g d j ram
    ++ cond (fills (DA g) d)
    (filter_ops g.u (deletion_index g) (apply_all g.u (number_ops g d j ram) flash) (deletion_filters g d + 1) (both_halves h g d j ram)) []

-- ---- record n and its entry, each step on what the one before it leaves

abbrev pub record_ops : Geometry → ℕ → List ℕ → List ℕ → List Op
record_ops g n bytes ram = item_ops g.u (Ra g) n bytes ram

abbrev pub record_ram : Geometry → ℕ → List ℕ → List ℕ → List ℕ
record_ram g n bytes ram = item_ram g.u (Ra g) n bytes ram

abbrev pub entry_ops : Geometry → ℕ → Key → List ℕ → List ℕ → List Op
entry_ops g n key bytes ram = item_ops g.u (KA g) n (entry_bytes key n) (record_ram g n bytes ram)

abbrev pub entry_ram : Geometry → ℕ → Key → List ℕ → List ℕ → List ℕ
entry_ram g n key bytes ram = item_ram g.u (KA g) n (entry_bytes key n) (record_ram g n bytes ram)

-- the chip after both
abbrev pub entered : Geometry → ℕ → Key → List ℕ → List ℕ → Flash → Flash
entered g n key bytes ram flash = apply_all g.u (entry_ops g n key bytes ram) (apply_all g.u (record_ops g n bytes ram) flash)

-- the RAM with the filter of the page that the entry fills
abbrev pub filtered_ram : Family → Geometry → ℕ → Key → List ℕ → List ℕ → List ℕ
filtered_ram h g n key bytes ram = summarized h g n key (record_ram g n bytes ram) (entry_ram g n key bytes ram)

abbrev pub insertion_ops : Family → Geometry → ℕ → Key → List ℕ → List ℕ → Flash → List Op
insertion_ops h g n key bytes ram flash =
    record_ops g n bytes ram
    ++ (entry_ops g n key bytes ram
    ++ cond (fills (KA g) n)
    (filter_ops g.u (key_index g) (entered g n key bytes ram flash) (key_filters g n) (filtered_ram h g n key bytes ram)) [])
