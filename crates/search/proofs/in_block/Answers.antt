use native.Mathlib.Omega.{arith}
use borrow.Author.Tests.{not-true, not-false}
use mathlib.Core.Path.{◌≡◌, refl, sym, ap, ◌∙◌}
use mathlib.Core.Bool.{Bool, true, false}
use mathlib.Core.Option.{Option, none, some}
use mathlib.Core.List.{List}
use Prim.Native.Nat.{ℕ, ◌+◌, ◌*◌, ◌-◌, ◌≤◌, ◌<◌}
use lib.ListN.{length}
use Rattle.std.specs.Prelude.{Some, None}
use Rattle.memory.specs.Bits.{bit}
use Rattle.memory.specs.Words.{word}
use Rattle.layout.specs.Keys.{Key, number_in}
use Rattle.layout.specs.Geometry.{page, full_sets}
use Rattle.layout.specs.Hash.{fnv_family}
use Rattle.layout.specs.Calls.{key_index, maybe_in, test_deletion}
use Rattle.layout.specs.Search.{Stop, found, corrupt, reply, scan, scan_cost, search_pages, pages_cost}
use Rattle.laws.specs.WalkLaws.{Shown, Words, Part, words_end}
use Rattle.geometry.specs.Shape.{shape}
use Rattle.geometry.specs.Indexes.{index_of}
use Rattle.items.specs.Scans.{last_entry, place_of, place_is}
use Rattle.deletions.specs.Test.{held, tested_of}
use Rattle.deletions.specs.declared.Deletions.{Deletions}
use Rattle.deletions.specs.declared.Tested.{Tested}
use Rattle.filter.specs.Filter.{index_fits}
use Rattle.filter.specs.Blocks.{BlockAt}
use Rattle.filter.specs.declared.groups.Block.{Block}
use Rattle.filter.specs.declared.groups.Filters.{Filters}
use Rattle.keys.specs.Key.{key_is}
use Rattle.search.specs.declared.View.{View}
use Rattle.search.specs.declared.Hit.{Hit}
use Rattle.search.specs.declared.Opened.{Opened}
use Rattle.search.specs.Find.{viewed, ViewFits, try_of, cost_of, try_in, cost_in, deletions_of, filters_of}
use Rattle.search.specs.Tries.{page_start, entry_of, PagesIn, HitAt}
use Rattle.search.proofs.Places.{Place, past, hit_some, hit_none}
use Rattle.search.proofs.Tries.{count, newest, newest_le, newest_set, newest_some, measure, fewer}
use Rattle.search.proofs.Bits.{Word, word_first, word_done, word_in, word_few, word_most, word_next, word_ended}
use Rattle.search.proofs.Entries.{Left, left_none, left_first}
use Rattle.search.proofs.Volume.{per_page, pages, pages_then, same_flash, same_bytes, scan_bytes, cost_bytes, vain_page, block_shows}
use Rattle.search.proofs.Volume.{row_corrupt, row_less, row_paid, row_found, row_next, pages_few, pages_then_lem, page_in, sets_le, below_most}
use Rattle.search.proofs.in_block.Goals as goal

-- What is left of the search at each word of a block, at each page that is opened, and of the scan of its entries at each with the key.

-- ---- the search at hand

-- the block is known
record Known (v : View) (main ram : List ℕ) (below : ℕ) (ps : List ℕ) (b : Block) : Type 0 where
  fits : ViewFits v main ram
  block : BlockAt v.g.chip.unit (key_index (shape v.g)) main ram (pages v) below ps b
  full : below ≤ pages_then v

known : {v : View} {main ram : List ℕ} → ViewFits v main ram → {below : ℕ} → below ≤ pages_then v → {fs : Filters} → fs ≡ filters_of v
    → {ps : List ℕ} {b : Block} → BlockAt fs.chip.unit (index_of fs.index) main ram fs.count below ps b → Known v main ram below ps b
known fits full is block = record { fits = fits; block = rw is at block; full = full }

module _ {v : View} {main ram : List ℕ} {below : ℕ} {ps : List ℕ} {b : Block} (K : Known v main ram below ps b) (key : Key) where
  abbrev gate_at : ℕ → Bool
  gate_at = maybe_in (shape v.g) (viewed v main ram) ps

  abbrev try_at : ℕ → Option Stop
  try_at = try_of v main ram key

  abbrev cost_at : ℕ → ℕ
  cost_at = cost_of v main ram key

  -- it shows the gates
  shows : Shown bit 64 b.start below b.words gate_at
  shows = block_shows v main ram key below ps b K.block

  -- its pages are full ones
  page_lt : (p : ℕ) → p < below → p < pages v
  page_lt p h = omega (arith, K.full, pages_then_lem K.fits)

  below_few : below ≤ 32768
  below_few = omega (arith, K.full, pages_then_lem K.fits, pages_few K.fits)

  -- ---- a word

  module _ {opened sum w : ℕ} (W : Words try_at cost_at (per_page v) bit 64 b.start below b.words opened sum w) where
    -- there are eight at the most
    word_lt_8 : 0 < w → w - 1 < 8
    word_lt_8 h = omega (arith, W.used, K.block.few, h)

    -- and each begins with a page of the block
    from_lt : 0 < w → b.start + (w - 1) * 64 < below
    from_lt h = omega (arith, W.used, K.block.start_lt, h)

    -- no word is left
    all_words : w ≤ 0 → Part gate_at try_at cost_at (per_page v) below b.start opened sum none
    all_words h = words_end W gate_at shows h K.block.start_lt

  -- ---- the pages of a word, up to one with an entry of the key

  module _ {opened sum w bits : ℕ} (I : Word try_at cost_at (per_page v) b.start below b.words opened sum w bits) where
    abbrev from : ℕ
    from = b.start + w * 64

    abbrev entry_at : ℕ → ℕ
    entry_at = entry_of v.g key from main

    -- the newest with an entry, plus one
    abbrev newest_at : ℕ
    newest_at = newest bits entry_at 64

    abbrev page_at : ℕ
    page_at = from + (newest_at - 1)

    -- a page without an entry of the key does not end the search
    other : (i : ℕ) → bit bits i ≡ true → from + i < below → entry_at i ≡ 0
        → (scan try_at ((from + i) * per_page v) (per_page v) ≡ none) × (scan_cost try_at cost_at ((from + i) * per_page v) (per_page v) ≡ 0)
    other i s h = vain_page v main ram key (from + i) (page_lt (from + i) h)

    -- its laws, at hand
    visited_in : (i : ℕ) → i < 64 → bit bits i ≡ true → from + i < below
    visited_in = word_in I entry_at other gate_at shows

    visited_few : opened + count bits entry_at 64 ≤ below + 1
    visited_few = word_few I entry_at other gate_at shows

    page_below : 0 < newest_at → page_at < below
    page_below h =
        visited_in (newest_at - 1) (omega (arith, newest_le (bit bits) entry_at 64)) (newest_set (bit bits) entry_at 64 h)

    pages_in : PagesIn v.g from bits main
    pages_in = record { page_in = λ i h s. page_in K.fits (from + i) (page_lt (from + i) (visited_in i h s)) }

    module _ {t : Opened} (T : HitAt (λ i. page_start v.g (from + i)) v.g key from bits main t) where
      opened_few : opened + t.opened ≤ below + 1
      opened_few = omega (arith, T.pages.opened, visited_few)

      -- the word has fewer pages then
      bits_fewer : 0 < bits → measure t.bits < measure bits
      bits_fewer h = fewer bits entry_at t.bits T.pages.left h T.none

      -- none of its pages has an entry of the key
      no_page : t.hit ≡ None → Word try_at cost_at (per_page v) b.start below b.words (opened + t.opened) sum w t.bits
      no_page is =
          let z : newest_at ≡ 0 = hit_none _ _ newest_at (rw is at T.hit) in
          rw T.pages.opened
          (word_next I entry_at other t.bits T.pages.left (λ h. absurd (omega (arith, h, z))) sum (λ h. absurd (omega (arith, h, z))) (λ z. refl))

      -- one has
      module _ {h : Hit} (hit : t.hit ≡ Some h) where
        is_at : (0 < newest_at) × (h.page ≡ page_start v.g page_at) × (h.entry ≡ entry_at (newest_at - 1) - 1)
        is_at = hit_some (λ i. page_start v.g (from + i)) entry_at newest_at h (rw hit at T.hit)

        page_full : page_at < pages v
        page_full = page_lt page_at (page_below is_at.0)

        -- its entries lie within the flash
        within_at : h.page + page v.g.chip.unit ≤ length main
        within_at = rw is_at.1 (page_in K.fits page_at page_full)

        -- by their bytes
        abbrev try_there : ℕ → Option Stop
        try_there = try_in v main ram key main h.page

        abbrev cost_there : ℕ → ℕ
        cost_there = cost_in v main ram key main h.page

        -- as the view has them
        scan_at : (scan try_there 0 (per_page v) ≡ scan try_at (page_at * per_page v) (per_page v))
            × (scan_cost try_there cost_there 0 (per_page v) ≡ scan_cost try_at cost_at (page_at * per_page v) (per_page v))
        scan_at =
            let S = same_flash v main ram key page_at h.page (per_page v) page_full (omega arith) is_at.1 in (
              scan_bytes v main ram key main h.page (per_page v) (page_at * per_page v) S,
              cost_bytes v main ram key main h.page (per_page v) (page_at * per_page v) S,
            )

        -- the newest with the key is the one told
        entry_is : Some h.entry ≡ place_of (last_entry main h.page (per_page v) key)
        entry_is = rw (is_at.2, is_at.1) (place_is (entry_at (newest_at - 1)) (newest_some (bit bits) entry_at 64 is_at.0))

        first_left : Left main h.page key try_there cost_there 0 (per_page v) sum (Some h.entry) sum
        first_left = left_first (same_bytes v main ram key main h.page (per_page v)) sum (Some h.entry) entry_is

        -- what was paid before the page and for it is part of the cost of all
        paid_few : sum + scan_cost try_there cost_there 0 (per_page v) < 18446744073709551616
        paid_few = omega (arith, word_most I entry_at other gate_at shows is_at.0, scan_at.1, below_most K.fits key ps below K.full)

        -- the page's scan ended
        ended : (r : Stop) (paid : ℕ) → scan try_there 0 (per_page v) ≡ some r → paid ≡ sum + scan_cost try_there cost_there 0 (per_page v)
            → (search_pages gate_at try_at (per_page v) below ≡ reply (some r) (opened + t.opened))
            × (pages_cost gate_at try_at cost_at (per_page v) below ≡ paid + 0)
        ended r paid e d =
            let a = word_ended I entry_at other gate_at shows is_at.0 r (sym scan_at.0 ∙ e) in
            (rw T.pages.opened a.0, omega (arith, a.1, d, scan_at.1))

        -- ---- an entry

        module _ {e : Place} {paid : ℕ} (L : Left main h.page key try_there cost_there 0 (per_page v) sum e paid) where
          -- no entry of the page ended the search
          next_bits : e ≡ None → Word try_at cost_at (per_page v) b.start below b.words (opened + t.opened) paid w t.bits
          next_bits z =
              let a = left_none L z in
              rw T.pages.opened
              (word_next I entry_at other t.bits T.pages.left (λ n. sym scan_at.0 ∙ a.0) paid (λ n. omega (arith, a.1, scan_at.1))
              (λ n. absurd (omega (arith, n, is_at.0))))

          module _ {k : ℕ} (here : e ≡ Some k) where
            entry_in : h.page + k * 8 + 8 ≤ length main
            entry_in = omega (arith, L.le, ap past here, within_at)

            module _ {j : ℕ} (number : j ≡ number_in (word main (h.page + k * 8 + 4))) where
              corrupt_at : v.n0 ≤ j
                  → (search_pages gate_at try_at (per_page v) below ≡ reply (some corrupt) (opened + t.opened))
                  × (pages_cost gate_at try_at cost_at (per_page v) below ≡ paid + 0)
              corrupt_at n = let a = row_corrupt v main ram L here number n in ended corrupt paid a.0 a.1

              module _ (lt : j < v.n0) {d : Deletions} (d_is : d ≡ deletions_of v) (r : Tested)
                  (is : tested_of j r ≡ test_deletion fnv_family (shape d.g) (held d main ram) d.d0 j) where
                test_few : paid + r.opened < 18446744073709551616
                test_few = omega (arith, row_paid v main ram L here number lt d_is r is, paid_few)

                found_at : r.met ≡ false
                    → (search_pages gate_at try_at (per_page v) below ≡ reply (some (found j)) (opened + t.opened))
                    × (pages_cost gate_at try_at cost_at (per_page v) below ≡ paid + r.opened + 0)
                found_at m = let a = row_found v main ram L here number lt d_is r is m in ended (found j) (paid + r.opened) a.0 a.1

-- ---- before the first word

pub block_below-b-requires-clause-by_index : goal.block_below-b-requires-clause-by_index
block_below-b-requires-clause-by_index c =
    let x = c.args in
    let R = c.requires.view_fits.0 in
    rw c.key_filters.ensures (
      (full_sets (shape x.v.g), sets_le R, index_fits x.v.g x.main.now x.ram.now R.read),
      omega (arith, pages_few R),
      c.requires.below_nonzero.0,
      omega (arith, c.requires.below_nonzero.1, pages_then_lem R),
    )

-- ---- a word

pub bits-init : goal.bits-init
bits-init c =
    let K = known c.requires.view_fits.0 c.requires.below_nonzero.1 c.key_filters.ensures c.block_below-b.ensures in
    (word_first c.filters.invariant.0 c.filters-test.true (word_lt_8 K (key_is c.args.key) c.filters.invariant.0 c.filters-test.true), c.filters.invariant.1)

pub filters-preserved : goal.filters-preserved
filters-preserved c =
    let K = known c.requires.view_fits.0 c.requires.below_nonzero.1 c.key_filters.ensures c.block_below-b.ensures in
    (word_done c.bits.invariant.0 c.bits-test.false (from_lt K (key_is c.args.key) c.filters.invariant.0 c.filters-test.true), c.bits.invariant.1)

-- ---- the pages of a word, up to one with an entry of the key

pub next_with_key-t-requires : goal.next_with_key-t-requires
next_with_key-t-requires c =
    let K = known c.requires.view_fits.0 c.requires.below_nonzero.1 c.key_filters.ensures c.block_below-b.ensures in (
      omega (arith, from_lt K (key_is c.args.key) c.filters.invariant.0 c.filters-test.true, below_few K (key_is c.args.key)),
      pages_in K (key_is c.args.key) c.bits.invariant.0,
    )

pub overflow_add-opened : goal.overflow_add-opened
overflow_add-opened c =
    let K = known c.requires.view_fits.0 c.requires.below_nonzero.1 c.key_filters.ensures c.block_below-b.ensures in
    omega (arith, opened_few K (key_is c.args.key) c.bits.invariant.0 c.next_with_key-t.ensures, below_few K (key_is c.args.key))

-- no page has one

pub bits-smaller-in_default : goal.bits-smaller-in_default
bits-smaller-in_default c =
    let K = known c.requires.view_fits.0 c.requires.below_nonzero.1 c.key_filters.ensures c.block_below-b.ensures in
    bits_fewer K (key_is c.args.key) c.bits.invariant.0 c.next_with_key-t.ensures (omega (arith, c.bits-test.true))

pub bits-preserved-in_default : goal.bits-preserved-in_default
bits-preserved-in_default c =
    let K = known c.requires.view_fits.0 c.requires.below_nonzero.1 c.key_filters.ensures c.block_below-b.ensures in
    (no_page K (key_is c.args.key) c.bits.invariant.0 c.next_with_key-t.ensures c.in_default.is, c.bits.invariant.1)

-- ---- an entry

pub entries-init : goal.entries-init
entries-init c =
    let K = known c.requires.view_fits.0 c.requires.below_nonzero.1 c.key_filters.ensures c.block_below-b.ensures in
    (first_left K (key_is c.args.key) c.bits.invariant.0 c.next_with_key-t.ensures c.in-Some.is, c.bits.invariant.1)

pub number_at-j-requires : goal.number_at-j-requires
number_at-j-requires c =
    let K = known c.requires.view_fits.0 c.requires.below_nonzero.1 c.key_filters.ensures c.block_below-b.ensures in
    entry_in K (key_is c.args.key) c.bits.invariant.0 c.next_with_key-t.ensures c.in-Some.is c.entries.invariant.0 c.in-Some-e.is

pub overflow_add-da_pages : goal.overflow_add-da_pages
overflow_add-da_pages c =
    let K = known c.requires.view_fits.0 c.requires.below_nonzero.1 c.key_filters.ensures c.block_below-b.ensures in
    omega (
      arith,
      test_few K (key_is c.args.key) c.bits.invariant.0 c.next_with_key-t.ensures c.in-Some.is c.entries.invariant.0 c.in-Some-e.is
          c.number_at-j.ensures c.if-j-v.false c.deletions_of.ensures c.test-seen.result c.test-seen.ensures,
    )

pub find_entry-e-requires : goal.find_entry-e-requires
find_entry-e-requires c =
    let K = known c.requires.view_fits.0 c.requires.below_nonzero.1 c.key_filters.ensures c.block_below-b.ensures in
    omega (arith, entry_in K (key_is c.args.key) c.bits.invariant.0 c.next_with_key-t.ensures c.in-Some.is c.entries.invariant.0 c.in-Some-e.is)

pub entries-smaller : goal.entries-smaller
entries-smaller c =
    let x = c.args in
    row_less x.v x.main.now x.ram.now c.entries.invariant.0 c.in-Some-e.is c.number_at-j.ensures c.find_entry-e.result
    c.find_entry-e.ensures

pub entries-preserved : goal.entries-preserved
entries-preserved c =
    let x = c.args in (
      row_next x.v x.main.now x.ram.now c.entries.invariant.0 c.in-Some-e.is c.number_at-j.ensures c.if-j-v.false c.deletions_of.ensures
          c.test-seen.result c.test-seen.ensures c.find_entry-e.result (not-false c.test-seen.result.met c.if-not-seen.false)
          c.find_entry-e.ensures,
      c.entries.invariant.1,
    )

-- ---- the next page

pub bits-smaller : goal.bits-smaller
bits-smaller c =
    let K = known c.requires.view_fits.0 c.requires.below_nonzero.1 c.key_filters.ensures c.block_below-b.ensures in
    bits_fewer K (key_is c.args.key) c.bits.invariant.0 c.next_with_key-t.ensures (omega (arith, c.bits-test.true))

pub bits-preserved : goal.bits-preserved
bits-preserved c =
    let K = known c.requires.view_fits.0 c.requires.below_nonzero.1 c.key_filters.ensures c.block_below-b.ensures in (
      next_bits K (key_is c.args.key) c.bits.invariant.0 c.next_with_key-t.ensures c.in-Some.is c.entries.invariant.0 c.in_default-e.is,
      c.entries.invariant.1,
    )

-- ---- the three ways out

pub returns-after-filters : goal.returns-after-filters
returns-after-filters c =
    let K = known c.requires.view_fits.0 c.requires.below_nonzero.1 c.key_filters.ensures c.block_below-b.ensures in
    let e = all_words K (key_is c.args.key) c.filters.invariant.0 (omega arith) in
    record { start = K.block.start_lt; found = rw c.filters.invariant.1 e.found; pages = rw c.filters.invariant.1 e.price }

pub returns-then-j-v : goal.returns-then-j-v
returns-then-j-v c =
    let K = known c.requires.view_fits.0 c.requires.below_nonzero.1 c.key_filters.ensures c.block_below-b.ensures in
    let e = corrupt_at K (key_is c.args.key) c.bits.invariant.0 c.next_with_key-t.ensures c.in-Some.is c.entries.invariant.0 c.in-Some-e.is
    c.number_at-j.ensures c.if-j-v.true in
    record { start = K.block.start_lt; found = e.0; pages = e.1 }

pub returns-then-not-seen : goal.returns-then-not-seen
returns-then-not-seen c =
    let K = known c.requires.view_fits.0 c.requires.below_nonzero.1 c.key_filters.ensures c.block_below-b.ensures in
    let e = found_at K (key_is c.args.key) c.bits.invariant.0 c.next_with_key-t.ensures c.in-Some.is c.entries.invariant.0 c.in-Some-e.is
    c.number_at-j.ensures c.if-j-v.false c.deletions_of.ensures c.test-seen.result c.test-seen.ensures
    (not-true c.test-seen.result.met c.if-not-seen.true) in
    record { start = K.block.start_lt; found = e.0; pages = e.1 }
