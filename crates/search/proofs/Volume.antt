-- Entries of a view on flash and in RAM, its gates by blocks of filters, the test of a number, and parts of a volume that fits.
use mathlib.Core.Path.{◌≡◌, refl, sym, ap, ◌∙◌}
use mathlib.Core.Bool.{Bool, true, false, ◌&&◌, cond}
use mathlib.Core.Option.{Option, none, some}
use mathlib.Core.List.{List}
use Prim.Native.Nat.{ℕ, ◌+◌, ◌-◌, ◌*◌, ◌/◌, ◌%◌, ◌≤◌, ◌<◌}
use native.Mathlib.Nat.{mul-le-mul, mul-le-mul_left, mul-le-mul_right, div-mul-le_self, mod-lt}
use native.Mathlib.Omega.{arith}
use lib.Dec.{leb}
use lib.ListN.{length}
use Rattle.memory.specs.Bits.{bit}
use Rattle.memory.specs.Cases.{bool?, lt?, either}
use Rattle.memory.specs.Numbers.{euclid, div_lt}
use Rattle.memory.specs.Words.{word}
use Rattle.layout.specs.Keys.{Key, same_key, key_at, number_in}
use Rattle.layout.specs.Geometry as layout
use Rattle.layout.specs.Hash.{fnv_family}
use Rattle.layout.specs.Items.{KA, item_word}
use Rattle.layout.specs.Index.{in_full}
use Rattle.layout.specs.Search.{Stop, Found, is_found, found, corrupt, reply, ram_first, scan, search_pages, try_entry}
use Rattle.layout.specs.Search.{scan_cost, pages_cost, entry_cost, unless_ended}
use Rattle.layout.specs.Calls.{key_index, key_positions, number_positions, maybe_deleted, try_deletion, test_deletion}
use Rattle.layout.specs.Calls.{try_at, try_cost, maybe_in, search_at, da_pages_at}
use Rattle.laws.specs.SearchLaws.{opened_le, ram_first_most}
use Rattle.laws.specs.WalkLaws.{scan_same, cost_same, cost_most, full_mono, pages_cost_lem, same_order, Shown}
use Rattle.geometry.specs.Shape.{shape}
use Rattle.geometry.specs.Bounds.{deletion_capacity_le, record_capacity_le}
use Rattle.std.specs.Prelude.{Some, None}
use Rattle.items.specs.Reading.{page_word, ram_word}
use Rattle.items.specs.Scans.{last_entry, place_of}
use Rattle.kernels.specs.Blocks.{Upto}
use Rattle.filter.specs.Blocks.{BlockAt}
use Rattle.filter.specs.declared.groups.Block.{Block}
use Rattle.deletions.specs.Test as tests
use Rattle.deletions.specs.Test.{tested_of}
use Rattle.deletions.specs.declared.Deletions.{Deletions}
use Rattle.deletions.specs.declared.Tested.{Tested}
use Rattle.search.specs.declared.View.{View}
use Rattle.search.specs.Find.{viewed, ViewFits, try_of, cost_of, try_in, cost_in, deleted_of, test_cost, pages_below, cost_below, deletions_of}
use Rattle.search.specs.Tries.{page_start, entry_in}
use Rattle.search.proofs.Places.{Place, past}
use Rattle.search.proofs.Entries.{Same, Left, left_first, left_none, left_corrupt, left_most, left_found, left_next, left_less}

-- ---- a view's entries

abbrev pub per_page : View → ℕ
per_page v = layout.entries_per_page v.g.chip.unit

-- full pages
abbrev pub pages : View → ℕ
pages v = v.n / per_page v

abbrev pub pages_then : View → ℕ
pages_then v = v.n0 / per_page v

module _ (v : View) (main ram : List ℕ) (key : Key) where
  abbrev word_of : ℕ → ℕ → ℕ
  word_of j i = item_word v.g.chip.unit (KA (shape v.g)) v.n main ram j i

  -- entry j, by its two words
  two_words : (j a b : ℕ) → word_of j 0 ≡ a → word_of j 1 ≡ b
      → (try_of v main ram key j ≡ try_entry v.n0 (deleted_of v main ram) key a b) × (cost_of v main ram key j ≡ entry_cost v.n0 (test_cost v main ram) key a b)
  unfolding try_at try_cost
  two_words j a b e f = rw (e, f) (refl, refl)

  -- entries of a page that is full by now
  pub same_flash : (p from count : ℕ) → p < pages v → count ≤ per_page v → from ≡ layout.ka_block (shape v.g) * layout.block v.g.chip.unit + p * layout.page v.g.chip.unit
      → Same main from count v.n0 key (deleted_of v main ram) (test_cost v main ram) (try_of v main ram key) (cost_of v main ram key) (p * per_page v)
  same_flash p from count h few is = record { entry = λ k l. (both k l).0; price = λ k l. (both k l).1 }
    where
      both : (k : ℕ) → k < count → let a = word main (from + k * 8) in let b = word main (from + k * 8 + 4) in let j = p * per_page v + k in
          (try_of v main ram key j ≡ try_entry v.n0 (deleted_of v main ram) key a b) × (cost_of v main ram key j ≡ entry_cost v.n0 (test_cost v main ram) key a b)
      both k l =
          two_words (p * per_page v + k) (word main (from + k * 8)) (word main (from + k * 8 + 4))
          (page_word v.g.chip.unit (KA (shape v.g)) v.n main ram p k 0 (omega arith) h (omega arith) ∙ ap (λ (x : ℕ). word main x) (omega arith))
          (page_word v.g.chip.unit (KA (shape v.g)) v.n main ram p k 1 (omega arith) h (omega arith) ∙ ap (λ (x : ℕ). word main x) (omega arith))

  -- without the key none of them ends the search or costs anything
  pub vain_page : (p : ℕ) → p < pages v → entry_in v.g key main p ≡ 0
      → (scan (try_of v main ram key) (p * per_page v) (per_page v) ≡ none) × (scan_cost (try_of v main ram key) (cost_of v main ram key) (p * per_page v) (per_page v) ≡ 0)
  vain_page p h z =
      let S = same_flash p (page_start v.g p) (per_page v) h (omega arith) refl in
      let e = left_none (left_first S 0 None (ap place_of (sym z))) refl in
      (e.0, omega (arith, e.1))

  -- entries of the page that is not full
  pub same_ram : (from count : ℕ) → pages_then v ≡ pages v → count ≤ per_page v → from ≡ layout.ka_ram v.g.chip.unit
      → Same ram from count v.n0 key (deleted_of v main ram) (test_cost v main ram) (try_of v main ram key) (cost_of v main ram key) (pages_then v * per_page v)
  same_ram from count e few is = rw e record { entry = λ k l. (both k l).0; price = λ k l. (both k l).1 }
    where
      both : (k : ℕ) → k < count → let a = word ram (from + k * 8) in let b = word ram (from + k * 8 + 4) in let j = pages v * per_page v + k in
          (try_of v main ram key j ≡ try_entry v.n0 (deleted_of v main ram) key a b) × (cost_of v main ram key j ≡ entry_cost v.n0 (test_cost v main ram) key a b)
      both k l =
          two_words (pages v * per_page v + k) (word ram (from + k * 8)) (word ram (from + k * 8 + 4))
          (ram_word v.g.chip.unit (KA (shape v.g)) v.n main ram k 0 (omega arith) ∙ ap (λ (x : ℕ). word ram x) (omega arith))
          (ram_word v.g.chip.unit (KA (shape v.g)) v.n main ram k 1 (omega arith) ∙ ap (λ (x : ℕ). word ram x) (omega arith))

  -- entries by the bytes that they lie in
  pub same_bytes : (bytes : List ℕ) (from count : ℕ)
      → Same bytes from count v.n0 key (deleted_of v main ram) (test_cost v main ram) (try_in v main ram key bytes from) (cost_in v main ram key bytes from) 0
  same_bytes bytes from count =
      record {
        entry = λ k l. let z : 0 + k ≡ k = omega arith in rw z;
        price = λ k l. let z : 0 + k ≡ k = omega arith in rw z;
      }

  module _ (bytes : List ℕ) (from count lo : ℕ)
      (S : Same bytes from count v.n0 key (deleted_of v main ram) (test_cost v main ram) (try_of v main ram key) (cost_of v main ram key) lo) where
    as_bytes : (k : ℕ) → k < count → try_in v main ram key bytes from (0 + k) ≡ try_of v main ram key (lo + k)
    as_bytes k l = (same_bytes bytes from count).entry k l ∙ sym (S.entry k l)

    pub scan_bytes : scan (try_in v main ram key bytes from) 0 count ≡ scan (try_of v main ram key) lo count
    scan_bytes = scan_same (try_in v main ram key bytes from) (try_of v main ram key) 0 lo count as_bytes

    pub cost_bytes : scan_cost (try_in v main ram key bytes from) (cost_in v main ram key bytes from) 0 count ≡ scan_cost (try_of v main ram key) (cost_of v main ram key) lo count
    cost_bytes =
        cost_same (try_in v main ram key bytes from) (try_of v main ram key) (cost_in v main ram key bytes from) (cost_of v main ram key) 0 lo count as_bytes
        (λ k l. (same_bytes bytes from count).price k l ∙ sym (S.price k l))

  -- a block shows the gates of its pages
  pub block_shows : (below : ℕ) (ps : List ℕ) (b : Block)
      → BlockAt v.g.chip.unit (key_index (shape v.g)) main ram (pages v) below ps b
      → Shown bit 64 b.start below b.words (maybe_in (shape v.g) (viewed v main ram) ps)
  unfolding maybe_in Upto
  block_shows below ps b B w h i k =
      let f : ℕ = b.start + w * 64 + i in
      let a : b.start + (w * 64 + i) ≡ f = omega arith in
      (rw a at (B.shown w h i k))
      ∙ ap (λ (t : Bool). t && maybe_in (shape v.g) (viewed v main ram) ps f)
      (same_order (w * 64 + i) (below - b.start) f below (λ l. omega arith) (λ l. omega (arith, B.start_lt)))

  -- the entries past the last full page first
  pub search_is : (s : Option Stop) → s ≡ scan (try_of v main ram key) (pages_then v * per_page v) (v.n0 % per_page v)
      → ram_first s (pages_below v main ram key (key_positions fnv_family (shape v.g) key) (pages_then v))
      ≡ search_at fnv_family (shape v.g) (viewed v main ram) v.n0 v.d0 key
  unfolding search_at
  search_is s e = ap (λ (o : Option Stop). ram_first o (pages_below v main ram key (key_positions fnv_family (shape v.g) key) (pages_then v))) e

  pub search_cost : (s : Option Stop) (c : ℕ) → s ≡ scan (try_of v main ram key) (pages_then v * per_page v) (v.n0 % per_page v)
      → c ≡ scan_cost (try_of v main ram key) (cost_of v main ram key) (pages_then v * per_page v) (v.n0 % per_page v)
      → c + unless_ended s (cost_below v main ram key (key_positions fnv_family (shape v.g) key) (pages_then v))
      ≡ da_pages_at fnv_family (shape v.g) (viewed v main ram) v.n0 v.d0 key
  unfolding da_pages_at
  search_cost s c e f = λ t. f t + unless_ended (e t) (cost_below v main ram key (key_positions fnv_family (shape v.g) key) (pages_then v))

  -- without a full page there is nothing more
  module _ (pos : 0 < per_page v) (few : v.n0 < per_page v) (e : none ≡ scan (try_of v main ram key) (pages_then v * per_page v) (v.n0 % per_page v)) where
    no_page : 0 ≡ pages_then v
    no_page = omega (arith, div_lt v.n0 (per_page v) 1 pos (omega (arith, few)))

    pub search_open : reply none 0 ≡ search_at fnv_family (shape v.g) (viewed v main ram) v.n0 v.d0 key
    unfolding search_pages
    search_open = ap (pages_below v main ram key (key_positions fnv_family (shape v.g) key)) no_page ∙ search_is none e

    pub cost_open : (c : ℕ) → c ≡ scan_cost (try_of v main ram key) (cost_of v main ram key) (pages_then v * per_page v) (v.n0 % per_page v)
        → c ≡ da_pages_at fnv_family (shape v.g) (viewed v main ram) v.n0 v.d0 key
    unfolding pages_cost
    cost_open c f =
        let z : 0 ≡ cost_below v main ram key (key_positions fnv_family (shape v.g) key) (pages_then v)
        = ap (cost_below v main ram key (key_positions fnv_family (shape v.g) key)) no_page in
        let a : c ≡ c + cost_below v main ram key (key_positions fnv_family (shape v.g) key) (pages_then v) = omega (arith, z) in
        a ∙ search_cost none c e f

-- ---- the test of a number

met_is : (b : Bool) (r : Stop) → is_found (cond b (some r) none) ≡ b
met_is true r = refl
met_is false r = refl

-- a test reads nothing of the records
test_viewed : (v : View) (main ram : List ℕ) (j : ℕ)
    → test_deletion fnv_family (shape v.g) (tests.held (deletions_of v) main ram) v.d0 j
    ≡ test_deletion fnv_family (shape v.g) (viewed v main ram) v.d0 j
unfolding test_deletion try_deletion maybe_deleted
test_viewed v main ram j = refl

-- the test of its deletions, as it is called
module _ (v : View) (main ram : List ℕ) (j : ℕ) (t : Deletions) (t_is : t ≡ deletions_of v) (r : Tested)
    (is : tested_of j r ≡ test_deletion fnv_family (shape t.g) (tests.held t main ram) t.d0 j) where
  told : tested_of j r ≡ test_deletion fnv_family (shape v.g) (viewed v main ram) v.d0 j
  told = (rw t_is at is) ∙ test_viewed v main ram j

  told_met : r.met ≡ deleted_of v main ram j
  told_met = sym (met_is r.met (found j)) ∙ ap (λ (f : Found). is_found f.stop) told

  told_opened : r.opened ≡ test_cost v main ram j
  told_opened = ap (λ (f : Found). f.opened) told

-- ---- the next entry with the key of those in a row, with number j

module _ (v : View) (main ram : List ℕ) {page : List ℕ} {start : ℕ} {key : Key} {count base : ℕ} {e : Place} {sum : ℕ}
    (L : Left page start key (try_in v main ram key page start) (cost_in v main ram key page start) 0 count base e sum)
    {k : ℕ} (here : e ≡ Some k) {j : ℕ} (number : j ≡ number_in (word page (start + k * 8 + 4))) where
  abbrev row : Same page start count v.n0 key (deleted_of v main ram) (test_cost v main ram) (try_in v main ram key page start) (cost_in v main ram key page start) 0
  row = same_bytes v main ram key page start count

  pub row_corrupt : v.n0 ≤ j
      → (scan (try_in v main ram key page start) 0 count ≡ some corrupt)
      × (sum ≡ base + scan_cost (try_in v main ram key page start) (cost_in v main ram key page start) 0 count)
  row_corrupt = left_corrupt row L here number

  pub row_less : (n : Place) → n ≡ place_of (last_entry page start k key) → past n < past e
  row_less = left_less row L here number

  -- it is tested
  module _ (below : j < v.n0) where
    module _ {t : Deletions} (t_is : t ≡ deletions_of v) (r : Tested)
        (is : tested_of j r ≡ test_deletion fnv_family (shape t.g) (tests.held t main ram) t.d0 j) where
      pub row_paid : sum + r.opened ≤ base + scan_cost (try_in v main ram key page start) (cost_in v main ram key page start) 0 count
      row_paid = omega (arith, left_most row L here number below, told_opened v main ram j t t_is r is)

      pub row_found : r.met ≡ false
          → (scan (try_in v main ram key page start) 0 count ≡ some (found j))
          × (sum + r.opened ≡ base + scan_cost (try_in v main ram key page start) (cost_in v main ram key page start) 0 count)
      row_found = left_found row L here number below r.met r.opened (told_met v main ram j t t_is r is) (told_opened v main ram j t t_is r is)

      pub row_next : (n : Place) → r.met ≡ true → n ≡ place_of (last_entry page start k key)
          → Left page start key (try_in v main ram key page start) (cost_in v main ram key page start) 0 count base n (sum + r.opened)
      row_next = left_next row L here number below r.met r.opened (told_met v main ram j t t_is r is) (told_opened v main ram j t t_is r is)

-- ---- a volume that fits

module _ {v : View} {main ram : List ℕ} (R : ViewFits v main ram) where
  -- eight full pages to a block of records
  pages_le : pages v ≤ 8 * v.g.ra
  pages_le =
      let h : v.n < (8 * v.g.ra + 1) * (8 * v.g.chip.unit) = omega (arith, R.n_cap, v.g.power.some) in
      omega (arith, div_lt v.n (8 * v.g.chip.unit) (8 * v.g.ra + 1) (omega (arith, v.g.power.some)) h)

  pub pages_few : pages v ≤ 32768
  pages_few = omega (arith, pages_le, v.g.ra_allowed.1)

  -- those of the view are among them
  pub pages_then_lem : pages_then v ≤ pages v
  pages_then_lem = full_mono v.n0 v.n (per_page v) (omega (arith, v.g.power.some)) R.n0_le

  -- a full page lies within the flash
  pub page_in : (p : ℕ) → p < pages v
      → layout.ka_block (shape v.g) * layout.block v.g.chip.unit + p * layout.page v.g.chip.unit + layout.page v.g.chip.unit ≤ length main
  page_in p h =
      let b : p + 1 ≤ 16 * layout.ka_blocks (shape v.g) = omega (arith, pages_le) in
      let k : layout.ka_block (shape v.g) + layout.ka_blocks (shape v.g) ≤ layout.blocks (shape v.g) = omega arith in
      omega (arith, mul-le-mul_right (layout.page v.g.chip.unit) b, mul-le-mul_right (layout.block v.g.chip.unit) k, R.read.main_fits)

  -- entries past the last full page are fewer than a page's
  pub slots_lt : v.n0 % per_page v < per_page v
  slots_lt = mod-lt v.n0 (omega (arith, v.g.power.some))

  -- full sets
  pub sets_le : in_full v.g.chip.unit (pages v) ≤ layout.full_sets (shape v.g)
  sets_le =
      let s = v.g.power.some in
      let a : pages v / 8 / 16 * 16 ≤ v.g.ra = omega (arith, pages_le) in
      let E = euclid (pages v / 8 / 16) (4 * v.g.chip.unit) (omega arith) in
      let F = euclid v.g.ra (64 * v.g.chip.unit) (omega arith) in
      either (lt? (layout.full_sets (shape v.g)) (in_full v.g.chip.unit (pages v)))
      (λ h. absurd (omega (arith, mul-le-mul_right v.g.chip.unit h.1, a, E.whole, F.whole, F.small)))
      (λ h. h.1)

  -- ---- what a search may cost

  -- the pages that a test opens are at most as many as the deletions
  test_most : (j : ℕ) → test_cost v main ram j ≤ 33554432
  unfolding test_deletion
  test_most j =
      omega (
        arith,
        ram_first_most (scan try (v.d0 / q * q) (v.d0 % q)) (search_pages gate try q (v.d0 / q)),
        opened_le gate try q (v.d0 / q),
        quotient,
        R.d0_le,
        R.d_cap,
        deletion_capacity_le v.g,
      )
    where
      gate : ℕ → Bool
      gate = maybe_deleted (shape v.g) (viewed v main ram) (number_positions fnv_family (shape v.g) j)

      try : ℕ → Option Stop
      try = try_deletion (shape v.g) (viewed v main ram) j

      q : ℕ
      q = layout.deletions_per_page v.g.chip.unit

      quotient : v.d0 / q ≤ v.d0
      quotient =
          let some : 1 ≤ layout.deletions_per_page v.g.chip.unit = omega (arith, v.g.power.some) in
          let a : v.d0 / q * 1 ≤ v.d0 / q * q = mul-le-mul_left (v.d0 / q) some in
          omega (arith, a, div-mul-le_self v.d0 q)

  records_most : v.n0 ≤ 8388608
  records_most = omega (arith, R.n0_le, R.n_cap, record_capacity_le v.g)

  module _ (key : Key) where
    entry_most : (k' j : ℕ) → entry_cost v.n0 (test_cost v main ram) key k' j ≤ 33554432
    entry_most k' j =
        either (bool? (same_key k' key))
        (λ t.
        either (bool? (leb v.n0 j))
        (λ s. rw (t, s) (omega arith))
        (λ s. rw (t, s) (test_most j)))
        (λ t. rw t (omega arith))

    pub cost_in_most : (bytes : List ℕ) (from i : ℕ) → cost_in v main ram key bytes from i ≤ 33554432
    cost_in_most bytes from i = entry_most (key_at bytes (from + i * 8)) (number_in (word bytes (from + i * 8 + 4)))

    cost_of_most : (i : ℕ) → cost_of v main ram key i ≤ 33554432
    unfolding try_cost
    cost_of_most i = entry_most _ _

    -- of some entries in a row
    pub row_most : (bytes : List ℕ) (from count : ℕ) → count ≤ v.n0
        → scan_cost (try_in v main ram key bytes from) (cost_in v main ram key bytes from) 0 count < 18446744073709551616
    row_most bytes from count h =
        omega (
          arith,
          cost_most (try_in v main ram key bytes from) (cost_in v main ram key bytes from) 33554432 (cost_in_most bytes from) 0 count,
          h,
          records_most,
        )

    below_least : (ps : List ℕ) (p : ℕ) → p ≤ pages_then v → cost_below v main ram key ps p ≤ 281474976710656
    below_least ps p h =
        let a : p ≤ 32768 = omega (arith, h, pages_then_lem, pages_few) in
        let b : per_page v * 33554432 ≤ 8589934592 = omega (arith, v.g.power.most) in
        omega (
          arith,
          pages_cost_lem (maybe_in (shape v.g) (viewed v main ram) ps) (try_of v main ram key) (cost_of v main ram key) (per_page v) 33554432 cost_of_most p,
          mul-le-mul a b,
        )

    -- of all
    pub below_most : (ps : List ℕ) (p : ℕ) → p ≤ pages_then v → cost_below v main ram key ps p < 18446744073709551616
    below_most ps p h = omega (arith, below_least ps p h)

    pub all_most : (c d : ℕ) (ps : List ℕ) → c ≡ scan_cost (try_of v main ram key) (cost_of v main ram key) (pages_then v * per_page v) (v.n0 % per_page v)
        → d ≡ cost_below v main ram key ps (pages_then v) → c + d < 18446744073709551616
    all_most c d ps e f =
        omega (
          arith,
          e,
          f,
          cost_most (try_of v main ram key) (cost_of v main ram key) 33554432 cost_of_most (pages_then v * per_page v) (v.n0 % per_page v),
          below_least ps (pages_then v) (omega arith),
          slots_lt,
          v.g.power.most,
        )

  -- ---- the page that n₀ records do not fill, with q entries to a page

  module _ (q : ℕ) (q_is : q ≡ per_page v) where
    pub open_few : v.n0 % q ≤ v.n0
    open_few =
        let E = euclid v.n0 q (omega (arith, q_is, v.g.power.some)) in
        omega (arith, E.whole)

    -- by now it may be full
    module _ (filled : v.n0 / q < v.n / q) (start : ℕ) (at : start ≡ layout.ka_block (shape v.g) * layout.block v.g.chip.unit + v.n0 / q * layout.page v.g.chip.unit) where
      filled_is : pages_then v < pages v
      filled_is = rw q_is at filled

      at_is : start ≡ layout.ka_block (shape v.g) * layout.block v.g.chip.unit + pages_then v * layout.page v.g.chip.unit
      at_is = rw q_is at at

      pub open_in_flash : start + v.n0 % q * 8 ≤ length main
      open_in_flash = rw q_is (omega (arith, slots_lt, at_is, page_in (pages_then v) filled_is))

      module _ (key : Key) where
        same_there : Same main start (v.n0 % per_page v) v.n0 key (deleted_of v main ram) (test_cost v main ram) (try_of v main ram key) (cost_of v main ram key) (pages_then v * per_page v)
        same_there = same_flash v main ram key (pages_then v) start (v.n0 % per_page v) filled_is (omega (arith, slots_lt)) at_is

        pub open_on_flash : (s : Option Stop) → s ≡ scan (try_in v main ram key main start) 0 (v.n0 % q)
            → s ≡ scan (try_of v main ram key) (pages_then v * per_page v) (v.n0 % per_page v)
        open_on_flash s e = (rw q_is at e) ∙ scan_bytes v main ram key main start (v.n0 % per_page v) (pages_then v * per_page v) same_there

        pub cost_on_flash : (c : ℕ) → c ≡ scan_cost (try_in v main ram key main start) (cost_in v main ram key main start) 0 (v.n0 % q)
            → c ≡ scan_cost (try_of v main ram key) (cost_of v main ram key) (pages_then v * per_page v) (v.n0 % per_page v)
        cost_on_flash c e = (rw q_is at e) ∙ cost_bytes v main ram key main start (v.n0 % per_page v) (pages_then v * per_page v) same_there

    module _ (start : ℕ) (at : start ≡ layout.ka_ram v.g.chip.unit) where
      module _ (h : v.n / q ≤ v.n0 / q) (key : Key) where
        same_open : Same ram start (v.n0 % per_page v) v.n0 key (deleted_of v main ram) (test_cost v main ram) (try_of v main ram key) (cost_of v main ram key) (pages_then v * per_page v)
        same_open =
            let l : pages v ≤ pages_then v = rw q_is at h in
            let same : pages_then v ≡ pages v = omega (arith, pages_then_lem) in
            same_ram v main ram key start (v.n0 % per_page v) same (omega (arith, slots_lt)) at

        pub open_on_ram : (s : Option Stop) → s ≡ scan (try_in v main ram key ram start) 0 (v.n0 % q)
            → s ≡ scan (try_of v main ram key) (pages_then v * per_page v) (v.n0 % per_page v)
        open_on_ram s e = (rw q_is at e) ∙ scan_bytes v main ram key ram start (v.n0 % per_page v) (pages_then v * per_page v) same_open

        pub cost_on_ram : (c : ℕ) → c ≡ scan_cost (try_in v main ram key ram start) (cost_in v main ram key ram start) 0 (v.n0 % q)
            → c ≡ scan_cost (try_of v main ram key) (cost_of v main ram key) (pages_then v * per_page v) (v.n0 % per_page v)
        cost_on_ram c e = (rw q_is at e) ∙ cost_bytes v main ram key ram start (v.n0 % per_page v) (pages_then v * per_page v) same_open
