-- Deletions on flash and in RAM, the gates of their pages by blocks of filters, and parts of a ready volume.
use mathlib.Core.Path.{◌≡◌, refl, sym, ap, ◌∙◌}
use mathlib.Core.Bool.{Bool, true, false, ◌&&◌, and-eq-true_iff}
use mathlib.Core.Option.{Option, none}
use mathlib.Core.List.{List}
use Prim.Native.Nat.{ℕ, zero, suc, ◌+◌, ◌-◌, ◌*◌, ◌/◌, ◌%◌, ◌≤◌, ◌<◌}
use native.Mathlib.Nat.{mul-le-mul_right, mod-lt}
use native.Mathlib.Omega.{arith}
use lib.Dec.{ltb, eqb}
use lib.ListN.{length, get_or}
use borrow.Author.Tests.{lt-ltb, le-ltb, ltb-true}
use Rattle.memory.specs.Cases.{bool?, lt?, either}
use Rattle.memory.specs.Numbers.{euclid, div_lt}
use Rattle.memory.specs.Ranges.{any}
use Rattle.memory.specs.Words.{word}
use Rattle.layout.specs.Geometry as layout
use Rattle.layout.specs.Hash.{fnv_family}
use Rattle.layout.specs.Items.{DA, item_word}
use Rattle.layout.specs.Index.{in_full}
use Rattle.layout.specs.Search.{Stop, Found, reply, ram_first, scan, search_pages}
use Rattle.layout.specs.Calls.{deletion_index, deletion_filters, number_positions, try_deletion, maybe_deleted, test_deletion}
use Rattle.laws.specs.SetLaws.{deletion_places_suffice}
use Rattle.laws.specs.Walks.{onward}
use Rattle.laws.specs.WalkLaws.{full_mono, shut_out, newer_first, Part, free, part_free, lesser, same_order, Shown}
use Rattle.geometry.specs.Shape.{shape, unit_sound}
use Rattle.geometry.specs.Bounds.{deletion_index_le}
use Rattle.items.specs.Scans.{is_word, has_word}
use Rattle.items.specs.Reading.{page_word, ram_word}
use Rattle.kernels.specs.Blocks.{Upto}
use Rattle.filter.specs.Filter.{IndexFits}
use Rattle.filter.specs.Blocks.{BlockAt}
use Rattle.filter.specs.declared.groups.Block.{Block}
use Rattle.deletions.specs.declared.Deletions.{Deletions}
use Rattle.deletions.specs.Test.{held, DeletionsFit}
use Rattle.deletions.specs.Walk.{test_stop, try_held, try_word, past_pages, test_below, either_bit}

-- ---- numbers in a row

-- a scan of numbers in a row meets the one that is among them
pub scan_words : (bytes : List ℕ) (start j : ℕ) (try : ℕ → Option Stop) (lo n : ℕ)
    → ((k : ℕ) → k < n → try (lo + k) ≡ try_word bytes start j k) → scan try lo n ≡ test_stop j (has_word bytes start n j)
unfolding scan any is_word
scan_words bytes start j try lo zero same = refl
scan_words bytes start j try lo (suc n) same =
    either (bool? (eqb (word bytes (start + n * 4)) j))
    (λ t. rw (same n (omega arith), t))
    (λ t. rw (same n (omega arith), t) (scan_words bytes start j try lo n (λ k h. same k (omega arith))))

-- those of page p, by the first byte of all
pub scan_page : (u : ℕ) (bytes : List ℕ) (start j p at : ℕ) (t : Bool) → at ≡ start + p * layout.page u → t ≡ has_word bytes at (16 * u) j
    → scan (try_word bytes start j) (p * (16 * u)) (16 * u) ≡ test_stop j t
scan_page u bytes start j p at t is e =
    scan_words bytes at j (try_word bytes start j) (p * (16 * u)) (16 * u)
    (λ k h.
    let s : start + (p * (16 * u) + k) * 4 ≡ at + k * 4 = omega (arith, is) in
    ap (λ (x : ℕ). test_stop j (eqb (word bytes x) j)) s)
    ∙ ap (test_stop j) (sym e)

-- ---- the deletions

abbrev pub per_page : Deletions → ℕ
per_page t = layout.deletions_per_page t.g.chip.unit

-- full pages
abbrev pub pages : Deletions → ℕ
pages t = t.d / per_page t

abbrev pub pages_then : Deletions → ℕ
pages_then t = t.d0 / per_page t

-- the first byte of page p on flash
abbrev pub page_at : Deletions → ℕ → ℕ
page_at t p = layout.da_block (shape t.g) * layout.block t.g.chip.unit + p * layout.page t.g.chip.unit

module _ (t : Deletions) (main ram : List ℕ) (j : ℕ) where
  one_word : (i w : ℕ) → item_word t.g.chip.unit (DA (shape t.g)) t.d main ram i 0 ≡ w
      → try_held t main ram j i ≡ test_stop j (eqb w j)
  unfolding try_deletion
  one_word i w e = rw e

  -- number k of page p, which is full by now
  pub try_flash : (p k : ℕ) → p < pages t → k < per_page t → try_held t main ram j (p * per_page t + k) ≡ try_word main (page_at t p) j k
  try_flash p k h l =
      one_word (p * per_page t + k) (word main (page_at t p + k * 4))
      (page_word t.g.chip.unit (DA (shape t.g)) t.d main ram p k 0 (omega arith) h l ∙ ap (λ (x : ℕ). word main x) (omega arith))

  -- number k of the page that is not full
  pub try_ram : (k : ℕ) → k < per_page t → try_held t main ram j (pages t * per_page t + k) ≡ try_word ram (layout.da_ram t.g.chip.unit) j k
  try_ram k l =
      one_word (pages t * per_page t + k) (word ram (layout.da_ram t.g.chip.unit + k * 4))
      (ram_word t.g.chip.unit (DA (shape t.g)) t.d main ram k 0 l ∙ ap (λ (x : ℕ). word ram x) (omega arith))

  -- numbers of full pages, by the first byte of an earlier one
  try_row : (a p k : ℕ) → a + p < pages t → k < per_page t → try_held t main ram j ((a + p) * per_page t + k)
      ≡ try_word main (page_at t a) j (p * per_page t + k)
  try_row a p k h l =
      let e : page_at t (a + p) + k * 4 ≡ page_at t a + (p * per_page t + k) * 4 = omega arith in
      try_flash (a + p) k h l ∙ ap (λ (x : ℕ). test_stop j (eqb (word main x) j)) e

  -- the numbers past the last full page first
  pub test_is : (met : Bool) → test_stop j met ≡ past_pages t main ram j
      → ram_first (test_stop j met) (test_below t main ram j (number_positions fnv_family (shape t.g) j) (pages_then t))
      ≡ test_deletion fnv_family (shape t.g) (held t main ram) t.d0 j
  unfolding test_deletion
  test_is met e =
      ap (λ (o : Option Stop). ram_first o (test_below t main ram j (number_positions fnv_family (shape t.g) j) (pages_then t))) e

  -- without a full page there is nothing more
  pub test_open : 0 < per_page t → t.d0 < per_page t → none ≡ past_pages t main ram j
      → reply none 0 ≡ test_deletion fnv_family (shape t.g) (held t main ram) t.d0 j
  unfolding search_pages
  test_open pos few e =
      let z : 0 ≡ pages_then t = omega (arith, div_lt t.d0 (per_page t) 1 pos (omega (arith, few))) in
      ap (test_below t main ram j (number_positions fnv_family (shape t.g) j)) z ∙ test_is false e

-- ---- a block of filters

module _ (t : Deletions) (main ram : List ℕ) (below : ℕ) (ps : List ℕ) (b : Block)
    (B : BlockAt t.g.chip.unit (deletion_index (shape t.g)) main ram (deletion_filters (shape t.g) t.d) (2 * below) ps b) where
  pub first_lt : b.start / 2 < below
  first_lt = omega (arith, B.start_lt)

  pub first_few : below ≤ b.start / 2 + 256
  first_few = omega (arith, B.few)

  -- a word has the gates of 32 pages
  pub block_shows : Shown either_bit 32 (b.start / 2) below b.words (maybe_deleted (shape t.g) (held t main ram) ps)
  unfolding Upto maybe_deleted
  block_shows w h i l =
      let f : ℕ = b.start / 2 + w * 32 + i in
      let s : b.start + (w * 64 + 2 * i) ≡ 2 * f = omega (arith, B.even) in
      let r : b.start + (w * 64 + (2 * i + 1)) ≡ 2 * f + 1 = omega (arith, B.even) in
      let x = rw s at (B.shown w h (2 * i) (omega arith)) in
      let y = rw r at (B.shown w h (2 * i + 1) (omega arith)) in
      let n : ℕ = 2 * below - b.start in
      let p = same_order (w * 64 + 2 * i) n f below (λ k. omega (arith, B.even)) (λ k. omega (arith, B.even)) in
      let o = same_order (w * 64 + (2 * i + 1)) n f below (λ k. omega (arith, B.even)) (λ k. omega (arith, B.even)) in
      either (bool? (ltb f below)) (λ c. rw (x, y, p, o, c)) (λ c. rw (x, y, p, o, c))

-- the pages of a word, whatever opens them
module _ (first below : ℕ) (words : List ℕ) (w : ℕ) (w_lt : w < 8) (gate : ℕ → Bool)
    (shows : Shown either_bit 32 first below words gate) where
  abbrev from : ℕ
  from = first + w * 32

  abbrev bits : ℕ
  bits = get_or words w 0

  -- one that is open is below
  pub word_in : (i : ℕ) → i < 32 → either_bit bits i ≡ true → from + i < below
  word_in i h s = ltb-true (from + i) below ((and-eq-true_iff (ltb (from + i) below) (gate (from + i))).0 (sym (shows w w_lt i h) ∙ s)).0

  -- newest first, as they were found by themselves, and then those below them
  module _ (t : Deletions) (main ram : List ℕ) (j : ℕ) (full : below ≤ pages t) (from_lt : from < below) (at : ℕ)
      (at_is : at ≡ page_at t from) where
    -- those that are below
    abbrev n : ℕ
    n = lesser (from + 32) below - from

    word_below : search_pages (either_bit bits) (try_word main at j) (per_page t) 32
        ≡ search_pages (either_bit bits) (try_word main at j) (per_page t) n
    word_below =
        (shut_out (either_bit bits) (try_word main at j) free (per_page t) 32 n (omega arith)
        (λ i a c. shows w w_lt i c ∙ ap (λ (x : Bool). x && gate (from + i)) (le-ltb (from + i) below (omega arith)))).0

    pub word_part : (met : Bool) (k : ℕ) → reply (test_stop j met) k ≡ search_pages (either_bit bits) (try_word main at j) (per_page t) 32
        → Part gate (try_held t main ram j) free (per_page t) (lesser (from + 32) below) from k 0 (test_stop j met)
    word_part met k e =
        let s : lesser (from + 32) below ≡ from + n = omega arith in
        part_free gate (try_held t main ram j) (per_page t)
        (ap (search_pages gate (try_held t main ram j) (per_page t)) s
        ∙ newer_first gate (try_held t main ram j) free (per_page t) (either_bit bits) (try_word main at j) from n
        (λ i h. sym (shows w w_lt i (omega arith) ∙ rw (lt-ltb (from + i) below (omega arith))))
        (λ i k h l. rw at_is (try_row t main ram j from i k (omega (arith, full)) l))
        ∙ ap (λ (r : Found). onward r.stop r.opened (search_pages gate (try_held t main ram j) (per_page t) from))
        (sym (e ∙ word_below)))

-- ---- a ready volume

module _ {t : Deletions} {main ram : List ℕ} (R : DeletionsFit t main ram) where
  pub page_some : 0 < per_page t
  page_some = omega (arith, t.g.power.some)

  -- sixteen full pages to a block of deletions
  pages_le : pages t ≤ 16 * t.g.da
  pages_le =
      let h : t.d < (16 * t.g.da + 1) * per_page t = omega (arith, R.cap, page_some) in
      omega (arith, div_lt t.d (per_page t) (16 * t.g.da + 1) page_some h)

  pub pages_few : pages t ≤ 65536
  pages_few = omega (arith, pages_le, t.g.da_allowed.1)

  -- those tested are among them
  pub pages_then_lem : pages_then t ≤ pages t
  pages_then_lem = full_mono t.d0 t.d (per_page t) page_some R.bound

  -- a full page lies within the flash
  pub page_in : (p : ℕ) → p < pages t → page_at t p + layout.page t.g.chip.unit ≤ length main
  page_in p h =
      let b : p + 1 ≤ 16 * t.g.da = omega (arith, pages_le) in
      let k : layout.da_block (shape t.g) + t.g.da ≤ layout.blocks (shape t.g) = omega arith in
      let u : ℕ = t.g.chip.unit in
      omega (arith, mul-le-mul_right (layout.page u) b, mul-le-mul_right (layout.block u) k, R.read.main_fits)

  -- numbers past the last full page are fewer than a page's
  pub slots_lt : t.d0 % per_page t < per_page t
  slots_lt = mod-lt t.d0 page_some

  -- its index
  pub sets_le : in_full t.g.chip.unit (deletion_filters (shape t.g) t.d) ≤ layout.deletion_sets (shape t.g)
  sets_le = deletion_places_suffice t.g.chip.unit t.g.da t.d t.g.power.some R.cap

  pub index_fits : IndexFits t.g.chip.unit (deletion_index (shape t.g)) (layout.deletion_sets (shape t.g)) main ram
  index_fits = record {
    unit = unit_sound t.g;
    near = omega (arith, deletion_index_le t.g);
    on_flash_lem = omega (arith, R.read.main_fits);
    in_ram_lem = omega (arith, R.read.ram_fits);
  }

  -- ---- the page that d₀ deletions do not fill, with q numbers to a page

  module _ (q : ℕ) (q_is : q ≡ per_page t) (count full : ℕ) (count_is : count ≡ t.d0 % q) (Full-is : full ≡ t.d0 - count) where
    full_then : full ≡ pages_then t * per_page t
    full_then =
        let E = euclid t.d0 (per_page t) page_some in
        let c : count ≡ t.d0 % per_page t = rw q_is at count_is in
        omega (arith, Full-is, c, E.whole)

    -- by now it may be full
    module _ (filled : full < t.d / q * q) (start : ℕ) (at : start ≡ layout.da_block (shape t.g) * layout.block t.g.chip.unit) where
      filled_is : pages_then t < pages t
      filled_is =
          let f : full < pages t * per_page t = rw q_is at filled in
          either (lt? (pages_then t) (pages t)) (λ c. c.1) (λ c. absurd (omega (arith, mul-le-mul_right (per_page t) c.1, f, full_then)))

      pub open_in_flash : start + full * 4 + count * 4 ≤ length main
      open_in_flash =
          let c : count ≡ t.d0 % per_page t = rw q_is at count_is in
          omega (arith, c, slots_lt, at, full_then, page_in (pages_then t) filled_is)

      pub open_on_flash : (j : ℕ) (met : Bool) → met ≡ has_word main (start + full * 4) count j
          → test_stop j met ≡ past_pages t main ram j
      open_on_flash j met e =
          let c : count ≡ t.d0 % per_page t = rw q_is at count_is in
          let a : start + full * 4 ≡ page_at t (pages_then t) = omega (arith, at, full_then) in
          ap (test_stop j) (rw (a, c) at e)
          ∙ sym (scan_words main (page_at t (pages_then t)) j (try_held t main ram j) (pages_then t * per_page t) (t.d0 % per_page t)
          (λ k h. try_flash t main ram j (pages_then t) k filled_is (omega (arith, slots_lt))))

    module _ (start : ℕ) (at : start ≡ layout.da_ram t.g.chip.unit) where
      pub open_on_ram : t.d / q * q ≤ full → (j : ℕ) (met : Bool) → met ≡ has_word ram start count j
          → test_stop j met ≡ past_pages t main ram j
      open_on_ram h j met e =
          let c : count ≡ t.d0 % per_page t = rw q_is at count_is in
          let l : pages t * per_page t ≤ full = rw q_is at h in
          let same : pages_then t ≡ pages t = either (lt? (pages_then t) (pages t))
          (λ c. absurd (omega (arith, mul-le-mul_right (per_page t) c.1, l, full_then, page_some)))
          (λ c. omega (arith, c.1, pages_then_lem)) in
          ap (test_stop j) (rw (at, c) at e)
          ∙ sym (scan_words ram (layout.da_ram t.g.chip.unit) j (try_held t main ram j) (pages_then t * per_page t) (t.d0 % per_page t)
          (λ k h. rw same (try_ram t main ram j k (omega (arith, slots_lt)))))
