-- A volume that holds the image of a history: its search finds the history's live records, by bounds those of an earlier one.
use Rattle.std.specs.Prelude.{◌≡◌, refl, true, false, cond, List, ℕ, ◌+◌, ◌-◌, ◌*◌, ◌/◌, ◌%◌, ◌^◌, ◌≤◌, ◌<◌}
use Rattle.std.proofs.Common.{sym, ap₂, ◌∙◌, mul-le-mul_right, mod-lt, le-div_iff_mul-le}
use Rattle.std.proofs.Math.Path.{ap}
use Rattle.std.proofs.Math.Bool.{or-true}
use Rattle.std.proofs.Math.Option.{none, some, map}
use native.Mathlib.Omega.{arith}
use Rattle.std.proofs.Math.ListN.{length, get_or}
use Rattle.std.proofs.Math.Arith.{digits_lt}
use Rattle.std.proofs.Math.Dec.{eqb}
use borrow.Author.Tests.{lt-leb, le-ltb}
use Rattle.memory.specs.Cases.{either, bool?, lt?, eq?}
use Rattle.memory.specs.Numbers.{euclid}
use Rattle.memory.specs.Ranges.{any_ext, any_at, memb, any_memb, all_of_true, memb_tabulate_all}
use Rattle.memory.specs.Lists.{tabulate, is_tabulate}
use Rattle.memory.specs.Words.{bytes4, byte_of}
use Rattle.layout.specs.Keys.{Key, same_key, key_bytes, key_in, number_in}
use Rattle.layout.specs.Geometry.{Geometry, geometry, allowed, block, filter_bits, entries_per_page, ka_blocks, full_sets, record_capacity}
use Rattle.layout.specs.Geometry.{deletion_capacity, deletion_sets, Sizes, unit_of}
use Rattle.layout.specs.Flash.{Flash}
use Rattle.layout.specs.Hash.{Family, positions}
use Rattle.layout.specs.Items.{Record, Ra, KA, DA, item_word, item_place, bytes_at, record_bytes}
use Rattle.layout.specs.Index.{filter_bit}
use Rattle.layout.specs.Search.{found, is_found}
use Rattle.layout.specs.Calls.{Volume, key_index, key_filters, key_positions, bad_state, too_short, is_deleted, entry_word, try_at, maybe_in}
use Rattle.layout.specs.Calls.{search_at, search, deletion_index, deletion_filters, number_positions, try_deletion, deletion_bits, maybe_deleted}
use Rattle.layout.specs.Calls.{test_deletion, tested_deleted}
use Rattle.history.specs.Image.{History, record_at, ra_item, ka_item, da_item, key_filter}
use Rattle.history.specs.Image.{deletion_filter}
use Rattle.history.specs.Before.{Before}
use Rattle.history.proofs.Before.{before_same, record_kept_lem, deletion_kept_lem, records_le, deleted_le}
use Rattle.history.specs.Live.{live_at, find_live}
use Rattle.history.proofs.Live.{live_key}
use Rattle.history.proofs.ScanLaws.{search_all, search_opened, scan_live, scan_any}
use Rattle.history.proofs.AreaLaws.{read_word, read_bytes}
use Rattle.history.proofs.IndexLaws.{read_filter}
use Rattle.laws.specs.ItemLaws.{length_record, entry_key, entry_number, deletion_number}
use Rattle.laws.specs.SetLaws.{places_suffice, deletion_places_suffice}
use Rattle.laws.specs.Lengths.{not_short}
use Rattle.laws.specs.Sound.{SizesSound}
use Rattle.laws.specs.Sound as units
use Rattle.history.specs.Volumes.{Holds, volume_of}

-- ---- a record by its bytes

tabulate_record : (r : Record) → tabulate 16 (λ b. get_or (record_bytes r) b 0) ≡ record_bytes r
tabulate_record r = sym (is_tabulate (record_bytes r) 16 (λ b. get_or (record_bytes r) b 0) (length_record r) (λ i h. refl))

module _ (h : Family) (sizes : Sizes) (ok : SizesSound sizes) where
  abbrev g : Geometry
  g = geometry sizes

  abbrev pu : 0 < unit_of sizes
  pu = units.pu sizes ok

  module _ (H : History) (C : Flash) (ram : List ℕ) (I : Holds h sizes H C ram) where
    abbrev n : ℕ
    n = length H.records

    abbrev d : ℕ
    d = length H.deleted

    abbrev v : Volume
    v = volume_of sizes H C ram

    -- record numbers are numbers of three bytes
    n_few : length H.records < 2 ^ 24
    n_few = omega (arith, I.n_cap, units.few_records sizes ok)

    pub n_word : length H.records < 2 ^ 32
    n_word = omega (arith, n_few)

    ka_room : length H.records * 8 ≤ ka_blocks g * block (unit_of sizes)
    ka_room =
        let half : sizes.ra_blocks ≤ (sizes.ra_blocks + 1) / 2 * 2 = omega arith in
        omega (arith, I.n_cap, mul-le-mul_right (unit_of sizes) half)

    -- word x of entry j
    word_at : (j x value : ℕ) → j < length H.records → x < 2 → value < 2 ^ 32
        → ((b : ℕ) → b < 4 → ka_item H j (x * 4 + b) ≡ byte_of value b) → entry_word g v j x ≡ value
    word_at j x value l two fits bytes =
        read_word (unit_of sizes) pu (KA g) (ka_blocks g) (omega arith) (omega (arith, pu)) (omega arith) (ka_item H) n C.main
        C.spare ram I.parts.ka ka_room j x value l (omega arith) fits bytes

    level_at_lem : (j : ℕ) → j < length H.records → entry_word g v j 0 ≡ (record_at H j).key
    level_at_lem j l = word_at j 0 (record_at H j).key l (omega arith) (I.keys j l).level_lt (λ b m. entry_key (record_at H j).key j b m)

    second_at : (j : ℕ) → j < length H.records → entry_word g v j 1 ≡ j
    second_at j l = word_at j 1 j l (omega arith) (omega (arith, n_few)) (λ b m. entry_number (record_at H j).key j b m)

    pub key_at_lem : (j : ℕ) → j < length H.records → key_in (entry_word g v j 0) (entry_word g v j 1) ≡ (record_at H j).key
    key_at_lem j l = ap₂ key_in (level_at_lem j l) (second_at j l)

    pub number_at : (j : ℕ) → j < length H.records → number_in (entry_word g v j 1) ≡ j
    number_at j l = ap number_in (second_at j l)

    pub deletion_at : (i : ℕ) → i < length H.deleted → item_word (unit_of sizes) (DA g) d C.main ram i 0 ≡ get_or H.deleted i 0
    deletion_at i l =
        read_word (unit_of sizes) pu (DA g) sizes.da_blocks (omega arith) (omega (arith, pu)) (omega arith) (da_item H) d C.main
        C.spare ram I.parts.da (omega (arith, I.d_cap))
        i 0 (get_or H.deleted i 0) l (omega arith) (omega (arith, I.gone i l, n_word))
        (λ b m. deletion_number (get_or H.deleted i 0) b m)

    -- every filter on the volume reads as the history says
    pub filter_is : (f x : ℕ) → f < length H.records / (8 * (unit_of sizes)) → x < filter_bits (unit_of sizes)
        → filter_bit (unit_of sizes) (key_index g) C.main ram (key_filters g n) f x ≡ key_filter h g H f x
    filter_is f x l m =
        read_filter (unit_of sizes) ok.e (units.unit sizes ok) (key_index g) (full_sets g) (key_filter h g H) (key_filters g n) C.main
        C.spare ram
        I.parts.filters
        (places_suffice (unit_of sizes) sizes.ra_blocks (length H.records) pu I.n_cap) f x l m

    -- positions lie in a filter, whatever bytes are hashed
    pub position_lt : (bytes : List ℕ) (x : ℕ) → memb x (positions h g.k g.u bytes) ≡ true → x < filter_bits (unit_of sizes)
    unfolding positions
    position_lt bytes x q =
        memb_tabulate_all (λ y. y < 64 * (unit_of sizes)) g.k
        (λ j. h 0 bytes % 4 * (16 * (unit_of sizes)) + h (j + 1) bytes % (16 * (unit_of sizes)))
        (λ j l.
        let a : h 0 bytes % 4 * (16 * (unit_of sizes)) + h (j + 1) bytes % (16 * (unit_of sizes)) < 4 * (16 * (unit_of sizes))
        = digits_lt (mod-lt (h 0 bytes) {m = 4} (omega arith)) (mod-lt (h (j + 1) bytes) (omega (arith, pu))) in
        omega arith)
        x q

    -- a page that holds a live record of the key has all its bits: no false negatives
    pub passes : (k : Key) (f i : ℕ) → f < length H.records / (8 * (unit_of sizes)) → i < 8 * (unit_of sizes)
        → (record_at H (f * (8 * (unit_of sizes)) + i)).key ≡ k → maybe_in g v (key_positions h g k) f ≡ true
    unfolding maybe_in key_filter
    passes k f i l m q =
        all_of_true _ (key_positions h g k) (λ x a.
        filter_is f x l (position_lt (key_bytes k) x a)
        ∙ any_at (λ i. memb x (key_positions h g (record_at H (f * (8 * (unit_of sizes)) + i)).key)) (8 * (unit_of sizes)) i m (rw q a))

    -- ---- the same of the index over DA

    pub deletion_filter_is : (f x : ℕ) → f < 2 * (length H.deleted / (16 * unit_of sizes)) → x < filter_bits (unit_of sizes)
        → filter_bit (unit_of sizes) (deletion_index g) C.main ram (deletion_filters g d) f x ≡ deletion_filter h g H f x
    deletion_filter_is f x l m =
        read_filter (unit_of sizes) ok.e (units.unit sizes ok) (deletion_index g) (deletion_sets g) (deletion_filter h g H)
        (deletion_filters g d) C.main C.spare ram I.parts.deletions
        (deletion_places_suffice (unit_of sizes) sizes.da_blocks (length H.deleted) pu I.d_cap) f x l m

    -- a filter with the number among its own has all its bits
    half_passes : (j f i : ℕ) → f < 2 * (length H.deleted / (16 * unit_of sizes)) → i < 8 * unit_of sizes
        → get_or H.deleted (f * (8 * unit_of sizes) + i) 0 ≡ j → deletion_bits g v (number_positions h g j) f ≡ true
    unfolding deletion_filter
    half_passes j f i l m q =
        all_of_true _ (number_positions h g j) (λ x a.
        deletion_filter_is f x l (position_lt (bytes4 j) x a)
        ∙ any_at (λ i. memb x (number_positions h g (get_or H.deleted (f * (8 * unit_of sizes) + i) 0))) (8 * unit_of sizes) i m (rw q a))

    -- a page that holds the number is opened: no false negatives
    pub deletion_passes : (j p i : ℕ) → p < length H.deleted / (16 * unit_of sizes) → i < 16 * unit_of sizes
        → get_or H.deleted (p * (16 * unit_of sizes) + i) 0 ≡ j → maybe_deleted g v (number_positions h g j) p ≡ true
    unfolding maybe_deleted
    deletion_passes j p i l m q =
        either (lt? i (8 * unit_of sizes))
        (λ a.
        let s : 2 * p * (8 * unit_of sizes) + i ≡ p * (16 * unit_of sizes) + i = omega arith in
        let first = half_passes j (2 * p) i (omega arith) a.1 (ap (λ (y : ℕ). get_or H.deleted y 0) s ∙ q) in
        rw first)
        (λ a.
        let s : (2 * p + 1) * (8 * unit_of sizes) + (i - 8 * unit_of sizes) ≡ p * (16 * unit_of sizes) + i = omega arith in
        let second = half_passes j (2 * p + 1) (i - 8 * unit_of sizes) (omega arith) (omega arith)
        (ap (λ (y : ℕ). get_or H.deleted y 0) s ∙ q) in
        rw second (or-true (deletion_bits g v (number_positions h g j) (2 * p))))

    -- ---- the search among the records and deletions of an earlier history, whose counts are its bounds

    module _ (H₀ : History) (B : Before H₀ H) where
      abbrev n₀ : ℕ
      n₀ = length H₀.records

      abbrev d₀ : ℕ
      d₀ = length H₀.deleted

      -- the plain test of a record number
      deleted_then : (j : ℕ) → is_deleted g v d₀ j ≡ memb j H₀.deleted
      unfolding is_deleted
      deleted_then j =
          any_ext _ (λ i. eqb (get_or H₀.deleted i 0) j) (length H₀.deleted)
          (λ i l. ap (λ (x : ℕ). eqb x j) (deletion_at i (omega (arith, deleted_le H₀ H B)) ∙ deletion_kept_lem H₀ H B i l))
          ∙ any_memb j H₀.deleted

      -- the test by filters
      tried_then : (j i : ℕ) → i < length H₀.deleted
          → try_deletion g v j i ≡ cond (eqb (get_or H₀.deleted i 0) j) (some (found j)) none
      unfolding try_deletion
      tried_then j i l = rw (deletion_at i (omega (arith, deleted_le H₀ H B)), deletion_kept_lem H₀ H B i l)

      -- a page that was full then has its filters now
      pub shut_then : (j p i : ℕ) → p < length H₀.deleted / (16 * unit_of sizes) → i < 16 * unit_of sizes
          → maybe_deleted g v (number_positions h g j) p ≡ false → try_deletion g v j (p * (16 * unit_of sizes) + i) ≡ none
      shut_then j p i l m c =
          let q : 0 < 16 * unit_of sizes = omega (arith, pu) in
          let E = euclid (length H₀.deleted) (16 * unit_of sizes) q in
          let b : p * (16 * unit_of sizes) + i < length H₀.deleted = omega (arith, mul-le-mul_right (16 * unit_of sizes) l, E.whole) in
          let now : p < length H.deleted / (16 * unit_of sizes)
          = (le-div_iff_mul-le q).1 (omega (arith, mul-le-mul_right (16 * unit_of sizes) l, E.whole, deleted_le H₀ H B)) in
          tried_then j (p * (16 * unit_of sizes) + i) b
          ∙ either (eq? (get_or H₀.deleted (p * (16 * unit_of sizes) + i) 0) j)
          (λ t. let z : false ≡ true = sym c ∙ deletion_passes j p i now m (deletion_kept_lem H₀ H B _ b ∙ t.1) in cc)
          (λ t. rw t.0)

      tested_then : (j : ℕ) → tested_deleted h g v d₀ j ≡ memb j H₀.deleted
      unfolding test_deletion
      tested_then j =
          ap is_found (search_all (maybe_deleted g v (number_positions h g j)) (try_deletion g v j) (16 * unit_of sizes) (length H₀.deleted)
          (omega (arith, pu)) (shut_then j))
          ∙ scan_any (try_deletion g v j) (λ i. eqb (get_or H₀.deleted i 0) j) (found j) (length H₀.deleted) (tried_then j)
          ∙ any_memb j H₀.deleted

      -- both agree
      pub tests_agree : (j : ℕ) → tested_deleted h g v d₀ j ≡ is_deleted g v d₀ j
      tests_agree j = tested_then j ∙ sym (deleted_then j)

      pub try_then : (k : Key) (j : ℕ) → j < length H₀.records → try_at h g v n₀ d₀ k j ≡ cond (live_at H₀ k j) (some (found j)) none
      unfolding try_at live_at
      try_then k j l =
          let b : j < length H.records = omega (arith, records_le H₀ H B) in
          rw (key_at_lem j b, number_at j b, record_kept_lem H₀ H B j l, lt-leb (length H₀.records) j l, tested_then j)
          (either (bool? (same_key (record_at H₀ j).key k))
          (λ a. either (bool? (memb j H₀.deleted)) (λ b. rw (a, b)) (λ b. rw (a, b)))
          (λ a. rw a))

      -- a page that was full then has its filter now, wherever it lies
      pub skipped : (k : Key) (f i : ℕ) → f < length H₀.records / (8 * unit_of sizes) → i < 8 * unit_of sizes
          → maybe_in g v (key_positions h g k) f ≡ false
          → try_at h g v n₀ d₀ k (f * (8 * unit_of sizes) + i) ≡ none
      skipped k f i l m c =
          let q : 0 < 8 * unit_of sizes = omega (arith, pu) in
          let E = euclid (length H₀.records) (8 * unit_of sizes) q in
          let j : f * (8 * unit_of sizes) + i < length H₀.records = omega (arith, mul-le-mul_right (8 * unit_of sizes) l, E.whole) in
          let now : f < length H.records / (8 * unit_of sizes)
          = (le-div_iff_mul-le q).1 (omega (arith, mul-le-mul_right (8 * unit_of sizes) l, E.whole, records_le H₀ H B)) in
          try_then k (f * (8 * unit_of sizes) + i) j
          ∙ either (bool? (live_at H₀ k (f * (8 * unit_of sizes) + i)))
          (λ t.
          let key : (record_at H (f * (8 * unit_of sizes) + i)).key ≡ k
          = ap (λ (r : Record). r.key) (record_kept_lem H₀ H B _ j) ∙ live_key H₀ k (f * (8 * unit_of sizes) + i) t in
          let z : false ≡ true = sym c ∙ passes k f i now m key in
          cc)
          (λ t. rw t)

      -- it ends at the newest record of the key that was live then, or finds none
      pub search_then : (k : Key) → (search_at h g v n₀ d₀ k).stop ≡ map found (find_live H₀ k)
      unfolding search_at
      search_then k =
          search_all (maybe_in g v (key_positions h g k)) (try_at h g v n₀ d₀ k) (8 * unit_of sizes) (length H₀.records) (omega (arith, pu))
          (skipped k)
          ∙ scan_live (try_at h g v n₀ d₀ k) (live_at H₀ k) (length H₀.records) (try_then k)

    -- the search ends at the newest live record of the key, or finds none
    pub search_is : (k : Key) → (search h g v k).stop ≡ map found (find_live H k)
    search_is k = search_then H (before_same H) k

    pub count_is : (k : Key) → (search h g v k).opened ≤ length H.records / entries_per_page (unit_of sizes)
    unfolding search_at
    count_is k = search_opened (maybe_in g v (key_positions h g k)) (try_at h g v n d k) (8 * unit_of sizes) (length H.records)

    -- the bytes of a record where it lies
    pub record_is_lem : (j : ℕ) → j < length H.records
        → bytes_at C.main ram (item_place (unit_of sizes) (Ra g) n j) 16 ≡ record_bytes (record_at H j)
    record_is_lem j l =
        read_bytes (unit_of sizes) pu (Ra g) sizes.ra_blocks (omega arith) (omega (arith, pu)) (omega arith) (ra_item H) n C.main
        C.spare ram I.parts.ra (omega (arith, I.n_cap)) j l
        ∙ tabulate_record (record_at H j)

    -- refusals 1 and 2 do not apply
    pub state_good : allowed sizes ≡ true → bad_state v.state ≡ false
    unfolding bad_state
    state_good a = rw (a, le-ltb (record_capacity g) n I.n_cap, le-ltb (deletion_capacity g) d I.d_cap, le-ltb n d I.d_le)

    pub long_enough : too_short g C ram ≡ false
    long_enough = not_short g C ram I.parts.long
