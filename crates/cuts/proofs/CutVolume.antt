-- The search on a cut volume: that of the history, as before the call.
use Rattle.std.specs.Prelude.{◌≡◌, refl, Bool, false, List, [], ◌∷◌, ℕ, ◌+◌, ◌*◌, ◌/◌, ◌≤◌, ◌<◌, length, eqb}
use Rattle.std.proofs.Math.Path.{sym, ap}
use Rattle.std.proofs.Common.{◌∙◌, mul-le-mul_right, arith, eq-eqb}
use Rattle.std.proofs.Math.Bool.{true, and-eq-true_iff, or-true}
use Rattle.std.proofs.Math.Option.{none, map}
use Rattle.memory.specs.Cases.{either, bool?}
use Rattle.memory.specs.Numbers.{div_lt}
use Rattle.memory.specs.Ranges.{memb, all_of}
use Rattle.memory.specs.Words.{bytes4}
use Rattle.layout.specs.Keys.{Key, key_bytes, number_in}
use Rattle.layout.specs.Geometry.{Geometry, geometry, Sizes, unit_of, ka_blocks, full_sets, deletion_sets, index_block}
use Rattle.layout.specs.Flash.{Op, Flash, apply_all}
use Rattle.layout.specs.Hash.{Family}
use Rattle.layout.specs.Items.{KA, DA, item_word}
use Rattle.layout.specs.Search.{found, is_found}
use Rattle.layout.specs.Calls.{Volume, key_index, key_filters, deletion_index, deletion_filters, key_positions, number_positions, try_deletion}
use Rattle.layout.specs.Calls.{deletion_bits, maybe_deleted, test_deletion, tested_deleted, entry_word, try_at, maybe_in, search_at, search}
use Rattle.laws.specs.SetLaws.{places_suffice, deletion_places_suffice}
use Rattle.laws.specs.WalkLaws.{scan_same}
use Rattle.laws.specs.Sound.{SizesSound}
use Rattle.laws.specs.Sound as units
use Rattle.history.specs.FlashLaws.{AllAllowed}
use Rattle.history.specs.Image.{History, ka_item, da_item, key_filter, deletion_filter}
use Rattle.history.proofs.Before.{before_same}
use Rattle.history.specs.Live.{live_at, find_live}
use Rattle.history.proofs.ScanLaws.{search_all, scan_live}
use Rattle.history.proofs.Volumes as volumes
use Rattle.history.specs.Volumes.{Holds, volume_of}
use Rattle.cuts.specs.CutLaws.{Apart}
use Rattle.cuts.specs.Kept.{Sized, ErasesIn}
use Rattle.cuts.proofs.CutSearch.{word_kept, filter_more}

-- a test that passes at all members of a list, and another that passes wherever the first does
all_more : (p q : ℕ → Bool) (l : List ℕ) → ((x : ℕ) → memb x l ≡ true → p x ≡ true → q x ≡ true) → all_of p l ≡ true → all_of q l ≡ true
unfolding all_of memb
all_more p q [] more a = refl
all_more p q (x ∷ xs) more a =
    let s = (and-eq-true_iff (p x) (all_of p xs)).0 a in
    let here : q x ≡ true = more x (rw (self x)) s.0 in
    rw here (all_more p q xs (λ y m. more y (either (bool? (eqb x y)) (λ t. rw t) (λ t. rw t m))) s.1)
  where
    self : (x : ℕ) → eqb x x ≡ true
    self x = eq-eqb x x refl

module _ (h : Family) (sizes : Sizes) (ok : SizesSound sizes) (H : History) (C : Flash) (ram : List ℕ) (I : Holds h sizes H C ram)
    (os : List Op) (hi : ℕ) (allowed : AllAllowed (unit_of sizes) os C) (apart : Apart os) (sized : Sized (unit_of sizes) os)
    (erases : ErasesIn (index_block (geometry sizes)) hi os) where
  abbrev g : Geometry
  g = geometry sizes

  abbrev X : Flash
  X = apply_all (unit_of sizes) os C

  -- the volume before, and after these operations, with the same counts and RAM
  abbrev v : Volume
  v = volume_of sizes H C ram

  abbrev w : Volume
  w = volume_of sizes H X ram

  abbrev n : ℕ
  n = length H.records

  abbrev d : ℕ
  d = length H.deleted

  pu : 0 < unit_of sizes
  pu = units.pu sizes ok

  ka_room : length H.records / (8 * unit_of sizes) ≤ ka_blocks g * 16
  ka_room =
      let half : sizes.ra_blocks ≤ (sizes.ra_blocks + 1) / 2 * 2 = omega arith in
      let l : length H.records / (8 * unit_of sizes) < ka_blocks g * 16 + 1
      = div_lt (length H.records) (8 * unit_of sizes) (ka_blocks g * 16 + 1) (omega (arith, pu))
      (omega (arith, pu, I.n_cap, mul-le-mul_right (unit_of sizes) half)) in
      omega (arith, l)

  da_room : length H.deleted / (16 * unit_of sizes) ≤ sizes.da_blocks * 16
  da_room =
      let l : length H.deleted / (16 * unit_of sizes) < sizes.da_blocks * 16 + 1
      = div_lt (length H.deleted) (16 * unit_of sizes) (sizes.da_blocks * 16 + 1) (omega (arith, pu)) (omega (arith, pu, I.d_cap)) in
      omega (arith, l)

  -- words of entries and numbers are as they were

  entry_same : (j i : ℕ) → i * 4 + 4 ≤ 8
      → item_word (unit_of sizes) (KA g) n (apply_all (unit_of sizes) os C).main ram j i ≡ item_word (unit_of sizes) (KA g) n C.main ram j i
  entry_same j i l =
      word_kept (unit_of sizes) ok.e (units.unit sizes ok).power C os allowed apart sized (KA g) (ka_blocks g) (index_block g) hi
      (ka_item H) n ram I.parts.ka (omega arith) (omega (arith, pu)) ka_room erases (omega arith) j i l

  deletion_same : (i : ℕ)
      → item_word (unit_of sizes) (DA g) d (apply_all (unit_of sizes) os C).main ram i 0 ≡ item_word (unit_of sizes) (DA g) d C.main ram i 0
  deletion_same i =
      word_kept (unit_of sizes) ok.e (units.unit sizes ok).power C os allowed apart sized (DA g) sizes.da_blocks (index_block g) hi
      (da_item H) d ram I.parts.da (omega arith) (omega (arith, pu)) da_room erases (omega arith) i 0 (omega arith)

  -- ---- the test of a record number: gates that are more open, the same numbers

  number_same : (j i : ℕ) → try_deletion g w j i ≡ try_deletion g v j i
  unfolding try_deletion
  number_same j i = rw (deletion_same i)

  half_more : (j f : ℕ) → deletion_bits g v (number_positions h g j) f ≡ true → deletion_bits g w (number_positions h g j) f ≡ true
  half_more j f =
      all_more _ _ (number_positions h g j) (λ x m.
      filter_more (unit_of sizes) ok.e (units.unit sizes ok).power C os allowed apart sized (deletion_index g) (deletion_sets g)
      (deletion_filter h g H) (deletion_filters g d) ram I.parts.deletions
      (deletion_places_suffice (unit_of sizes) sizes.da_blocks d pu I.d_cap) (omega (arith, I.parts.long.read.main_fits)) f x
      (volumes.position_lt h sizes ok H C ram I (bytes4 j) x m))

  deletion_more : (j p : ℕ) → maybe_deleted g v (number_positions h g j) p ≡ true → maybe_deleted g w (number_positions h g j) p ≡ true
  unfolding maybe_deleted
  deletion_more j p q =
      either (bool? (deletion_bits g v (number_positions h g j) (2 * p)))
      (λ t. rw (half_more j (2 * p) t))
      (λ t.
      let r : deletion_bits g v (number_positions h g j) (2 * p + 1) ≡ true = rw t at q in
      rw (half_more j (2 * p + 1) r) (or-true (deletion_bits g w (number_positions h g j) (2 * p))))

  deletion_skipped : (j p i : ℕ) → p < length H.deleted / (16 * unit_of sizes) → i < 16 * unit_of sizes
      → maybe_deleted g w (number_positions h g j) p ≡ false → try_deletion g w j (p * (16 * unit_of sizes) + i) ≡ none
  deletion_skipped j p i l m q =
      number_same j (p * (16 * unit_of sizes) + i)
      ∙ volumes.shut_then h sizes ok H C ram I H (before_same H) j p i l m
      (either (bool? (maybe_deleted g v (number_positions h g j) p)) (λ t. let z : false ≡ true = sym q ∙ deletion_more j p t in cc) (λ t. t))

  tested_same : (j : ℕ) → tested_deleted h g w d j ≡ tested_deleted h g v d j
  unfolding test_deletion
  tested_same j =
      ap is_found
      (search_all (maybe_deleted g w (number_positions h g j)) (try_deletion g w j) (16 * unit_of sizes) d (omega (arith, pu))
      (deletion_skipped j)
      ∙ scan_same (try_deletion g w j) (try_deletion g v j) 0 0 d (λ k l. number_same j (0 + k))
      ∙ sym (search_all (maybe_deleted g v (number_positions h g j)) (try_deletion g v j) (16 * unit_of sizes) d (omega (arith, pu))
      (volumes.shut_then h sizes ok H C ram I H (before_same H) j)))

  -- ---- the search

  try_same : (k : Key) (j : ℕ) → try_at h g w n d k j ≡ try_at h g v n d k j
  unfolding try_at
  try_same k j = rw (entry_same j 0 (omega arith), entry_same j 1 (omega arith), tested_same (number_in (entry_word g v j 1)))

  gate_more : (k : Key) (f : ℕ) → maybe_in g v (key_positions h g k) f ≡ true → maybe_in g w (key_positions h g k) f ≡ true
  unfolding maybe_in
  gate_more k f =
      all_more _ _ (key_positions h g k) (λ x m.
      filter_more (unit_of sizes) ok.e (units.unit sizes ok).power C os allowed apart sized (key_index g) (full_sets g)
      (key_filter h g H) (key_filters g n) ram I.parts.filters
      (places_suffice (unit_of sizes) sizes.ra_blocks n pu I.n_cap) (omega (arith, I.parts.long.read.main_fits)) f x
      (volumes.position_lt h sizes ok H C ram I (key_bytes k) x m))

  skipped : (k : Key) (f i : ℕ) → f < length H.records / (8 * unit_of sizes) → i < 8 * unit_of sizes
      → maybe_in g w (key_positions h g k) f ≡ false → try_at h g w n d k (f * (8 * unit_of sizes) + i) ≡ none
  skipped k f i l m q =
      try_same k (f * (8 * unit_of sizes) + i)
      ∙ volumes.skipped h sizes ok H C ram I H (before_same H) k f i l m
      (either (bool? (maybe_in g v (key_positions h g k) f)) (λ t. let z : false ≡ true = sym q ∙ gate_more k f t in cc) (λ t. t))

  -- the search ends at the newest live record of the key, or finds none
  pub cut_search : (k : Key) → (search h g w k).stop ≡ map found (find_live H k)
  unfolding search_at
  cut_search k =
      search_all (maybe_in g w (key_positions h g k)) (try_at h g w n d k) (8 * unit_of sizes) n (omega (arith, pu)) (skipped k)
      ∙ scan_live (try_at h g w n d k) (live_at H k) n (λ j l. try_same k j ∙ volumes.try_then h sizes ok H C ram I H (before_same H) k j l)
