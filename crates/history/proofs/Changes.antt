-- What an accepted deletion and an accepted insertion leave: the parts of the longer history.
use Rattle.std.specs.Prelude.{◌≡◌, ◌≢◌, Bool, true, false, cond, ℕ, ◌+◌, ◌*◌, ◌/◌, ◌%◌, ◌^◌, ◌≤◌, ◌<◌}
use Rattle.std.proofs.Math.Path.{refl, ap}
use Rattle.std.proofs.Common.{sym, ap₂, ◌∙◌, inl, inr, eqb-true}
use mathlib.Core.List.{List, [], ◌∷◌, ◌++◌, append-nil}
use Rattle.std.proofs.Math.Nat.{mul-le-mul_right}
use native.Mathlib.Omega.{arith}
use Rattle.std.proofs.Math.ListN.{length, get_or, get_or-append}
use Rattle.std.proofs.Math.Seq.{get_or-append_seam}
use Rattle.std.proofs.lemmas.Bool.{eqb-false}
use Rattle.memory.specs.Cases.{either, lt?}
use Rattle.memory.specs.Numbers.{carry, euclid}
use Rattle.memory.specs.Ranges.{any_ext, memb}
use Rattle.memory.specs.Words.{byte_of, word}
use Rattle.layout.specs.Geometry.{Geometry, filter_bits, ka_blocks, index_block, full_sets, record_capacity, deletion_capacity, ka_ram}
use Rattle.layout.specs.Geometry.{da_ram, deletion_index_block, deletion_sets}
use Rattle.layout.specs.Flash.{Flash, Op, apply_all, plan_ops, all_fresh}
use Rattle.layout.specs.Hash.{Family}
use Rattle.layout.specs.Items.{Ra, KA, DA, entry_bytes, deletion_bytes, put, fills, Record, record_bytes, no_record}
use Rattle.layout.specs.Index.{in_full, full_block, filter_ram}
use Rattle.layout.specs.Keys.{Key, KeyOk, key_in, key_at}
use Rattle.layout.specs.Calls.{key_index, key_filters, key_positions, page_filter, deletion_plan, deletion_ram, insertion_plan, insertion_ram}
use Rattle.layout.specs.Calls.{deletion_index, deletion_filters, number_positions, half_filter, new_half}
use Rattle.history.specs.Operations.{filter_ops, record_ops, record_ram, entry_ops, entry_ram, entered, filtered_ram}
use Rattle.history.specs.Operations.{number_ops, number_ram, one_half, both_halves}
use Rattle.history.proofs.ChangeLaws.{deletion_ops_lem, deletion_ram_lem, insertion_ops_lem, insertion_ram_lem}
use Rattle.history.specs.FlashLaws.{AllAllowed}
use Rattle.history.proofs.FlashLaws.{fresh_append, apply_append, allowed_append}
use Rattle.history.specs.Image.{History, record_at, ra_item, ka_item, da_item, key_filter, deletion_filter}
use Rattle.history.specs.Live.{with_record, with_deletion}
use Rattle.history.proofs.AreaLaws.{area_ext, put_word}
use Rattle.history.proofs.IndexLaws.{index_ext}
use Rattle.laws.specs.ItemLaws.{length_record, length_entry, length_deletion, entry_key, entry_number, deletion_number}
use Rattle.history.proofs.Parts as parts
use Rattle.history.specs.Frames.{Did, Beyond}
use Rattle.history.proofs.Frames.{beyond_then, frame_beyond}
use Rattle.history.specs.Parts.{Parts}
use Rattle.laws.specs.SetLaws.{places_suffice, deletion_places_suffice, first_of_pair}
use Rattle.laws.specs.Units.{UnitIs}
use Rattle.history.specs.Changes.{OffDeletions, Changed, Removed}

module _ (h : Family) (g : Geometry) (e : ℕ) (unit : UnitIs g.u e) where
  abbrev u : ℕ
  u = g.u

  pu : 0 < g.u
  pu = unit.some

  -- ---- a deletion

  -- filters over KA tell of records alone, those over DA of deletions
  filter_deletion : (H : History) (j : ℕ) → key_filter h g (with_deletion H j) ≡ key_filter h g H
  unfolding key_filter
  filter_deletion H j = refl

  filter_record : (H : History) (r : Record) → deletion_filter h g (with_record H r) ≡ deletion_filter h g H
  unfolding deletion_filter
  filter_record H r = refl

  module _ (H : History) (nr nk N j : ℕ) (C : Flash) (ram : List ℕ)
      (P : Parts h g H nr nk (length H.deleted) N (deletion_filters g (length H.deleted)) C ram)
      (room : length H.deleted < deletion_capacity g) (number : j < 2 ^ 32)
      (numbers : (i : ℕ) → i < length H.deleted → get_or H.deleted i 0 < 2 ^ 32) where
    abbrev d : ℕ
    d = length H.deleted

    abbrev H⁻ : History
    H⁻ = with_deletion H j

    abbrev M : ℕ
    M = deletion_filters g (length H.deleted)

    old_number_lem : (i : ℕ) → i < length H.deleted → get_or H.deleted i 0 ≡ get_or (with_deletion H j).deleted i 0
    old_number_lem i l = sym (get_or-append H.deleted (j ∷ []) 0 i l)

    last_number : j ≡ get_or (with_deletion H j).deleted (length H.deleted) 0
    last_number = sym (get_or-append_seam H.deleted j [] 0)

    half_old : (f x : ℕ) → f < 2 * (length H.deleted / (16 * g.u)) → x < filter_bits g.u
        → deletion_filter h g H f x ≡ deletion_filter h g (with_deletion H j) f x
    unfolding deletion_filter
    half_old f x l m =
        let E = euclid (length H.deleted) (16 * g.u) (omega (arith, pu)) in
        any_ext _ _ (8 * g.u) (λ i k. ap (λ (o : ℕ). memb x (number_positions h g o))
        (old_number_lem (f * (8 * g.u) + i) (omega (arith, mul-le-mul_right (8 * g.u) l))))

    halves_fit : in_full g.u (2 * (length H.deleted / (16 * g.u))) ≤ deletion_sets g
    halves_fit = deletion_places_suffice g.u g.D (length H.deleted) pu (omega arith)

    -- the same parts as those of the longer history
    longer : Parts h g (with_deletion H j) nr nk (length H.deleted) N M C ram
    longer = record {
      ra = P.ra;
      ka = P.ka;
      da =
          area_ext g.u pu (DA g) g.D (omega arith) (omega (arith, pu)) (omega arith) (da_item H) (da_item (with_deletion H j))
          (length H.deleted) C.main C.spare ram
          (λ i b l m. ap (λ (x : ℕ). get_or (deletion_bytes x) b 0) (old_number_lem i l)) P.da;
      filters = rw (filter_deletion H j) P.filters;
      deletions = index_ext g.u e unit (deletion_index g) (deletion_sets g) (deletion_filter h g H)
          (deletion_filter h g (with_deletion H j)) M C.main C.spare ram half_old halves_fit P.deletions;
      long = P.long;
    }

    new : (b : ℕ) → b < 4 → get_or (deletion_bytes j) b 0 ≡ da_item (with_deletion H j) (length H.deleted) b
    new b l = ap (λ (x : ℕ). get_or (deletion_bytes x) b 0) last_number

    -- ---- the number into DA

    abbrev da_ops : List Op
    da_ops = number_ops g (length H.deleted) j ram

    abbrev ramᵃ : List ℕ
    ramᵃ = number_ram g (length H.deleted) j ram

    abbrev Cᵃ : Flash
    Cᵃ = apply_all g.u da_ops C

    didᵃ : Did g.u (DA g).first ((DA g).first + g.D) (DA g).ram C ram ramᵃ da_ops
    didᵃ = parts.da_did h g e unit H⁻ nr nk d N M C ram longer (deletion_bytes j) (length_deletion j) new room

    partsᵃ : Parts h g H⁻ nr nk (d + 1) N M Cᵃ ramᵃ
    partsᵃ = parts.da_parts h g e unit H⁻ nr nk d N M C ram longer (deletion_bytes j) (length_deletion j) new room

    beyondᵃ : Beyond g C Cᵃ ram ramᵃ
    beyondᵃ = frame_beyond g (DA g).first ((DA g).first + g.D) (DA g).ram C Cᵃ ram ramᵃ didᵃ.frame (omega arith) (omega arith)

    -- ---- the two filters of a page that is full now

    numbers' : (i : ℕ) → i < length H.deleted + 1 → get_or (with_deletion H j).deleted i 0 < 2 ^ 32
    numbers' i l =
        either (lt? i (length H.deleted))
        (λ a. rw (← (old_number_lem i a.1)) (numbers i a.1))
        (λ a. let q : i ≡ length H.deleted = omega arith in rw (q, ← last_number) number)

    module _ (full : length H.deleted % (16 * g.u) + 1 ≡ 16 * g.u) where
      number_at : (i : ℕ) → i < 16 * g.u
          → word (put (DA g) d (deletion_bytes j) ram) (da_ram g.u + i * 4)
          ≡ get_or (with_deletion H j).deleted (length H.deleted / (16 * g.u) * (16 * g.u) + i) 0
      number_at i l =
          let E = euclid (length H.deleted) (16 * g.u) (omega (arith, pu)) in
          let at : da_ram g.u + i * 4 + 0 * 4 ≡ da_ram g.u + i * 4 = omega arith in
          let k = get_or (with_deletion H j).deleted (length H.deleted / (16 * g.u) * (16 * g.u) + i) 0 in
          rw at at
          (put_word g.u pu (DA g) g.D (omega arith) (omega (arith, pu)) (omega arith) (da_item H⁻) d (deletion_bytes j) C ram
          longer.da (length_deletion j) new
          (parts.da_room h g e unit H⁻ nr nk d N M C ram longer (deletion_bytes j) (length_deletion j) new room)
          (omega (arith, P.long.read.main_fits)) (omega (arith, P.long.spare_fits)) (omega (arith, P.long.read.ram_fits))
          i 0 k (omega arith) (omega arith) (numbers' (length H.deleted / (16 * g.u) * (16 * g.u) + i) (omega arith))
          (λ b m. deletion_number k b m))

      half_same : (i x : ℕ) → i < 2
          → new_half h g d j i ram x ≡ deletion_filter h g (with_deletion H j) (2 * (length H.deleted / (16 * g.u)) + i) x
      unfolding half_filter deletion_filter
      half_same i x l =
          any_ext _ _ (8 * g.u) (λ y m.
          let s : length H.deleted / (16 * g.u) * (16 * g.u) + (i * (8 * g.u) + y)
          ≡ (2 * (length H.deleted / (16 * g.u)) + i) * (8 * g.u) + y = omega arith in
          ap (λ (o : ℕ). memb x (number_positions h g o))
          (number_at (i * (8 * g.u) + y) (omega (arith, m, mul-le-mul_right (8 * g.u) l))
          ∙ ap (λ (z : ℕ). get_or (with_deletion H j).deleted z 0) s))

      next_page : (length H.deleted + 1) / (16 * g.u) ≡ length H.deleted / (16 * g.u) + 1
      next_page = either (carry (length H.deleted) (16 * g.u) (omega (arith, pu))) (λ c. c.1) (λ c. absurd (c.0 full))

      two_more : 2 * ((length H.deleted + 1) / (16 * g.u)) ≡ 2 * (length H.deleted / (16 * g.u)) + 1 + 1
      two_more = rw next_page (omega arith)

      one_fits : in_full g.u (2 * (length H.deleted / (16 * g.u)) + 1) ≤ deletion_sets g
      one_fits =
          let s : (2 * (length H.deleted / (16 * g.u)) + 1) / 8 ≡ 2 * (length H.deleted / (16 * g.u)) / 8 = omega arith in
          rw s halves_fit

      both_fit : in_full g.u (2 * (length H.deleted / (16 * g.u)) + 1 + 1) ≤ deletion_sets g
      both_fit = rw (← two_more) (deletion_places_suffice g.u g.D (length H.deleted + 1) pu (omega arith))

      first_same : (x : ℕ) → x < filter_bits g.u → new_half h g d j 0 ram x ≡ deletion_filter h g (with_deletion H j) M x
      first_same x l = let z : M + 0 ≡ M = omega arith in rw z at (half_same 0 x (omega arith))

      -- the first is not flushed
      partsᵇ : Parts h g H⁻ nr nk (d + 1) N (M + 1) Cᵃ (one_half h g d j ram)
      partsᵇ =
          rw (first_of_pair (length H.deleted / (16 * g.u)))
          at (parts.half_parts h g e unit H⁻ nr nk (d + 1) N M Cᵃ ramᵃ partsᵃ (new_half h g d j 0 ram) first_same one_fits)

      didᵇ : Did g.u (deletion_index_block g) (full_block g.u (deletion_index g) (deletion_sets g)) (deletion_index g).ska Cᵃ ramᵃ
          (one_half h g d j ram) []
      didᵇ =
          rw (first_of_pair (length H.deleted / (16 * g.u)))
          at (parts.half_did h g e unit H⁻ nr nk (d + 1) N M Cᵃ ramᵃ partsᵃ (new_half h g d j 0 ram) first_same one_fits)

      abbrev ix_opsᶜ : List Op
      ix_opsᶜ = filter_ops g.u (deletion_index g) Cᵃ (deletion_filters g d + 1) (both_halves h g d j ram)

      abbrev ramᶜ : List ℕ
      ramᶜ = filter_ram g.u (deletion_index g) (deletion_filters g d + 1) (both_halves h g d j ram)

      abbrev Cᶜ : Flash
      Cᶜ = apply_all g.u ix_opsᶜ Cᵃ

      didᶜ : Did g.u (deletion_index_block g) (full_block g.u (deletion_index g) (deletion_sets g)) (deletion_index g).ska Cᵃ
          (one_half h g d j ram) ramᶜ ix_opsᶜ
      didᶜ =
          parts.half_did h g e unit H⁻ nr nk (d + 1) N (M + 1) Cᵃ (one_half h g d j ram) partsᵇ (new_half h g d j 1 ram)
          (λ x l. half_same 1 x (omega arith)) both_fit

      partsᶜ : Parts h g H⁻ nr nk (d + 1) N (M + 1 + 1) Cᶜ ramᶜ
      partsᶜ =
          parts.half_parts h g e unit H⁻ nr nk (d + 1) N (M + 1) Cᵃ (one_half h g d j ram) partsᵇ (new_half h g d j 1 ram)
          (λ x l. half_same 1 x (omega arith)) both_fit

      doneᶜ : apply_all g.u (da_ops ++ ix_opsᶜ) C ≡ Cᶜ
      doneᶜ = apply_append g.u da_ops ix_opsᶜ C

      removed_full : Removed h g H⁻ nr nk (d + 1) N C ram (da_ops ++ ix_opsᶜ) ramᶜ
      removed_full = record {
        grown = rw (doneᶜ, two_more) partsᶜ;
        allowed = allowed_append g.u da_ops ix_opsᶜ C didᵃ.allowed didᶜ.allowed;
        beyond = rw doneᶜ
            (beyond_then g C Cᵃ Cᶜ ram ramᵃ ramᶜ beyondᵃ
            (beyond_then g Cᵃ Cᵃ Cᶜ ramᵃ (one_half h g d j ram) ramᶜ
            (frame_beyond g (deletion_index_block g) (full_block g.u (deletion_index g) (deletion_sets g)) (deletion_index g).ska Cᵃ Cᵃ ramᵃ _
            didᵇ.frame (omega arith) (omega arith))
            (frame_beyond g (deletion_index_block g) (full_block g.u (deletion_index g) (deletion_sets g)) (deletion_index g).ska Cᵃ Cᶜ _ ramᶜ
            didᶜ.frame (omega arith) (omega arith))));
        fresh = λ spare agree.
            fresh_append spare da_ops ix_opsᶜ (didᵃ.fresh spare (λ x l m. agree x (omega arith)))
            (didᶜ.fresh spare (λ x l m. agree x (omega arith) ∙ sym (didᵃ.frame.spare x (inr (omega arith)))));
        outside = λ x o. rw doneᶜ (didᶜ.frame.spare x (inl o.0) ∙ didᵃ.frame.spare x o.1);
      }

    removed_part : length H.deleted % (16 * g.u) + 1 ≢ 16 * g.u → Removed h g H⁻ nr nk (d + 1) N C ram (da_ops ++ []) ramᵃ
    removed_part part =
        let same_pages : (length H.deleted + 1) / (16 * g.u) ≡ length H.deleted / (16 * g.u)
        = either (carry (length H.deleted) (16 * g.u) (omega (arith, pu))) (λ c. absurd (part c.0)) (λ c. c.1) in
        rw (append-nil da_ops)
        (record {
          grown = rw same_pages partsᵃ;
          allowed = didᵃ.allowed;
          beyond = beyondᵃ;
          fresh = λ spare agree. didᵃ.fresh spare (λ x l m. agree x (omega arith));
          outside = λ x o. didᵃ.frame.spare x o.1;
        })

    by_da_page : (b : Bool) (os : List Op) (r₃ : List ℕ) → (b ≡ true → Removed h g H⁻ nr nk (d + 1) N C ram (da_ops ++ os) r₃)
        → (b ≡ false → Removed h g H⁻ nr nk (d + 1) N C ram (da_ops ++ []) ramᵃ)
        → Removed h g H⁻ nr nk (d + 1) N C ram (da_ops ++ cond b os []) (cond b r₃ ramᵃ)
    by_da_page true os r₃ full part = full refl
    by_da_page false os r₃ full part = part refl

    pub deletion_changes : Removed h g H⁻ nr nk (d + 1) N C ram (plan_ops g.u (deletion_plan h g d j ram) C) (deletion_ram h g d j ram)
    deletion_changes =
        rw (deletion_ops_lem h g d j ram e unit C, deletion_ram_lem h g d j ram)
        (by_da_page (fills (DA g) d) _ _ (λ q. removed_full (eqb-true _ _ q)) (λ q. removed_part (eqb-false _ _ q)))

  -- ---- an insertion

  module _ (H : History) (r : Record) (d M : ℕ) (C : Flash) (ram : List ℕ)
      (P : Parts h g H (length H.records) (length H.records) d (key_filters g (length H.records)) M C ram)
      (room : length H.records < record_capacity g) (few : record_capacity g < 2 ^ 24) (key_word : KeyOk r.key)
      (words : (j : ℕ) → j < length H.records → KeyOk (record_at H j).key) where
    abbrev n : ℕ
    n = length H.records

    abbrev H' : History
    H' = with_record H r

    abbrev N : ℕ
    N = key_filters g (length H.records)

    old : (j : ℕ) → j < length H.records → record_at H j ≡ record_at (with_record H r) j
    old j l = sym (get_or-append H.records (r ∷ []) no_record j l)

    last : r ≡ record_at (with_record H r) (length H.records)
    last = sym (get_or-append_seam H.records r [] no_record)

    filter_old : (f x : ℕ) → f < length H.records / (8 * g.u) → x < filter_bits g.u
        → key_filter h g H f x ≡ key_filter h g (with_record H r) f x
    unfolding key_filter
    filter_old f x l m =
        let E = euclid (length H.records) (8 * g.u) (omega (arith, pu)) in
        any_ext _ _ (8 * g.u) (λ i k. ap (λ (o : Record). memb x (key_positions h g o.key))
        (old (f * (8 * g.u) + i) (omega (arith, mul-le-mul_right (8 * g.u) l))))

    sets_fit : in_full g.u (length H.records / (8 * g.u)) ≤ full_sets g
    sets_fit = places_suffice g.u g.R (length H.records) pu (omega arith)

    longer_record : Parts h g (with_record H r) n n d N M C ram
    longer_record = record {
      ra =
          area_ext g.u pu (Ra g) g.R (omega arith) (omega (arith, pu)) (omega arith) (ra_item H) (ra_item (with_record H r)) n C.main
          C.spare ram
          (λ j b l m. ap (λ (o : Record). get_or (record_bytes o) b 0) (old j l)) P.ra;
      ka =
          area_ext g.u pu (KA g) (ka_blocks g) (omega arith) (omega (arith, pu)) (omega arith) (ka_item H) (ka_item (with_record H r)) n
          C.main C.spare ram
          (λ j b l m. ap (λ (o : Record). get_or (entry_bytes o.key j) b 0) (old j l)) P.ka;
      da = P.da;
      filters = index_ext g.u e unit (key_index g) (full_sets g) (key_filter h g H) (key_filter h g (with_record H r)) N C.main
          C.spare ram filter_old sets_fit P.filters;
      deletions = rw (filter_record H r) P.deletions;
      long = P.long;
    }

    -- ---- the record into Ra, its entry into KA

    abbrev entry : List ℕ
    entry = entry_bytes r.key (length H.records)

    abbrev ra_ops : List Op
    ra_ops = record_ops g (length H.records) (record_bytes r) ram

    abbrev ram₁ : List ℕ
    ram₁ = record_ram g (length H.records) (record_bytes r) ram

    abbrev C₁ : Flash
    C₁ = apply_all g.u ra_ops C

    abbrev ka_ops : List Op
    ka_ops = entry_ops g (length H.records) r.key (record_bytes r) ram

    abbrev ram₂ : List ℕ
    ram₂ = entry_ram g (length H.records) r.key (record_bytes r) ram

    abbrev C₂ : Flash
    C₂ = entered g (length H.records) r.key (record_bytes r) ram C

    bytes_size : length (record_bytes r) ≡ 16
    bytes_size = length_record r

    record_new : (b : ℕ) → b < 16 → get_or (record_bytes r) b 0 ≡ ra_item (with_record H r) (length H.records) b
    record_new b l = ap (λ (o : Record). get_or (record_bytes o) b 0) last

    entry_new : (b : ℕ) → b < 8 → get_or (entry_bytes r.key (length H.records)) b 0 ≡ ka_item (with_record H r) (length H.records) b
    entry_new b l = ap (λ (o : Record). get_or (entry_bytes o.key (length H.records)) b 0) last

    did₁ : Did g.u (Ra g).first ((Ra g).first + g.R) (Ra g).ram C ram ram₁ ra_ops
    did₁ = parts.ra_did h g e unit H' n n d N M C ram longer_record (record_bytes r) bytes_size record_new room

    parts₁ : Parts h g H' (n + 1) n d N M C₁ ram₁
    parts₁ = parts.ra_parts h g e unit H' n n d N M C ram longer_record (record_bytes r) bytes_size record_new room

    did₂ : Did g.u (KA g).first ((KA g).first + ka_blocks g) (KA g).ram C₁ ram₁ ram₂ ka_ops
    did₂ = parts.ka_did h g e unit H' (n + 1) n d N M C₁ ram₁ parts₁ entry (length_entry r.key n) entry_new room

    parts₂ : Parts h g H' (n + 1) (n + 1) d N M C₂ ram₂
    parts₂ = parts.ka_parts h g e unit H' (n + 1) n d N M C₁ ram₁ parts₁ entry (length_entry r.key n) entry_new room

    -- ---- the filter of a page that is full now

    abbrev keys : List ℕ
    keys = put (KA g) (length H.records) entry ram₁

    words' : (j : ℕ) → j < length H.records + 1 → KeyOk (record_at (with_record H r) j).key
    words' j l =
        either (lt? j (length H.records))
        (λ a. rw (← (old j a.1)) (words j a.1))
        (λ a. let q : j ≡ length H.records = omega arith in rw (q, ← last) key_word)

    module _ (full : length H.records % (8 * g.u) + 1 ≡ 8 * g.u) where
      -- the record number of entry i of the page
      abbrev number : ℕ → ℕ
      number i = length H.records / (8 * g.u) * (8 * g.u) + i

      number_le : (i : ℕ) → i < 8 * g.u → number i < length H.records + 1
      number_le i l = let E = euclid (length H.records) (8 * g.u) (omega (arith, pu)) in omega arith

      -- word x of entry i of the page
      word_at : (i x value : ℕ) → i < 8 * g.u → x < 2 → value < 2 ^ 32
          → ((b : ℕ) → b < 4 → ka_item H' (number i) (x * 4 + b) ≡ byte_of value b) → word keys (ka_ram g.u + i * 8 + x * 4) ≡ value
      word_at i x value l two fits bytes =
          put_word g.u pu (KA g) (ka_blocks g) (omega arith) (omega (arith, pu)) (omega arith) (ka_item H') n entry C₁ ram₁ parts₁.ka
          (length_entry r.key n) entry_new
          (parts.ka_room h g e unit H' (n + 1) n d N M C₁ ram₁ parts₁ entry (length_entry r.key n) entry_new room)
          (omega (arith, parts₁.long.read.main_fits)) (omega (arith, parts₁.long.spare_fits))
          (omega (arith, parts₁.long.read.ram_fits))
          i x value (omega arith) (omega arith) fits bytes

      key_at_lem : (i : ℕ) → i < 8 * g.u → key_at keys (ka_ram g.u + i * 8) ≡ (record_at (with_record H r) (number i)).key
      key_at_lem i l =
          let k : Key = (record_at (with_record H r) (number i)).key in
          let small : number i < 2 ^ 24 = omega (arith, number_le i l, room, few) in
          let at : ka_ram g.u + i * 8 + 0 * 4 ≡ ka_ram g.u + i * 8 = omega arith in
          let first : word keys (ka_ram g.u + i * 8) ≡ k
          = rw at at (word_at i 0 k l (omega arith) (words' (number i) (number_le i l)).level_lt (λ b m. entry_key k (number i) b m)) in
          let second : word keys (ka_ram g.u + i * 8 + 4) ≡ number i
          = word_at i 1 (number i) l (omega arith) (omega (arith, small)) (λ b m. entry_number k (number i) b m) in
          ap₂ key_in first second

      same : (x : ℕ) → x < filter_bits g.u → page_filter h g keys x ≡ key_filter h g (with_record H r) (length H.records / (8 * g.u)) x
      unfolding page_filter key_filter
      same x l = any_ext _ _ (8 * g.u) (λ i m. ap (λ (k : Key). memb x (key_positions h g k)) (key_at_lem i m))

      next : (length H.records + 1) / (8 * g.u) ≡ length H.records / (8 * g.u) + 1
      next = either (carry (length H.records) (8 * g.u) (omega (arith, pu))) (λ c. c.1) (λ c. absurd (c.0 full))

      sets_fit' : in_full g.u (length H.records / (8 * g.u) + 1) ≤ full_sets g
      sets_fit' = rw (← next) (places_suffice g.u g.R (length H.records + 1) pu (omega arith))

      abbrev filter_in : List ℕ
      filter_in = filtered_ram h g (length H.records) r.key (record_bytes r) ram

      did₃ : Did g.u (index_block g) (full_block g.u (key_index g) (full_sets g)) (key_index g).ska C₂ ram₂
          (filter_ram g.u (key_index g) N filter_in) (filter_ops g.u (key_index g) C₂ N filter_in)
      did₃ = parts.index_did h g e unit H' (n + 1) (n + 1) d N M C₂ ram₂ parts₂ (page_filter h g keys) same sets_fit'

      parts₃ : Parts h g H' (n + 1) (n + 1) d (N + 1) M (apply_all g.u (filter_ops g.u (key_index g) C₂ N filter_in) C₂)
          (filter_ram g.u (key_index g) N filter_in)
      parts₃ = parts.index_parts h g e unit H' (n + 1) (n + 1) d N M C₂ ram₂ parts₂ (page_filter h g keys) same sets_fit'

    -- ---- all of it

    beyond₂ : Beyond g C C₂ ram ram₂
    beyond₂ =
        beyond_then g C C₁ C₂ ram ram₁ ram₂
        (frame_beyond g (Ra g).first ((Ra g).first + g.R) (Ra g).ram C C₁ ram ram₁ did₁.frame (omega arith) (omega arith))
        (frame_beyond g (KA g).first ((KA g).first + ka_blocks g) (KA g).ram C₁ C₂ ram₁ ram₂ did₂.frame (omega arith) (omega arith))

    module _ (ops : List Op) where
      done : apply_all g.u (ra_ops ++ (ka_ops ++ ops)) C ≡ apply_all g.u ops C₂
      done = apply_append g.u ra_ops (ka_ops ++ ops) C ∙ apply_append g.u ka_ops ops C₁

      allowed_all : AllAllowed g.u ops C₂ → AllAllowed g.u (ra_ops ++ (ka_ops ++ ops)) C
      allowed_all a = allowed_append g.u ra_ops (ka_ops ++ ops) C did₁.allowed (allowed_append g.u ka_ops ops C₁ did₂.allowed a)

      fresh_all : (spare : List ℕ) → ((x : ℕ) → OffDeletions g x → get_or spare x 0 ≡ get_or C.spare x 0)
          → all_fresh spare ops ≡ true → all_fresh spare (ra_ops ++ (ka_ops ++ ops)) ≡ true
      fresh_all spare agree a =
          fresh_append spare ra_ops (ka_ops ++ ops) (did₁.fresh spare (λ x l m. agree x (omega arith, inl (omega arith))))
          (fresh_append spare ka_ops ops (did₂.fresh spare
          (λ x l m. agree x (omega arith, inl (omega arith)) ∙ sym (did₁.frame.spare x (inr (omega arith))))) a)

    -- no page of entries is full
    changed_part : length H.records % (8 * g.u) + 1 ≢ 8 * g.u → Changed h g H' (n + 1) d M C ram (ra_ops ++ (ka_ops ++ [])) ram₂
    unfolding all_fresh
    changed_part part =
        let same_filters : (length H.records + 1) / (8 * g.u) ≡ length H.records / (8 * g.u)
        = either (carry (length H.records) (8 * g.u) (omega (arith, pu))) (λ c. absurd (part c.0)) (λ c. c.1) in
        record {
          grown = rw (done [], same_filters) parts₂;
          allowed = allowed_all [] tt;
          beyond = rw (done []) beyond₂;
          fresh = λ spare agree. fresh_all [] spare agree refl;
        }

    -- one is, and gives its filter
    module _ (full : length H.records % (8 * g.u) + 1 ≡ 8 * g.u) where
      abbrev ix_ops : List Op
      ix_ops = filter_ops g.u (key_index g) C₂ N (filter_in full)

      abbrev ram₃ : List ℕ
      ram₃ = filter_ram g.u (key_index g) N (filter_in full)

      abbrev C₃ : Flash
      C₃ = apply_all g.u ix_ops C₂

      changed_full : Changed h g H' (n + 1) d M C ram (ra_ops ++ (ka_ops ++ ix_ops)) ram₃
      changed_full = record {
        grown = rw (done ix_ops, next full) (parts₃ full);
        allowed = allowed_all ix_ops (did₃ full).allowed;
        beyond = rw (done ix_ops)
            (beyond_then g C C₂ C₃ ram ram₂ ram₃ beyond₂
            (frame_beyond g (index_block g) (full_block g.u (key_index g) (full_sets g)) (key_index g).ska C₂ C₃ ram₂ ram₃ (did₃ full).frame
            (omega arith) (omega arith)));
        fresh = λ spare agree. fresh_all ix_ops spare agree
            ((did₃ full).fresh spare (λ x l m. agree x (omega arith, inr (omega arith))
            ∙ sym (did₂.frame.spare x (inr (omega arith)) ∙ did₁.frame.spare x (inr (omega arith)))));
      }

    by_page : (b : Bool) (os : List Op) (r₃ : List ℕ) → (b ≡ true → Changed h g H' (n + 1) d M C ram (ra_ops ++ (ka_ops ++ os)) r₃)
        → (b ≡ false → Changed h g H' (n + 1) d M C ram (ra_ops ++ (ka_ops ++ [])) ram₂)
        → Changed h g H' (n + 1) d M C ram (ra_ops ++ (ka_ops ++ cond b os [])) (cond b r₃ ram₂)
    by_page true os r₃ full part = full refl
    by_page false os r₃ full part = part refl

    pub insertion_changes : Changed h g H' (n + 1) d M C ram (plan_ops g.u (insertion_plan h g n r.key (record_bytes r) ram) C)
        (insertion_ram h g n r.key (record_bytes r) ram)
    insertion_changes =
        rw (
          insertion_ops_lem h g n r.key (record_bytes r) e unit bytes_size ram C,
          insertion_ram_lem h g n r.key (record_bytes r) pu bytes_size ram,
        )
        (by_page (fills (KA g) n) _ _ (λ q. changed_full (eqb-true _ _ q)) (λ q. changed_part (eqb-false _ _ q)))
