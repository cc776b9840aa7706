-- One call on a volume that holds the image of a history: it answers as the history does, and leaves the image of the next history.
use Rattle.std.specs.Prelude.{◌≡◌, refl, true, false, List, [], ◌∷◌, ◌++◌, ℕ, ◌+◌, ◌-◌, ◌/◌, ◌≤◌, ◌<◌, length, get_or, take, replicate, leb}
use Rattle.std.proofs.Common.{sym, ◌∙◌, inl, inr, append-nil, length-append, get_or-take, leb-false}
use Rattle.std.proofs.Math.Path.{ap}
use Rattle.std.proofs.Math.Option.{Option, none, some, map}
use native.Mathlib.Omega.{arith}
use Rattle.std.proofs.lemmas.List.{length-replicate, get_or-replicate}
use Rattle.std.proofs.Math.ListN.{get_or-append}
use Rattle.std.proofs.Math.Seq.{get_or-append_seam}
use Rattle.memory.specs.Cases.{either, bool?, lt?}
use Rattle.memory.specs.Lists.{length_write, get_d_write_before, get_d_write_in, get_d_write_after}
use Rattle.layout.specs.Geometry.{Geometry, geometry, allowed, page, entries_per_page, ka_blocks, full_sets, record_capacity, deletion_capacity}
use Rattle.layout.specs.Geometry.{spare_size, deletion_sets, work_ram, Sizes, unit_of}
use Rattle.layout.specs.Flash.{Flash, Op, apply_all, Planned, plan_ops, all_fresh}
use Rattle.layout.specs.Hash.{Family}
use Rattle.layout.specs.Items.{Ra, KA, DA, zero_page, Record, no_record, record_bytes}
use Rattle.layout.specs.Search.{found}
use Rattle.layout.specs.Keys.{Key, KeyOk}
use Rattle.layout.specs.Calls.{Volume, Call, insert, update, delete, lookup, Result, refuse, judge_first, key_index, key_filters, deletion_plan}
use Rattle.layout.specs.Calls.{deletion_ram, insertion_plan, insertion_ram, commit, insert_after, update_after, delete_after, lookup_after, answer}
use Rattle.layout.specs.Calls.{refused, call, change_by, deletion_index, deletion_filters}
use Rattle.layout.specs.FiniteMap.{accepts, hits, refuses}
use Rattle.history.specs.FlashLaws.{AllAllowed}
use Rattle.history.proofs.FlashLaws.{fresh_append, apply_append, allowed_append}
use Rattle.history.proofs.PlanLaws.{ops_append}
use Rattle.history.proofs.ChangeLaws.{insertion_after}
use Rattle.history.specs.Image.{History, record_at, ra_item, ka_item, da_item, key_filter, deletion_filter}
use Rattle.history.specs.Live.{find_live, with_record, with_deletion, history_step, insert_history, update_history}
use Rattle.history.specs.Live.{delete_history, lookup_history, step_history}
use Rattle.history.proofs.Live.{found_below}
use Rattle.history.specs.Frames.{Frame, Beyond}
use Rattle.history.proofs.Frames.{beyond_same, beyond_then, frame_beyond}
use Rattle.history.specs.Parts.{Parts}
use Rattle.history.proofs.Parts.{frame_area, frame_index, long_kept}
use Rattle.history.specs.Changes.{Changed, Removed}
use Rattle.history.proofs.Changes.{deletion_changes, insertion_changes}
use Rattle.history.specs.Runs.{KeyWord, Possible}
use Rattle.history.specs.ProgramOrder.{Below}
use Rattle.history.proofs.ProgramOrder.{fresh_below}
use Rattle.history.proofs.Volumes as volumes
use Rattle.history.specs.Volumes.{Holds, volume_of}
use Rattle.laws.specs.Sound.{SizesSound}
use Rattle.laws.specs.Sound as units
use Rattle.history.specs.Steps.{CallDone}

module _ (h : Family) (sizes : Sizes) (ok : SizesSound sizes) (can : allowed sizes ≡ true) where
  abbrev g : Geometry
  g = geometry sizes

  pub pu : 0 < unit_of sizes
  pu = units.pu sizes ok

  -- ---- the work page zeroed

  module _ (H : History) (nr nk d N M : ℕ) (C : Flash) (ram : List ℕ) (P : Parts h g H nr nk d N M C ram) where
    abbrev ram' : List ℕ
    ram' = zero_page (unit_of sizes) (work_ram (unit_of sizes)) ram

    zeros : length (replicate {A = ℕ} (page (unit_of sizes)) 0) ≡ page (unit_of sizes)
    zeros = length-replicate {A = ℕ} (page (unit_of sizes)) 0

    work_frame : Frame (unit_of sizes) 0 0 (work_ram (unit_of sizes)) C C ram ram'
    work_frame = record {
      main = λ x o. refl;
      spare = λ x o. refl;
      ram = λ x o. either o (λ a. get_d_write_before ram (work_ram (unit_of sizes)) _ x 0 a)
          (λ a. get_d_write_after ram (work_ram (unit_of sizes)) _ x 0 (omega (arith, zeros)));
      main_length = refl;
      spare_length = refl;
      ram_length = length_write ram (work_ram (unit_of sizes)) _;
    }

    pub zeroed : Parts h g H nr nk d N M C ram'
    zeroed = record {
      ra = frame_area (unit_of sizes) 0 0 (work_ram (unit_of sizes)) C C ram ram' work_frame (Ra g) sizes.ra_blocks (ra_item H) nr pu
          (omega arith) (omega (arith, pu)) (omega arith) (inr (omega arith)) (inl (omega arith)) P.ra;
      ka = frame_area (unit_of sizes) 0 0 (work_ram (unit_of sizes)) C C ram ram' work_frame (KA g) (ka_blocks g) (ka_item H) nk pu (omega arith)
          (omega (arith, pu)) (omega arith) (inr (omega arith)) (inl (omega arith)) P.ka;
      da = frame_area (unit_of sizes) 0 0 (work_ram (unit_of sizes)) C C ram ram' work_frame (DA g) sizes.da_blocks (da_item H) d pu
          (omega arith) (omega (arith, pu)) (omega arith) (inr (omega arith)) (inl (omega arith)) P.da;
      filters = frame_index (unit_of sizes) 0 0 (work_ram (unit_of sizes)) C C ram ram' work_frame ok.e (units.unit sizes ok) (key_index g)
          (full_sets g) (key_filter h g H) N (inr (omega arith)) (inl (omega arith)) P.filters;
      deletions = frame_index (unit_of sizes) 0 0 (work_ram (unit_of sizes)) C C ram ram' work_frame ok.e (units.unit sizes ok)
          (deletion_index g) (deletion_sets g) (deletion_filter h g H) M (inr (omega arith)) (inr (omega arith)) P.deletions;
      long = long_kept g C C ram ram' refl refl work_frame.ram_length P.long;
    }

    pub work_zero : (i : ℕ) → i < page (unit_of sizes) → get_or ram' (work_ram (unit_of sizes) + i) 0 ≡ 0
    work_zero i l =
        let s : work_ram (unit_of sizes) + i - work_ram (unit_of sizes) ≡ i = omega arith in
        get_d_write_in ram (work_ram (unit_of sizes)) (replicate (page (unit_of sizes)) 0) (work_ram (unit_of sizes) + i) 0 (omega arith)
        (omega (arith, zeros)) (omega (arith, P.long.read.ram_fits))
        ∙ rw s (get_or-replicate (page (unit_of sizes)) i 0 0 l)

    pub work_beyond : Beyond g C C ram ram'
    work_beyond = frame_beyond g 0 0 (work_ram (unit_of sizes)) C C ram ram' work_frame (omega arith) (omega arith)

  module _ (H : History) (C : Flash) (ram : List ℕ) (I : Holds h sizes H C ram) where
    abbrev v : Volume
    v = volume_of sizes H C ram

    abbrev n : ℕ
    n = length H.records

    abbrev d : ℕ
    d = length H.deleted

    -- ---- refusals, and answers that change nothing

    refuse_done : (i : ℕ) → Possible (refused i) → CallDone h sizes H C ram (refuse v i) (history_step (refuses i) H)
    refuse_done i p = record {
      says = refl;
      possible = p;
      handed_on = refl;
      volume_is = refl;
      holds = I;
      flash_is = refl;
      ops_allowed = tt;
      inside = tt;
      beyond = beyond_same g C ram;
      count_le = omega arith;
    }

    -- ---- an accepted change

    commit_done : (H' : History) (n' d' : ℕ) (plan : List Planned) (ops : List Op) (ram' : List ℕ) → plan_ops (unit_of sizes) plan C ≡ ops
        → n' ≡ length H'.records → d' ≡ length H'.deleted
        → Parts h g H' n' n' d' (key_filters g n') (deletion_filters g d') (apply_all (unit_of sizes) ops C) ram'
        → AllAllowed (unit_of sizes) ops C → Beyond g C (apply_all (unit_of sizes) ops C) ram ram' → all_fresh C.spare ops ≡ true
        → Below (spare_size g) ops
        → n' ≤ record_capacity g → d' ≤ deletion_capacity g → d' ≤ n'
        → ((j : ℕ) → j < n' → KeyOk (record_at H' j).key) → ((i : ℕ) → i < d' → get_or H'.deleted i 0 < n')
        → CallDone h sizes H C ram (commit g v n' d' plan ram') (history_step accepts H')
    unfolding commit
    commit_done H' n' d' plan ops ram' ops_are n_is d_is P allow past fresh low n_cap d_cap d_le keys gone =
        rw (ops_are, fresh)
        (record {
          says = refl;
          possible = tt;
          handed_on = tt;
          volume_is = rw (n_is, d_is);
          holds = record {
            parts = rw (n_is, d_is) at (zeroed H' n' n' d' (key_filters g n') (deletion_filters g d') (apply_all (unit_of sizes) ops C) ram' P);
            work = work_zero H' n' n' d' (key_filters g n') (deletion_filters g d') (apply_all (unit_of sizes) ops C) ram' P;
            n_cap = rw (← n_is) n_cap;
            d_cap = rw (← d_is) d_cap;
            d_le = rw (← n_is, ← d_is) d_le;
            keys = rw n_is at keys;
            gone = rw (n_is, d_is) at gone;
          };
          flash_is = refl;
          ops_allowed = allow;
          inside = low;
          beyond =
              beyond_then g C (apply_all (unit_of sizes) ops C) (apply_all (unit_of sizes) ops C) ram ram'
              (zero_page (unit_of sizes) (work_ram (unit_of sizes)) ram') past
              (work_beyond H' n' n' d' (key_filters g n') (deletion_filters g d') (apply_all (unit_of sizes) ops C) ram' P);
          count_le = omega arith;
        })

    -- ---- the histories that a change makes

    length_record : (r : Record) → length H.records + 1 ≡ length (with_record H r).records
    length_record r = sym (length-append H.records (r ∷ []))

    length_deletion : (j : ℕ) → length H.deleted + 1 ≡ length (with_deletion H j).deleted
    length_deletion j = sym (length-append H.deleted (j ∷ []))

    keys_record : (r : Record) → KeyOk r.key → (j : ℕ) → j < length H.records + 1 → KeyOk (record_at (with_record H r) j).key
    keys_record r w j l =
        either (lt? j (length H.records))
        (λ a. rw (get_or-append H.records (r ∷ []) no_record j a.1) (I.keys j a.1))
        (λ a.
        let q : j ≡ length H.records = omega arith in
        rw (q, get_or-append_seam H.records r [] no_record) w)

    gone_deletion : (j : ℕ) → j < length H.records → (i : ℕ) → i < length H.deleted + 1
        → get_or (with_deletion H j).deleted i 0 < length H.records
    gone_deletion j m i l =
        either (lt? i (length H.deleted))
        (λ a. rw (get_or-append H.deleted (j ∷ []) 0 i a.1) (I.gone i a.1))
        (λ a.
        let q : i ≡ length H.deleted = omega arith in
        rw (q, get_or-append_seam H.deleted j [] 0) m)

    -- ---- insert

    module _ (r : Record) (word : KeyOk r.key) where
      insert_accepted : leb (record_capacity g) (length H.records) ≡ false
          → CallDone h sizes H C ram (commit g v (n + 1) d (insertion_plan h g n r.key (record_bytes r) ram)
          (insertion_ram h g n r.key (record_bytes r) ram)) (history_step accepts (with_record H r))
      insert_accepted c =
          let room : length H.records < record_capacity g = leb-false (record_capacity g) (length H.records) c in
          let X : Changed h g (with_record H r) (n + 1) d (deletion_filters g d) C ram
          (plan_ops (unit_of sizes) (insertion_plan h g n r.key (record_bytes r) ram) C)
          (insertion_ram h g n r.key (record_bytes r) ram)
          = insertion_changes h g ok.e (units.unit sizes ok) H r d (deletion_filters g d) C ram I.parts room
          (units.few_records sizes ok) word I.keys in
          commit_done (with_record H r) (n + 1) d (insertion_plan h g n r.key (record_bytes r) ram) _
          (insertion_ram h g n r.key (record_bytes r) ram) refl (length_record r) refl
          X.grown X.allowed X.beyond (X.fresh C.spare (λ x o. refl))
          (fresh_below (spare_size g) C.spare _
          (X.fresh (take (spare_size g) C.spare) (λ x o. get_or-take (spare_size g) C.spare x 0 (omega (arith, o.0)))))
          (omega arith) I.d_cap (omega (arith, I.d_le)) (keys_record r word) (λ i l. omega (arith, I.gone i l))

      insert_done : (o : Option ℕ) → find_live H r.key ≡ o
          → CallDone h sizes H C ram (insert_after h g v r (map found o)) (insert_history (record_capacity g) H r o)
      unfolding change_by
      insert_done (some j) q = refuse_done 3 (omega arith, omega arith, omega arith, omega arith, omega arith)
      insert_done none q =
          either (bool? (leb (record_capacity g) (length H.records)))
          (λ c. rw c (refuse_done 5 (omega arith, omega arith, omega arith, omega arith, omega arith)))
          (λ c. rw c (insert_accepted c))

    -- ---- update and delete, of the live record j

    module _ (j : ℕ) (below : j < length H.records) (c6 : leb (deletion_capacity g) (length H.deleted) ≡ false) where
      room_d : length H.deleted < deletion_capacity g
      room_d = leb-false (deletion_capacity g) (length H.deleted) c6

      abbrev ops : List Op
      ops = plan_ops (unit_of sizes) (deletion_plan h g d j ram) C

      abbrev C₁ : Flash
      C₁ = apply_all (unit_of sizes) ops C

      abbrev ram₁ : List ℕ
      ram₁ = deletion_ram h g d j ram

      removed : Removed h g (with_deletion H j) n n (d + 1) (key_filters g n) C ram ops ram₁
      removed =
          deletion_changes h g ok.e (units.unit sizes ok) H n n (key_filters g n) j C ram I.parts room_d
          (omega (arith, below, volumes.n_word h sizes ok H C ram I))
          (λ i l. omega (arith, I.gone i l, volumes.n_word h sizes ok H C ram I))

      fresh₀ : all_fresh C.spare ops ≡ true
      fresh₀ = removed.fresh C.spare (λ x l. refl)

      inside₀ : all_fresh (take (spare_size g) C.spare) ops ≡ true
      inside₀ = removed.fresh (take (spare_size g) C.spare) (λ x l. get_or-take (spare_size g) C.spare x 0 l)

      delete_accepted : length H.deleted < length H.records
          → CallDone h sizes H C ram (commit g v n (d + 1) (deletion_plan h g d j ram ++ []) (deletion_ram h g d j ram))
          (history_step accepts (with_deletion H j))
      delete_accepted less =
          commit_done (with_deletion H j) n (d + 1) (deletion_plan h g d j ram ++ []) ops ram₁
          (ap (λ (ps : List Planned). plan_ops (unit_of sizes) ps C) (append-nil (deletion_plan h g d j ram))) refl
          (length_deletion j) removed.grown removed.allowed removed.beyond fresh₀
          (fresh_below (spare_size g) C.spare ops inside₀)
          I.n_cap (omega (arith, room_d)) (omega arith) I.keys (gone_deletion j below)

      update_accepted : (r : Record) → KeyOk r.key → leb (record_capacity g) (length H.records) ≡ false
          → CallDone h sizes H C ram
          (commit g v (n + 1) (d + 1) (deletion_plan h g d j ram ++ insertion_plan h g n r.key (record_bytes r) ram)
          (insertion_ram h g n r.key (record_bytes r) (deletion_ram h g d j ram)))
          (history_step accepts (with_record (with_deletion H j) r))
      update_accepted r word c5 =
          let room : length H.records < record_capacity g = leb-false (record_capacity g) (length H.records) c5 in
          let more : List Op = plan_ops (unit_of sizes) (insertion_plan h g n r.key (record_bytes r) ram₁) C₁ in
          let X : Changed h g (with_record (with_deletion H j) r) (n + 1) (d + 1) (deletion_filters g (d + 1)) C₁ ram₁
          (plan_ops (unit_of sizes) (insertion_plan h g n r.key (record_bytes r) ram₁) C₁) (insertion_ram h g n r.key (record_bytes r) ram₁)
          = insertion_changes h g ok.e (units.unit sizes ok) (with_deletion H j) r (d + 1) (deletion_filters g (d + 1)) C₁ ram₁
          removed.grown room (units.few_records sizes ok) word I.keys in
          let both : plan_ops (unit_of sizes) (deletion_plan h g d j ram ++ insertion_plan h g n r.key (record_bytes r) ram) C ≡ ops
          ++ plan_ops (unit_of sizes) (insertion_plan h g n r.key (record_bytes r) ram₁) C₁
          = ops_append (unit_of sizes) (deletion_plan h g d j ram) (insertion_plan h g n r.key (record_bytes r) ram) C
          ∙ ap (λ (ps : List Planned). ops ++ plan_ops (unit_of sizes) ps C₁) (insertion_after h g n r.key (record_bytes r) pu d j ram) in
          let done = apply_append (unit_of sizes) ops more C in
          commit_done (with_record (with_deletion H j) r) (n + 1) (d + 1) _ (ops ++ more)
          (insertion_ram h g n r.key (record_bytes r) ram₁) both (length_record r) (length_deletion j)
          (rw done X.grown) (allowed_append (unit_of sizes) ops more C removed.allowed X.allowed)
          (rw done (beyond_then g C C₁ _ ram ram₁ _ removed.beyond X.beyond))
          (fresh_append C.spare ops more fresh₀ (X.fresh C.spare (λ x o. sym (removed.outside x o))))
          (fresh_below (spare_size g) C.spare _ (fresh_append (take (spare_size g) C.spare) ops more inside₀
          (X.fresh (take (spare_size g) C.spare)
          (λ x o. get_or-take (spare_size g) C.spare x 0 (omega (arith, o.0)) ∙ sym (removed.outside x o)))))
          (omega arith) (omega (arith, room_d)) (omega (arith, I.d_le)) (keys_record r word)
          (λ i l. omega (arith, gone_deletion j below i l))

    update_done : (r : Record) → KeyOk r.key → (o : Option ℕ) → find_live H r.key ≡ o
        → CallDone h sizes H C ram (update_after h g v r (map found o)) (update_history (record_capacity g) (deletion_capacity g) H r o)
    unfolding change_by
    update_done r word none q = insert_done r word none q
    update_done r word (some j) q =
        either (bool? (leb (record_capacity g) (length H.records)))
        (λ c. rw c (refuse_done 5 (omega arith, omega arith, omega arith, omega arith, omega arith)))
        (λ c. either (bool? (leb (deletion_capacity g) (length H.deleted)))
        (λ c6. rw (c, c6) (refuse_done 6 (omega arith, omega arith, omega arith, omega arith, omega arith)))
        (λ c6. rw (c, c6) (update_accepted j (found_below H r.key j q).0 c6 r word c)))

    delete_done : (k : Key) → ((j : ℕ) → find_live H k ≡ some j → length H.deleted < length H.records) → (o : Option ℕ)
        → find_live H k ≡ o
        → CallDone h sizes H C ram (delete_after h g v (map found o)) (delete_history (deletion_capacity g) H o)
    unfolding change_by
    delete_done k less none q = refuse_done 4 (omega arith, omega arith, omega arith, omega arith, omega arith)
    delete_done k less (some j) q =
        either (bool? (leb (deletion_capacity g) (length H.deleted)))
        (λ c6. rw c6 (refuse_done 6 (omega arith, omega arith, omega arith, omega arith, omega arith)))
        (λ c6. rw c6 (delete_accepted j (found_below H k j q).0 c6 (less j q)))

    -- ---- lookup

    lookup_done : (k : Key) (opened da_pages : ℕ) → opened ≤ length H.records / entries_per_page (unit_of sizes)
        → (o : Option ℕ) → find_live H k ≡ o
        → CallDone h sizes H C ram (lookup_after g v opened da_pages (map found o)) (lookup_history H o)
    unfolding lookup_after
    lookup_done k opened da_pages le none q = record {
      says = refl;
      possible = tt;
      handed_on = refl;
      volume_is = refl;
      holds = I;
      flash_is = refl;
      ops_allowed = tt;
      inside = tt;
      beyond = beyond_same g C ram;
      count_le = le;
    }
    lookup_done k opened da_pages le (some j) q = record {
      says = ap hits (volumes.record_is_lem h sizes ok H C ram I j (found_below H k j q).0);
      possible = tt;
      handed_on = refl;
      volume_is = refl;
      holds = I;
      flash_is = refl;
      ops_allowed = tt;
      inside = tt;
      beyond = beyond_same g C ram;
      count_le = le;
    }

    -- ---- every call

    -- its arguments are 32-bit numbers
    judge_is : (r : Result) → judge_first v r ≡ r
    unfolding judge_first
    judge_is r = rw (volumes.state_good h sizes ok H C ram I can, volumes.long_enough h sizes ok H C ram I)

    answer_done : (c : Call) → KeyWord c → ((k : Key) (j : ℕ) → find_live H k ≡ some j → length H.deleted < length H.records)
        → CallDone h sizes H C ram (answer h g v c) (step_history (record_capacity g) (deletion_capacity g) H c)
    answer_done (insert r) w less = rw (volumes.search_is h sizes ok H C ram I r.key) (insert_done r w (find_live H r.key) refl)
    answer_done (update r) w less = rw (volumes.search_is h sizes ok H C ram I r.key) (update_done r w (find_live H r.key) refl)
    answer_done (delete key) w less = rw (volumes.search_is h sizes ok H C ram I key) (delete_done key (less key) (find_live H key) refl)
    answer_done (lookup key) w less =
        rw (volumes.search_is h sizes ok H C ram I key)
        (lookup_done key _ _ (volumes.count_is h sizes ok H C ram I key) (find_live H key) refl)

    pub call_done : (c : Call) → KeyWord c → ((k : Key) (j : ℕ) → find_live H k ≡ some j → length H.deleted < length H.records)
        → CallDone h sizes H C ram (call h v c) (step_history (record_capacity g) (deletion_capacity g) H c)
    unfolding call
    call_done c w less = rw (judge_is (answer h g v c)) (answer_done c w less)
