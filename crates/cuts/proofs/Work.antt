-- An accepted call on a volume that holds the image of a history, as a plan: the same on every chip on which the search ends as it did.
use Rattle.std.proofs.Math.Path.{◌≡◌}
use Rattle.std.specs.Prelude.{refl, true, false, List, [], ◌++◌, ℕ, ◌+◌, ◌*◌, length, leb}
use Rattle.std.proofs.Common.{sym, ap, ◌∙◌, append-nil, leb-false}
use Rattle.std.proofs.Math.Option.{Option, none, some, map}
use native.Mathlib.Omega.{arith}
use Rattle.memory.specs.Cases.{either, bool?}
use Rattle.layout.specs.Keys.{Key}
use Rattle.layout.specs.Geometry.{Geometry, geometry, allowed, index_block, deletion_index_block, blocks, record_capacity, deletion_capacity}
use Rattle.layout.specs.Geometry.{Sizes, unit_of}
use Rattle.layout.specs.Flash.{Op, Flash, apply_all, Planned, plan_ops}
use Rattle.layout.specs.Hash.{Family}
use Rattle.layout.specs.Items.{Record, record_bytes}
use Rattle.layout.specs.Search.{Stop, found}
use Rattle.layout.specs.Calls.{Volume, Call, insert, update, delete, lookup, key_of, accepted, refused, Result, deletion_plan, deletion_ram}
use Rattle.layout.specs.Calls.{bad_state, too_short, judge_first}
use Rattle.layout.specs.Calls.{insertion_plan, insertion_ram, commit, search, search_da_pages, lookup_after, answer, call}
use Rattle.laws.specs.ItemLaws.{length_record}
use Rattle.laws.specs.Sound.{SizesSound}
use Rattle.laws.specs.Sound as units
use Rattle.history.specs.Image.{History}
use Rattle.history.specs.Live.{find_live}
use Rattle.history.proofs.EraseOrder.{inside_below}
use Rattle.history.proofs.Every.{insertion_inside}
use Rattle.history.proofs.PlanLaws.{ops_append}
use Rattle.history.specs.ProgramOrder.{Below}
use Rattle.history.proofs.Volumes as volumes
use Rattle.history.specs.Volumes.{Holds, volume_of}
use Rattle.layout.specs.Calls.{Commit, change_by, insert_by, update_by, delete_by, answer_by}
use Rattle.cuts.specs.PlanShapes.{Shaped}
use Rattle.cuts.proofs.PlanShapes.{shaped_wider, shaped_append, clear_below, deletion_shaped, insertion_shaped}

-- refusals 1 and 2 aside, a call is its answer
pub judged_is : (w : Volume) (r : Result) → bad_state w.state ≡ false
    → too_short (geometry w.state.sizes) w.flash w.ram ≡ false → judge_first w r ≡ r
unfolding judge_first
judged_is w r a b = rw (a, b)

-- no refusal is an acceptance
pub refused_not : (i : ℕ) → refused i ≡ accepted → ⊥
refused_not i e = let z : ◌≡◌ {A = ℕ} 0 1 = cc in omega arith

module _ (h : Family) (sizes : Sizes) (ok : SizesSound sizes) (H : History) (C : Flash) (ram : List ℕ) (I : Holds h sizes H C ram) where
  abbrev g : Geometry
  g = geometry sizes

  abbrev n : ℕ
  n = length H.records

  abbrev d : ℕ
  d = length H.deleted

  -- the volume with the chip X
  abbrev pub on : Flash → Volume
  on X = volume_of sizes H X ram

  pub record Work (c : Call) : Type 0 where
    pub n' : ℕ
    pub d' : ℕ
    pub plan : List Planned
    pub ram' : List ℕ
    -- called, and gone on with
    pub answers : (commit : Commit) (X : Flash) → (search h g (on X) (key_of c)).stop ≡ map found (find_live H (key_of c))
        → answer_by commit h g (on X) c ≡ commit g (on X) n' d' plan ram'
    pub shaped : Shaped (unit_of sizes) (index_block g) (blocks g) (plan_ops (unit_of sizes) plan C)

  -- ---- insert, and update of a key that is not live

  module _ (r : Record) (room : leb (record_capacity g) (length H.records) ≡ false) where
    abbrev insert_plan : List Planned
    insert_plan = insertion_plan h g n r.key (record_bytes r) ram

    abbrev insert_ram : List ℕ
    insert_ram = insertion_ram h g n r.key (record_bytes r) ram

    insert_room : (commit : Commit) (X : Flash) → insert_by commit h g (on X) r none ≡ commit g (on X) (n + 1) d insert_plan insert_ram
    unfolding change_by
    insert_room commit X = rw room

    absent_room : (commit : Commit) (X : Flash) → update_by commit h g (on X) r none ≡ commit g (on X) (n + 1) d insert_plan insert_ram
    unfolding change_by
    absent_room commit X = rw room

    insert_shaped : Shaped (unit_of sizes) (index_block g) (blocks g) (plan_ops (unit_of sizes) insert_plan C)
    insert_shaped =
        shaped_wider (unit_of sizes) (index_block g) (index_block g + 1 + 8 * unit_of sizes) (index_block g) (blocks g) _ (omega arith)
        (omega arith)
        (insertion_shaped h g ok.e (units.unit sizes ok) n r.key (record_bytes r) ram C (length_record r))

    insert_work : find_live H r.key ≡ none → Work (insert r)
    insert_work none_live = record {
      n' = n + 1;
      d' = d;
      plan = insert_plan;
      ram' = insert_ram;
      answers = λ commit X q.
          ap (insert_by commit h g (on X) r) (q ∙ ap (map found) none_live) ∙ insert_room commit X;
      shaped = insert_shaped;
    }

    absent_work : find_live H r.key ≡ none → Work (update r)
    absent_work none_live = record {
      n' = n + 1;
      d' = d;
      plan = insert_plan;
      ram' = insert_ram;
      answers = λ commit X q.
          ap (update_by commit h g (on X) r) (q ∙ ap (map found) none_live) ∙ absent_room commit X;
      shaped = insert_shaped;
    }

    -- ---- update of a live one

    module _ (j : ℕ) (live : find_live H r.key ≡ some j) (room_d : leb (deletion_capacity g) (length H.deleted) ≡ false) where
      -- the operations of the deletion, the chip after them, and those of the insertion
      abbrev first : List Op
      first = plan_ops (unit_of sizes) (deletion_plan h g d j ram) C

      abbrev C' : Flash
      C' = apply_all (unit_of sizes) first C

      abbrev second : List Op
      second = plan_ops (unit_of sizes) insert_plan C'

      -- the insertion programs no block of the index over DA
      low : Below (deletion_index_block g * 64) second
      low =
          inside_below (unit_of sizes) (deletion_index_block g) second
          (insertion_inside h sizes ok n r.key (record_bytes r) ram C' (leb-false (record_capacity g) n room) (length_record r)
          (deletion_index_block g) (omega arith))

      first_shaped : Shaped (unit_of sizes) (deletion_index_block g) (deletion_index_block g + 1 + 8 * unit_of sizes) first
      first_shaped = deletion_shaped h g ok.e (units.unit sizes ok) d j ram C

      both_shaped : Shaped (unit_of sizes) (index_block g) (blocks g) (first ++ second)
      both_shaped =
          shaped_append (unit_of sizes) (index_block g) (blocks g) first second
          (shaped_wider (unit_of sizes) (deletion_index_block g) (deletion_index_block g + 1 + 8 * unit_of sizes) (index_block g) (blocks g) first
          (omega arith) (omega arith) first_shaped)
          (shaped_wider (unit_of sizes) (index_block g) (index_block g + 1 + 8 * unit_of sizes) (index_block g) (blocks g) second (omega arith)
          (omega arith)
          (insertion_shaped h g ok.e (units.unit sizes ok) n r.key (record_bytes r) ram C' (length_record r)))
          (clear_below (deletion_index_block g) (deletion_index_block g + 1 + 8 * unit_of sizes) first second first_shaped.erasing low)

      update_room : (commit : Commit) (X : Flash)
          → update_by commit h g (on X) r (some (found j))
          ≡ commit g (on X) (n + 1) (d + 1) (deletion_plan h g d j ram ++ insert_plan)
          (insertion_ram h g n r.key (record_bytes r) (deletion_ram h g d j ram))
      unfolding change_by
      update_room commit X = rw (room, room_d)

      update_work : Work (update r)
      update_work = record {
        n' = n + 1;
        d' = d + 1;
        plan = deletion_plan h g d j ram ++ insert_plan;
        ram' = insertion_ram h g n r.key (record_bytes r) (deletion_ram h g d j ram);
        answers = λ commit X q. ap (update_by commit h g (on X) r) (q ∙ ap (map found) live) ∙ update_room commit X;
        shaped = rw (ops_append (unit_of sizes) (deletion_plan h g d j ram) insert_plan C) both_shaped;
      }

  -- ---- delete

  module _ (key : Key) (j : ℕ) (live : find_live H key ≡ some j) (room_d : leb (deletion_capacity g) (length H.deleted) ≡ false) where
    delete_room : (commit : Commit) (X : Flash)
        → delete_by commit h g (on X) (some (found j)) ≡ commit g (on X) n (d + 1) (deletion_plan h g d j ram ++ []) (deletion_ram h g d j ram)
    unfolding change_by
    delete_room commit X = rw room_d

    delete_work : Work (delete key)
    delete_work = record {
      n' = n;
      d' = d + 1;
      plan = deletion_plan h g d j ram ++ [];
      ram' = deletion_ram h g d j ram;
      answers = λ commit X q. ap (delete_by commit h g (on X)) (q ∙ ap (map found) live) ∙ delete_room commit X;
      shaped = rw (append-nil (deletion_plan h g d j ram))
          (shaped_wider (unit_of sizes) (deletion_index_block g) (deletion_index_block g + 1 + 8 * unit_of sizes) (index_block g) (blocks g) _
          (omega arith) (omega arith) (deletion_shaped h g ok.e (units.unit sizes ok) d j ram C));
    }

  -- ---- every accepted call

  module _ (can : allowed sizes ≡ true) where
    pub call_is : (c : Call) → call h (on C) c ≡ answer_by commit h g (on C) c
    unfolding call
    call_is c =
        judged_is (on C) (answer h g (on C) c) (volumes.state_good h sizes ok H C ram I can) (volumes.long_enough h sizes ok H C ram I)

    -- refusals 3, 4, 5 and 6 by what is live and by the room

    five : (r : Record) → leb (record_capacity g) (length H.records) ≡ true → (insert_by commit h g (on C) r none).outcome ≡ refused 5
    unfolding change_by
    five r q = rw q

    five_absent : (r : Record) → leb (record_capacity g) (length H.records) ≡ true → (update_by commit h g (on C) r none).outcome
        ≡ refused 5
    unfolding change_by
    five_absent r q = rw q

    five_live : (r : Record) (j : ℕ) → leb (record_capacity g) (length H.records) ≡ true
        → (update_by commit h g (on C) r (some (found j))).outcome ≡ refused 5
    unfolding change_by
    five_live r j q = rw q

    six : (r : Record) (j : ℕ) → leb (record_capacity g) (length H.records) ≡ false → leb (deletion_capacity g) (length H.deleted)
        ≡ true
        → (update_by commit h g (on C) r (some (found j))).outcome ≡ refused 6
    unfolding change_by
    six r j q s = rw (q, s)

    six_delete : (j : ℕ) → leb (deletion_capacity g) (length H.deleted) ≡ true
        → (delete_by commit h g (on C) (some (found j))).outcome ≡ refused 6
    unfolding change_by
    six_delete j q = rw q

    shows : (key : Key) → (search h g (on C) key).stop ≡ map found (find_live H key)
    shows key = volumes.search_is h sizes ok H C ram I key

    insert_accepted : (r : Record) (o : Option ℕ) → find_live H r.key ≡ o
        → (insert_by commit h g (on C) r (map found o)).outcome ≡ accepted → Work (insert r)
    insert_accepted r (some j) q e = absurd (refused_not 3 e)
    insert_accepted r none q e =
        either (bool? (leb (record_capacity g) (length H.records)))
        (λ t. absurd (refused_not 5 (sym (five r t) ∙ e)))
        (λ t. insert_work r t q)

    update_accepted : (r : Record) (o : Option ℕ) → find_live H r.key ≡ o
        → (update_by commit h g (on C) r (map found o)).outcome ≡ accepted → Work (update r)
    update_accepted r none q e =
        either (bool? (leb (record_capacity g) (length H.records)))
        (λ t. absurd (refused_not 5 (sym (five_absent r t) ∙ e)))
        (λ t. absent_work r t q)
    update_accepted r (some j) q e =
        either (bool? (leb (record_capacity g) (length H.records)))
        (λ t. absurd (refused_not 5 (sym (five_live r j t) ∙ e)))
        (λ t. either (bool? (leb (deletion_capacity g) (length H.deleted)))
        (λ s. absurd (refused_not 6 (sym (six r j t s) ∙ e)))
        (λ s. update_work r t j q s))

    delete_accepted : (key : Key) (o : Option ℕ) → find_live H key ≡ o
        → (delete_by commit h g (on C) (map found o)).outcome ≡ accepted → Work (delete key)
    delete_accepted key none q e = absurd (refused_not 4 e)
    delete_accepted key (some j) q e =
        either (bool? (leb (deletion_capacity g) (length H.deleted)))
        (λ s. absurd (refused_not 6 (sym (six_delete j s) ∙ e)))
        (λ s. delete_work key j q s)

    no_lookup : (opened da_pages : ℕ) (o : Option ℕ) → (lookup_after g (on C) opened da_pages (map found o)).outcome ≡ accepted → ⊥
    unfolding lookup_after
    no_lookup opened da_pages none e = let z : ◌≡◌ {A = ℕ} 0 1 = cc in omega arith
    no_lookup opened da_pages (some j) e = let z : ◌≡◌ {A = ℕ} 0 1 = cc in omega arith

    -- a lookup is never accepted
    pub never : (key : Key) → (call h (on C) (lookup key)).outcome ≡ accepted → ⊥
    never key e =
        no_lookup (search h g (on C) key).opened (search_da_pages h g (on C) key) (find_live H key)
        (ap (λ (s : Option Stop). (lookup_after g (on C) (search h g (on C) key).opened (search_da_pages h g (on C) key) s).outcome)
        (sym (shows key))
        ∙ ap (λ (r : Result). r.outcome) (sym (call_is (lookup key))) ∙ e)

    pub work : (c : Call) → (call h (on C) c).outcome ≡ accepted → Work c
    work (insert r) e =
        insert_accepted r (find_live H r.key) refl
        (ap (λ (s : Option Stop). (insert_by commit h g (on C) r s).outcome) (sym (shows r.key))
        ∙ ap (λ (r : Result). r.outcome) (sym (call_is (insert r))) ∙ e)
    work (update r) e =
        update_accepted r (find_live H r.key) refl
        (ap (λ (s : Option Stop). (update_by commit h g (on C) r s).outcome) (sym (shows r.key))
        ∙ ap (λ (r : Result). r.outcome) (sym (call_is (update r))) ∙ e)
    work (delete key) e =
        delete_accepted key (find_live H key) refl
        (ap (λ (s : Option Stop). (delete_by commit h g (on C) s).outcome) (sym (shows key))
        ∙ ap (λ (r : Result). r.outcome) (sym (call_is (delete key))) ∙ e)
    work (lookup key) e = absurd (never key e)
