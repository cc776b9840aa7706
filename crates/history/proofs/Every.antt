-- Every call on every volume, whatever its state and lent bytes: a refusal hands everything back, bytes past the volume never change,
-- and a lookup opens at most floor(n / (S/2)) pages.
use Rattle.std.specs.Prelude.{◌≡◌, Bool, ◌&&◌, cond, List, replicate, eqb}
use Rattle.std.proofs.Math.Path.{refl}
use Rattle.std.proofs.Common.{sym, ap, ◌∙◌, mul-le-mul_right, arith}
use Rattle.std.proofs.Math.Bool.{true, false, true≢false}
use Rattle.std.proofs.Math.Option.{Option, none, some}
use Prim.Native.Nat.{ℕ, ◌+◌, ◌*◌, ◌/◌, ◌%◌, ◌≤◌, ◌<◌, zero-le}
use Rattle.std.proofs.Math.ListN.{length, length-replicate}
use borrow.Author.Tests.{leb-false, eqb-true}
use Rattle.memory.specs.Cases.{either, bool?}
use Rattle.memory.specs.Lists.{length_write, get_d_write_after}
use Rattle.memory.specs.Numbers.{carry, div_lt}
use Rattle.layout.specs.Geometry.{Geometry, geometry, allowed, blocks, ka_blocks, full_sets, record_capacity, deletion_capacity, ram_size}
use Rattle.layout.specs.Geometry.{entries_per_page, deletion_index_block, deletion_sets, work_ram, Sizes, unit_of}
use Rattle.layout.specs.Flash.{Flash, erases, Planned, plan_ops, all_fresh}
use Rattle.layout.specs.Hash.{Family, fnv_family}
use Rattle.layout.specs.Items.{Ra, KA, DA, entry_bytes, deletion_bytes, fills, Record, record_bytes}
use Rattle.layout.specs.Search.{Stop, found, corrupt}
use Rattle.layout.specs.Keys.{Key}
use Rattle.layout.specs.Refusals as refusal
use Rattle.layout.specs.Calls.{Volume, Call, insert, update, delete, lookup, accepted, Result, refuse}
use Rattle.layout.specs.Calls.{bad_state, too_short, judge_first, format, formatted, key_index, key_filters, key_positions, try_at, maybe_in}
use Rattle.layout.specs.Calls.{search_at, search, deletion_plan, deletion_ram, new_filter, insertion_plan, insertion_ram, Commit, performed, commit}
use Rattle.layout.specs.Calls.{no_room, no_deletion, insert_after, update_after, delete_after, lookup_after, answer, call, Edit, one, change_by, change}
use Rattle.layout.specs.Calls.{deletes, ram_deleted, inserts, ram_inserted, change_plan, change_ram}
use Rattle.layout.specs.Calls.{insert_by, update_by, delete_by, answer_by, deletion_index, deletion_filters, new_half}
use Rattle.layout.specs.Later.{later_plan, commit_later, call_again}
use Rattle.history.specs.Operations.{record_ram, entry_ram, number_ram, one_half}
use Rattle.history.proofs.FlashLaws.{apply_main_length, apply_spare_length}
use Rattle.laws.specs.ItemLaws.{length_record, length_entry, length_deletion}
use Rattle.history.proofs.ScanLaws.{search_opened}
use Rattle.history.proofs.ChangeLaws.{deletion_ram_lem, insertion_ram_lem}
use Rattle.history.specs.Frames.{Beyond}
use Rattle.history.proofs.Frames.{beyond_same}
use Rattle.history.specs.Inside.{Inside, PlanInside}
use Rattle.history.proofs.Inside.{inside_none, inside_erases, main_past, spare_past, inside_ops, inside_later}
use Rattle.history.specs.Inside.{Past}
use Rattle.history.proofs.Inside.{inside_append, inside_if, inside_item, inside_filter, past_then, past_zero, past_item, past_filter}
use Rattle.laws.specs.SetLaws.{places_suffice, deletion_places_suffice, first_of_pair}
use Rattle.laws.specs.Sound.{SizesSound, sound}
use Rattle.laws.specs.Sound as units
use Rattle.history.specs.Every.{Keeps, NoPages, is_accepted, Most, Bounded, Bounds}

keeps_either : (v : Volume) (t : Bool) (r s : Result) → Keeps v r → Keeps v s → Keeps v (cond t r s)
keeps_either v true r s a b = a
keeps_either v false r s a b = b

refuse_keeps : (v : Volume) (j : ℕ) → Keeps v (refuse v j)
refuse_keeps v j i e = refl

module _ (h : Family) (g : Geometry) (v : Volume) where
  commit_keeps : (n d : ℕ) (plan : List Planned) (ram : List ℕ) → Keeps v (commit g v n d plan ram)
  unfolding commit
  commit_keeps n d plan ram =
      keeps_either v (all_fresh v.flash.spare (plan_ops g.u plan v.flash)) _ _
      (λ i e. absurd (let z : true ≡ false = cc in true≢false z)) (refuse_keeps v refusal.not_fresh)

  change_keeps : (e : Edit) → Keeps v (change h g v e)
  unfolding change_by
  change_keeps e =
      keeps_either v (one e.inserts && no_room g v) _ _ (refuse_keeps v refusal.full)
      (keeps_either v (one e.deletes && no_deletion g v) _ _ (refuse_keeps v refusal.deletions_full) (commit_keeps _ _ _ _))

  insert_keeps : (r : Record) (s : Option Stop) → Keeps v (insert_after h g v r s)
  insert_keeps r (some corrupt) = refuse_keeps v refusal.corrupt_entry
  insert_keeps r (some (found j)) = refuse_keeps v refusal.present
  insert_keeps r none = change_keeps _

  update_keeps : (r : Record) (s : Option Stop) → Keeps v (update_after h g v r s)
  update_keeps r (some corrupt) = refuse_keeps v refusal.corrupt_entry
  update_keeps r none = change_keeps _
  update_keeps r (some (found j)) = change_keeps _

  delete_keeps : (s : Option Stop) → Keeps v (delete_after h g v s)
  delete_keeps (some corrupt) = refuse_keeps v refusal.corrupt_entry
  delete_keeps none = refuse_keeps v refusal.absent
  delete_keeps (some (found j)) = change_keeps _

  lookup_keeps : (opened da_pages : ℕ) (s : Option Stop) → Keeps v (lookup_after g v opened da_pages s)
  unfolding lookup_after
  lookup_keeps opened da_pages (some corrupt) = refuse_keeps v refusal.corrupt_entry
  lookup_keeps opened da_pages none = λ i e. refl
  lookup_keeps opened da_pages (some (found j)) = λ i e. refl

  answer_keeps : (c : Call) → Keeps v (answer h g v c)
  answer_keeps (insert r) = insert_keeps r (search h g v r.key).stop
  answer_keeps (update r) = update_keeps r (search h g v r.key).stop
  answer_keeps (delete key) = delete_keeps (search h g v key).stop
  answer_keeps (lookup key) = lookup_keeps (search h g v key).opened _ (search h g v key).stop

-- "The state comes back as handed in", and so do all bytes
pub refusal_keeps : (h : Family) (v : Volume) (c : Call) → Keeps v (call h v c)
unfolding call judge_first
refusal_keeps h v c =
    keeps_either v (bad_state v.state) _ _ (refuse_keeps v refusal.bad_state)
    (keeps_either v (too_short (geometry v.state.sizes) v.flash v.ram) _ _ (refuse_keeps v refusal.too_short)
    (answer_keeps h (geometry v.state.sizes) v c))

pub format_refusal_keeps : (v : Volume) (sizes : Sizes) → Keeps v (format v sizes)
unfolding format formatted
format_refusal_keeps v sizes =
    keeps_either v (allowed sizes) _ _
    (keeps_either v (too_short (geometry sizes) v.flash v.ram) _ _ (refuse_keeps v refusal.too_short)
    (λ i e. absurd (let z : true ≡ false = cc in true≢false z)))
    (refuse_keeps v refusal.bad_state)

none_either : (t : Bool) (r s : Result) → NoPages r → NoPages s → NoPages (cond t r s)
none_either true r s a b = a
none_either false r s a b = b

refuse_none : (v : Volume) (j : ℕ) → NoPages (refuse v j)
refuse_none v j i e = (refl, refl)

lookup_none : (g : Geometry) (v : Volume) (opened da_pages : ℕ) (s : Option Stop) → NoPages (lookup_after g v opened da_pages s)
unfolding lookup_after
lookup_none g v opened da_pages (some corrupt) = refuse_none v refusal.corrupt_entry
lookup_none g v opened da_pages none = λ i e. absurd (let z : true ≡ false = cc in true≢false z)
lookup_none g v opened da_pages (some (found j)) = λ i e. absurd (let z : true ≡ false = cc in true≢false z)

pub lookup_refusal : (h : Family) (v : Volume) (key : Key) → NoPages (call h v (lookup key))
unfolding call judge_first
lookup_refusal h v key =
    none_either (bad_state v.state) _ _ (refuse_none v refusal.bad_state)
    (none_either (too_short (geometry v.state.sizes) v.flash v.ram) _ _ (refuse_none v refusal.too_short)
    (lookup_none (geometry v.state.sizes) v _ _ _))

-- ---- a format is accepted exactly if neither 1 nor 2 applies to it

pub can_accepted : (v : Volume) (sizes : Sizes) → allowed sizes ≡ true → too_short (geometry sizes) v.flash v.ram ≡ false
    → (format v sizes).outcome ≡ accepted
unfolding format formatted
can_accepted v sizes can long = rw (can, long)

pub accepted_can : (v : Volume) (sizes : Sizes) → (format v sizes).outcome ≡ accepted
    → (allowed sizes ≡ true) × (too_short (geometry sizes) v.flash v.ram ≡ false)
unfolding format
accepted_can v sizes e =
    let t : is_accepted (format v sizes).outcome ≡ true = ap is_accepted e in
    either (bool? (allowed sizes))
    (λ a. either (bool? (too_short (geometry sizes) v.flash v.ram))
    (λ b. let z : false ≡ true = rw (a, b) at t in (a, b ∙ sym z))
    (λ b. (a, b)))
    (λ a. let z : false ≡ true = rw a at t in (a ∙ z, cc))

most_either : (m : ℕ) (t : Bool) (r s : Result) → Most m r → Most m s → Most m (cond t r s)
most_either m true r s a b = a
most_either m false r s a b = b

refuse_most : (m : ℕ) (v : Volume) (i : ℕ) → Most m (refuse v i)
refuse_most m v i = zero-le

module _ (h : Family) (g : Geometry) (v : Volume) (m : ℕ) where
  commit_most : (n d : ℕ) (plan : List Planned) (ram : List ℕ) → Most m (commit g v n d plan ram)
  unfolding commit
  commit_most n d plan ram =
      most_either m (all_fresh v.flash.spare (plan_ops g.u plan v.flash)) _ _ zero-le (refuse_most m v refusal.not_fresh)

  change_most : (e : Edit) → Most m (change h g v e)
  unfolding change_by
  change_most e =
      most_either m (one e.inserts && no_room g v) _ _ (refuse_most m v refusal.full)
      (most_either m (one e.deletes && no_deletion g v) _ _ (refuse_most m v refusal.deletions_full) (commit_most _ _ _ _))

  insert_most : (r : Record) (s : Option Stop) → Most m (insert_after h g v r s)
  insert_most r (some corrupt) = refuse_most m v refusal.corrupt_entry
  insert_most r (some (found j)) = refuse_most m v refusal.present
  insert_most r none = change_most _

  update_most : (r : Record) (s : Option Stop) → Most m (update_after h g v r s)
  update_most r (some corrupt) = refuse_most m v refusal.corrupt_entry
  update_most r none = change_most _
  update_most r (some (found j)) = change_most _

  delete_most : (s : Option Stop) → Most m (delete_after h g v s)
  delete_most (some corrupt) = refuse_most m v refusal.corrupt_entry
  delete_most none = refuse_most m v refusal.absent
  delete_most (some (found j)) = change_most _

  lookup_most : (opened da_pages : ℕ) (s : Option Stop) → opened ≤ m → Most m (lookup_after g v opened da_pages s)
  unfolding lookup_after
  lookup_most opened da_pages (some corrupt) l = refuse_most m v refusal.corrupt_entry
  lookup_most opened da_pages none l = l
  lookup_most opened da_pages (some (found j)) l = l

answer_most : (h : Family) (g : Geometry) (v : Volume) (c : Call) → Most (v.state.records / entries_per_page g.u) (answer h g v c)
unfolding search_at
answer_most h g v (insert r) = insert_most h g v _ r (search h g v r.key).stop
answer_most h g v (update r) = update_most h g v _ r (search h g v r.key).stop
answer_most h g v (delete key) = delete_most h g v _ (search h g v key).stop
answer_most h g v (lookup key) =
    lookup_most h g v _ (search h g v key).opened _ (search h g v key).stop
    (search_opened (maybe_in g v (key_positions h g key)) (try_at h g v v.state.records v.state.deletions key) (entries_per_page g.u)
    v.state.records)

pub count_most : (h : Family) (v : Volume) (c : Call) → (call h v c).count ≤ v.state.records / entries_per_page (unit_of v.state.sizes)
unfolding call judge_first
count_most h v c =
    most_either _ (bad_state v.state) _ _ (refuse_most _ v refusal.bad_state)
    (most_either _ (too_short (geometry v.state.sizes) v.flash v.ram) _ _ (refuse_most _ v refusal.too_short)
    (answer_most h (geometry v.state.sizes) v c))

module _ (h : Family) (sizes : Sizes) (ok : SizesSound sizes) where
  abbrev g : Geometry
  g = geometry sizes

  abbrev u : ℕ
  u = unit_of sizes

  pu : 0 < unit_of sizes
  pu = units.pu sizes ok

  past_if : (ram : List ℕ) (b : Bool) (r s : List ℕ) → Past (ram_size g) ram r → Past (ram_size g) ram s → Past (ram_size g) ram (cond b r s)
  past_if ram true r s p q = p
  past_if ram false r s p q = q

  -- the places for full sets suffice for both filters of one more deletion
  halves_room : (d : ℕ) → d < deletion_capacity g → d % (16 * u) + 1 ≡ 16 * u
      → (2 * (d / (16 * u)) + 1 + 1) / 8 / 16 / (4 * u) ≤ sizes.da_blocks / (16 * u)
  halves_room d l full =
      let next : (d + 1) / (16 * u) ≡ d / (16 * u) + 1
      = either (carry d (16 * u) (omega (arith, pu))) (λ c. c.1) (λ c. absurd (c.0 full)) in
      let two : 2 * ((d + 1) / (16 * u)) ≡ 2 * (d / (16 * u)) + 1 + 1 = rw next (omega arith) in
      rw (← two) (deletion_places_suffice u sizes.da_blocks (d + 1) pu (omega arith))

  module _ (d j : ℕ) (ram : List ℕ) (room : d < deletion_capacity g) where
    number_past : Past (ram_size g) ram (number_ram g d j ram)
    number_past = past_item u (DA g) d (ram_size g) (deletion_bytes j) ram (omega (arith, pu)) (omega arith) (length_deletion j) (omega arith)

    half_past : Past (ram_size g) ram (one_half h g d j ram)
    half_past =
        past_then (ram_size g) ram _ _ number_past
        (rw (first_of_pair (d / (16 * u)))
        at (past_filter u pu (deletion_index g) (deletion_filters g d) (ram_size g) (new_half h g d j 0 ram) (number_ram g d j ram)
        (omega arith)))

    deletion_inside : PlanInside u (blocks g) (deletion_plan h g d j ram)
    unfolding deletion_plan
    deletion_inside =
        inside_append u (blocks g) _ _
        (inside_item u (blocks g) (DA g) sizes.da_blocks d (deletion_bytes j) ram (omega arith)
        (div_lt d (16 * u) (sizes.da_blocks * 16) (omega (arith, pu)) (omega arith)))
        (inside_if u (blocks g) (fills (DA g) d) _ (λ a.
        inside_append u (blocks g) _ _
        (inside_if u (blocks g) (eqb (deletion_filters g d % 8 + 1) 8) _ (λ q. absurd (true≢false (sym q ∙ first_of_pair (d / (16 * u))))))
        (inside_filter u ok.e (units.unit sizes ok) (blocks g) (deletion_index g) (deletion_sets g) (omega arith)
        (deletion_filters g d + 1) _ (halves_room d room (eqb-true (d % (16 * u) + 1) (16 * u) a)))))

    deletion_bounded : Bounded g ram (deletion_plan h g d j ram) (deletion_ram h g d j ram)
    deletion_bounded = record {
      inside = deletion_inside;
      past = rw (deletion_ram_lem h g d j ram)
          (past_if ram (fills (DA g) d) _ _
          (past_then (ram_size g) ram _ _ half_past
          (past_filter u pu (deletion_index g) (deletion_filters g d + 1) (ram_size g) (new_half h g d j 1 ram) _ (omega arith))) number_past);
    }

  ka_room : (n : ℕ) → n < record_capacity g → n / (8 * u) < ka_blocks g * 16
  ka_room n l =
      let half : sizes.ra_blocks ≤ (sizes.ra_blocks + 1) / 2 * 2 = omega arith in
      div_lt n (8 * u) ((sizes.ra_blocks + 1) / 2 * 16) (omega (arith, pu)) (omega (arith, mul-le-mul_right u half))

  -- the places for full sets suffice for one more record's filter
  sets_room : (n : ℕ) → n < record_capacity g → n % (8 * u) + 1 ≡ 8 * u → (n / (8 * u) + 1) / 8 / 16 / (4 * u) ≤ sizes.ra_blocks / (64 * u)
  sets_room n l full =
      let next : (n + 1) / (8 * u) ≡ n / (8 * u) + 1
      = either (carry n (8 * u) (omega (arith, pu))) (λ c. c.1) (λ c. absurd (c.0 full)) in
      rw (← next) (places_suffice u sizes.ra_blocks (n + 1) pu (omega arith))

  module _ (n : ℕ) (key : Key) (bytes ram : List ℕ) (room : n < record_capacity g) (size : length bytes ≡ 16) where
    entry_past : Past (ram_size g) ram (entry_ram g n key bytes ram)
    entry_past =
        past_then (ram_size g) ram _ _ (past_item u (Ra g) n (ram_size g) bytes ram (omega (arith, pu)) (omega arith) size (omega arith))
        (past_item u (KA g) n (ram_size g) (entry_bytes key n) _ (omega (arith, pu)) (omega arith) (length_entry key n) (omega arith))

    -- it lies before the index over DA
    insertion_planned : (B : ℕ) → deletion_index_block g ≤ B → PlanInside u B (insertion_plan h g n key bytes ram)
    unfolding insertion_plan
    insertion_planned B end =
        inside_append u B _ _
        (inside_item u B (Ra g) sizes.ra_blocks n bytes ram (omega (arith, end))
        (div_lt n (4 * u) (sizes.ra_blocks * 16) (omega (arith, pu)) (omega arith)))
        (inside_append u B _ _
        (inside_item u B (KA g) (ka_blocks g) n (entry_bytes key n) ram (omega (arith, end)) (ka_room n room))
        (inside_if u B (fills (KA g) n) _ (λ a.
        inside_filter u ok.e (units.unit sizes ok) B (key_index g) (full_sets g) (omega (arith, end)) (key_filters g n) _
        (sets_room n room (eqb-true (n % (8 * u) + 1) (8 * u) a)))))

    insertion_past : Past (ram_size g) ram (insertion_ram h g n key bytes ram)
    insertion_past =
        rw (insertion_ram_lem h g n key bytes pu size ram)
        (past_if ram (fills (KA g) n) _ _
        (past_then (ram_size g) ram _ _ entry_past
        (past_filter u pu (key_index g) (key_filters g n) (ram_size g) (new_filter h g n key (record_ram g n bytes ram)) _
        (omega arith))) entry_past)

  -- its operations on any chip do
  pub insertion_inside : (n : ℕ) (key : Key) (bytes ram : List ℕ) (C : Flash) → n < record_capacity g → length bytes ≡ 16 → (B : ℕ)
      → deletion_index_block g ≤ B → Inside u B (plan_ops u (insertion_plan h g n key bytes ram) C)
  insertion_inside n key bytes ram C room size B end =
      inside_ops u B (insertion_plan h g n key bytes ram) C (insertion_planned n key bytes ram room size B end)

  -- a change, where there is room for it

  module _ (v : Volume) where
    deletes_bounded : (o : Option ℕ) → (one o && no_deletion g v) ≡ false → Bounded g v.ram (deletes h g v o) (ram_deleted h g v o)
    unfolding PlanInside
    deletes_bounded none room = record { inside = tt; past = record { same = λ x l. refl; long = refl } }
    deletes_bounded (some j) room =
        deletion_bounded v.state.deletions j v.ram (leb-false (deletion_capacity g) v.state.deletions room)

    inserts_bounded : (o : Option Record) (ram : List ℕ) → (one o && no_room g v) ≡ false
        → PlanInside u (blocks g) (inserts h g v o) × Past (ram_size g) ram (ram_inserted h g v o ram)
    unfolding PlanInside
    inserts_bounded none ram room = (tt, record { same = λ x l. refl; long = refl })
    inserts_bounded (some r) ram room =
        let less : v.state.records < record_capacity g = leb-false (record_capacity g) v.state.records room in (
          insertion_planned v.state.records r.key (record_bytes r) v.ram less (length_record r) (blocks g) (omega arith),
          insertion_past v.state.records r.key (record_bytes r) ram less (length_record r),
        )

    change_bounded : (e : Edit) → (one e.inserts && no_room g v) ≡ false → (one e.deletes && no_deletion g v) ≡ false
        → Bounded g v.ram (change_plan h g v e) (change_ram h g v e)
    change_bounded e room less =
        let D = deletes_bounded e.deletes less in
        let I = inserts_bounded e.inserts (ram_deleted h g v e.deletes) room in
        record {
          inside = inside_append u (blocks g) (deletes h g v e.deletes) (inserts h g v e.inserts) D.inside I.0;
          past = past_then (ram_size g) v.ram (ram_deleted h g v e.deletes) _ D.past I.1;
        }

    -- what it plans lies inside the volume
    pub change_inside : (e : Edit) → (one e.inserts && no_room g v) ≡ false → (one e.deletes && no_deletion g v) ≡ false
        → PlanInside u (blocks g) (change_plan h g v e)
    change_inside e room less = (change_bounded e room less).inside

  -- what is kept of a volume, and where the operations lie
  abbrev Kept : Volume → Result → Type 0
  Kept v r = Beyond g v.flash r.volume.flash v.ram r.volume.ram × Inside u (blocks g) r.ops

  kept_either : (v : Volume) (b : Bool) (r s : Result) → (b ≡ true → Kept v r) → (b ≡ false → Kept v s) → Kept v (cond b r s)
  kept_either v true r s a b = a refl
  kept_either v false r s a b = b refl

  refuse_kept : (v : Volume) (i : ℕ) → Kept v (refuse v i)
  refuse_kept v i = (beyond_same g v.flash v.ram, inside_none u (blocks g))

  -- a way to end a change that stays inside the volume where the plan does
  abbrev Keeping : Commit → Type 0
  Keeping end = (v : Volume) (n d : ℕ) (plan : List Planned) (ram : List ℕ) → Bounded g v.ram plan ram → Kept v (end g v n d plan ram)

  performed_kept : Keeping performed
  performed_kept v n d plan ram b =
      let i = inside_ops u (blocks g) plan v.flash b.inside in
      let p = past_then (ram_size g) v.ram ram _ b.past (past_zero u (work_ram u) (ram_size g) ram (omega arith)) in (
        record {
          main = λ x l. main_past u (blocks g) (plan_ops u plan v.flash) v.flash x i l;
          spare = λ x l. spare_past u (blocks g) (plan_ops u plan v.flash) v.flash x i l;
          ram = p.same;
          main_length = apply_main_length u (plan_ops u plan v.flash) v.flash;
          spare_length = apply_spare_length u (plan_ops u plan v.flash) v.flash;
          ram_length = p.long;
        },
        i,
      )

  commit_kept : Keeping commit
  unfolding commit
  commit_kept v n d plan ram b =
      kept_either v (all_fresh v.flash.spare (plan_ops u plan v.flash)) _ _
      (λ fresh. performed_kept v n d plan ram b) (λ fresh. refuse_kept v refusal.not_fresh)

  later_kept : Keeping commit_later
  unfolding commit_later
  later_kept v n d plan ram b =
      performed_kept v n d (later_plan v.flash.spare plan) ram
      (record { inside = inside_later u (blocks g) v.flash.spare plan b.inside; past = b.past })

  module _ (end : Commit) (keeping : Keeping end) (v : Volume) where
    change_kept : (e : Edit) → Kept v (change_by end h g v e)
    unfolding change_by
    change_kept e =
        kept_either v (one e.inserts && no_room g v) _ _ (λ a. refuse_kept v refusal.full)
        (λ a. kept_either v (one e.deletes && no_deletion g v) _ _ (λ b. refuse_kept v refusal.deletions_full)
        (λ b. keeping v _ _ _ _ (change_bounded v e a b)))

    insert_kept : (r : Record) (s : Option Stop) → Kept v (insert_by end h g v r s)
    insert_kept r (some corrupt) = refuse_kept v refusal.corrupt_entry
    insert_kept r (some (found j)) = refuse_kept v refusal.present
    insert_kept r none = change_kept _

    update_kept : (r : Record) (s : Option Stop) → Kept v (update_by end h g v r s)
    update_kept r (some corrupt) = refuse_kept v refusal.corrupt_entry
    update_kept r none = change_kept _
    update_kept r (some (found j)) = change_kept _

    delete_kept : (s : Option Stop) → Kept v (delete_by end h g v s)
    delete_kept (some corrupt) = refuse_kept v refusal.corrupt_entry
    delete_kept none = refuse_kept v refusal.absent
    delete_kept (some (found j)) = change_kept _

    lookup_kept : (opened da_pages : ℕ) (s : Option Stop) → Kept v (lookup_after g v opened da_pages s)
    unfolding lookup_after
    lookup_kept opened da_pages (some corrupt) = refuse_kept v refusal.corrupt_entry
    lookup_kept opened da_pages none = refuse_kept v 0
    lookup_kept opened da_pages (some (found j)) = refuse_kept v 0

    answer_kept : (c : Call) → Kept v (answer_by end h g v c)
    answer_kept (insert r) = insert_kept r (search h g v r.key).stop
    answer_kept (update r) = update_kept r (search h g v r.key).stop
    answer_kept (delete key) = delete_kept (search h g v key).stop
    answer_kept (lookup key) = lookup_kept (search h g v key).opened _ (search h g v key).stop

  format_kept : (v : Volume) → Kept v (formatted v sizes)
  unfolding formatted
  format_kept v =
      let l : length (replicate {A = ℕ} (6 * (64 * u)) 0) ≡ 6 * (64 * u) = length-replicate {A = ℕ} (6 * (64 * u)) 0 in
      let i = inside_erases u (blocks g) 0 (blocks g) (omega arith) in (
        record {
          main = λ x q. main_past u (blocks g) (erases 0 (blocks g)) v.flash x i q;
          spare = λ x q. spare_past u (blocks g) (erases 0 (blocks g)) v.flash x i q;
          ram = λ x q. get_d_write_after v.ram 0 (replicate (6 * (64 * u)) 0) x 0 (omega (arith, l));
          main_length = apply_main_length u (erases 0 (blocks g)) v.flash;
          spare_length = apply_spare_length u (erases 0 (blocks g)) v.flash;
          ram_length = length_write v.ram 0 (replicate (6 * (64 * u)) 0);
        },
        i,
      )

-- a state that is not bad has allowed sizes
pub state_allowed : (v : Volume) → bad_state v.state ≡ false → allowed v.state.sizes ≡ true
unfolding bad_state
state_allowed v good =
    either (bool? (allowed v.state.sizes)) (λ a. a) (λ a. let z : true ≡ false = rw a at good in absurd (true≢false z))

same_bounds : (sizes : Sizes) (v : Volume) (i : ℕ) → Bounds sizes v (refuse v i)
same_bounds sizes v i = (beyond_same (geometry sizes) v.flash v.ram, inside_none (unit_of sizes) (blocks (geometry sizes)))

-- 1 and 2 first
judged_bounds : (v : Volume) (r : Result) → (allowed v.state.sizes ≡ true → Bounds v.state.sizes v r)
    → Bounds v.state.sizes v (judge_first v r)
unfolding judge_first
judged_bounds v r f =
    either (bool? (bad_state v.state))
    (λ a. rw a (same_bounds v.state.sizes v refusal.bad_state))
    (λ a. either (bool? (too_short (geometry v.state.sizes) v.flash v.ram))
    (λ b. rw (a, b) (same_bounds v.state.sizes v refusal.too_short))
    (λ b. rw (a, b) (f (state_allowed v a))))

call_bounds : (h : Family) (v : Volume) (c : Call) → Bounds v.state.sizes v (call h v c)
unfolding call
call_bounds h v c =
    judged_bounds v _ (λ a. answer_kept h v.state.sizes (sound _ a) commit (commit_kept h v.state.sizes (sound _ a)) v c)

-- the same call, gone on with by a restart
again_bounds : (h : Family) (v : Volume) (c : Call) → Bounds v.state.sizes v (call_again h v c)
unfolding call_again
again_bounds h v c =
    judged_bounds v _ (λ a. answer_kept h v.state.sizes (sound _ a) commit_later (later_kept h v.state.sizes (sound _ a)) v c)

format_bounds : (v : Volume) (sizes : Sizes) → Bounds sizes v (format v sizes)
unfolding format
format_bounds v sizes =
    either (bool? (allowed sizes))
    (λ a. either (bool? (too_short (geometry sizes) v.flash v.ram))
    (λ b. rw (a, b) (same_bounds sizes v refusal.too_short))
    (λ b. rw (a, b) (format_kept fnv_family sizes (sound sizes a) v)))
    (λ a. rw a (same_bounds sizes v refusal.bad_state))

pub beyond_kept : (h : Family) (v : Volume) (c : Call)
    → Beyond (geometry v.state.sizes) v.flash (call h v c).volume.flash v.ram (call h v c).volume.ram
beyond_kept h v c = (call_bounds h v c).0

pub again_beyond_kept : (h : Family) (v : Volume) (c : Call)
    → Beyond (geometry v.state.sizes) v.flash (call_again h v c).volume.flash v.ram (call_again h v c).volume.ram
again_beyond_kept h v c = (again_bounds h v c).0

pub format_beyond_kept : (v : Volume) (sizes : Sizes)
    → Beyond (geometry sizes) v.flash (format v sizes).volume.flash v.ram (format v sizes).volume.ram
format_beyond_kept v sizes = (format_bounds v sizes).0

-- no operation lies past the volume
pub ops_inside : (h : Family) (v : Volume) (c : Call)
    → Inside (unit_of v.state.sizes) (blocks (geometry v.state.sizes)) (call h v c).ops
ops_inside h v c = (call_bounds h v c).1

pub again_ops_inside : (h : Family) (v : Volume) (c : Call)
    → Inside (unit_of v.state.sizes) (blocks (geometry v.state.sizes)) (call_again h v c).ops
again_ops_inside h v c = (again_bounds h v c).1

pub format_ops_inside : (v : Volume) (sizes : Sizes) → Inside (unit_of sizes) (blocks (geometry sizes)) (format v sizes).ops
format_ops_inside v sizes = (format_bounds v sizes).1
