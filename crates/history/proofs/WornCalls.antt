-- A call on a volume with other marks, whatever the bytes: where those inside the volume are as fresh, it is the same call. A format on
-- any other marks is the same format.
use Rattle.std.specs.Prelude.{◌≡◌, Bool, true, false, ◌&&◌, cond, List, ℕ, ◌<◌, length, get_or}
use Rattle.std.proofs.Math.Path.{refl}
use Rattle.std.proofs.Math.Option.{Option, none, some}
use Rattle.memory.specs.Cases.{either, bool?}
use Rattle.layout.specs.Geometry.{Geometry, geometry, allowed, blocks, spare_size, Sizes, unit_of}
use Rattle.layout.specs.Flash.{flash_of, fresh, apply_all, Planned, plan_ops, all_fresh}
use Rattle.layout.specs.Hash.{Family}
use Rattle.layout.specs.Items.{Record}
use Rattle.layout.specs.Keys.{Key}
use Rattle.layout.specs.Refusals as refusal
use Rattle.layout.specs.Search.{Stop, found, corrupt}
use Rattle.layout.specs.Calls.{Volume, Call, insert, update, delete, lookup, Result, refuse, bad_state, too_short, judge_first}
use Rattle.layout.specs.Calls.{try_at, maybe_in, search_at, search, Commit, commit, no_room, no_deletion, lookup_after, Edit, one, change_by}
use Rattle.layout.specs.Calls.{try_deletion, maybe_deleted, test_deletion, try_cost, da_pages_at, search_da_pages}
use Rattle.layout.specs.Calls.{deletes, ram_deleted, inserts, ram_inserted}
use Rattle.layout.specs.Calls.{formatted, format, insert_by, update_by, delete_by, answer_by, call}
use Rattle.laws.specs.Sound.{SizesSound, sound}
use Rattle.history.specs.ProgramOrder.{Below}
use Rattle.history.proofs.EraseOrder.{inside_below}
use Rattle.history.specs.Inside.{PlanInside}
use Rattle.history.proofs.Inside.{inside_ops}
use Rattle.history.proofs.Every.{state_allowed, change_inside}
use Rattle.history.specs.Worn.{with_spare}
use Rattle.history.proofs.WornLaws.{plan_same, fresh_worn}
use Rattle.history.specs.WornCalls.{redone}

-- refusal 2 goes by lengths
pub short_same : (g : Geometry) (v : Volume) (spare : List ℕ) → length spare ≡ length v.flash.spare
    → too_short g (flash_of v.flash.main spare) v.ram ≡ too_short g v.flash v.ram
unfolding too_short
short_same g v spare e = rw e

-- ---- a format

pub format_alike : (v : Volume) (sizes : Sizes) (spare : List ℕ) → length spare ≡ length v.flash.spare
    → format (with_spare spare v) sizes ≡ redone sizes spare v (format v sizes)
unfolding format formatted
format_alike v sizes spare long =
    rw (short_same (geometry sizes) v spare long) (either (bool? (allowed sizes))
    (λ a. either (bool? (too_short (geometry sizes) v.flash v.ram)) (λ b. rw (a, b)) (λ b. rw (a, b))) (λ a. rw a))

-- its operations give the flash that it leaves
pub format_done : (v : Volume) (sizes : Sizes) → apply_all (unit_of sizes) (format v sizes).ops v.flash ≡ (format v sizes).volume.flash
unfolding format formatted
format_done v sizes =
    either (bool? (allowed sizes))
    (λ a. either (bool? (too_short (geometry sizes) v.flash v.ram)) (λ b. rw (a, b)) (λ b. rw (a, b))) (λ a. rw a)

-- ---- a call

module _ (h : Family) (v : Volume) (spare : List ℕ) where
  abbrev g : Geometry
  g = geometry v.state.sizes

  abbrev w : Volume
  w = with_spare spare v

  -- a result on v, and the same on v with the other spare area
  abbrev Alike : Result → Result → Type 0
  Alike r s = s ≡ redone v.state.sizes spare v r

  pub alike_either : (t : Bool) (r s r' s' : Result) → (t ≡ true → Alike r r') → (t ≡ false → Alike s s')
      → Alike (cond t r s) (cond t r' s')
  alike_either true r s r' s' a b = a refl
  alike_either false r s r' s' a b = b refl

  refuse_alike : (i : ℕ) → Alike (refuse v i) (refuse w i)
  refuse_alike i = refl

  lookup_alike : (opened da_pages : ℕ) (s : Option Stop) → Alike (lookup_after g v opened da_pages s) (lookup_after g w opened da_pages s)
  unfolding lookup_after
  lookup_alike opened da_pages (some corrupt) = refuse_alike refusal.corrupt_entry
  lookup_alike opened da_pages none = refl
  lookup_alike opened da_pages (some (found j)) = refl

  -- the search does not look at marks
  pub search_same : (key : Key) → search h g w key ≡ search h g v key
  unfolding search_at try_at try_deletion maybe_deleted test_deletion maybe_in
  search_same key = refl

  pages_same : (key : Key) → search_da_pages h g w key ≡ search_da_pages h g v key
  unfolding da_pages_at try_at try_cost try_deletion maybe_deleted test_deletion maybe_in
  pages_same key = refl

  -- nor does what a change plans
  deleted_same : (o : Option ℕ) → (deletes h g w o ≡ deletes h g v o) × (ram_deleted h g w o ≡ ram_deleted h g v o)
  deleted_same none = (refl, refl)
  deleted_same (some j) = (refl, refl)

  inserted_same : (o : Option Record) (ram : List ℕ)
      → (inserts h g w o ≡ inserts h g v o) × (ram_inserted h g w o ram ≡ ram_inserted h g v o ram)
  inserted_same none ram = (refl, refl)
  inserted_same (some r) ram = (refl, refl)

  -- a way to end a change that is the same where the plan lies inside the volume
  abbrev pub AlikeEnd : Commit → Type 0
  AlikeEnd end =
      (n d : ℕ) (plan : List Planned) (ram : List ℕ) → PlanInside g.u (blocks g) plan
      → Alike (end g v n d plan ram) (end g w n d plan ram)

  module _ (ok : SizesSound v.state.sizes) (end : Commit) (ends : AlikeEnd end) where
    change_alike : (e : Edit) → Alike (change_by end h g v e) (change_by end h g w e)
    unfolding change_by
    change_alike e =
        let D = deleted_same e.deletes in
        let I = inserted_same e.inserts (ram_deleted h g v e.deletes) in
        rw (D.0, D.1, I.0, I.1)
        (alike_either (one e.inserts && no_room g v) _ _ _ _ (λ a. refuse_alike refusal.full)
        (λ a. alike_either (one e.deletes && no_deletion g v) _ _ _ _ (λ b. refuse_alike refusal.deletions_full)
        (λ b. ends _ _ _ _ (change_inside h v.state.sizes ok v e a b))))

    insert_alike : (r : Record) (s : Option Stop) → Alike (insert_by end h g v r s) (insert_by end h g w r s)
    insert_alike r (some corrupt) = refuse_alike refusal.corrupt_entry
    insert_alike r (some (found j)) = refuse_alike refusal.present
    insert_alike r none = change_alike _

    update_alike : (r : Record) (s : Option Stop) → Alike (update_by end h g v r s) (update_by end h g w r s)
    update_alike r (some corrupt) = refuse_alike refusal.corrupt_entry
    update_alike r none = change_alike _
    update_alike r (some (found j)) = change_alike _

    delete_alike : (s : Option Stop) → Alike (delete_by end h g v s) (delete_by end h g w s)
    delete_alike (some corrupt) = refuse_alike refusal.corrupt_entry
    delete_alike none = refuse_alike refusal.absent
    delete_alike (some (found j)) = change_alike _

    pub answer_alike : (c : Call) → Alike (answer_by end h g v c) (answer_by end h g w c)
    answer_alike (insert r) = rw (search_same r.key) (insert_alike r (search h g v r.key).stop)
    answer_alike (update r) = rw (search_same r.key) (update_alike r (search h g v r.key).stop)
    answer_alike (delete key) = rw (search_same key) (delete_alike (search h g v key).stop)
    answer_alike (lookup key) = rw (search_same key, pages_same key) (lookup_alike (search h g v key).opened _ (search h g v key).stop)

  -- 1 and 2 first
  pub judged_alike : length spare ≡ length v.flash.spare → (r s : Result) → (allowed v.state.sizes ≡ true → Alike r s)
      → Alike (judge_first v r) (judge_first w s)
  unfolding judge_first
  judged_alike long r s f =
      rw (short_same g v spare long)
      (alike_either (bad_state v.state) _ _ _ _ (λ a. refuse_alike refusal.bad_state)
      (λ a. alike_either (too_short g v.flash v.ram) _ _ _ _ (λ b. refuse_alike refusal.too_short) (λ b. f (state_allowed v a))))

  module _ (same : (x : ℕ) → x < spare_size g → fresh (get_or spare x 0) ≡ fresh (get_or v.flash.spare x 0)) where
    -- 7 goes by the marks of the plan's sectors
    pub commit_alike : AlikeEnd commit
    unfolding commit
    commit_alike n d plan ram inside =
        let low : Below (spare_size g) (plan_ops g.u plan v.flash)
        = inside_below g.u (blocks g) (plan_ops g.u plan v.flash) (inside_ops g.u (blocks g) plan v.flash inside) in
        rw (
          plan_same g.u plan v.flash w.flash refl,
          fresh_worn (spare_size g) v.flash.spare spare same (plan_ops g.u plan v.flash) low,
        )
        (alike_either (all_fresh v.flash.spare (plan_ops g.u plan v.flash)) _ _ _ _ (λ a. refl)
        (λ a. refuse_alike refusal.not_fresh))

    pub call_alike : (c : Call) → length spare ≡ length v.flash.spare → call h w c ≡ redone v.state.sizes spare v (call h v c)
    unfolding call
    call_alike c long = judged_alike long _ _ (λ a. answer_alike (sound _ a) commit commit_alike c)
