-- The calls over the history alone, and the invariant between a history and document 01's finite map. Document 01, "Demand 3's map".
use Rattle.std.specs.Prelude.{◌≡◌, Bool, true, false, not, ◌&&◌, cond, List, [], ◌∷◌, ◌++◌, ℕ, ◌+◌, ◌≤◌, ◌<◌, length, leb}
use Rattle.std.proofs.Math.Option.{Option, none, some, map}
use Rattle.memory.specs.Ranges.{last, memb}
use Rattle.layout.specs.Keys.{Key, same_key}
use Rattle.layout.specs.Calls.{Call, insert, update, delete, lookup, one}
use Rattle.layout.specs.Refusals as refusal
use Rattle.layout.specs.FiniteMap.{Level, level_of, Map, find, Reply, accepts, hits, misses, refuses}
use Rattle.layout.specs.Items.{Record, record_bytes}
use Rattle.history.specs.Image.{History, record_at}

-- ---- which records are live

-- record j is live and has key k: it is no deleted record
unfoldable pub live_at : History → Key → ℕ → Bool
live_at H k j = same_key (record_at H j).key k && not (memb j H.deleted)

-- the newest live record of a key
abbrev pub find_live : History → Key → Option ℕ
find_live H k = last (live_at H k) (length H.records)

-- ---- the two changes: one more record, one more deletion

abbrev pub with_record : History → Record → History
with_record H r = record { records = H.records ++ (r ∷ []); deleted = H.deleted }

abbrev pub with_deletion : History → ℕ → History
with_deletion H j = record { records = H.records; deleted = H.deleted ++ (j ∷ []) }

-- of a live record, if there is one
abbrev pub without_live : History → Option ℕ → History
without_live H none = H
without_live H (some j) = with_deletion H j

abbrev pub empty_history : History
empty_history = record { records = []; deleted = [] }

-- ---- the calls, by what the search found

-- an answer and the history after it
pub record HistoryStep : Type 0 where
  pub says : Reply
  pub next : History

abbrev pub history_step : Reply → History → HistoryStep
history_step r H = record { says = r; next = H }

abbrev pub insert_history : ℕ → History → Record → Option ℕ → HistoryStep
insert_history capacity H r (some j) = history_step (refuses refusal.present) H
insert_history capacity H r none =
    cond (leb capacity (length H.records)) (history_step (refuses refusal.full) H) (history_step accepts (with_record H r))

abbrev pub update_history : ℕ → ℕ → History → Record → Option ℕ → HistoryStep
update_history capacity deletion_capacity H r o =
    cond (leb capacity (length H.records)) (history_step (refuses refusal.full) H)
    (cond (one o && leb deletion_capacity (length H.deleted)) (history_step (refuses refusal.deletions_full) H)
    (history_step accepts (with_record (without_live H o) r)))

abbrev pub delete_history : ℕ → History → Option ℕ → HistoryStep
delete_history deletion_capacity H none = history_step (refuses refusal.absent) H
delete_history deletion_capacity H (some j) =
    cond (leb deletion_capacity (length H.deleted)) (history_step (refuses refusal.deletions_full) H)
    (history_step accepts (with_deletion H j))

abbrev pub lookup_history : History → Option ℕ → HistoryStep
lookup_history H none = history_step misses H
lookup_history H (some j) = history_step (hits (record_bytes (record_at H j))) H

abbrev pub step_history : ℕ → ℕ → History → Call → HistoryStep
step_history capacity deletion_capacity H (insert r) = insert_history capacity H r (find_live H r.key)
step_history capacity deletion_capacity H (update r) = update_history capacity deletion_capacity H r (find_live H r.key)
step_history capacity deletion_capacity H (delete key) = delete_history deletion_capacity H (find_live H key)
step_history capacity deletion_capacity H (lookup key) = lookup_history H (find_live H key)

-- ---- the invariant between history and map

abbrev pub level_at : History → ℕ → Level
level_at H j = level_of (record_at H j)

-- no key twice
abbrev pub Nodup : List Level → Type 0
Nodup [] = Unit {0}
Nodup (l ∷ ls) = (find ls l.key ≡ none) × Nodup ls

pub record Live (H : History) (M : Map) : Type 0 where
  pub n_is : M.n ≡ length H.records
  pub d_is : M.d ≡ length H.deleted
  -- the map holds a key's newest live record
  pub same : (k : Key) → find M.levels k ≡ map (level_at H) (find_live H k)
  -- n - d keys are in the map
  pub count : length M.levels + length H.deleted ≡ length H.records
  pub once : Nodup M.levels
  -- a key has at most one live record
  pub one : (k : Key) (i j : ℕ) → i < length H.records → j < length H.records → live_at H k i ≡ true → live_at H k j ≡ true → i ≡ j
  -- no number of a record to come is deleted
  pub below : (j : ℕ) → length H.records ≤ j → memb j H.deleted ≡ false
