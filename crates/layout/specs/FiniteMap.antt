-- Document 01, "Demand 3's map": fed the name of each call and its arguments, and nothing else.
use Rattle.std.specs.Prelude.{◌&&◌, cond, List, [], ◌∷◌, ℕ, ◌+◌, leb}
use Rattle.std.proofs.Math.Option.{Option, none, some}
use Rattle.layout.specs.Keys.{Key, same_key}
use Rattle.layout.specs.Geometry.{Geometry, record_capacity, deletion_capacity}
use Rattle.layout.specs.Items.{Record, record_bytes}
use Rattle.layout.specs.Refusals as refusal
use Rattle.layout.specs.Calls.{Call, insert, update, delete, lookup, one, more}

-- a record by its level key: "16 bytes made of key, moves, goal and free word"
pub record Level : Type 0 where
  pub key : Key
  pub bytes : List ℕ

abbrev pub level_of : Record → Level
level_of r = record { key = r.key; bytes = record_bytes r }

-- "records by level key, none at first; counts n and d"
pub record Map : Type 0 where
  pub levels : List Level
  pub n : ℕ
  pub d : ℕ

abbrev pub empty_map : Map
empty_map = record { levels = []; n = 0; d = 0 }

unfoldable pub find : List Level → Key → Option Level
find [] k = none
find (l ∷ ls) k = cond (same_key l.key k) (some l) (find ls k)

unfoldable pub without : Key → List Level → List Level
without k [] = []
without k (l ∷ ls) = cond (same_key l.key k) (without k ls) (l ∷ without k ls)

-- what is compared at each call
pub data Reply : Type 0 where
  accepts : Reply
  hits : List ℕ → Reply
  misses : Reply
  refuses : ℕ → Reply

pub record Step : Type 0 where
  pub says : Reply
  pub next : Map

abbrev pub step : Reply → Map → Step
step r m = record { says = r; next = m }

-- "Insert: key present, 3; else n at record capacity, 5; else the key gets the record .., and n rises by one"
abbrev pub insert_map : ℕ → Map → Level → Option Level → Step
insert_map capacity m l (some o) = step (refuses refusal.present) m
insert_map capacity m l none =
    cond (leb capacity m.n) (step (refuses refusal.full) m) (step accepts (record { levels = l ∷ m.levels; n = m.n + 1; d = m.d }))

-- document 02, request 4: "setting a key, present or absent". n at record capacity, 5; else, if the key is present, d at deletion capacity,
-- 6; else the key gets the record, n rises by one, and d by one if it was present
abbrev pub update_map : ℕ → ℕ → Map → Level → Option Level → Step
update_map capacity deletion_capacity m l o =
    cond (leb capacity m.n) (step (refuses refusal.full) m)
    (cond (one o && leb deletion_capacity m.d) (step (refuses refusal.deletions_full) m)
    (step accepts (record { levels = l ∷ without l.key m.levels; n = m.n + 1; d = more m.d o })))

-- "Delete: key absent, 4; else d at deletion capacity, 6; else the key leaves the map, and d rises by one"
abbrev pub delete_map : ℕ → Map → Key → Option Level → Step
delete_map deletion_capacity m k none = step (refuses refusal.absent) m
delete_map deletion_capacity m k (some o) =
    cond (leb deletion_capacity m.d) (step (refuses refusal.deletions_full) m)
    (step accepts (record { levels = without k m.levels; n = m.n; d = m.d + 1 }))

-- "Lookup: key present, hit with its record; else miss. Nothing changes"
abbrev pub lookup_map : Map → Option Level → Step
lookup_map m none = step misses m
lookup_map m (some o) = step (hits o.bytes) m

-- a call, by the two capacities
abbrev pub step_map : ℕ → ℕ → Map → Call → Step
step_map capacity deletion_capacity m (insert r) = insert_map capacity m (level_of r) (find m.levels r.key)
step_map capacity deletion_capacity m (update r) = update_map capacity deletion_capacity m (level_of r) (find m.levels r.key)
step_map capacity deletion_capacity m (delete key) = delete_map deletion_capacity m key (find m.levels key)
step_map capacity deletion_capacity m (lookup key) = lookup_map m (find m.levels key)

-- "the two capacities that the format's S, R and D give"
abbrev pub map_of : Geometry → Map → Call → Step
map_of g = step_map (record_capacity g) (deletion_capacity g)
