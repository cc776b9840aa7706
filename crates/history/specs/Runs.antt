-- Lists of calls after a format: what demands 2 and 3 of document 01 speak of.
use Rattle.std.specs.Prelude.{◌≡◌, ◌≢◌, Bool, true, false, cond, List, [], ◌∷◌, ◌++◌, ℕ, ◌+◌, ◌/◌, ◌≤◌, ◌<◌, length, get_or, eqb}
use Rattle.std.proofs.Math.Option.{Option, none, some}
use Rattle.layout.specs.Geometry.{Geometry, geometry, main_size, spare_size, ram_size, entries_per_page, Sizes, unit_of, state_of}
use Rattle.layout.specs.Geometry.{sectors_per_page, sectors_per_block}
use Rattle.layout.specs.Flash.{Op, program, erase}
use Rattle.layout.specs.Hash.{Family}
use Rattle.layout.specs.Refusals as refusal
use Rattle.layout.specs.Keys.{Key, KeyOk}
use Rattle.layout.specs.Calls.{Volume, Call, insert, update, delete, lookup, key_of, Outcome, accepted, hit, miss, refused, Result, call}
use Rattle.layout.specs.FiniteMap.{Map, Reply, accepts, hits, misses, refuses, Step, map_of}
use Rattle.layout.specs.Items.{record_bytes}
use Rattle.history.specs.Image.{History, record_at, main_image, spare_image, ram_image}
use Rattle.history.specs.Live.{find_live, with_record, without_live, Nodup}

-- ---- runs

-- the key of a call is allowed; nothing is asked of its other arguments
abbrev pub KeyWord : Call → Type 0
KeyWord c = KeyOk (key_of c)

abbrev pub KeyWords : List Call → Type 0
KeyWords [] = Unit {0}
KeyWords (c ∷ cs) = KeyWord c × KeyWords cs

module _ (h : Family) where
  -- the volume after the calls
  abbrev pub after : Volume → List Call → Volume
  after v [] = v
  after v (c ∷ cs) = after (call h v c).volume cs

  -- the chip operations of the calls, in order
  abbrev pub ops_of : Volume → List Call → List Op
  ops_of v [] = []
  ops_of v (c ∷ cs) = (call h v c).ops ++ ops_of (call h v c).volume cs

-- ---- the chip's program order, by the operations alone

-- which sectors were programmed since the last erase of their block, after an operation
abbrev pub programmed : Op → (ℕ → Bool) → ℕ → Bool
programmed (program s bytes) P x = cond (eqb x s) true (P x)
programmed (erase b) P x = cond (eqb (x / sectors_per_block) b) false (P x)

-- "Whenever one of them programs a sector, that sector has not been programmed since the last erase of its block,
-- and every earlier sector of its page has"
abbrev pub ProgramOrder : List Op → (ℕ → Bool) → Type 0
ProgramOrder [] P = Unit {0}
ProgramOrder (program s bytes ∷ os) P =
    (P s ≡ false) × ((x : ℕ) → x < s → x / sectors_per_page ≡ s / sectors_per_page → P x ≡ true)
    × ProgramOrder os (programmed (program s bytes) P)
ProgramOrder (erase b ∷ os) P = ProgramOrder os (programmed (erase b) P)

-- ---- demand 3, of one call

-- "Compared at each call: accepted, hit, miss or the refusal's number; a hit's 16 bytes"
abbrev pub reply_of : Outcome → Reply
reply_of accepted = accepts
reply_of (hit place bytes) = hits bytes
reply_of miss = misses
reply_of (refused i) = refuses i

-- none of refusals 1, 2, 7, 8 and 10
abbrev pub Possible : Outcome → Type 0
Possible accepted = Unit {0}
Possible (hit place bytes) = Unit {0}
Possible miss = Unit {0}
Possible (refused i) =
    (i ≢ refusal.bad_state) × (i ≢ refusal.too_short) × (i ≢ refusal.not_fresh) × (i ≢ refusal.corrupt_entry) × (i ≢ refusal.pending)

-- "A lookup or a refusal hands on state, desk, cells and marks as it got them"
abbrev pub HandedOn : Outcome → Volume → Volume → Type 0
HandedOn accepted v v' = Unit {0}
HandedOn (hit place bytes) v v' = v' ≡ v
HandedOn miss v v' = v' ≡ v
HandedOn (refused i) v v' = v' ≡ v

-- what a caller sees of a call on the volume v (the outcome o, the count, the volume w left), and the map's step
pub record Agrees (sizes : Sizes) (v : Volume) (o : Outcome) (count : ℕ) (w : Volume) (s : Step) : Type 0 where
  pub says : reply_of o ≡ s.says
  -- "the state, which is the format's S, R and D with the map's n and d"; §2: k too
  pub state_is_lem : w.state ≡ state_of sizes s.next.n s.next.d
  -- n - d is the number of live levels: the map's list has no key twice
  pub live : w.state.records ≡ w.state.deletions + length s.next.levels
  pub once : Nodup s.next.levels
  pub possible : Possible o
  pub handed_on : HandedOn o v w
  -- "It is at most floor(n / (S/2))"
  pub count_le : count ≤ v.state.records / entries_per_page (unit_of sizes)

-- of a layout's result
abbrev pub ResultAgrees : Sizes → Volume → Result → Step → Type 0
ResultAgrees sizes v r s = Agrees sizes v r.outcome r.count r.volume s

-- of each call of a list, from the volume v and the map m on
abbrev pub EachAgrees : Family → Sizes → Volume → Map → List Call → Type 0
EachAgrees h sizes v m [] = Unit {0}
EachAgrees h sizes v m (c ∷ cs) =
    ResultAgrees sizes v (call h v c) (map_of (geometry sizes) m c)
    × EachAgrees h sizes (call h v c).volume (map_of (geometry sizes) m c).next cs

-- ---- demand 2

-- what an accepted call adds to the history; an update or a delete deletes the live record of its key, if there is one
abbrev pub grow : History → Call → History
grow H (insert r) = with_record H r
grow H (update r) = with_record (without_live H (find_live H r.key)) r
grow H (delete key) = without_live H (find_live H key)
grow H (lookup key) = H

abbrev pub grow_if : Outcome → History → Call → History
grow_if accepted H c = grow H c
grow_if (hit place bytes) H c = H
grow_if miss H c = H
grow_if (refused i) H c = H

-- the history of the accepted calls, from the volume v with history H on
abbrev pub history_of : Family → Volume → History → List Call → History
history_of h v H [] = H
history_of h v H (c ∷ cs) = history_of h (call h v c).volume (grow_if (call h v c).outcome H c) cs

-- the live record of a key in a history, as a lookup shows it
abbrev pub live_reply : History → Option ℕ → Reply
live_reply H none = misses
live_reply H (some j) = hits (record_bytes (record_at H j))

-- the volume v has the bytes of the history's image, and past them those that were handed in
pub record ImageOf (h : Family) (g : Geometry) (H : History) (handed v : Volume) : Type 0 where
  pub main : (a : ℕ) → a < main_size g → get_or v.flash.main a 0 ≡ main_image h g H a
  pub spare : (x : ℕ) → x < spare_size g → get_or v.flash.spare x 0 ≡ spare_image g H x
  pub ram : (a : ℕ) → a < ram_size g → get_or v.ram a 0 ≡ ram_image h g H a
  pub main_past : (a : ℕ) → main_size g ≤ a → get_or v.flash.main a 0 ≡ get_or handed.flash.main a 0
  pub spare_past : (x : ℕ) → spare_size g ≤ x → get_or v.flash.spare x 0 ≡ get_or handed.flash.spare x 0
  pub ram_past : (a : ℕ) → ram_size g ≤ a → get_or v.ram a 0 ≡ get_or handed.ram a 0
  pub main_length : length v.flash.main ≡ length handed.flash.main
  pub spare_length : length v.flash.spare ≡ length handed.flash.spare
  pub ram_length : length v.ram ≡ length handed.ram
  pub records : v.state.records ≡ length H.records
  pub deletions : v.state.deletions ≡ length H.deleted
  -- lookups give the live records back
  pub lookups : (key : Key) → KeyOk key → reply_of (call h v (lookup key)).outcome ≡ live_reply H (find_live H key)
