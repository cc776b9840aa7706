-- The five calls, for any state and any lent bytes. Document 01, "Calls"; document 02, §5: filters over deletions.
use Rattle.std.specs.Prelude.{Bool, true, false, not, ◌&&◌, ◌||◌, cond, List, [], ◌++◌, ℕ, ◌+◌, ◌*◌, ◌/◌, length, replicate, ltb, leb, eqb}
use Rattle.std.proofs.Math.Option.{Option, none, some}
use Rattle.memory.specs.Lists.{write}
use Rattle.memory.specs.Ranges.{any, memb, all_of}
use Rattle.memory.specs.Words.{word, bytes4}
use Rattle.layout.specs.Keys.{Key, key_bytes, key_in, number_in, key_at}
use Rattle.layout.specs.Geometry.{State, Geometry, geometry, Sizes, state_of, allowed, record_capacity, deletion_capacity, main_size}
use Rattle.layout.specs.Geometry.{spare_size, ram_size, blocks, index_block, entries_per_page, ka_ram, ska_ram, work_ram}
use Rattle.layout.specs.Geometry.{deletion_index_block, deletions_per_page, deletions_per_filter, da_ram, deletion_ska_ram}
use Rattle.layout.specs.Flash.{Flash, Op, apply_all, erases, Planned, plan_ops, all_fresh}
use Rattle.layout.specs.Hash.{Family, positions}
use Rattle.layout.specs.Index.{Index, filter_bit, with_filter, filter_plan, filter_ram, in_ska}
use Rattle.layout.specs.Items.{Ra, KA, DA, Record, record_bytes, entry_bytes, deletion_bytes, Place, item_place, bytes_at, item_word, put}
use Rattle.layout.specs.Items.{record_size, entry_size, deletion_size, fills, item_plan, item_ram, zero_page}
use Rattle.layout.specs.Refusals as refusal
use Rattle.layout.specs.Search.{Stop, found, corrupt, Found, is_found, try_entry, entry_cost, search_from, cost_from}

-- ---- what is handed in and what comes back

-- the state, the flash, and the lent RAM ("desk")
pub record Volume : Type 0 where
  pub state : State
  pub flash : Flash
  pub ram : List ℕ

-- a call and its arguments other than state and lent bytes; format is apart
pub data Call : Type 0 where
  insert : Record → Call
  update : Record → Call
  delete : Key → Call
  lookup : Key → Call

-- the key that it names
abbrev pub key_of : Call → Key
key_of (insert r) = r.key
key_of (update r) = r.key
key_of (delete key) = key
key_of (lookup key) = key

pub data Outcome : Type 0 where
  accepted : Outcome
  -- the record's place and its 16 bytes
  hit : Place → List ℕ → Outcome
  miss : Outcome
  -- the number of document 01's table
  refused : ℕ → Outcome

-- all that a call answers and leaves; `ops` are its chip operations
pub record Result : Type 0 where
  pub outcome : Outcome
  pub count : ℕ
  -- §5: "the DA pages opened, 0 on a refusal, one opened twice counting twice"
  pub da_pages : ℕ
  pub volume : Volume
  pub ops : List Op

-- a refusal changes nothing: "The state comes back as handed in", and so do all bytes; its counts are 0
abbrev pub refuse : Volume → ℕ → Result
refuse v i = record { outcome = refused i; count = 0; da_pages = 0; volume = v; ops = [] }

-- ---- refusals 1 and 2

-- "S, R or D not allowed; n or d above capacity; d above n"; §2: k too
unfoldable pub bad_state : State → Bool
bad_state s =
    not (allowed s.sizes)
    || (ltb (record_capacity (geometry s.sizes)) s.records
    || (ltb (deletion_capacity (geometry s.sizes)) s.deletions || ltb s.records s.deletions))

-- "cells under 64SB, marks under 64B or desk under 20S bytes"; §5: "Refusal 2 uses the larger sums"; asked of the RAM without §8's header
unfoldable pub too_short : Geometry → Flash → List ℕ → Bool
too_short g c ram = ltb (length c.main) (main_size g) || (ltb (length c.spare) (spare_size g) || ltb (length ram) (ram_size g))

-- 1, then 2, then the call's own
unfoldable pub judge_first : Volume → Result → Result
judge_first v r =
    cond (bad_state v.state) (refuse v refusal.bad_state)
    (cond (too_short (geometry v.state.sizes) v.flash v.ram) (refuse v refusal.too_short) r)

-- ---- format

-- "erases the volume, zeroes the desk and gives n = d = 0"; "erases blocks 0 to B - 1, rising"
unfoldable pub formatted : Volume → Sizes → Result
formatted v sizes =
    let g : Geometry = geometry sizes in
    let ops : List Op = erases 0 (blocks g) in
    record {
      outcome = accepted;
      count = 0;
      da_pages = 0;
      volume = record {
        state = state_of sizes 0 0;
        flash = apply_all g.u ops v.flash;
        ram = write v.ram 0 (replicate (ram_size g) 0);
      };
      ops = ops;
    }

-- it does not judge the old state
unfoldable pub format : Volume → Sizes → Result
format v sizes =
    cond (allowed sizes) (cond (too_short (geometry sizes) v.flash v.ram) (refuse v refusal.too_short) (formatted v sizes))
    (refuse v refusal.bad_state)

-- the index over KA
abbrev pub key_index : Geometry → Index
key_index g = record { first = index_block g; ska = ska_ram g.u }

-- full pages of KA, each with a filter
abbrev pub key_filters : Geometry → ℕ → ℕ
key_filters g n = n / entries_per_page g.u

-- §5: the index over DA, "an L1, sides and sealed sets of their own"
abbrev pub deletion_index : Geometry → Index
deletion_index g = record { first = deletion_index_block g; ska = deletion_ska_ram g.u }

-- "Each full DA page gives two filters of m bits"
abbrev pub deletion_filters : Geometry → ℕ → ℕ
deletion_filters g d = 2 * (d / deletions_per_page g.u)

-- the k positions of a key
abbrev pub key_positions : Family → Geometry → Key → List ℕ
key_positions h g key = positions h g.k g.u (key_bytes key)

-- and of a record number: "from the four bytes of each record number, hashed as keys are"
abbrev pub number_positions : Family → Geometry → ℕ → List ℕ
number_positions h g j = positions h g.k g.u (bytes4 j)

-- ---- the search on a volume, by bounds n₀ and d₀: among the first n₀ records and the first d₀ deletions.
-- Where these and the filters lie goes by the volume's own n and d, of which the bounds are at most as many

-- number i of DA
abbrev pub deleted_number : Geometry → Volume → ℕ → ℕ
deleted_number g v i = item_word g.u (DA g) v.state.deletions v.flash.main v.ram i 0

-- is record number j one of the first d₀ in DA, read without filters
unfoldable pub is_deleted : Geometry → Volume → ℕ → ℕ → Bool
is_deleted g v d₀ j = any (λ i. eqb (deleted_number g v i) j) d₀

-- §5: is number i of DA the one that is tested, "and ends where the number is met"
unfoldable pub try_deletion : Geometry → Volume → ℕ → ℕ → Option Stop
try_deletion g v j i = cond (eqb (deleted_number g v i) j) (some (found j)) none

-- has filter f over DA all bits of these positions
abbrev pub deletion_bits : Geometry → Volume → List ℕ → ℕ → Bool
deletion_bits g v ps f =
    all_of (filter_bit g.u (deletion_index g) v.flash.main v.ram (deletion_filters g v.state.deletions) f) ps

-- full page p of DA: "opening one if either of its filters has the bits"
unfoldable pub maybe_deleted : Geometry → Volume → List ℕ → ℕ → Bool
maybe_deleted g v ps p = deletion_bits g v ps (2 * p) || deletion_bits g v ps (2 * p + 1)

-- "Each test of a record number takes the desk's numbers first, then DA pages newest first", as a search for a key does in KA; pages that
-- d₀ deletions fill are opened by their filters, the numbers past them are tried first
unfoldable pub test_deletion : Family → Geometry → Volume → ℕ → ℕ → Found
test_deletion h g v d₀ j = search_from (maybe_deleted g v (number_positions h g j)) (try_deletion g v j) (deletions_per_page g.u) d₀

-- does it meet the number
abbrev pub tested_deleted : Family → Geometry → Volume → ℕ → ℕ → Bool
tested_deleted h g v d₀ j = is_found (test_deletion h g v d₀ j).stop

-- word i of entry j of KA
abbrev pub entry_word : Geometry → Volume → ℕ → ℕ → ℕ
entry_word g v j i = item_word g.u (KA g) v.state.records v.flash.main v.ram j i

-- entry j of KA; a number of n₀ or more is no record's
unfoldable pub try_at : Family → Geometry → Volume → ℕ → ℕ → Key → ℕ → Option Stop
try_at h g v n₀ d₀ key j =
    try_entry n₀ (tested_deleted h g v d₀) key (key_in (entry_word g v j 0) (entry_word g v j 1)) (number_in (entry_word g v j 1))

-- DA pages opened to try it; none where its number is not tested
unfoldable pub try_cost : Family → Geometry → Volume → ℕ → ℕ → Key → ℕ → ℕ
try_cost h g v n₀ d₀ key j =
    entry_cost n₀ (λ i. (test_deletion h g v d₀ i).opened) key (key_in (entry_word g v j 0) (entry_word g v j 1)) (number_in (entry_word g v j 1))

-- has the filter of full page f all bits of these positions, "read from the bytes lent"
unfoldable pub maybe_in : Geometry → Volume → List ℕ → ℕ → Bool
maybe_in g v ps f = all_of (filter_bit g.u (key_index g) v.flash.main v.ram (key_filters g v.state.records) f) ps

-- pages that n₀ records fill are opened by their filters; the entries past
-- them are tried first, as those in RAM are, wherever they lie by now
unfoldable pub search_at : Family → Geometry → Volume → ℕ → ℕ → Key → Found
search_at h g v n₀ d₀ key = search_from (maybe_in g v (key_positions h g key)) (try_at h g v n₀ d₀ key) (entries_per_page g.u) n₀

-- DA pages that it opens, "one opened twice counting twice"
unfoldable pub da_pages_at : Family → Geometry → Volume → ℕ → ℕ → Key → ℕ
da_pages_at h g v n₀ d₀ key =
    cost_from (maybe_in g v (key_positions h g key)) (try_at h g v n₀ d₀ key) (try_cost h g v n₀ d₀ key) (entries_per_page g.u) n₀

-- among all of them
abbrev pub search : Family → Geometry → Volume → Key → Found
search h g v key = search_at h g v v.state.records v.state.deletions key

abbrev pub search_da_pages : Family → Geometry → Volume → Key → ℕ
search_da_pages h g v key = da_pages_at h g v v.state.records v.state.deletions key

-- ---- what an accepted change plans, and the RAM after it. Every sector is planned out of the RAM handed in, which no change touches
-- before its last operation

-- bit x of the filter of `count` items, item i with the positions `ps i`: "with the positions of all its keys set"
abbrev pub filter_of : (ℕ → List ℕ) → ℕ → ℕ → Bool
filter_of ps count x = any (λ i. memb x (ps i)) count

module _ (h : Family) where
  -- §5: "two filters .., first half first": half i of the DA page in these bytes
  unfoldable pub half_filter : Geometry → ℕ → List ℕ → ℕ → Bool
  half_filter g i ram =
      filter_of (λ y. number_positions h g (word ram (da_ram g.u + (i * deletions_per_filter g.u + y) * deletion_size)))
      (deletions_per_filter g.u)

  -- half i of the page that deletion d fills
  abbrev pub new_half : Geometry → ℕ → ℕ → ℕ → List ℕ → ℕ → Bool
  new_half g d j i ram = half_filter g i (put (DA g) d (deletion_bytes j) ram)

  -- the index's SKA page with the first filter of that page, and what that leaves with the second; `numbers` is the RAM of the DA page
  abbrev pub first_half : Geometry → ℕ → ℕ → List ℕ → List ℕ → List ℕ
  first_half g d j numbers ram = with_filter g.u (deletion_index g) (in_ska (deletion_filters g d)) (new_half g d j 0 numbers) ram

  abbrev pub second_half : Geometry → ℕ → ℕ → List ℕ → List ℕ → List ℕ
  second_half g d j numbers ram =
      with_filter g.u (deletion_index g) (in_ska (deletion_filters g d + 1)) (new_half g d j 1 numbers)
      (filter_ram g.u (deletion_index g) (deletion_filters g d) (first_half g d j numbers ram))

  -- "A deletion appends the 4-byte record number to DA"; §5: "the deletion filters and their erases follow the DA page directly"
  unfoldable pub deletion_plan : Geometry → ℕ → ℕ → List ℕ → List Planned
  deletion_plan g d j ram =
      item_plan g.u (DA g) d (deletion_bytes j) ram
      ++ cond (fills (DA g) d)
      (filter_plan g.u (deletion_index g) (deletion_filters g d) (first_half g d j ram ram)
      ++ filter_plan g.u (deletion_index g) (deletion_filters g d + 1) (second_half g d j ram ram)) []

  unfoldable pub deletion_ram : Geometry → ℕ → ℕ → List ℕ → List ℕ
  deletion_ram g d j ram =
      let appended : List ℕ = item_ram g.u (DA g) d (deletion_bytes j) ram in
      cond (fills (DA g) d) (filter_ram g.u (deletion_index g) (deletion_filters g d + 1) (second_half g d j ram appended)) appended

  -- "A full KA page gives one filter of m bits with the positions of all its keys set"; the keys in the page's bytes
  unfoldable pub page_filter : Geometry → List ℕ → ℕ → Bool
  page_filter g ram = filter_of (λ i. key_positions h g (key_at ram (ka_ram g.u + i * entry_size))) (entries_per_page g.u)

  -- the filter of the page that entry n fills
  abbrev pub new_filter : Geometry → ℕ → Key → List ℕ → ℕ → Bool
  new_filter g n key ram = page_filter g (put (KA g) n (entry_bytes key n) ram)

  -- the SKA page with this filter in its place
  abbrev pub summarized : Geometry → ℕ → Key → List ℕ → List ℕ → List ℕ
  summarized g n key keys ram = with_filter g.u (key_index g) (in_ska (key_filters g n)) (new_filter g n key keys) ram

  -- record n and its entry: "Ra page, KA page, SKA sectors, set pages, .. last the erases"
  unfoldable pub insertion_plan : Geometry → ℕ → Key → List ℕ → List ℕ → List Planned
  insertion_plan g n key bytes ram =
      item_plan g.u (Ra g) n bytes ram
      ++ (item_plan g.u (KA g) n (entry_bytes key n) ram
      ++ cond (fills (KA g) n) (filter_plan g.u (key_index g) (key_filters g n) (summarized g n key ram ram)) [])

  unfoldable pub insertion_ram : Geometry → ℕ → Key → List ℕ → List ℕ → List ℕ
  insertion_ram g n key bytes ram =
      let entered : List ℕ = item_ram g.u (KA g) n (entry_bytes key n) (item_ram g.u (Ra g) n bytes ram) in
      cond (fills (KA g) n) (filter_ram g.u (key_index g) (key_filters g n) (summarized g n key ram entered)) entered

-- how a change ends: its counts, its plan and its RAM on a volume. A call's is `commit`, that of a restart is `commit_later` (`Later`)
abbrev pub Commit : Type 0
Commit = Geometry → Volume → ℕ → ℕ → List Planned → List ℕ → Result

-- a plan's operations are done, the work page is zeroed and the counts rise
abbrev pub performed : Commit
performed g v n d plan ram =
    let ops : List Op = plan_ops g.u plan v.flash in
    record {
      outcome = accepted;
      count = 0;
      da_pages = 0;
      volume = record {
        state = state_of v.state.sizes n d;
        flash = apply_all g.u ops v.flash;
        ram = zero_page g.u (work_ram g.u) ram;
      };
      ops = ops;
    }

-- 7 if a sector to be programmed is not fresh
unfoldable pub commit : Commit
commit g v n d plan ram =
    cond (all_fresh v.flash.spare (plan_ops g.u plan v.flash)) (performed g v n d plan ram) (refuse v refusal.not_fresh)

-- ---- the calls after 1 and 2, and after §8's 10 (`Budgets.result_of`), by what the search met: "Checked in the order 1, 2, 8, 3, 4, 5, 6,
-- 7"

-- "n at capacity", "d at capacity"
abbrev pub no_room : Geometry → Volume → Bool
no_room g v = leb (record_capacity g) v.state.records

abbrev pub no_deletion : Geometry → Volume → Bool
no_deletion g v = leb (deletion_capacity g) v.state.deletions

-- "hit, count and the 16 record bytes .. on the chip or in the desk, wherever that record is"
abbrev pub record_place : Geometry → Volume → ℕ → Place
record_place g v j = item_place g.u (Ra g) v.state.records j

unfoldable pub lookup_after : Geometry → Volume → ℕ → ℕ → Option Stop → Result
lookup_after g v opened da_pages (some corrupt) = refuse v refusal.corrupt_entry
lookup_after g v opened da_pages none = record { outcome = miss; count = opened; da_pages = da_pages; volume = v; ops = [] }
lookup_after g v opened da_pages (some (found j)) =
    record {
      outcome = hit (record_place g v j) (bytes_at v.flash.main v.ram (record_place g v j) record_size);
      count = opened;
      da_pages = da_pages;
      volume = v;
      ops = [];
    }

-- what a change does: the number of the record that it deletes, the record that it inserts
pub record Edit : Type 0 where
  pub deletes : Option ℕ
  pub inserts : Option Record

-- is there one of these; a count with one more, if there is
abbrev pub one : {A : Type 0} → Option A → Bool
one none = false
one (some x) = true

abbrev pub more : {A : Type 0} → ℕ → Option A → ℕ
more n none = n
more n (some x) = n + 1

module _ (h : Family) where
  -- its deletion, on the RAM handed in
  abbrev pub deletes : Geometry → Volume → Option ℕ → List Planned
  deletes g v none = []
  deletes g v (some j) = deletion_plan h g v.state.deletions j v.ram

  abbrev pub ram_deleted : Geometry → Volume → Option ℕ → List ℕ
  ram_deleted g v none = v.ram
  ram_deleted g v (some j) = deletion_ram h g v.state.deletions j v.ram

  -- its insertion
  abbrev pub inserts : Geometry → Volume → Option Record → List Planned
  inserts g v none = []
  inserts g v (some r) = insertion_plan h g v.state.records r.key (record_bytes r) v.ram

  abbrev pub ram_inserted : Geometry → Volume → Option Record → List ℕ → List ℕ
  ram_inserted g v none ram = ram
  ram_inserted g v (some r) ram = insertion_ram h g v.state.records r.key (record_bytes r) ram

  -- both: "a deletion followed by an insertion, in one call"
  abbrev pub change_plan : Geometry → Volume → Edit → List Planned
  change_plan g v e = deletes g v e.deletes ++ inserts g v e.inserts

  abbrev pub change_ram : Geometry → Volume → Edit → List ℕ
  change_ram g v e = ram_inserted g v e.inserts (ram_deleted g v e.deletes)

-- the calls that change, over either end
module _ (end : Commit) (h : Family) where
  -- 5, 6, then the end
  unfoldable pub change_by : Geometry → Volume → Edit → Result
  change_by g v e =
      cond (one e.inserts && no_room g v) (refuse v refusal.full)
      (cond (one e.deletes && no_deletion g v) (refuse v refusal.deletions_full)
      (end g v (more v.state.records e.inserts) (more v.state.deletions e.deletes)
      (change_plan h g v e) (change_ram h g v e)))

  abbrev pub insert_by : Geometry → Volume → Record → Option Stop → Result
  insert_by g v r (some corrupt) = refuse v refusal.corrupt_entry
  insert_by g v r (some (found j)) = refuse v refusal.present
  insert_by g v r none = change_by g v (record { deletes = none; inserts = some r })

  -- document 02, request 4: "An update of a key that is not live now inserts it: n rises by one, d stays"
  abbrev pub update_by : Geometry → Volume → Record → Option Stop → Result
  update_by g v r (some corrupt) = refuse v refusal.corrupt_entry
  update_by g v r none = change_by g v (record { deletes = none; inserts = some r })
  update_by g v r (some (found j)) = change_by g v (record { deletes = some j; inserts = some r })

  abbrev pub delete_by : Geometry → Volume → Option Stop → Result
  delete_by g v (some corrupt) = refuse v refusal.corrupt_entry
  delete_by g v none = refuse v refusal.absent
  delete_by g v (some (found j)) = change_by g v (record { deletes = some j; inserts = none })

  abbrev pub answer_by : Geometry → Volume → Call → Result
  answer_by g v (insert r) = insert_by g v r (search h g v r.key).stop
  answer_by g v (update r) = update_by g v r (search h g v r.key).stop
  answer_by g v (delete key) = delete_by g v (search h g v key).stop
  answer_by g v (lookup key) = let f : Found = search h g v key in lookup_after g v f.opened (search_da_pages h g v key) f.stop

module _ (h : Family) where
  -- a call's change ends with 7 or its operations
  abbrev pub change : Geometry → Volume → Edit → Result
  change g v e = change_by commit h g v e

  abbrev pub insert_after : Geometry → Volume → Record → Option Stop → Result
  insert_after g v r s = insert_by commit h g v r s

  abbrev pub update_after : Geometry → Volume → Record → Option Stop → Result
  update_after g v r s = update_by commit h g v r s

  abbrev pub delete_after : Geometry → Volume → Option Stop → Result
  delete_after g v s = delete_by commit h g v s

  abbrev pub answer : Geometry → Volume → Call → Result
  answer g v c = answer_by commit h g v c

  -- a call on a volume
  unfoldable pub call : Volume → Call → Result
  call v c = judge_first v (answer (geometry v.state.sizes) v c)
