-- Further values, beside the document's starred ones, that hold the definitions in place: orders, bounds, places and the map.
use Rattle.std.specs.Prelude.{◌≡◌, refl, Bool, true, false, ◌&&◌, cond, List, [], ◌∷◌, ◌++◌, ℕ, suc, ◌+◌, ◌*◌, length, get_or, take, drop, replicate, eqb}
use Rattle.std.proofs.Math.Option.{Option, none, some}
use Rattle.std.specs.Int.Count.{ones_in}
use Rattle.memory.specs.Lists.{write, tabulate, tabulate_from, pieces}
use Rattle.memory.specs.Bits.{num, bit, pack}
use Rattle.memory.specs.Power.{log2up}
use Rattle.memory.specs.Words.{bytes4, words_bytes}
use Rattle.memory.specs.Ranges.{any, memb, all_of}
use Rattle.layout.specs.Keys.{Key, same_key}
use Rattle.layout.specs.Geometry.{State, Geometry, sizes_of, state_of, geometry, allowed, index_block, sector, page, block}
use Rattle.layout.specs.Flash.{flash_of, Op, program, erase, fresh, all_fresh, apply, Planned, known, made, wipe, plan_ops}
use Rattle.layout.specs.Hash.{fnv_from, fnv_family, positions}
use Rattle.layout.specs.Index.{BitPlace, bit_at, filter_bit, row_bit, row_byte, with_filter, filter_place, filter_plan, flush_and_build}
use Rattle.layout.specs.Items.{record_of, record_bytes, entry_bytes, deletion_bytes, item_word, put}
use Rattle.layout.specs.Search.{Stop, found, corrupt, Found, reply, try_entry, scan, search_pages, search_from, scan_cost, pages_cost}
use Rattle.layout.specs.Search.{cost_from}
use Rattle.layout.specs.Calls.{Volume, Call, insert, update, delete, lookup, key_index, bad_state, too_short, try_at, search_at}
use Rattle.layout.specs.Calls.{half_filter, try_deletion, maybe_deleted, test_deletion, try_cost, da_pages_at, deletion_ram, deletion_filters}
use Rattle.layout.specs.Calls.{page_filter, Outcome, accepted, hit, miss, refused, Result, deletion_plan, insertion_plan, commit, change_by, change}
use Rattle.layout.specs.Calls.{update_after, maybe_in, lookup_after, answer}
use Rattle.layout.specs.FiniteMap.{Map, empty_map, Reply, accepts, hits, misses, refuses, step_map, find, without}
use Rattle.layout.specs.Examples.{sectors_of, blocks_of}

-- ---- "set pages, each rising; last the erases, L1, then the blocks of set i-1"

-- how many operations come before the first erase
abbrev before_erase : List Planned → ℕ
before_erase [] = 0
before_erase (known s bytes ∷ ps) = suc (before_erase ps)
before_erase (made s bytes ∷ ps) = suc (before_erase ps)
before_erase (wipe b ∷ ps) = 0

-- set 3 is built when filter 255 is there, at S = 16, R = 32: 4 sectors of the
-- flush and 32 pages on side B, then L1 and the one block of set 2 on side A
abbrev third : List Planned
third = filter_plan 1 (key_index (geometry (sizes_of 16 32 1 3))) 255 []

abbrev L1 : ℕ
L1 = index_block (geometry (sizes_of 16 32 1 3))

pub build_order : before_erase third ∷ length (sectors_of third) ∷ get_or (sectors_of third) 4 0 ∷ get_or (sectors_of third) 131 0 ∷ blocks_of third
    ≡ (4 + 32 * 4) ∷ (4 + 32 * 4) ∷ ((L1 + 5) * 64) ∷ ((L1 + 5) * 64 + 127) ∷ L1 ∷ (L1 + 1) ∷ []
unfolding log2up flush_and_build
build_order = refl

-- the fifth set at S = 16 is full: it goes to the first place for full sets and frees the four blocks of set 4 on side A
abbrev fifth : List Planned
fifth = filter_plan 1 (key_index (geometry (sizes_of 16 64 1 3))) 511 []

pub full_set : length (sectors_of fifth) ∷ get_or (sectors_of fifth) 4 0 ∷ blocks_of fifth
    ≡ (4 + 64 * 4) ∷ ((index_block (geometry (sizes_of 16 64 1 3)) + 9) * 64) ∷ index_block (geometry (sizes_of 16 64 1 3))
    ∷ (index_block (geometry (sizes_of 16 64 1 3)) + 1)
    ∷ (index_block (geometry (sizes_of 16 64 1 3)) + 2) ∷ (index_block (geometry (sizes_of 16 64 1 3)) + 3)
    ∷ (index_block (geometry (sizes_of 16 64 1 3)) + 4) ∷ []
unfolding log2up flush_and_build
full_set = refl

-- §5: "the deletion filters and their erases follow the DA page directly": an update at S = 16, R = 16, D = 4 that builds set 2 of both
-- indexes
abbrev both : List Planned
both =
    let g : Geometry = geometry (sizes_of 16 16 4 3) in
    deletion_plan fnv_family g 1023 5 [] ++ insertion_plan fnv_family g 1023 7 [] []

pub update_order : before_erase both ∷ length (sectors_of both) ∷ get_or (sectors_of both) 0 0 ∷ get_or (sectors_of both) 4 0
    ∷ get_or (sectors_of both) 8 0 ∷ get_or (sectors_of both) 72 0 ∷ get_or (sectors_of both) 76 0 ∷ get_or (sectors_of both) 80 0
    ∷ get_or (sectors_of both) 84 0 ∷ blocks_of both
    ≡ 72 ∷ 148 ∷ (24 * 64 + 252) ∷ (37 * 64 + 15) ∷ (38 * 64) ∷ 1020 ∷ (16 * 64 + 508) ∷ (28 * 64 + 15) ∷ (29 * 64) ∷ 37 ∷ 28 ∷ []
unfolding log2up flush_and_build deletion_plan insertion_plan
update_order = refl

-- the operations of that change: their numbers, a block's above all sectors
abbrev places_of : List Op → List ℕ
places_of [] = []
places_of (program s bytes ∷ ops) = s ∷ places_of ops
places_of (erase b ∷ ops) = (100000 + b) ∷ places_of ops

abbrev changed : List ℕ
changed =
    let g : Geometry = geometry (sizes_of 16 16 4 3) in
    let v : Volume = record { state = state_of (sizes_of 16 16 4 3) 1023 1023; flash = flash_of [] (replicate 2944 255); ram = [] } in
    places_of (change fnv_family g v (record { deletes = some 5; inserts = some (record_of 7 0 0 0) })).ops

pub change_order : length changed ∷ get_or changed 0 0 ∷ get_or changed 4 0 ∷ get_or changed 8 0 ∷ get_or changed 72 0 ∷ get_or changed 73 0
    ∷ get_or changed 77 0 ∷ get_or changed 81 0 ∷ get_or changed 85 0 ∷ get_or changed 149 0 ∷ []
    ≡ 150 ∷ (24 * 64 + 252) ∷ (37 * 64 + 15) ∷ (38 * 64) ∷ 100037 ∷ 1020 ∷ (16 * 64 + 508) ∷ (28 * 64 + 15) ∷ (29 * 64) ∷ 100028 ∷ []
unfolding log2up flush_and_build deletion_plan insertion_plan change_by commit all_fresh fresh ones_in
change_order = refl

-- a DA page that is not the fourth leaves its filters in RAM: page 62 programs nothing but itself
pub filters_wait : length (sectors_of (deletion_plan fnv_family (geometry (sizes_of 16 16 4 3)) 1007 5 [])) ≡ 4
unfolding log2up flush_and_build deletion_plan
filters_wait = refl

-- ---- where filters lie at S = 16 with 1000 filters: one full set of 512, three rounds on side A, 13 flushes in L1, none in RAM

abbrev place : ℕ → ℕ → BitPlace
place f x = filter_place 1 (record { first = 0; ska = 192 }) 1000 f x

abbrev row_at : BitPlace → List ℕ
row_at p = num p.in_ram ∷ p.row ∷ p.at ∷ []

pub places : row_at (place 5 13) ≡ 0 ∷ (9 * block 1 + 13 * page 1) ∷ 5 ∷ []
unfolding log2up
places = refl

pub places_set : row_at (place 522 13) ≡ 0 ∷ (1 * block 1 + 13 * page 1) ∷ 10 ∷ []
unfolding log2up
places_set = refl

-- filter 910 is filter 14 of its round: slot 6 of flush 1, bit 40 in the third slice of 16
pub places_l1 : row_at (place 910 40) ≡ 0 ∷ ((4 * 2 + 0) * page 1 + 1 * sector 1) ∷ (6 * 16 + 8) ∷ []
unfolding log2up
places_l1 = refl

-- with 1003 filters the last three are in the SKA page
pub places_ram : row_at (filter_place 1 (record { first = 0; ska = 192 }) 1003 1001 40) ≡ 1 ∷ (192 + 2 * 16) ∷ (1 * 16 + 8) ∷ []
unfolding log2up
places_ram = refl

-- ---- the chip: one mark a sector, fresh by five ones or more

-- FF, FE, 1F, F8; 0F, F0, AA, 00
pub freshness : num (fresh 255) ∷ num (fresh 254) ∷ num (fresh 31) ∷ num (fresh 248) ∷ num (fresh 15) ∷ num (fresh 240) ∷ num (fresh 170)
    ∷ num (fresh 0) ∷ []
    ≡ 1 ∷ 1 ∷ 1 ∷ 1 ∷ 0 ∷ 0 ∷ 0 ∷ 0 ∷ []
unfolding fresh ones_in
freshness = refl

pub programmed : (apply 1 (program 2 (replicate 16 7)) (flash_of (replicate 64 255) (replicate 4 255))).spare ≡ 255 ∷ 255 ∷ 0 ∷ 255 ∷ []
programmed = refl

-- a set's sector takes its bytes when it is programmed: the second sees what the first left
pub made_late : plan_ops 1 (made 0 (λ main. replicate 16 1) ∷ made 1 (λ main. tabulate 16 (λ y. get_or main 0 0 + y)) ∷ [])
    (flash_of (replicate 64 255) (replicate 4 255))
    ≡ program 0 (replicate 16 1) ∷ program 1 (tabulate 16 (λ y. 1 + y)) ∷ []
unfolding write tabulate tabulate_from
made_late = refl

-- ---- the search

-- entries 0 to 9, four to a page; of the key those numbered 1, 4 and 9, of which 4 and 9 are deleted; pages 0 and 1 have the bits
abbrev try_example : ℕ → ℕ → Option Stop
try_example n j = try_entry n (λ i. memb i (4 ∷ 9 ∷ [])) 7 (cond (memb j (1 ∷ 4 ∷ 9 ∷ [])) 7 0) j

abbrev gate_example : ℕ → Bool
gate_example p = true

-- a newer deleted entry is not "the end of the search"; both pages are opened, the RAM's entry is not counted
pub search_past_deleted : search_from gate_example (try_example 10) 4 10 ≡ record { stop = some (found 1); opened = 2 }
unfolding same_key search_pages scan memb
search_past_deleted = refl

-- a record number of n or more ends it at once
pub search_corrupt : search_from gate_example (λ j. try_entry 3 (λ i. false) 7 7 j) 4 10 ≡ record { stop = some corrupt; opened = 0 }
unfolding same_key search_pages scan
search_corrupt = refl

-- a page whose gate is shut is neither opened nor counted
pub search_shut : search_from (λ p. false) (try_example 8) 4 8 ≡ record { stop = none; opened = 0 }
unfolding same_key search_pages scan memb
search_shut = refl

-- what it pays: entry j costs 10 and j, those after its end nothing, shut pages nothing
pub search_costs : cost_from gate_example (try_example 10) (λ j. 10 + j) 4 10
    ∷ cost_from (λ p. eqb p 0) (try_example 8) (λ j. 10 + j) 4 8 ∷ cost_from (λ p. false) (try_example 8) (λ j. 10 + j) 4 8 ∷ []
    ≡ 135 ∷ 36 ∷ 0 ∷ []
unfolding same_key scan_cost pages_cost scan memb
search_costs = refl

-- ---- the search by bounds

-- nine records, the first eight entries on flash, and a deletion of record
-- 2; key 7 has entries 0, 1, 2 and 6, key 9 has entry 3, numbered 5
abbrev nine : Volume
nine =
    record {
      state = state_of (sizes_of 16 1 1 3) 9 1;
      flash = flash_of (write (replicate 2048 255) 1024
          (words_bytes (7 ∷ 0 ∷ 7 ∷ 1 ∷ 7 ∷ 2 ∷ 9 ∷ 5 ∷ 1 ∷ 4 ∷ 2 ∷ 5 ∷ 7 ∷ 6 ∷ 3 ∷ 7 ∷ []))) [];
      ram = write (replicate 384 0) 128 (words_bytes (2 ∷ []));
    }

abbrev among : ℕ → ℕ → Key → Option Stop
among n₀ d₀ key = (search_at fnv_family (geometry (sizes_of 16 1 1 3)) nine n₀ d₀ key).stop

-- the last of the first n₀ entries is on flash by now; a deletion of later does not count, nor does a record
pub search_among : among 3 0 7 ∷ among 3 1 7 ∷ among 7 1 7 ∷ among 4 0 9 ∷ among 6 0 9 ∷ among 3 1 9 ∷ []
    ≡ some (found 2) ∷ some (found 1) ∷ some (found 6) ∷ some corrupt ∷ some (found 5) ∷ none ∷ []
unfolding write words_bytes same_key item_word scan search_pages try_deletion test_deletion try_at search_at
search_among = refl

-- ---- the test of a record number: 16 deletions on flash with their two filters in RAM, the 17th in RAM; key 7 has entries 16 to 19

-- the SKA page with the filters of 1, 2, 3, 4, 17, 18, 19, 20 and of 9, 10, 11, 12, 25, 26, 27, 28
abbrev pair_page : List ℕ
pair_page =
    66 ∷ 128 ∷ 128 ∷ 66 ∷ 0 ∷ 0 ∷ 0 ∷ 0 ∷ 0 ∷ 0 ∷ 0 ∷ 0 ∷ 0 ∷ 0 ∷ 0 ∷ 0 ∷ 129 ∷ 64 ∷ 64 ∷ 129 ∷ 0 ∷ 0
    ∷ 0 ∷ 0 ∷ 0 ∷ 0 ∷ 0 ∷ 0 ∷ 0 ∷ 0 ∷ 0 ∷ 0 ∷ 24 ∷ 32 ∷ 32 ∷ 24 ∷ 0 ∷ 0 ∷ 0 ∷ 0 ∷ 0 ∷ 0 ∷ 0 ∷ 0 ∷ 0 ∷ 0
    ∷ 0 ∷ 0 ∷ 66 ∷ 1 ∷ 1 ∷ 66 ∷ 0 ∷ 0 ∷ 0 ∷ 0 ∷ 0 ∷ 0 ∷ 0 ∷ 0 ∷ 0 ∷ 0 ∷ 0 ∷ 0 ∷ []

abbrev tested : Volume
tested =
    record {
      state = state_of (sizes_of 16 1 1 3) 20 17;
      flash = flash_of (write (replicate 2112 255) 2048
          (words_bytes (1 ∷ 2 ∷ 3 ∷ 4 ∷ 17 ∷ 18 ∷ 19 ∷ 20 ∷ 9 ∷ 10 ∷ 11 ∷ 12 ∷ 25 ∷ 26 ∷ 27 ∷ 28 ∷ []))) [];
      ram = write
          (write (write (replicate 384 0) 64 (words_bytes (7 ∷ 0 ∷ 7 ∷ 12 ∷ 7 ∷ 5 ∷ 7 ∷ 3 ∷ []))) 128 (words_bytes (5 ∷ []))) 320 pair_page;
    }

abbrev test_of : ℕ → ℕ → Found
test_of d₀ j = test_deletion fnv_family (geometry (sizes_of 16 1 1 3)) tested d₀ j

-- met in RAM; on the page, by its first filter, by its second; no filter has the bits; one has them in vain; by bounds, the 17th is of
-- later, and eight numbers are tried without filters
pub deletion_tests : test_of 17 5 ∷ test_of 17 3 ∷ test_of 17 12 ∷ test_of 17 0 ∷ test_of 17 33 ∷ test_of 16 5 ∷ test_of 8 12 ∷ test_of 8 3 ∷ []
    ≡ reply (some (found 5)) 0 ∷ reply (some (found 3)) 1 ∷ reply (some (found 12)) 1 ∷ reply none 0 ∷ reply none 1 ∷ reply none 0
    ∷ reply none 0 ∷ reply (some (found 3)) 0 ∷ []
unfolding write words_bytes item_word scan search_pages try_deletion maybe_deleted test_deletion all_of filter_bit bit_at bit positions tabulate tabulate_from
    fnv_from
deletion_tests = refl

-- the numbers 3, 5 and 12 of its entries are deleted, 0 is not: of the four tests two open the page
pub da_pages_lem : da_pages_at fnv_family (geometry (sizes_of 16 1 1 3)) tested 20 17 7 ≡ 2
unfolding write words_bytes same_key item_word scan scan_cost search_pages try_deletion maybe_deleted test_deletion try_at try_cost da_pages_at all_of
    filter_bit bit_at bit positions tabulate tabulate_from fnv_from
da_pages_lem = refl

-- a lookup tells both counts, that of key 7 those of its search in RAM alone; with all bits set in the SKA page, one of key 9 opens both
-- pages of entries in vain
abbrev both_counts : ℕ → List ℕ
both_counts key =
    let v : Volume = record { state = tested.state; flash = tested.flash; ram = write tested.ram 192 (replicate 64 255) } in
    let r : Result = answer fnv_family (geometry (sizes_of 16 1 1 3)) v (lookup key) in
    r.count ∷ r.da_pages ∷ []

pub lookup_counts : both_counts 7 ∷ both_counts 9 ∷ [] ≡ (0 ∷ 2 ∷ []) ∷ (2 ∷ 0 ∷ []) ∷ []
unfolding write words_bytes same_key item_word scan scan_cost search_pages pages_cost try_deletion maybe_deleted test_deletion try_at try_cost maybe_in
    search_at da_pages_at lookup_after all_of filter_bit bit_at bit positions tabulate tabulate_from fnv_from
lookup_counts = refl

-- "opening a page only if its filter, .. has all three bits": filter 0 of one, in RAM, has bits 2, 5 and 11
pub filter_asked :
    let v : Volume = record {
      state = state_of (sizes_of 16 1 1 3) 8 0;
      flash = flash_of [] [];
      ram = write (replicate 384 0) 192 (36 ∷ 8 ∷ []);
    } in
    num (maybe_in (geometry (sizes_of 16 1 1 3)) v (11 ∷ 2 ∷ 5 ∷ []) 0) ∷ num (maybe_in (geometry (sizes_of 16 1 1 3)) v (11 ∷ 2 ∷ 3 ∷ []) 0) ∷ []
    ≡ 1 ∷ 0 ∷ []
unfolding write maybe_in all_of filter_bit bit_at bit
filter_asked = refl

-- the call that fills the DA page leaves them so, "first half first", and the DA page, bytes 128 to 191, zeroed
abbrev filled : List ℕ
filled =
    deletion_ram fnv_family (geometry (sizes_of 16 1 1 3)) 15 28
    (write (replicate 384 0) 128 (words_bytes (1 ∷ 2 ∷ 3 ∷ 4 ∷ 17 ∷ 18 ∷ 19 ∷ 20 ∷ 9 ∷ 10 ∷ 11 ∷ 12 ∷ 25 ∷ 26 ∷ 27 ∷ [])))

pub filters_put : drop 128 filled ≡ replicate 192 0 ++ pair_page
unfolding write words_bytes deletion_bytes put pieces pack half_filter any memb positions tabulate tabulate_from fnv_from deletion_ram
filters_put = refl

-- full pages alone have filters
pub filter_counts : deletion_filters (geometry (sizes_of 16 1 1 3)) 15 ∷ deletion_filters (geometry (sizes_of 16 1 1 3)) 16
    ∷ deletion_filters (geometry (sizes_of 16 1 1 3)) 31 ∷ deletion_filters (geometry (sizes_of 16 1 1 3)) 32 ∷ []
    ≡ 0 ∷ 2 ∷ 2 ∷ 4 ∷ []
filter_counts = refl

-- ---- refusals 1 and 2: n and d may be at capacity, "under" is strict

abbrev state : ℕ → ℕ → ℕ → ℕ → ℕ → State
state S R D n d = state_of (sizes_of S R D 3) n d

abbrev hashed : ℕ → State
hashed k = state_of (sizes_of 16 1 1 k) 0 0

abbrev bads : List State → List ℕ
bads [] = []
bads (s ∷ ss) = cond (bad_state s) 1 0 ∷ bads ss

pub states : bads (state 16 1 1 64 64 ∷ state 16 1 1 65 0 ∷ state 16 5 1 320 256 ∷ state 16 5 1 320 257 ∷ state 16 1 1 3 4
    ∷ state 24 1 1 0 0 ∷ state 16 0 1 0 0 ∷ state 512 4096 4096 0 0 ∷ state 512 4097 1 0 0 ∷ [])
    ≡ 0 ∷ 1 ∷ 0 ∷ 1 ∷ 1 ∷ 1 ∷ 1 ∷ 0 ∷ 1 ∷ []
unfolding bad_state allowed memb
states = refl

-- k is 1 to 8
pub hash_counts : bads (hashed 0 ∷ hashed 1 ∷ hashed 3 ∷ hashed 8 ∷ hashed 9 ∷ []) ≡ 1 ∷ 0 ∷ 0 ∷ 0 ∷ 1 ∷ []
unfolding bad_state allowed memb
hash_counts = refl

abbrev shorts : ℕ → ℕ → ℕ → ℕ
shorts main spare ram = cond (too_short (geometry (sizes_of 16 1 1 3)) (flash_of (replicate main 0) (replicate spare 0)) (replicate ram 0)) 1 0

pub lengths : shorts 21504 1344 384 ∷ shorts 21503 1344 384 ∷ shorts 21504 1343 384 ∷ shorts 21504 1344 383 ∷ [] ≡ 0 ∷ 1 ∷ 1 ∷ 1 ∷ []
unfolding too_short
lengths = refl

-- ---- updates, by what the search met: 8, 5, then 6 of a live key alone, 7

abbrev refusal_of : Outcome → ℕ
refusal_of accepted = 0
refusal_of (hit place bytes) = 0
refusal_of miss = 0
refusal_of (refused i) = i

-- the refusal, n and d; there is room for 320 records and 256 deletions, and no sector is fresh
abbrev updated : ℕ → ℕ → Option Stop → List ℕ
updated n d s =
    let v : Volume = record { state = state 16 5 1 n d; flash = flash_of [] []; ram = [] } in
    let r : Result = update_after fnv_family (geometry (sizes_of 16 5 1 3)) v (record_of 7 1 0 0) s in
    refusal_of r.outcome ∷ r.volume.state.records ∷ r.volume.state.deletions ∷ []

-- "An update of a key that is not live now inserts it: n rises by one, d stays"; "5 and 7 apply, and 6 does not"
pub updates_absent : updated 318 254 none ∷ updated 318 256 none ∷ updated 315 256 none ∷ updated 320 256 none
    ∷ updated 320 256 (some corrupt) ∷ []
    ≡ (0 ∷ 319 ∷ 254 ∷ []) ∷ (0 ∷ 319 ∷ 256 ∷ []) ∷ (7 ∷ 315 ∷ 256 ∷ []) ∷ (5 ∷ 320 ∷ 256 ∷ []) ∷ (8 ∷ 320 ∷ 256 ∷ []) ∷ []
unfolding fresh ones_in all_fresh deletion_plan insertion_plan commit change_by
updates_absent = refl

-- "a deletion followed by an insertion, in one call"
pub updates_live : updated 318 254 (some (found 3)) ∷ updated 318 255 (some (found 3)) ∷ updated 315 256 (some (found 3))
    ∷ updated 320 256 (some (found 3)) ∷ []
    ≡ (0 ∷ 319 ∷ 255 ∷ []) ∷ (7 ∷ 318 ∷ 255 ∷ []) ∷ (6 ∷ 315 ∷ 256 ∷ []) ∷ (5 ∷ 320 ∷ 256 ∷ []) ∷ []
unfolding fresh ones_in all_fresh deletion_plan insertion_plan commit change_by
updates_live = refl

-- ---- the map, with room for four records and one deletion

abbrev says : Map → List Call → List Reply
says m [] = []
says m (c ∷ cs) = (step_map 4 1 m c).says ∷ says (step_map 4 1 m c).next cs

-- an update sets a key, present or absent: those of 7 at first, of 8 and of 10 are of absent keys, that of 8 with no deletion left
pub map_run :
    says empty_map (lookup 7 ∷ delete 7 ∷ update (record_of 7 1 0 0) ∷ insert (record_of 7 2 0 0) ∷ update (record_of 7 3 0 0) ∷ lookup 7
    ∷ update (record_of 7 4 0 0) ∷ update (record_of 8 5 0 0) ∷ insert (record_of 9 6 0 0) ∷ insert (record_of 10 7 0 0)
    ∷ update (record_of 10 7 0 0) ∷ update (record_of 7 7 0 0) ∷ delete 7 ∷ lookup 8 ∷ [])
    ≡ misses ∷ refuses 4 ∷ accepts ∷ refuses 3 ∷ accepts ∷ hits (record_bytes (record_of 7 3 0 0)) ∷ refuses 6 ∷ accepts ∷ accepts
    ∷ refuses 5 ∷ refuses 5 ∷ refuses 5 ∷ refuses 6 ∷ hits (record_bytes (record_of 8 5 0 0)) ∷ []
unfolding same_key find without
map_run = refl

-- ---- items: little-endian words in the document's order

pub items : record_bytes (record_of 1 258 3 4) ≡ 1 ∷ 0 ∷ 0 ∷ 0 ∷ 2 ∷ 1 ∷ 0 ∷ 0 ∷ 3 ∷ 0 ∷ 0 ∷ 0 ∷ 4 ∷ 0 ∷ 0 ∷ 0 ∷ []
unfolding record_bytes words_bytes
items = refl

pub entries : entry_bytes 5 6 ≡ 5 ∷ 0 ∷ 0 ∷ 0 ∷ 6 ∷ 0 ∷ 0 ∷ 0 ∷ []
unfolding entry_bytes words_bytes
entries = refl

pub deletions : deletion_bytes 772 ≡ 4 ∷ 3 ∷ 0 ∷ 0 ∷ []
unfolding deletion_bytes words_bytes
deletions = refl

-- ---- the positions of a key: three at S = 16, 512 and 64, one and eight at S = 16

pub positions_7 : positions fnv_family 3 1 (bytes4 7) ≡ 11 ∷ 2 ∷ 5 ∷ []
unfolding positions tabulate tabulate_from fnv_from
positions_7 = refl

pub positions_7_one : positions fnv_family 1 1 (bytes4 7) ≡ 11 ∷ []
unfolding positions tabulate tabulate_from fnv_from
positions_7_one = refl

pub positions_7_eight : positions fnv_family 8 1 (bytes4 7) ≡ 11 ∷ 2 ∷ 5 ∷ 4 ∷ 7 ∷ 14 ∷ 1 ∷ 0 ∷ []
unfolding positions tabulate tabulate_from fnv_from
positions_7_eight = refl

pub positions_7_wide : positions fnv_family 3 32 (bytes4 7) ≡ 315 ∷ 98 ∷ 261 ∷ []
unfolding positions tabulate tabulate_from fnv_from
positions_7_wide = refl

pub positions_bytes : positions fnv_family 3 4 (bytes4 16909060) ≡ 232 ∷ 213 ∷ 230 ∷ []
unfolding positions tabulate tabulate_from fnv_from
positions_bytes = refl

-- ---- a filter: some bits of that of a page with the keys 1 to 8, and its bytes in slot 2 of the SKA page

abbrev key_page : List ℕ
key_page = write (replicate 384 0) 64 (words_bytes (1 ∷ 0 ∷ 2 ∷ 1 ∷ 3 ∷ 2 ∷ 4 ∷ 3 ∷ 5 ∷ 4 ∷ 6 ∷ 5 ∷ 7 ∷ 6 ∷ 8 ∷ 7 ∷ []))

abbrev page_bit : ℕ → ℕ
page_bit x = num (page_filter fnv_family (geometry (sizes_of 16 1 1 3)) key_page x)

pub filter_bits_lem : page_bit 0 ∷ page_bit 1 ∷ page_bit 52 ∷ page_bit 53 ∷ [] ≡ 0 ∷ 1 ∷ 1 ∷ 0 ∷ []
unfolding write words_bytes page_filter any memb positions tabulate tabulate_from fnv_from
filter_bits_lem = refl

-- the two filters of a DA page with the numbers 1 to 16, "first half first"
abbrev number_page : List ℕ
number_page =
    write (replicate 384 0) 128
    (words_bytes (1 ∷ 2 ∷ 3 ∷ 4 ∷ 5 ∷ 6 ∷ 7 ∷ 8 ∷ 9 ∷ 10 ∷ 11 ∷ 12 ∷ 13 ∷ 14 ∷ 15 ∷ 16 ∷ []))

abbrev half_bit : ℕ → ℕ → ℕ
half_bit i x = num (half_filter fnv_family (geometry (sizes_of 16 1 1 3)) i number_page x)

pub half_bits_lem : half_bit 0 0 ∷ half_bit 0 1 ∷ half_bit 0 3 ∷ half_bit 0 61 ∷ half_bit 0 62 ∷ half_bit 1 0 ∷ half_bit 1 1 ∷ half_bit 1 3
    ∷ half_bit 1 61 ∷ half_bit 1 62 ∷ []
    ≡ 0 ∷ 1 ∷ 0 ∷ 1 ∷ 0 ∷ 0 ∷ 0 ∷ 1 ∷ 0 ∷ 1 ∷ []
unfolding write words_bytes half_filter any memb positions tabulate tabulate_from fnv_from
half_bits_lem = refl

pub filter_bytes : take 32 (with_filter 1 (record { first = 0; ska = 0 }) 2 (λ x. memb x (0 ∷ 9 ∷ 18 ∷ 31 ∷ [])) (replicate 64 7))
    ≡ 7 ∷ 7 ∷ 7 ∷ 7 ∷ 1 ∷ 2 ∷ 7 ∷ 7 ∷ 7 ∷ 7 ∷ 7 ∷ 7 ∷ 7 ∷ 7 ∷ 7 ∷ 7 ∷ 7 ∷ 7 ∷ 7 ∷ 7 ∷ 4 ∷ 128 ∷ 7 ∷ 7 ∷ 7 ∷ 7 ∷ 7 ∷ 7 ∷ 7 ∷ 7 ∷ 7 ∷ 7 ∷ []
unfolding pieces write tabulate tabulate_from pack memb
filter_bytes = refl

-- two filters of four bits to a row of two bytes: bit 3 of the second is bit 7, past the filters there are zeros
pub row_bytes : row_byte (λ g x. eqb g 1 && eqb x 3) 2 4 0 0 ∷ row_byte (λ g x. true) 3 4 0 1 ∷ [] ≡ 128 ∷ 15 ∷ []
unfolding row_byte row_bit pack
row_bytes = refl
