-- Values that hold the definitions of answers in place: what a lookup tells and where a hit lies, which refusal comes first, what a format
-- does and does not judge, which pages of the RAM are zeroed, what the next filter and the next set are made of.
use Rattle.std.specs.Prelude.{◌≡◌, refl, true, false, cond, List, [], ◌∷◌, ℕ, ◌+◌, ◌*◌, length, get_or, replicate, set, eqb}
use Rattle.std.proofs.Math.Option.{Option, none, some}
use Rattle.std.specs.Int.Count.{ones_in}
use Rattle.memory.specs.Lists.{write, tabulate, tabulate_from}
use Rattle.memory.specs.Bits.{num, bit, pack}
use Rattle.memory.specs.Power.{log2up}
use Rattle.memory.specs.Ranges.{any, memb}
use Rattle.memory.specs.Words.{words_bytes}
use Rattle.layout.specs.Keys.{same_key}
use Rattle.layout.specs.Geometry.{Geometry, geometry, sizes_of, state_of, allowed}
use Rattle.layout.specs.Flash.{flash_of, Op, program, erase, fresh, all_fresh}
use Rattle.layout.specs.Hash.{fnv_family, fnv_from, positions}
use Rattle.layout.specs.Index.{row_bit, row_byte, bit_at, set_byte, filter_ram}
use Rattle.layout.specs.Items.{Ra, record_of, entry_bytes, put, Place, item_ram}
use Rattle.layout.specs.Search.{Stop, found, corrupt, try_entry, scan, scan_cost, pages_cost, cost_from}
use Rattle.layout.specs.Calls.{Volume, Outcome, accepted, hit, miss, refused, Result, too_short, change_by, formatted, format}
use Rattle.layout.specs.Calls.{key_index, performed, lookup_after, record_place, insert_after, delete_after, page_filter, new_filter}

-- S = 16, R = D = 1: room for 64 records and 256 deletions
abbrev g : Geometry
g = geometry (sizes_of 16 1 1 3)

abbrev volume : ℕ → ℕ → Volume
volume n d = record { state = state_of (sizes_of 16 1 1 3) n d; flash = flash_of [] []; ram = [] }

abbrev refusal_of : Outcome → ℕ
refusal_of accepted = 0
refusal_of (hit place bytes) = 100
refusal_of miss = 101
refusal_of (refused i) = i

-- ---- "hit, count and the 16 record bytes .. or miss, count"; document 02, §5: "the DA pages opened, 0 on a refusal"

-- with three pages of KA and four of DA opened
abbrev looked : Option Stop → List ℕ
looked s = let r : Result = lookup_after g (volume 5 0) 3 4 s in refusal_of r.outcome ∷ r.count ∷ r.da_pages ∷ []

pub counts_told : looked none ∷ looked (some (found 0)) ∷ looked (some corrupt) ∷ []
    ≡ (101 ∷ 3 ∷ 4 ∷ []) ∷ (100 ∷ 3 ∷ 4 ∷ []) ∷ (8 ∷ 0 ∷ 0 ∷ []) ∷ []
unfolding lookup_after
counts_told = refl

-- "on the chip or in the desk, wherever that record is": record 3 of 7 on flash, record 6 in RAM
abbrev placed : ℕ → List ℕ
placed j = let p : Place = record_place g (volume 7 0) j in num p.in_ram ∷ p.at ∷ []

pub hit_places : placed 3 ∷ placed 6 ∷ [] ≡ (0 ∷ 48 ∷ []) ∷ (1 ∷ 32 ∷ []) ∷ []
hit_places = refl

-- ---- "the search meets its key with a record number of n or more": at once, whether the number is in DA or not

pub corrupt_first : try_entry 5 (λ j. true) 7 7 5 ∷ try_entry 5 (λ j. true) 7 7 4 ∷ try_entry 5 (λ j. false) 7 7 4
    ∷ try_entry 5 (λ j. false) 7 8 9 ∷ []
    ≡ some corrupt ∷ none ∷ some (found 4) ∷ none ∷ []
unfolding same_key
corrupt_first = refl

-- ---- "Checked in the order 1, 2, 8, 3, 4, 5, 6, 7": at both capacities

abbrev inserted : Option Stop → ℕ
inserted s = refusal_of (insert_after fnv_family g (volume 64 256) (record_of 7 1 0 0) s).outcome

abbrev deleted : Option Stop → ℕ
deleted s = refusal_of (delete_after fnv_family g (volume 64 256) s).outcome

pub at_capacity : inserted (some corrupt) ∷ inserted (some (found 3)) ∷ inserted none ∷ deleted (some corrupt) ∷ deleted none
    ∷ deleted (some (found 3)) ∷ []
    ≡ 8 ∷ 3 ∷ 5 ∷ 8 ∷ 4 ∷ 6 ∷ []
unfolding change_by
at_capacity = refl

-- 7 by any of the sectors, by the marks before the first operation: a block that is erased in between helps none
pub fresh_each : num (all_fresh (255 ∷ 255 ∷ 0 ∷ []) (program 0 [] ∷ program 1 [] ∷ []))
    ∷ num (all_fresh (255 ∷ 255 ∷ 0 ∷ []) (program 0 [] ∷ program 2 [] ∷ []))
    ∷ num (all_fresh (255 ∷ 255 ∷ 0 ∷ []) (erase 0 ∷ program 2 [] ∷ [])) ∷ []
    ≡ 1 ∷ 0 ∷ 0 ∷ []
unfolding all_fresh fresh ones_in
fresh_each = refl

-- ---- pages of deletions opened: what comes behind the end of a search costs nothing. Two pages of four entries, each try at one page; the
-- search ends at entry 5, in the newer page, nowhere, nowhere with the newer page shut, and at entry 9, the last of two in RAM

pub ends_cost : pages_cost (λ p. true) (λ j. cond (eqb j 5) (some (found 5)) none) (λ j. 1) 4 2
    ∷ pages_cost (λ p. true) (λ j. none) (λ j. 1) 4 2 ∷ pages_cost (λ p. eqb p 0) (λ j. none) (λ j. 1) 4 2
    ∷ cost_from (λ p. true) (λ j. cond (eqb j 9) (some (found 9)) none) (λ j. 1) 4 10 ∷ []
    ≡ 3 ∷ 8 ∷ 4 ∷ 1 ∷ []
unfolding pages_cost scan_cost scan
ends_cost = refl

-- ---- a format: "erases blocks 0 to B - 1, rising", "zeroes the desk and gives n = d = 0"

abbrev erased : List Op → List ℕ
erased [] = []
erased (program s bytes ∷ os) = 1000 ∷ erased os
erased (erase b ∷ os) = b ∷ erased os

-- all bytes are 7, and the RAM has a page more than the volume's; the state handed in is not allowed
abbrev unsound : Result
unsound =
    format
    (record {
      state = state_of (sizes_of 0 0 0 0) 5 6;
      flash = flash_of (replicate 21504 7) (replicate 1344 7);
      ram = replicate 448 7;
    })
    (sizes_of 16 1 1 3)

-- the old state is not judged
pub format_accepted : refusal_of unsound.outcome ∷ unsound.volume.state.records ∷ unsound.volume.state.deletions ∷ [] ≡ 0 ∷ 0 ∷ 0 ∷ []
unfolding format formatted allowed memb too_short
format_accepted = refl

-- all 21 blocks
pub format_erases : length (erased unsound.ops) ∷ get_or (erased unsound.ops) 0 99 ∷ get_or (erased unsound.ops) 20 99 ∷ []
    ≡ 21 ∷ 0 ∷ 20 ∷ []
unfolding format formatted allowed memb too_short
format_erases = refl

-- all six pages of the RAM, and no byte past them
pub format_zeroes : get_or unsound.volume.ram 0 9 ∷ get_or unsound.volume.ram 383 9 ∷ get_or unsound.volume.ram 384 9 ∷ [] ≡ 0 ∷ 0 ∷ 7 ∷ []
unfolding format formatted allowed memb too_short write
format_zeroes = refl

-- ---- "zeroes each desk page it has programmed and the work page", and no other byte

-- these bytes, all being 7 before; S = 16, where a page has 64 bytes
abbrev at : List ℕ → List ℕ → List ℕ
at ram [] = []
at ram (x ∷ xs) = get_or ram x 9 ∷ at ram xs

-- whatever the work page held: bytes 256 to 319
pub work_zeroed : at (performed g (volume 0 0) 1 0 [] (replicate 400 7)).volume.ram (255 ∷ 256 ∷ 319 ∷ 320 ∷ [])
    ≡ 7 ∷ 0 ∷ 0 ∷ 7 ∷ []
unfolding write
work_zeroed = refl

-- record 3 fills the first page, which is programmed and zeroed; record 2 is put into its place, and the rest is kept
pub items_zeroed : at (item_ram 1 (Ra g) 3 (replicate 16 5) (replicate 400 7)) (0 ∷ 48 ∷ 63 ∷ 64 ∷ [])
    ∷ at (item_ram 1 (Ra g) 2 (replicate 16 5) (replicate 400 7)) (31 ∷ 32 ∷ 47 ∷ 48 ∷ []) ∷ []
    ≡ (0 ∷ 0 ∷ 0 ∷ 7 ∷ []) ∷ (7 ∷ 5 ∷ 5 ∷ 7 ∷ []) ∷ []
unfolding write put
items_zeroed = refl

-- the eighth filter fills the SKA page, bytes 192 to 255, the seventh does not
pub filters_zeroed : at (filter_ram 1 (key_index g) 7 (replicate 400 7)) (191 ∷ 192 ∷ 255 ∷ 256 ∷ [])
    ∷ at (filter_ram 1 (key_index g) 6 (replicate 400 7)) (191 ∷ 192 ∷ 255 ∷ 256 ∷ []) ∷ []
    ≡ (7 ∷ 0 ∷ 0 ∷ 7 ∷ []) ∷ (7 ∷ 7 ∷ 7 ∷ 7 ∷ []) ∷ []
unfolding write
filters_zeroed = refl

-- ---- "with the positions of all its keys set", that of the entry which fills the page too

-- a page of entries with the keys 1 to 7
abbrev seven_keys : List ℕ
seven_keys = write (replicate 384 0) 64 (words_bytes (1 ∷ 0 ∷ 2 ∷ 1 ∷ 3 ∷ 2 ∷ 4 ∷ 3 ∷ 5 ∷ 4 ∷ 6 ∷ 5 ∷ 7 ∷ 6 ∷ []))

-- bits 52, 58 and 61 are those of key 8 alone, bit 11 is one of key 7
pub new_entry_set :
    let filter : ℕ → ℕ = λ x. num (new_filter fnv_family g 7 8 seven_keys x) in
    filter 52 ∷ filter 58 ∷ filter 61 ∷ filter 11 ∷ filter 53 ∷ [] ≡ 1 ∷ 1 ∷ 1 ∷ 1 ∷ 0 ∷ []
unfolding write words_bytes put entry_bytes page_filter any memb positions tabulate tabulate_from fnv_from
new_entry_set = refl

-- ---- "built out of L1 and set i-1", "page p holds bits pw to pw+w-1": at S = 16 bit 40 of filter 14 of the round, slot 6 of flush 1, is the
-- lowest bit of byte 541 of L1; in set 2, four bits a filter, it is bit 56 of page 10, the lowest of byte 7 of its first sector

abbrev set_two : ℕ → ℕ → ℕ
set_two j y = set_byte 1 (record { first = 0; ska = 0 }) (set (replicate 1024 0) 541 1) 0 0 j y

pub set_bytes_lem : set_two 40 7 ∷ set_two 40 6 ∷ set_two 40 8 ∷ set_two 39 7 ∷ set_two 41 7 ∷ set_two 44 7 ∷ [] ≡ 1 ∷ 0 ∷ 0 ∷ 0 ∷ 0 ∷ 0 ∷ []
unfolding set_byte row_byte row_bit pack bit_at bit log2up
set_bytes_lem = refl
