-- Values that hold the definitions of request 8 in place: headers byte for byte, what the spare bytes tell after L1 is erased, steps and
-- budgets, the order of refusals, restarts.
use Rattle.std.specs.Prelude.{◌≡◌, refl, List, [], ◌∷◌, ◌++◌, ℕ, ◌+◌, ◌*◌, length, get_or, replicate, set}
use Rattle.std.specs.Int.Count.{ones_in}
use Rattle.memory.specs.Lists.{write, tabulate, tabulate_from, pieces}
use Rattle.memory.specs.Bits.{num}
use Rattle.memory.specs.Ranges.{memb}
use Rattle.memory.specs.Words.{words_bytes}
use Rattle.layout.specs.Keys.{same_key}
use Rattle.layout.specs.Geometry.{State, state_of, sizes_of, allowed}
use Rattle.layout.specs.Items.{record_of, record_bytes, entry_bytes, item_word, put}
use Rattle.layout.specs.Flash.{flash_of, Op, program, erase, Planned, known, made, wipe, fresh, all_fresh}
use Rattle.layout.specs.Hash.{fnv_family}
use Rattle.layout.specs.Search.{search_pages, scan}
use Rattle.layout.specs.Calls.{Volume, insert, update, delete, lookup, Outcome, accepted, hit, miss, refused, Result, refuse}
use Rattle.layout.specs.Calls.{bad_state, too_short, judge_first, formatted, format, search_at, try_at, lookup_after, change_by, insertion_plan}
use Rattle.layout.specs.Calls.{insertion_ram, commit, deletion_plan, call}
use Rattle.layout.specs.Later.{fresh_plan, later_plan, commit_later, call_again}
use Rattle.layout.specs.Header.{pages, header, intent_words, no_intent, format_words, header_bytes, header_word, changing, formatting}
use Rattle.layout.specs.Header.{pending_of, pending_in, kind_in, intended, format_intended}
use Rattle.layout.specs.Budgets.{Step, store, call_steps, taken, Cut, cut_by, format_for, format_cut, call_for, call_cut, restart_for, restart_cut}

abbrev s : State
s = state_of (sizes_of 16 1 1 3) 2 1

-- insert of level 7 pending, two records and one deletion before it
pub intent_bytes : header_bytes s (intent_words (insert (record_of 7 40 8 9)))
    ≡ 16 ∷ 0 ∷ 0 ∷ 0 ∷ 1 ∷ 0 ∷ 0 ∷ 0 ∷ 1 ∷ 0 ∷ 0 ∷ 0 ∷ 3 ∷ 0 ∷ 0 ∷ 0
    ∷ 2 ∷ 0 ∷ 0 ∷ 0 ∷ 1 ∷ 0 ∷ 0 ∷ 0 ∷ 1 ∷ 0 ∷ 0 ∷ 0 ∷ 7 ∷ 0 ∷ 0 ∷ 0
    ∷ 40 ∷ 0 ∷ 0 ∷ 0 ∷ 8 ∷ 0 ∷ 0 ∷ 0 ∷ 9 ∷ 0 ∷ 0 ∷ 0 ∷ 0 ∷ 0 ∷ 0 ∷ 0
    ∷ 0 ∷ 0 ∷ 0 ∷ 0 ∷ 0 ∷ 0 ∷ 0 ∷ 0 ∷ 0 ∷ 0 ∷ 0 ∷ 0 ∷ 0 ∷ 0 ∷ 0 ∷ 0 ∷ []
unfolding header_bytes words_bytes
intent_bytes = refl

-- a format to R = 2 pending: the state's words stay as they were, here those of n = 3, d = 1
pub format_bytes : words_bytes (16 ∷ 1 ∷ 1 ∷ 3 ∷ 3 ∷ 1 ∷ []) ++ words_bytes (format_words (sizes_of 16 2 1 3))
    ≡ 16 ∷ 0 ∷ 0 ∷ 0 ∷ 1 ∷ 0 ∷ 0 ∷ 0 ∷ 1 ∷ 0 ∷ 0 ∷ 0 ∷ 3 ∷ 0 ∷ 0 ∷ 0
    ∷ 3 ∷ 0 ∷ 0 ∷ 0 ∷ 1 ∷ 0 ∷ 0 ∷ 0 ∷ 4 ∷ 0 ∷ 0 ∷ 0 ∷ 16 ∷ 0 ∷ 0 ∷ 0
    ∷ 2 ∷ 0 ∷ 0 ∷ 0 ∷ 1 ∷ 0 ∷ 0 ∷ 0 ∷ 3 ∷ 0 ∷ 0 ∷ 0 ∷ 0 ∷ 0 ∷ 0 ∷ 0
    ∷ 0 ∷ 0 ∷ 0 ∷ 0 ∷ 0 ∷ 0 ∷ 0 ∷ 0 ∷ 0 ∷ 0 ∷ 0 ∷ 0 ∷ 0 ∷ 0 ∷ 0 ∷ 0 ∷ []
unfolding words_bytes
format_bytes = refl

-- delete of level 258 pending at S = 512, with 70,000 records and none deleted; the lowest byte first
pub delete_bytes : header_bytes (state_of (sizes_of 512 4096 1 8) 70000 0) (intent_words (delete 258))
    ≡ 0 ∷ 2 ∷ 0 ∷ 0 ∷ 0 ∷ 16 ∷ 0 ∷ 0 ∷ 1 ∷ 0 ∷ 0 ∷ 0 ∷ 8 ∷ 0 ∷ 0 ∷ 0
    ∷ 112 ∷ 17 ∷ 1 ∷ 0 ∷ 0 ∷ 0 ∷ 0 ∷ 0 ∷ 3 ∷ 0 ∷ 0 ∷ 0 ∷ 2 ∷ 1 ∷ 0 ∷ 0
    ∷ 0 ∷ 0 ∷ 0 ∷ 0 ∷ 0 ∷ 0 ∷ 0 ∷ 0 ∷ 0 ∷ 0 ∷ 0 ∷ 0 ∷ 0 ∷ 0 ∷ 0 ∷ 0
    ∷ 0 ∷ 0 ∷ 0 ∷ 0 ∷ 0 ∷ 0 ∷ 0 ∷ 0 ∷ 0 ∷ 0 ∷ 0 ∷ 0 ∷ 0 ∷ 0 ∷ 0 ∷ 0 ∷ []
unfolding header_bytes words_bytes
delete_bytes = refl

-- an update's kind is 2; without an intent all is zero after the state
pub update_bytes : header_bytes s (intent_words (update (record_of 7 40 8 9)))
    ≡ 16 ∷ 0 ∷ 0 ∷ 0 ∷ 1 ∷ 0 ∷ 0 ∷ 0 ∷ 1 ∷ 0 ∷ 0 ∷ 0 ∷ 3 ∷ 0 ∷ 0 ∷ 0
    ∷ 2 ∷ 0 ∷ 0 ∷ 0 ∷ 1 ∷ 0 ∷ 0 ∷ 0 ∷ 2 ∷ 0 ∷ 0 ∷ 0 ∷ 7 ∷ 0 ∷ 0 ∷ 0
    ∷ 40 ∷ 0 ∷ 0 ∷ 0 ∷ 8 ∷ 0 ∷ 0 ∷ 0 ∷ 9 ∷ 0 ∷ 0 ∷ 0 ∷ 0 ∷ 0 ∷ 0 ∷ 0
    ∷ 0 ∷ 0 ∷ 0 ∷ 0 ∷ 0 ∷ 0 ∷ 0 ∷ 0 ∷ 0 ∷ 0 ∷ 0 ∷ 0 ∷ 0 ∷ 0 ∷ 0 ∷ 0 ∷ []
unfolding header_bytes words_bytes
update_bytes = refl

pub idle_bytes : header_bytes s no_intent
    ≡ 16 ∷ 0 ∷ 0 ∷ 0 ∷ 1 ∷ 0 ∷ 0 ∷ 0 ∷ 1 ∷ 0 ∷ 0 ∷ 0 ∷ 3 ∷ 0 ∷ 0 ∷ 0
    ∷ 2 ∷ 0 ∷ 0 ∷ 0 ∷ 1 ∷ 0 ∷ 0 ∷ 0 ∷ 0 ∷ 0 ∷ 0 ∷ 0 ∷ 0 ∷ 0 ∷ 0 ∷ 0
    ∷ 0 ∷ 0 ∷ 0 ∷ 0 ∷ 0 ∷ 0 ∷ 0 ∷ 0 ∷ 0 ∷ 0 ∷ 0 ∷ 0 ∷ 0 ∷ 0 ∷ 0 ∷ 0
    ∷ 0 ∷ 0 ∷ 0 ∷ 0 ∷ 0 ∷ 0 ∷ 0 ∷ 0 ∷ 0 ∷ 0 ∷ 0 ∷ 0 ∷ 0 ∷ 0 ∷ 0 ∷ 0 ∷ []
unfolding header_bytes words_bytes
idle_bytes = refl

-- and it reads back
pub reads_back : pending_in (0 ∷ 0 ∷ header_bytes s (intent_words (insert (record_of 7 40 8 9)))) ≡ changing (insert (record_of 7 40 8 9))
unfolding pending_in header_word header header_bytes words_bytes
reads_back = refl

-- each kind with its arguments in their order
pub arguments : pending_of 1 7 40 8 9 ∷ pending_of 2 7 40 8 9 ∷ pending_of 3 7 40 8 9 ∷ pending_of 4 16 2 1 3 ∷ []
    ≡ changing (insert (record_of 7 40 8 9)) ∷ changing (update (record_of 7 40 8 9)) ∷ changing (delete 7)
    ∷ formatting (sizes_of 16 2 1 3) ∷ []
arguments = refl

-- "the state handed over" is stored with an intent, whatever the header said before: n = 2 and d = 1 over n = 9 and d = 8
pub intent_handed :
    let ram : List ℕ = intended (record {
      state = s;
      flash = flash_of [] [];
      ram = header_bytes (state_of (sizes_of 32 2 2 5) 9 8) no_intent;
    }) (delete 7) in
    header_word ram 0 ∷ header_word ram 3 ∷ header_word ram 4 ∷ header_word ram 5 ∷ header_word ram 6 ∷ header_word ram 7 ∷ []
    ≡ 16 ∷ 3 ∷ 2 ∷ 1 ∷ 3 ∷ 7 ∷ []
unfolding pages header_word header header_bytes words_bytes
intent_handed = refl

-- as an update's: sector 3 of L1 (block 0), sector 64 of the next set, made when it is programmed, the erase of L1, then sector 192 of a
-- page of records and an erase of the other index
abbrev plan : List Planned
plan = known 3 (1 ∷ []) ∷ made 64 (λ main. main) ∷ wipe 0 ∷ known 192 (2 ∷ []) ∷ wipe 5 ∷ []

-- spare bytes, all erased but one
abbrev spare_with : ℕ → ℕ → List ℕ
spare_with s byte = set (replicate 384 255) s byte

pub none_done : later_plan (replicate 384 255) plan ≡ plan
unfolding later_plan fresh_plan fresh ones_in
none_done = refl

pub flush_done : later_plan (spare_with 3 0) plan ≡ made 64 (λ main. main) ∷ wipe 0 ∷ known 192 (2 ∷ []) ∷ wipe 5 ∷ []
unfolding later_plan fresh_plan fresh ones_in
flush_done = refl

-- once L1 is erased, sector 3 is fresh again, but sector 64 tells that all before the erase is done; the erase comes again
pub set_done : later_plan (spare_with 64 0) plan ≡ wipe 0 ∷ known 192 (2 ∷ []) ∷ wipe 5 ∷ []
unfolding later_plan fresh_plan fresh ones_in
set_done = refl

-- once sector 192 is programmed, the first erase does not
pub page_done : later_plan (spare_with 192 0) plan ≡ wipe 5 ∷ []
unfolding later_plan fresh_plan fresh ones_in
page_done = refl

-- "five or more of its eight bits": a byte with four ones is a programmed one, with five it is fresh
pub worn_programmed : later_plan (spare_with 192 15) plan ≡ wipe 5 ∷ []
unfolding later_plan fresh_plan fresh ones_in
worn_programmed = refl

pub worn_fresh : later_plan (spare_with 192 31) plan ≡ plan
unfolding later_plan fresh_plan fresh ones_in
worn_fresh = refl

-- ---- the header is at the end of the bytes lent, wherever the pages of the volume end

-- three bytes past the 384 of S = 16
abbrev longer : List ℕ
longer = replicate 387 7 ++ header_bytes s (intent_words (delete 258))

pub header_at_end : length (pages longer) ∷ kind_in longer ∷ header_word longer 0 ∷ header_word longer 4 ∷ header_word longer 7 ∷ []
    ≡ 387 ∷ 3 ∷ 16 ∷ 2 ∷ 258 ∷ []
unfolding pages header_word header header_bytes words_bytes
header_at_end = refl

-- a format's intent leaves the state's words as they are, here those of k = 5, n = 9 and d = 8, whatever state it is handed
abbrev other : Volume
other = record { state = s; flash = flash_of [] []; ram = 1 ∷ 2 ∷ words_bytes (16 ∷ 1 ∷ 1 ∷ 5 ∷ 9 ∷ 8 ∷ no_intent) }

pub format_intent : format_intended other (sizes_of 16 2 1 3)
    ≡ 1 ∷ 2 ∷ words_bytes (16 ∷ 1 ∷ 1 ∷ 5 ∷ 9 ∷ 8 ∷ 4 ∷ 16 ∷ 2 ∷ 1 ∷ 3 ∷ 0 ∷ 0 ∷ 0 ∷ 0 ∷ 0 ∷ [])
unfolding pages header header_bytes words_bytes
format_intent = refl

-- ---- steps and budgets: a change that programs sector 1 and erases block 7, on four spare bytes and a RAM of one byte

abbrev before : Volume
before = record { state = s; flash = flash_of [] (255 ∷ 255 ∷ 255 ∷ 255 ∷ []); ram = 5 ∷ [] }

abbrev done : Result
done = record {
  outcome = accepted;
  count = 0;
  da_pages = 0;
  volume = record { state = state_of (sizes_of 16 1 1 3) 3 1; flash = flash_of [] []; ram = 6 ∷ [] };
  ops = program 1 [] ∷ erase 7 ∷ [];
}

-- with b steps: n, the spare byte of sector 1, the first byte of the RAM and its length, how many operations
abbrev cut_at : ℕ → List ℕ
cut_at b =
    let r : Result = taken b 1 before (call_steps (8 ∷ []) done) done in
    let w : Volume = r.volume in
    w.state.records ∷ get_or w.flash.spare 1 0 ∷ get_or w.ram 0 0 ∷ length w.ram ∷ length r.ops ∷ []

-- "first stores its intent .., then does its chip operations, then stores the finished desk with the new state": the RAM is touched by the
-- first and the last step alone, and the state is new after the last
pub in_steps : cut_at 0 ∷ cut_at 1 ∷ cut_at 2 ∷ cut_at 3 ∷ cut_at 4 ∷ cut_at 5 ∷ []
    ≡ (2 ∷ 255 ∷ 5 ∷ 1 ∷ 0 ∷ []) ∷ (2 ∷ 255 ∷ 8 ∷ 1 ∷ 0 ∷ []) ∷ (2 ∷ 0 ∷ 8 ∷ 1 ∷ 1 ∷ []) ∷ (2 ∷ 0 ∷ 8 ∷ 1 ∷ 2 ∷ [])
    ∷ (3 ∷ 0 ∷ 6 ∷ 65 ∷ 2 ∷ []) ∷ (3 ∷ 0 ∷ 6 ∷ 65 ∷ 2 ∷ []) ∷ []
unfolding write header_bytes words_bytes
in_steps = refl

-- what a caller is told of b steps of three: whether all were done, and how many; of a refusal none
abbrev cut_told : Outcome → ℕ → List ℕ
cut_told o b =
    let c : Cut = cut_by o b (store [] ∷ store [] ∷ store [] ∷ []) (refuse before 5) in
    num c.complete ∷ c.steps ∷ []

pub steps_told : cut_told accepted 0 ∷ cut_told accepted 2 ∷ cut_told accepted 3 ∷ cut_told accepted 9 ∷ cut_told (refused 5) 9 ∷ []
    ≡ (0 ∷ 0 ∷ []) ∷ (0 ∷ 2 ∷ []) ∷ (1 ∷ 3 ∷ []) ∷ (1 ∷ 3 ∷ []) ∷ (0 ∷ 0 ∷ []) ∷ []
steps_told = refl

-- ---- refusals, in order

abbrev refusal_of : Outcome → ℕ
refusal_of accepted = 0
refusal_of (hit place bytes) = 100
refusal_of miss = 101
refusal_of (refused i) = i

-- a lookup with these lengths of main area and pages, this k and this kind
abbrev looked : ℕ → ℕ → ℕ → ℕ → ℕ
looked main ram k kind =
    let v : Volume = record {
      state = state_of (sizes_of 16 1 1 k) 0 0;
      flash = flash_of (replicate main 255) (replicate 1344 255);
      ram = replicate ram 0 ++ header_bytes s (kind ∷ 0 ∷ 0 ∷ 0 ∷ 0 ∷ 0 ∷ 0 ∷ 0 ∷ 0 ∷ 0 ∷ []);
    } in
    refusal_of (call_for fnv_family 0 v (lookup 7)).outcome

-- 10 "tested straight after 2": 1, then 2 while a call is pending
pub ten_after_two : looked 0 0 9 1 ∷ looked 0 0 3 1 ∷ [] ≡ 1 ∷ 2 ∷ []
unfolding call_for judge_first bad_state allowed memb too_short pages header_word header header_bytes words_bytes search_at search_pages scan
    lookup_after
ten_after_two = refl

-- "Refusal 2 asks for the longer desk", then any kind but 0 draws 10
pub longer_ram : looked 21504 383 3 0 ∷ looked 21504 383 3 1 ∷ looked 21504 384 3 1 ∷ looked 21504 384 3 77 ∷ looked 21504 384 3 0 ∷ []
    ≡ 2 ∷ 2 ∷ 10 ∷ 10 ∷ 101 ∷ []
unfolding call_for judge_first bad_state allowed memb too_short pages header_word header header_bytes words_bytes search_at search_pages scan
    lookup_after
longer_ram = refl

-- ---- restarts

-- handed a state that is not allowed, with this kind and argument in the header and no chip at all
abbrev restarted : ℕ → ℕ → List ℕ
restarted kind a =
    let r : Result = restart_for fnv_family 9 (record {
      state = state_of (sizes_of 0 0 0 0) 5 6;
      flash = flash_of [] [];
      ram = header_bytes s (kind ∷ a ∷ 0 ∷ 0 ∷ 0 ∷ 0 ∷ 0 ∷ 0 ∷ 0 ∷ 0 ∷ []);
    }) in
    refusal_of r.outcome ∷ r.volume.state.records ∷ []

-- it goes by the header's state, which is good, so that 2 refuses; an unknown kind and a format's S by 1; the state handed in comes back
pub by_header : restarted 0 0 ∷ restarted 1 7 ∷ restarted 2 7 ∷ restarted 3 7 ∷ restarted 4 24 ∷ restarted 5 0 ∷ []
    ≡ (2 ∷ 5 ∷ []) ∷ (2 ∷ 5 ∷ []) ∷ (2 ∷ 5 ∷ []) ∷ (2 ∷ 5 ∷ []) ∷ (1 ∷ 5 ∷ []) ∷ (1 ∷ 5 ∷ []) ∷ []
unfolding restart_for call_again call format judge_first bad_state allowed memb too_short pages pending_in header_word header header_bytes
    words_bytes
by_header = refl

-- one that finds no call, handed n = 5 and d = 6, with this k in the header's state, this many blocks and bytes of pages
abbrev idle : ℕ → ℕ → ℕ → List ℕ
idle k blocks ram =
    let r : Result = restart_for fnv_family 0 (record {
      state = state_of (sizes_of 0 0 0 0) 5 6;
      flash = flash_of (replicate (blocks * 1024) 255) (replicate (blocks * 64) 255);
      ram = replicate ram 0 ++ header_bytes (state_of (sizes_of 16 1 1 k) 2 1) no_intent;
    }) in
    refusal_of r.outcome ∷ r.volume.state.records ∷ r.volume.state.deletions ∷ []

-- "with none, by 1 and 2", in that order; else it "finds none and returns the state", the header's
pub idle_restarts : idle 9 0 0 ∷ idle 3 0 0 ∷ idle 3 21 384 ∷ [] ≡ (1 ∷ 5 ∷ 6 ∷ []) ∷ (2 ∷ 5 ∷ 6 ∷ []) ∷ (0 ∷ 2 ∷ 1 ∷ []) ∷ []
unfolding restart_for bad_state allowed memb too_short pages pending_in header_word header header_bytes words_bytes
idle_restarts = refl

-- "a desk under 64 bytes by 2 first": the kind in these would be unknown
pub short_ram : refusal_of (restart_for fnv_family 9 (record { state = s; flash = flash_of [] []; ram = replicate 63 1 })).outcome ≡ 2
unfolding restart_for pending_in header_word header
short_ram = refl

-- the insert of record 3 at S = 16 fills a page of records: sectors 0 to 3; the first two are programmed already
abbrev waiting : Volume
waiting = record {
  state = state_of (sizes_of 16 1 1 3) 0 0;
  flash = flash_of (replicate 21504 255) (0 ∷ 0 ∷ replicate 1342 255);
  ram = replicate 384 0 ++ header_bytes (state_of (sizes_of 16 1 1 3) 3 0) (intent_words (insert (record_of 7 40 8 9)));
}

abbrev sectors : List Op → List ℕ
sectors [] = []
sectors (program x bytes ∷ os) = x ∷ sectors os
sectors (erase b ∷ os) = (100000 + b) ∷ sectors os

-- with b steps: the refusal, n, the kind that is left, and the sectors programmed
abbrev resumed_by : ℕ → List ℕ
resumed_by b =
    let r : Result = restart_for fnv_family b waiting in
    refusal_of r.outcome ∷ r.volume.state.records ∷ kind_in r.volume.ram ∷ sectors r.ops

-- it is not refused by 7, repeats neither of the two and does the later ones; with three steps the intent is cleared
pub goes_on : resumed_by 0 ∷ resumed_by 1 ∷ resumed_by 2 ∷ resumed_by 3 ∷ []
    ≡ (0 ∷ 0 ∷ 1 ∷ []) ∷ (0 ∷ 0 ∷ 1 ∷ 2 ∷ []) ∷ (0 ∷ 0 ∷ 1 ∷ 2 ∷ 3 ∷ []) ∷ (0 ∷ 4 ∷ 0 ∷ 2 ∷ 3 ∷ []) ∷ []
unfolding restart_for call_again judge_first bad_state allowed memb too_short pages pending_in header_word header header_bytes words_bytes write
    call change_by commit all_fresh commit_later later_plan fresh_plan fresh ones_in insertion_plan insertion_ram deletion_plan search_at
    search_pages scan try_at item_word
    same_key record_bytes entry_bytes put pieces tabulate tabulate_from
goes_on = refl

-- what is told of it with b steps: whether all were done, and how many; a restart stores no intent
abbrev told_of : Cut → List ℕ
told_of c = num c.complete ∷ c.steps ∷ []

-- a format's are its intent, its erases and the finished RAM
abbrev format_told : ℕ → List ℕ
format_told b =
    told_of (format_cut b
    (record {
      state = s;
      flash = flash_of (replicate 21504 255) (replicate 1344 255);
      ram = replicate 448 0;
    })
    (sizes_of 16 1 1 3))

pub cut_steps : told_of (restart_cut fnv_family 1 waiting) ∷ told_of (restart_cut fnv_family 3 waiting) ∷ told_of (call_cut fnv_family 1 waiting (delete 7))
    ∷ format_told 2 ∷ format_told 99 ∷ []
    ≡ (0 ∷ 1 ∷ []) ∷ (1 ∷ 3 ∷ []) ∷ (0 ∷ 0 ∷ []) ∷ (0 ∷ 2 ∷ []) ∷ (1 ∷ 23 ∷ []) ∷ []
unfolding restart_for call_for format_for call_again judge_first bad_state allowed memb too_short pages pending_in header_word header header_bytes
    words_bytes write call format formatted change_by commit all_fresh commit_later later_plan fresh_plan fresh ones_in insertion_plan insertion_ram
    deletion_plan search_at search_pages scan try_at item_word same_key record_bytes entry_bytes put pieces tabulate tabulate_from
cut_steps = refl
