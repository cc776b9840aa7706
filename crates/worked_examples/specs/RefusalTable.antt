-- Document 01's table of refusals, its column "Example", and the line of n = 63 and 64, computed by the definitions of the calls with enough
-- steps; S = 16.
use Rattle.std.specs.Prelude.{◌≡◌, refl, List, [], ◌∷◌, ℕ, ◌+◌, ◌*◌, get_or, replicate, set}
use Rattle.memory.specs.Lists.{write}
use Rattle.memory.specs.Words.{words_bytes}
use Rattle.layout.specs.Geometry.{state_of, sizes_of}
use Rattle.layout.specs.Flash.{flash_of}
use Rattle.layout.specs.Hash.{fnv_family}
use Rattle.layout.specs.Items.{record_of}
use Rattle.layout.specs.Calls.{Volume, Call, insert, delete, lookup, Outcome, accepted, hit, miss, refused, Result}
use Rattle.layout.specs.Budgets.{call_whole, format_whole}
use Rattle.worked_examples.specs.Computing.{calls}

-- the refusal, 0 if accepted; n and d after it
abbrev answer_of : Outcome → ℕ
answer_of accepted = 0
answer_of (hit place bytes) = 100
answer_of miss = 101
answer_of (refused i) = i

abbrev told : Result → List ℕ
told r = answer_of r.outcome ∷ r.volume.state.records ∷ r.volume.state.deletions ∷ []

abbrev after : Volume → Call → Result
after v c = call_whole fnv_family v c

-- insert of level 7
abbrev seventh : Call
seventh = insert (record_of 7 1 2 3)

-- R = D = 1: an erased chip of 21 blocks, a RAM of zeros of this length
abbrev volume : ℕ → ℕ → Volume
volume ram n =
    record {
      state = state_of (sizes_of 16 1 1 3) n 0;
      flash = flash_of (replicate 21504 255) (replicate 1344 255);
      ram = replicate ram 0;
    }

-- 1: "format with S = 24"; 2: "S = 16, desk of 319 bytes", and, with the page of §5 and the header of §8, of 447
pub one_two : told (format_whole (volume 448 0) (sizes_of 24 1 1 3)) ∷ told (after (volume 319 0) (lookup 7))
    ∷ told (after (volume 447 0) (lookup 7)) ∷ told (after (volume 448 0) (lookup 7)) ∷ []
    ≡ (1 ∷ 0 ∷ 0 ∷ []) ∷ (2 ∷ 0 ∷ 0 ∷ []) ∷ (2 ∷ 0 ∷ 0 ∷ []) ∷ (101 ∷ 0 ∷ 0 ∷ []) ∷ []
unfolding calls
one_two = refl

-- one record, whose entry is altered to number 9
abbrev altered : Volume
altered = record {
  state = state_of (sizes_of 16 1 1 3) 1 0;
  flash = flash_of (replicate 21504 255) (replicate 1344 255);
  ram = write (replicate 448 0) 64 (words_bytes (7 ∷ 9 ∷ []));
}

-- 3: "insert 7 twice"; 4: "delete 7 on a fresh volume"; 8: "one record, its entry altered to 9"
pub three_four_eight : told (after (after (volume 448 0) seventh).volume seventh) ∷ told (after (volume 448 0) (delete 7))
    ∷ told (after altered (lookup 7)) ∷ told (after altered seventh) ∷ []
    ≡ (3 ∷ 1 ∷ 0 ∷ []) ∷ (4 ∷ 0 ∷ 0 ∷ []) ∷ (8 ∷ 1 ∷ 0 ∷ []) ∷ (8 ∷ 1 ∷ 0 ∷ []) ∷ []
unfolding calls
three_four_eight = refl

-- 5: "S = 16, R = 1, the 65th insert"; "At n = 63 with R = 1 an insert is taken; at 64 it gets 5"
pub five : told (after (volume 448 64) seventh) ∷ told (after (volume 448 63) seventh) ∷ []
    ≡ (5 ∷ 64 ∷ 0 ∷ []) ∷ (0 ∷ 64 ∷ 0 ∷ []) ∷ []
unfolding calls
five = refl

-- 320 records, of which level 7 is record 319, in the last page of KA (block 5); the index over DA (block 18) has no bit set
abbrev tuned : ℕ → Volume
tuned d = record {
  state = state_of (sizes_of 16 5 1 3) 320 d;
  flash = flash_of (write (write (replicate 27648 255) (5 * 1024 + 319 * 8) (words_bytes (7 ∷ 319 ∷ []))) (18 * 1024) (replicate 1024 0))
      (replicate 1728 255);
  ram = replicate 448 0;
}

-- 6: "S = 16, R = 5, D = 1, the 257th delete"
pub six : told (after (tuned 256) (delete 7)) ∷ told (after (tuned 250) (delete 7)) ∷ [] ≡ (6 ∷ 320 ∷ 256 ∷ []) ∷ (0 ∷ 320 ∷ 251 ∷ []) ∷ []
unfolding calls
six = refl

-- three records, mark 0 with this byte
abbrev marked : ℕ → Volume
marked byte = record {
  state = state_of (sizes_of 16 1 1 3) 3 0;
  flash = flash_of (replicate 21504 255) (set (replicate 1344 255) 0 byte);
  ram = replicate 448 0;
}

-- 7: "S = 16, mark 0 set to 00, fourth insert"
pub seven : told (after (marked 0) seventh) ∷ told (after (marked 255) seventh) ∷ [] ≡ (7 ∷ 3 ∷ 0 ∷ []) ∷ (0 ∷ 4 ∷ 0 ∷ []) ∷ []
unfolding calls
seven = refl

-- 9 at byte 5 of the RA page, at byte 120, a place of the KA page that record 3 does not fill, and at byte 256 of the work page
abbrev spoiled : Volume
spoiled = record {
  state = state_of (sizes_of 16 1 1 3) 3 0;
  flash = flash_of (replicate 21504 255) (replicate 1344 255);
  ram = write (write (write (replicate 448 0) 5 (9 ∷ [])) 120 (9 ∷ [])) 256 (9 ∷ []);
}

-- the RA page is programmed as it stands and zeroed, the place is kept, the work page is zeroed
pub as_they_stand :
    let w : Volume = (after spoiled seventh).volume in
    get_or w.flash.main 5 0 ∷ get_or w.ram 5 0 ∷ get_or w.ram 120 0 ∷ get_or w.ram 256 0 ∷ [] ≡ 9 ∷ 0 ∷ 9 ∷ 0 ∷ []
unfolding calls
as_they_stand = refl
