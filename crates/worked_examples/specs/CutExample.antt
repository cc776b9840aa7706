-- A power cut, computed by the definitions: an insert that is cut behind its intent, what the header says then, and the restart. Document
-- 02, request 8.
use Rattle.std.specs.Prelude.{◌≡◌, refl, [], ◌∷◌, ◌++◌, replicate}
use Rattle.memory.specs.Words.{words_bytes}
use Rattle.layout.specs.Geometry.{sizes_of, state_of}
use Rattle.layout.specs.Hash.{fnv_family}
use Rattle.layout.specs.Items.{record_of}
use Rattle.layout.specs.Calls.{Volume, Call, insert, lookup, refused}
use Rattle.layout.specs.Header.{header}
use Rattle.layout.specs.Budgets.{call_for, call_whole, restart_for, restart_whole, step_count, result_of}
use Rattle.worked_examples.specs.Computing.{calls}

-- three records, levels 1 to 3, in RAM, and a header without a pending call
abbrev three_records : Volume
three_records =
    record {
      state = state_of (sizes_of 16 1 1 3) 3 0;
      flash = record { main = replicate 21504 255; spare = replicate 1344 255 };
      ram =
          words_bytes (1 ∷ 10 ∷ 0 ∷ 0 ∷ 2 ∷ 20 ∷ 0 ∷ 0 ∷ 3 ∷ 30 ∷ 0 ∷ 0 ∷ 0 ∷ 0 ∷ 0 ∷ 0 ∷ 1 ∷ 0 ∷ 2 ∷ 1 ∷ 3 ∷ 2 ∷ [])
          ++ (replicate 296 0 ++ words_bytes (16 ∷ 1 ∷ 1 ∷ 3 ∷ 3 ∷ 0 ∷ 0 ∷ 0 ∷ 0 ∷ 0 ∷ 0 ∷ 0 ∷ 0 ∷ 0 ∷ 0 ∷ 0 ∷ []));
    }

-- the record that fills the first page of RA: the intent, four sectors, the finished RAM
abbrev fourth : Call
fourth = insert (record_of 7 40 8 9)

pub six_steps : step_count (result_of fnv_family three_records fourth) ≡ 6
unfolding calls
six_steps = refl

-- cut behind its intent: the state handed over, kind 1 and the record
pub intent : header (call_for fnv_family 1 three_records fourth).volume.ram
    ≡ words_bytes (16 ∷ 1 ∷ 1 ∷ 3 ∷ 3 ∷ 0 ∷ 1 ∷ 7 ∷ 40 ∷ 8 ∷ 9 ∷ 0 ∷ 0 ∷ 0 ∷ 0 ∷ 0 ∷ [])
unfolding calls
intent = refl

-- other calls are refused then
pub pending : (call_whole fnv_family (call_for fnv_family 1 three_records fourth).volume (lookup 1)).outcome ≡ refused 10
unfolding calls
pending = refl

-- a restart finishes it: the end is that of the call without a cut
pub restarted : (restart_whole fnv_family (call_for fnv_family 1 three_records fourth).volume).volume
    ≡ (call_whole fnv_family three_records fourth).volume
unfolding calls
restarted = refl

-- and so it is where two of the sectors are programmed, and the restart is cut behind the third
pub restarted_twice : (restart_whole fnv_family (restart_for fnv_family 1 (call_for fnv_family 3 three_records fourth).volume).volume).volume
    ≡ (call_whole fnv_family three_records fourth).volume
unfolding calls
restarted_twice = refl
