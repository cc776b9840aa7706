-- The first changing calls of a published trace (tests/vectors/requests/8/trace/s16-sound), computed by the definitions: answers and the
-- digest of the RAM's bytes, its header among them. The rows of its first load are given as the calls that they are.
use Rattle.std.specs.Prelude.{◌≡◌, refl, List, [], ◌∷◌, ℕ, ◌*◌, ◌%◌, ◌^◌}
use Rattle.std.specs.Int.Bits.{bit_xor}
use Rattle.layout.specs.Geometry.{sizes_of}
use Rattle.layout.specs.Hash.{fnv_family}
use Rattle.layout.specs.Items.{record_of}
use Rattle.layout.specs.Calls.{Volume, Call, insert, update, Result}
use Rattle.layout.specs.Budgets.{call_whole, format_whole}
use Rattle.script.specs.Answers.{Answer, ok, no}
use Rattle.script.specs.Script.{result_answer}
use Rattle.worked_examples.specs.Computing.{calls}
use Rattle.worked_examples.specs.Example.{unformatted}

-- the answers of calls one after another
abbrev run : Volume → List Call → List Answer
run v [] = []
run v (c ∷ cs) = let r : Result = call_whole fnv_family v c in result_answer r r.outcome ∷ run r.volume cs

abbrev end : Volume → List Call → Volume
end v [] = v
end v (c ∷ cs) = let r : Result = call_whole fnv_family v c in end r.volume cs

-- FNV-1a at 64 bits, the traces' digest
abbrev digest : ℕ → List ℕ → ℕ
digest h [] = h
digest h (x ∷ xs) = digest (bit_xor h x * 1099511628211 % 2 ^ 64) xs

abbrev start : Volume
start = (format_whole (unformatted 0 27648 1728 448) (sizes_of 16 5 1 3)).volume

abbrev history : List Call
history =
    update (record_of 8 669691201 2507119275 13) ∷ insert (record_of 4294967295 1731344740 966 0) ∷ insert (record_of 33 122 777 0)
    ∷ update (record_of 4294967295 54 467 0) ∷ insert (record_of 20 106 233 0) ∷ insert (record_of 21 55 87 0)
    ∷ update (record_of 8 2378623139 635 0) ∷ insert (record_of 37 3979727576 688 0) ∷ insert (record_of 38 181 241 0)
    ∷ insert (record_of 27 1575794172 646 0) ∷ insert (record_of 7 107 791 0) ∷ update (record_of 4294967295 501697081 732 0)
    ∷ insert (record_of 18 2932231891 393 0) ∷ update (record_of 255 1200072013 31 3071272149) ∷ insert (record_of 20 3758461354 0 85) ∷ []

pub trace : run start history
    ≡ ok 1 0 ∷ ok 2 0 ∷ ok 3 0 ∷ ok 4 1 ∷ ok 5 1 ∷ ok 6 1 ∷ ok 7 2 ∷ ok 8 2 ∷ ok 9 2 ∷ ok 10 2 ∷ ok 11 2 ∷ ok 12 3 ∷ ok 13 3 ∷ ok 14 3
    ∷ no 3 ∷ []
unfolding calls
trace = refl

pub trace_ram : digest 0xcbf29ce484222325 (end start history).ram ≡ 0x08122e094439a153
unfolding calls
trace_ram = refl
