-- What a script does to a volume and what it prints. Document 01, "Replay program".
use Rattle.std.specs.Prelude.{cond, List, [], ◌∷◌, ◌++◌, ℕ, eqb}
use Prim.Native.Char.{code}
use Rattle.memory.specs.Words.{word}
use Rattle.layout.specs.Geometry.{sizes_of, default_hash_count}
use Rattle.layout.specs.Hash.{fnv_family}
use Rattle.layout.specs.Calls as calls
use Rattle.layout.specs.Budgets.{call_whole, format_whole}
use Rattle.script.specs.Lines.{Command, format, call, bad, command}
use Rattle.script.specs.Answers.{Answer, text}
use Rattle.script.specs.Answers as answers

-- the answer that a call's result gives: n and d; the record's second word and the count; the count; the number
abbrev pub result_answer : calls.Result → calls.Outcome → Answer
result_answer r calls.accepted = answers.ok r.volume.state.records r.volume.state.deletions
result_answer r (calls.hit place bytes) = answers.hit (word bytes 4) r.count
result_answer r calls.miss = answers.miss r.count
result_answer r (calls.refused i) = answers.no i

-- an answer and the volume after it
pub record Performed : Type 0 where
  pub answer : Answer
  pub volume : calls.Volume

abbrev pub result_performed : calls.Result → Performed
result_performed r = record { answer = result_answer r r.outcome; volume = r.volume }

-- a command on a volume, its call having enough; a bad line changes nothing
unfoldable pub perform : calls.Volume → Command → Performed
perform v (format S R D) = result_performed (format_whole v (sizes_of S R D default_hash_count))
perform v (call c) = result_performed (call_whole fnv_family v c)
perform v bad = record { answer = answers.bad; volume = v }

-- ---- the input, byte by byte

-- the line that is not ended yet, the volume, and what has been printed
pub record Replay : Type 0 where
  pub line : List ℕ
  pub volume : calls.Volume
  pub printed : List ℕ

-- a line's end: it is answered, and the volume is passed on to the next line
unfoldable pub end_line : Replay → Replay
end_line p =
    let r : Performed = perform p.volume (command p.line) in
    record { line = []; volume = r.volume; printed = p.printed ++ text r.answer }

-- one byte more: a line feed ends the line, any other byte lengthens it
unfoldable pub advance : Replay → ℕ → Replay
advance p c = cond (eqb c (code "\n")) (end_line p) (record { line = p.line ++ (c ∷ []); volume = p.volume; printed = p.printed })

unfoldable pub feed : Replay → List ℕ → Replay
feed p [] = p
feed p (c ∷ cs) = feed (advance p c) cs

-- the input's end: "(the last may be missing)"
abbrev pub close : Replay → List ℕ → Replay
close p [] = p
close p (c ∷ cs) = end_line p

-- all that is printed for an input
unfoldable pub prints : calls.Volume → List ℕ → List ℕ
prints v input = let p : Replay = feed (record { line = []; volume = v; printed = [] }) input in (close p p.line).printed
