use native.Mathlib.Omega.{arith}
use mathlib.Core.List.{[], ◌∷◌, ◌++◌}
use lib.ListN.{length}
use Rattle.script.specs.Answers.{decimal}
use Rattle.script.specs.AnswerLaws.{write_then}
use Rattle.script.proofs.answers.put_first.Goals as goal

-- The number stands where the word ends.

pub returns-clause-bytes : goal.returns-clause-bytes
returns-clause-bytes c =
    let x = c.args in
    let k = c.put_number in
    let w = x.word.now in
    let t = decimal x.n ++ (x.terminator ∷ []) in
    write_then x.out.now c.copy_at.new.dst k.new.out 0 (length w) w t c.copy_at.ensures (omega arith) k.ensures.bytes
