use Rattle.std.proofs.Common.{[], ◌∷◌, ◌++◌}
use Rattle.script.specs.Answers.{decimal}
use Rattle.script.specs.AnswerLaws.{write_rest}
use Rattle.script.proofs.answers.put_two.Goals as goal

-- The second number stands where the first with its space ends.

pub returns-clause-bytes : goal.returns-clause-bytes
returns-clause-bytes c =
    let x = c.args in
    let a = c.put_first-at in
    let k = c.put_number in
    write_rest x.out.now a.new.out k.new.out x.word.now (decimal x.n) (decimal x.m ++ (10 ∷ [])) a.result a.ensures.bytes a.ensures.end.0
    k.ensures.bytes
