use native.Mathlib.Omega.{arith}
use mathlib.Core.Path.{refl}
use Rattle.script.specs.Answers.{text}
use Rattle.script.proofs.answers.put_answer.Goals as goal

-- Each answer is a word with its numbers.

pub returns-in-Ok : goal.returns-in-Ok
unfolding text
returns-in-Ok c =
    let k = c.put_two in
    rw c.in-Ok.is (record { size = k.ensures.end.0; short = omega arith; bytes = k.ensures.bytes })

pub returns-in-Hit : goal.returns-in-Hit
unfolding text
returns-in-Hit c =
    let k = c.put_two-in-Hit in
    rw c.in-Hit.is (record { size = k.ensures.end.0; short = omega arith; bytes = k.ensures.bytes })

pub returns-in-Miss : goal.returns-in-Miss
unfolding text
returns-in-Miss c =
    let k = c.put_first in
    rw c.in-Miss.is (record { size = k.ensures.end.0; short = omega arith; bytes = k.ensures.bytes })

pub returns-in-No : goal.returns-in-No
unfolding text
returns-in-No c =
    let k = c.put_first-in-No in
    rw c.in-No.is (record { size = k.ensures.end.0; short = omega arith; bytes = k.ensures.bytes })

pub returns-in-Bad : goal.returns-in-Bad
unfolding text
returns-in-Bad c = rw c.in-Bad.is (record { size = refl; short = omega arith; bytes = c.copy_at.ensures })
