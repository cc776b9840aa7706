use Rattle.std.proofs.Common.{◌≡◌, ◌+◌, ◌-◌, length, arith, ◌∙◌, sym, refl}
use Rattle.script.specs.Answers.{decimal}
use Rattle.script.specs.AnswerLaws.{decimal_length, unwritten_all, unwritten_none, digit_put}
use Rattle.script.proofs.answers.put_decimal.Goals as goal

pub overflow_add-end : goal.overflow_add-end
overflow_add-end c = omega (arith, decimal_length c.args.n)

pub loop-i-init : goal.loop-i-init
loop-i-init c =
    let x = c.args in
    let e : x.at + c.digits_of.result ≡ x.at + length (decimal x.n) = omega arith in
    rw (unwritten_all x.at _ x.n e) (record { place = e; written = refl })

pub bounds-out-i : goal.bounds-out-i
bounds-out-i c = omega (arith, decimal_length c.args.n)

pub loop-i-preserved : goal.loop-i-preserved
loop-i-preserved c =
    let l = c.loop-i in
    let i : l.i - 1 + 1 ≡ l.i = omega arith in
    let p = digit_put l.out c.args.at (l.i - 1) l.left (omega arith) (omega arith) (rw i l.invariant.place) in
    record { place = p.0; written = p.1 ∙ rw i l.invariant.written }

pub returns-clause-bytes : goal.returns-clause-bytes
returns-clause-bytes c =
    let l = c.loop-i in
    sym (unwritten_none l.out c.args.at l.i l.left (omega arith)) ∙ l.invariant.written
