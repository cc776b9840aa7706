use native.Mathlib.Omega.{arith}
use Rattle.plan.proofs.DoneLaws.{earlier, last_le, index_done_le}
use Rattle.plan.proofs.record_done.Goals as goal

pub overflow_add-result : goal.overflow_add-result
overflow_add-result c =
    let x = c.args in
    omega (arith, c.index_done-in_index.ensures, index_done_le x.p.ka_index x.spare.now, c.requires.1)

pub overflow_add-result-then-in_index-gt0 : goal.overflow_add-result-then-in_index-gt0
overflow_add-result-then-in_index-gt0 c =
    let x = c.args in
    omega (arith, c.index_done-in_index.ensures, index_done_le x.p.ka_index x.spare.now, c.requires.1)

pub overflow_add-result-then-in_ka-gt0 : goal.overflow_add-result-then-in_ka-gt0
overflow_add-result-then-in_ka-gt0 c =
    let x = c.args in
    omega (arith, c.last_programmed-in_ka.ensures, last_le x.spare.now 1 x.p.ka.first x.p.ka.count, c.requires.1)

pub returns : goal.returns
returns c =
    let y = c.last_programmed-in_ka.result in
    earlier y c.last_programmed.result _ _ _
    (earlier c.index_done-in_index.result y _ _ _ c.index_done-in_index.ensures (omega (arith, c.if-in_index-gt0.false)) c.last_programmed-in_ka.ensures)
    (omega (arith, c.if-in_ka-gt0.false)) c.last_programmed.ensures
