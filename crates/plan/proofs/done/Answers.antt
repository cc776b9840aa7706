use native.Mathlib.Omega.{arith}
use Prim.Native.Nat.{ℕ, ◌+◌}
use mathlib.Core.Path.{ap, ◌∙◌}
use Rattle.plan.specs.Plans.{deletion_count}
use Rattle.plan.proofs.DoneLaws.{plan_done_is, record_done_le, later, earlier}
use Rattle.plan.proofs.done.Goals as goal

pub overflow_add-result : goal.overflow_add-result
overflow_add-result c =
    omega (arith, c.record_done-of_record.ensures, record_done_le c.args.spare.now c.args.p, c.deletion_count.ensures, c.requires.1)

pub returns-then-of_record-gt0 : goal.returns-then-of_record-gt0
returns-then-of_record-gt0 c =
    let x = c.args in
    plan_done_is x.spare.now x.p _
    (ap (λ (n : ℕ). n + c.record_done-of_record.result) c.deletion_count.ensures
    ∙ later c.record_done-of_record.result _ _ _ c.record_done-of_record.ensures c.if-of_record-gt0.true)

pub returns : goal.returns
returns c =
    let x = c.args in
    plan_done_is x.spare.now x.p _
    (earlier c.record_done-of_record.result c.deletion_done.result (deletion_count x.p) _ _ c.record_done-of_record.ensures
    (omega (arith, c.if-of_record-gt0.false)) c.deletion_done.ensures)
