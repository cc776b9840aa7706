use native.Mathlib.Omega.{arith}
use Rattle.plan.proofs.DoneLaws.{last_le}
use Rattle.plan.proofs.index_done.Goals as goal

pub overflow_add-result : goal.overflow_add-result
overflow_add-result c =
    let x = c.args in
    omega (arith, c.last_programmed-in_set.ensures, last_le x.spare.now 1 x.s.set.first x.s.set.count)
