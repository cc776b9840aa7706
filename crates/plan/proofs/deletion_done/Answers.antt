use native.Mathlib.Omega.{arith}
use Rattle.plan.proofs.DoneLaws.{index_done_le}
use Rattle.plan.proofs.deletion_done.Goals as goal

pub overflow_add-result : goal.overflow_add-result
overflow_add-result c =
    let x = c.args in
    omega (arith, c.index_done-in_index.ensures, index_done_le x.p.da_index x.spare.now, c.requires.1)
