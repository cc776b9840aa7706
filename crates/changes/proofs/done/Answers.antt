use native.Mathlib.Omega.{arith}
use Rattle.changes.specs.Tasks.{task_on, task_slots}
use Rattle.changes.specs.Few.{edit_spare_fits, count_few}
use Rattle.changes.proofs.ChangeLaws.{done_told}
use Rattle.changes.proofs.done.Goals as goal

pub done-requires : goal.done-requires
done-requires c =
    let x = c.args in
    let P = c.requires in
    let few = count_few x.t.g (task_slots x.t) P.0.0 in
    rw P.0.1 (edit_spare_fits x.t.g x.spare.now P.1 (task_slots x.t) P.0.0, omega (arith, few))

pub returns : goal.returns
returns c =
    let x = c.args in
    let P = c.requires in
    λ main ram long.
    done_told x.t.g (task_on x.t main x.spare.now ram) x.t.edit long
    x.p P.0.1 c.done.result c.done.ensures
