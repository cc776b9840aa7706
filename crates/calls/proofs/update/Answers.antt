use Rattle.std.proofs.lemmas.Result.{err_from_is_err_and}
use Rattle.state.specs.declared.Request.TheVariants.{Update}
use Rattle.calls.proofs.WholeLaws.{whole_ok, whole_err}
use Rattle.calls.proofs.update.Goals as goal

pub returns-in_err-c : goal.returns-in_err-c
returns-in_err-c c =
    let a = c.args in
    let n = c.perform_for.new in
    let p = err_from_is_err_and c.from_residual.result c.from_residual.ensures.1 in
    rw (p.1, p.2)
    (whole_err a.s (Update a.«record») a.main.now a.spare.now a.ram.now n.main n.spare n.ram c.in_err-c.field-0.0 c.in_err-c.ensures)

pub returns : goal.returns
returns c =
    let a = c.args in
    let n = c.perform_for.new in
    whole_ok a.s (Update a.«record») a.main.now a.spare.now a.ram.now n.main n.spare n.ram c.in_ok-c.c c.in_ok-c.ensures
