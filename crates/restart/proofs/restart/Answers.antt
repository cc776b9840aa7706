use Rattle.std.specs.Prelude.{Ok, Err}
use Rattle.std.proofs.lemmas.Result.{err_from_is_err_and}
use Rattle.state.specs.Contract.{volume}
use Rattle.restart.proofs.RestartLaws.{whole_effect}
use Rattle.restart.proofs.restart.Goals as goal

pub returns-in_err-cut : goal.returns-in_err-cut
returns-in_err-cut c =
    let x = c.args in
    let f = c.restart_for.new in
    let p = err_from_is_err_and c.from_residual.result c.from_residual.ensures.1 in
    rw (p.1, p.2)
    (whole_effect (volume x.s x.main.now x.spare.now x.ram.now) x.s (Err c.in_err-cut.field-0.0) f.main f.spare f.ram c.in_err-cut.ensures)

pub returns : goal.returns
returns c =
    let x = c.args in
    let f = c.restart_for.new in
    whole_effect (volume x.s x.main.now x.spare.now x.ram.now) x.s (Ok c.in_ok-cut.cut) f.main f.spare f.ram c.in_ok-cut.ensures
