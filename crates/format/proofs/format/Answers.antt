use Rattle.std.specs.Prelude.{Ok, Err}
use Rattle.std.proofs.lemmas.Result.{err_from_is_err_and}
use Rattle.geometry.specs.Shape.{sizes_is}
use Rattle.state.specs.Contract.{volume}
use Rattle.format.proofs.FormatLaws.{whole_effect}
use Rattle.format.proofs.format.Goals as goal

pub returns-in_err-cut : goal.returns-in_err-cut
returns-in_err-cut c =
    let x = c.args in
    let f = c.format_for.new in
    let p = err_from_is_err_and c.from_residual.result c.from_residual.ensures.1 in
    rw (p.1, p.2)
    (whole_effect (volume x.old x.main.now x.spare.now x.ram.now) (sizes_is x.sizes) x.old (Err c.in_err-cut.field-0.0) f.main f.spare f.ram c.in_err-cut.ensures)

pub returns : goal.returns
returns c =
    let x = c.args in
    let f = c.format_for.new in
    whole_effect (volume x.old x.main.now x.spare.now x.ram.now) (sizes_is x.sizes) x.old (Ok c.in_ok-cut.cut) f.main f.spare f.ram c.in_ok-cut.ensures
