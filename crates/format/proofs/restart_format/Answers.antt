use mathlib.Core.Path.{refl, sym, ap}
use Rattle.layout.specs.Flash.{flash_of}
use Rattle.layout.specs.Hash.{fnv_family}
use Rattle.layout.specs.Budgets.{memory}
use Rattle.geometry.specs.Shape.{sizes_is}
use Rattle.state.specs.Contract.{volume, state_is}
use Rattle.std.proofs.lemmas.Result.{err_from_is_err_and}
use Rattle.format.proofs.FormatLaws.{restart_refused_cut, restart_ran}
use Rattle.format.proofs.restart_format.Goals as goal

pub returns-in_err-g : goal.returns-in_err-g
returns-in_err-g c =
    let x = c.args in
    let p = err_from_is_err_and c.from_residual.result c.from_residual.ensures.1 in
    rw (p.1, p.2)
    (restart_refused_cut fnv_family x.budget (volume x.s x.main.now x.spare.now x.ram.now) (sizes_is x.sizes) c.in_err-g.field-0.0 c.requires.0 c.requires.1
    (sym c.in_err-g.ensures.equal))

pub returns : goal.returns
returns c =
    let x = c.args in
    let f = c.finish-p in
    rw c.cut_after.ensures
    (restart_ran x.budget (volume x.s x.main.now x.spare.now x.ram.now) (sizes_is x.sizes) c.in_ok-g.g c.in_ok-g.ensures.fits
    (memory (flash_of f.new.main f.new.spare) f.new.ram) f.result x.s
    c.fresh_state.result refl (ap state_is c.fresh_state.ensures) fnv_family c.requires.0 c.requires.1
    (f.ensures x.s))
