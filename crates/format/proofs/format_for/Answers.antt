use native.Mathlib.Omega.{arith}
use mathlib.Core.Path.{refl, sym, ap}
use mathlib.Core.Bool.{false}
use Prim.Native.Nat.{◌-◌}
use Rattle.layout.specs.Flash.{flash_of}
use Rattle.layout.specs.Calls.{formatted}
use Rattle.layout.specs.Header.{on_pages, format_intended}
use Rattle.layout.specs.Budgets.{store, memory, last_steps}
use Rattle.geometry.specs.Shape.{sizes_is}
use Rattle.state.specs.Contract.{volume, state_is}
use Rattle.std.proofs.lemmas.Result.{err_from_is_err_and}
use Rattle.state.specs.declared.State.{State}
use Rattle.state.proofs.RunLaws.{ran_none}
use Rattle.format.proofs.FormatLaws.{header_fits, steps_few, intended_fits, intended_ran, format_refused_cut, format_ran}
use Rattle.format.proofs.format_for.Goals as goal

pub returns-in_err-g : goal.returns-in_err-g
returns-in_err-g c =
    let x = c.args in
    let p = err_from_is_err_and c.from_residual.result c.from_residual.ensures.1 in
    rw (p.1, p.2)
    (format_refused_cut x.budget (volume x.old x.main.now x.spare.now x.ram.now) (sizes_is x.sizes) c.in_err-g.field-0.0
    (sym c.in_err-g.ensures.equal))

pub returns-then-budget-eq0 : goal.returns-then-budget-eq0
returns-then-budget-eq0 c =
    let x = c.args in
    let v = volume x.old x.main.now x.spare.now x.ram.now in
    let sizes = sizes_is x.sizes in
    let fresh : State = record { sizes = x.sizes; records = 0; deletions = 0 } in
    rw c.cut_after.ensures
    (format_ran x.budget v sizes c.in_ok-g.g c.in_ok-g.ensures.fits (memory v.flash v.ram) (record { steps = 0; finished = false })
    x.old fresh refl refl
    (ran_none _ x.budget (store (format_intended v sizes)) (last_steps (formatted (on_pages v) sizes)) _ _ (omega (arith, c.if-budget-eq0.true)) refl refl))

pub intend_format-requires : goal.intend_format-requires
intend_format-requires c =
    let x = c.args in
    header_fits (volume x.old x.main.now x.spare.now x.ram.now) (sizes_is x.sizes) c.in_ok-g.g c.in_ok-g.ensures.fits

pub finish-p-requires : goal.finish-p-requires
finish-p-requires c =
    let x = c.args in
    intended_fits (volume x.old x.main.now x.spare.now x.ram.now) (sizes_is x.sizes) c.in_ok-g.g c.in_ok-g.ensures.fits _ c.intend_format.ensures

pub overflow_add-after : goal.overflow_add-after
overflow_add-after c =
    let x = c.args in
    omega (arith, steps_few (volume x.old x.main.now x.spare.now x.ram.now) (sizes_is x.sizes) c.in_ok-g.g c.in_ok-g.ensures.fits _ _ _ _ _ (c.finish-p.ensures x.old))

pub returns : goal.returns
returns c =
    let x = c.args in
    let v = volume x.old x.main.now x.spare.now x.ram.now in
    let sizes = sizes_is x.sizes in
    let fits = c.in_ok-g.ensures.fits in
    let f = c.finish-p in
    rw c.cut_after-2.ensures
    (format_ran x.budget v sizes c.in_ok-g.g fits (memory (flash_of f.new.main f.new.spare) f.new.ram) _ x.old c.fresh_state.result
    refl (ap state_is c.fresh_state.ensures)
    (intended_ran v sizes c.in_ok-g.g fits x.budget (x.budget - 1) _ _ f.result _ (omega (arith, c.if-budget-eq0.false))
    c.intend_format.ensures (f.ensures x.old) refl refl))
