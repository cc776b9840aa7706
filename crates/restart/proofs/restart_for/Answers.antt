use mathlib.Core.Path.{sym}
use Rattle.layout.specs.Hash.{fnv_family}
use Rattle.std.proofs.lemmas.Result.{err_from_is_err_and}
use Rattle.state.specs.Contract.{volume, state_is}
use Rattle.restart.proofs.RestartLaws.{short_cut, unknown_cut, none_refused, none_found}
use Rattle.restart.proofs.restart_for.Goals as goal

pub returns-then-ram-lt-HEADER_SIZE : goal.returns-then-ram-lt-HEADER_SIZE
returns-then-ram-lt-HEADER_SIZE c =
    let x = c.args in
    short_cut fnv_family x.budget (volume x.s x.main.now x.spare.now x.ram.now) c.if-ram-lt-HEADER_SIZE.true

-- ---- behind refusal 2: what the header says

pub returns-in_err-judge-in-Nothing : goal.returns-in_err-judge-in-Nothing
returns-in_err-judge-in-Nothing c =
    let x = c.args in
    let p = err_from_is_err_and c.from_residual.result c.from_residual.ensures.1 in
    rw (p.1, p.2)
    (none_refused fnv_family x.budget (volume x.s x.main.now x.spare.now x.ram.now) c.if-ram-lt-HEADER_SIZE.false (sym c.in-Nothing.ensures)
    (state_is c.state_in-found.result) c.state_in-found.ensures c.in_err-judge-in-Nothing.field-0.0 (sym c.in_err-judge-in-Nothing.ensures.equal))

pub returns-in_ok-judge-in-Nothing : goal.returns-in_ok-judge-in-Nothing
returns-in_ok-judge-in-Nothing c =
    let x = c.args in
    rw c.cut_after.ensures
    (none_found fnv_family x.budget (volume x.s x.main.now x.spare.now x.ram.now) c.if-ram-lt-HEADER_SIZE.false (sym c.in-Nothing.ensures)
    (state_is c.state_in-found.result) c.state_in-found.ensures c.in_ok-judge-in-Nothing.field-0 c.in_ok-judge-in-Nothing.ensures.fits)

pub returns-in-Unknown : goal.returns-in-Unknown
returns-in-Unknown c =
    let x = c.args in
    unknown_cut fnv_family x.budget (volume x.s x.main.now x.spare.now x.ram.now) c.if-ram-lt-HEADER_SIZE.false (sym c.in-Unknown.ensures)
