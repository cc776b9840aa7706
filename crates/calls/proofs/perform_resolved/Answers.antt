use mathlib.Core.Path.{◌≡◌, refl, sym, ap, ◌∙◌}
use Rattle.std.proofs.lemmas.Result.{err_from_is_err_and}
use Rattle.std.specs.Prelude.{Result, Ok}
use Rattle.layout.specs.Calls.{key_of, Volume}
use Rattle.layout.specs.Header.{on_pages}
use Rattle.geometry.specs.Shape.{shape}
use Rattle.state.specs.Contract.{volume, call_of}
use Rattle.state.specs.declared.Request.{Request}
use Rattle.state.specs.declared.Refusal.{Refusal}
use Rattle.changes.specs.Room.{room_told}
use Rattle.changes.specs.declared.Task.{Task}
use Rattle.changes.proofs.ChangeLaws.{change_full}
use Rattle.calls.specs.Resolve.{resolved_of, ResolvedFits}
use Rattle.calls.specs.Request.{decision_of, Decided}
use Rattle.calls.specs.declared.Resolved.{Resolved}
use Rattle.calls.proofs.CallsLaws.{decided_by}
use Rattle.calls.proofs.RequestLaws.{change_refused, call_refused, call_changes, refused_cut_lem}
use Rattle.calls.proofs.perform_resolved.Goals as goal

-- ---- what is decided

-- 1, 2, 10 or 8
pub returns-in_err-r : goal.returns-in_err-r
returns-in_err-r c =
    let x = c.args in
    let v = volume x.s x.main.now x.spare.now x.ram.now in
    let i = c.in_err-r in
    let p = err_from_is_err_and c.from_residual.result c.from_residual.ensures.1 in
    rw (p.1, p.2)
    (refused_cut_lem v (call_of x.q) x.budget i.field-0.0 (on_pages v)
    (call_refused v x.q x.r c.requires.0 i.field-0.0 (ap (decided_by x.q) i.was)))

-- 3 or 4
pub returns-in_err-edit : goal.returns-in_err-edit
returns-in_err-edit c =
    let x = c.args in
    let v = volume x.s x.main.now x.spare.now x.ram.now in
    let i = c.in_err-edit in
    let R = c.from_residual-in_err-edit in
    let p = err_from_is_err_and R.result R.ensures.1 in
    rw (p.1, p.2)
    (refused_cut_lem v (call_of x.q) x.budget i.field-0.0 (on_pages v)
    (call_refused v x.q x.r c.requires.0 i.field-0.0 (ap (decided_by x.q) c.in_ok-r.was ∙ sym i.ensures)))

-- a change
changes : (v : Volume) (q : Request) (r : Result Resolved Refusal) (s : Resolved) → r ≡ Ok s → (t : Task) → s.g ≡ t.g
    → (r ≡ resolved_of v (key_of (call_of q))) × ResolvedFits (on_pages v) r → Ok t.edit ≡ decision_of q s.live → Decided t q v
changes v q r s r_is t g_is known is = rw g_is at (call_changes v q r known.0 known.1 s t.edit r_is (sym is))

-- 5 and 6
pub returns-in_err-room_refusal : goal.returns-in_err-room_refusal
returns-in_err-room_refusal c =
    let x = c.args in
    let v = volume x.s x.main.now x.spare.now x.ram.now in
    let w = on_pages v in
    let t : Task = record { g = c.in_ok-r.r.g; state = x.s; edit = c.in_ok-edit.edit } in
    let i = c.in_err-room_refusal in
    let D = changes v x.q x.r c.in_ok-r.r c.in_ok-r.was t refl c.requires c.in_ok-edit.ensures in
    let R = c.from_residual-in_err-room_refusal in
    let p = err_from_is_err_and R.result R.ensures.1 in
    rw (p.1, p.2)
    (refused_cut_lem v (call_of x.q) x.budget i.field-0.0 w
    (change_refused v (call_of x.q) (shape t.g) w t.edit D.1 i.field-0.0 (change_full t.g w t.edit i.field-0.0 i.ensures)))

pub perform_planned-requires : goal.perform_planned-requires
perform_planned-requires c =
    let x = c.args in
    let t : Task = record { g = c.in_ok-r.r.g; state = x.s; edit = c.in_ok-edit.edit } in (
      changes (volume x.s x.main.now x.spare.now x.ram.now) x.q x.r c.in_ok-r.r c.in_ok-r.was t refl c.requires c.in_ok-edit.ensures,
      room_told (shape t.g) x.s.records x.s.deletions t.edit c.in_ok-room_refusal.ensures,
    )

pub append_change-requires : goal.append_change-requires
append_change-requires c =
    let x = c.args in
    let t : Task = record { g = c.in_ok-r.r.g; state = x.s; edit = c.in_ok-edit.edit } in (
      changes (volume x.s x.main.now x.spare.now x.ram.now) x.q x.r c.in_ok-r.r c.in_ok-r.was t refl c.requires c.in_ok-edit.ensures,
      room_told (shape t.g) x.s.records x.s.deletions t.edit c.in_ok-room_refusal.ensures,
      sym c.programs.ensures ∙ c.if-programs.false,
    )
