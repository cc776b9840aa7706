use mathlib.Core.Path.{◌≡◌, refl, sym, ap, ◌∙◌}
use Prim.Native.Nat.{ℕ, ◌≤◌}
use native.Mathlib.Omega.{arith}
use mathlib.Core.List.{List}
use lib.ListN.{length}
use Rattle.std.proofs.lemmas.Result.{err_from_is_err_and}
use Rattle.std.specs.Prelude.{Result, Ok, Err}
use Rattle.layout.specs.Geometry as layout
use Rattle.layout.specs.Flash.{flash_of}
use Rattle.layout.specs.Hash.{fnv_family}
use Rattle.layout.specs.Calls as calls
use Rattle.layout.specs.Calls.{key_of, Volume, change_plan, change_by}
use Rattle.layout.specs.Later.{commit_later, call_again}
use Rattle.layout.specs.Header.{pages, on_pages, state_in}
use Rattle.layout.specs.Budgets.{pending_on}
use Rattle.laws.specs.Done.{done_le}
use Rattle.geometry.specs.Shape.{shape}
use Rattle.geometry.specs.declared.volume.Geometry.{Geometry}
use Rattle.keys.specs.Key.{key_is}
use Rattle.keys.specs.declared.Key.{Key}
use Rattle.state.specs.Contract.{state_is, call_of, volume}
use Rattle.state.specs.declared.State.{State}
use Rattle.state.specs.Judge.{judgement_of, VolumeFits, fits_shape}
use Rattle.state.specs.declared.Request.{Request}
use Rattle.state.specs.declared.Refusal.{Refusal}
use Rattle.changes.specs.Edits.{edit_is}
use Rattle.changes.specs.Room.{room_told}
use Rattle.changes.specs.Tasks.{changed}
use Rattle.changes.specs.declared.Edit.{Edit}
use Rattle.calls.specs.Resolve.{resolved_by}
use Rattle.calls.specs.declared.Resolved.{Resolved}
use Rattle.calls.proofs.CallsLaws.{decided_by, done_by, done_change, again_done}
use Rattle.calls.proofs.AgainLaws.{again_full, again_later, state_either, restart_refused, restart_ran}
use Rattle.calls.proofs.restart_change.Goals as goal

-- ---- the volume that the restart goes by

-- it has the header's state
pending_is : (s : State) (main spare ram : List ℕ) (old : State) → state_is old ≡ state_in ram
    → on_pages (volume old main spare ram) ≡ pending_on (volume s main spare ram)
pending_is s main spare ram old e =
    ap (λ (z : layout.State). record { state = z; flash = flash_of main spare; ram = pages ram }) e

module _ (w : Volume) (q : Request) where
  -- what is done of it, by what is decided
  abbrev done : Result Edit Refusal → calls.Result
  done d = done_by commit_later w (layout.geometry w.state.sizes) d

  module _ (j : Result Geometry Refusal) (judged : j ≡ judgement_of w) (key : Key) (key_of_is : key_is key ≡ key_of (call_of q))
      (r : Result Resolved Refusal) (r_is : r ≡ resolved_by j w (key_is key)) where
    decided : (d : Result Edit Refusal) → d ≡ decided_by q r → call_again fnv_family w (call_of q) ≡ done d
    decided d d_is =
        again_done w q
        ∙ ap (λ (i : Result Geometry Refusal). done (decided_by q (resolved_by i w (key_of (call_of q))))) (sym judged)
        ∙ ap (λ (k : ℕ). done (decided_by q (resolved_by j w k))) (sym key_of_is)
        ∙ ap (λ (x : Result Resolved Refusal). done (decided_by q x)) (sym r_is) ∙ ap done (sym d_is)

    -- a change that there is room for, or not
    changes : (g : Geometry) (e : Edit) → Ok e ≡ decided_by q r → VolumeFits w g
        → call_again fnv_family w (call_of q) ≡ change_by commit_later fnv_family (shape g) w (edit_is e)
    changes g e e_is fits = decided (Ok e) e_is ∙ done_change commit_later w g e fits

-- 1, 2 or 8
pub returns-in_err-r : goal.returns-in_err-r
returns-in_err-r c =
    let x = c.args in
    let v = volume x.s x.main.now x.spare.now x.ram.now in
    let w = on_pages (volume c.state_in-old.result x.main.now x.spare.now x.ram.now) in
    let on_is = pending_is x.s x.main.now x.spare.now x.ram.now c.state_in-old.result c.state_in-old.ensures in
    let J = c.judge-j in
    let i = c.in_err-r in
    let p = err_from_is_err_and c.from_residual.result c.from_residual.ensures.1 in
    rw (p.1, p.2)
    (restart_refused x.budget v (call_of x.q) c.requires.0 c.requires.1 w on_is i.field-0.0
    (decided w x.q J.result J.ensures.equal c.key_of.result c.key_of.ensures (Err i.field-0.0) i.ensures.equal (Err i.field-0.0) refl))

pub returns-in_err-edit : goal.returns-in_err-edit
returns-in_err-edit c =
    let x = c.args in
    let v = volume x.s x.main.now x.spare.now x.ram.now in
    let w = on_pages (volume c.state_in-old.result x.main.now x.spare.now x.ram.now) in
    let on_is = pending_is x.s x.main.now x.spare.now x.ram.now c.state_in-old.result c.state_in-old.ensures in
    let J = c.judge-j in
    let i = c.in_err-edit in
    let R = c.from_residual-in_err-edit in
    let p = err_from_is_err_and R.result R.ensures.1 in
    rw (p.1, p.2)
    (restart_refused x.budget v (call_of x.q) c.requires.0 c.requires.1 w on_is i.field-0.0
    (decided w x.q J.result J.ensures.equal c.key_of.result c.key_of.ensures (Ok c.in_ok-r.r) c.in_ok-r.ensures.equal
    (Err i.field-0.0) i.ensures))

-- 5 or 6
pub returns-in_err-room_refusal : goal.returns-in_err-room_refusal
returns-in_err-room_refusal c =
    let x = c.args in
    let v = volume x.s x.main.now x.spare.now x.ram.now in
    let w = on_pages (volume c.state_in-old.result x.main.now x.spare.now x.ram.now) in
    let on_is = pending_is x.s x.main.now x.spare.now x.ram.now c.state_in-old.result c.state_in-old.ensures in
    let J = c.judge-j in
    let g = c.in_ok-r.r.g in
    let e = c.in_ok-edit.edit in
    let i = c.in_err-room_refusal in
    let R = c.from_residual-in_err-room_refusal in
    let p = err_from_is_err_and R.result R.ensures.1 in
    rw (p.1, p.2)
    (restart_refused x.budget v (call_of x.q) c.requires.0 c.requires.1 w on_is i.field-0.0
    (changes w x.q J.result J.ensures.equal c.key_of.result c.key_of.ensures (Ok c.in_ok-r.r) c.in_ok-r.ensures.equal g e
    c.in_ok-edit.ensures c.in_ok-r.ensures.fits
    ∙ again_full (shape g) w e i.field-0.0 i.ensures))

-- ---- a change

pub plan_of-p-requires : goal.plan_of-p-requires
plan_of-p-requires c =
    let s = c.state_in-old.result in
    room_told (shape c.in_ok-r.r.g) s.records s.deletions c.in_ok-edit.edit c.in_ok-room_refusal.ensures

pub finish-progress-requires-clause-prepared : goal.finish-progress-requires-clause-prepared
finish-progress-requires-clause-prepared c =
    let x = c.args in
    let w = on_pages (volume c.state_in-old.result x.main.now x.spare.now x.ram.now) in
    let plan = change_plan fnv_family (shape c.in_ok-r.r.g) w (edit_is c.in_ok-edit.edit) in
    let few : c.done-from.result ≤ length plan
    = omega (arith, c.done-from.ensures x.main.now (pages x.ram.now) c.in_ok-r.ensures.fits.long.read.ram_fits, done_le x.spare.now plan) in
    (c.plan_of-p.ensures, few)

pub returns : goal.returns
returns c =
    let x = c.args in
    let v = volume x.s x.main.now x.spare.now x.ram.now in
    let w = on_pages (volume c.state_in-old.result x.main.now x.spare.now x.ram.now) in
    let on_is = pending_is x.s x.main.now x.spare.now x.ram.now c.state_in-old.result c.state_in-old.ensures in
    let J = c.judge-j in
    let g = c.in_ok-r.r.g in
    let f = c.in_ok-r.ensures.fits in
    let e = c.in_ok-edit.edit in
    let F = c.finish-progress in
    let is = changes w x.q J.result J.ensures.equal c.key_of.result c.key_of.ensures (Ok c.in_ok-r.r) c.in_ok-r.ensures.equal g e
    c.in_ok-edit.ensures f
    ∙ again_later (shape g) w e c.in_ok-room_refusal.ensures
    ∙ ap (changed (shape g) w (edit_is e)) (sym (c.done-from.ensures x.main.now (pages x.ram.now) f.long.read.ram_fits)) in
    rw (c.cut_after.ensures, c.counted_state.ensures, state_either F.result.finished _ x.s)
    (restart_ran x.budget v (call_of x.q) c.requires.0 c.requires.1 w on_is g.chip.unit _
    (ap (λ (h : layout.Geometry). h.u) (fits_shape w g f)) is refl _ F.result F.ensures)
