use mathlib.Core.Path.{◌≡◌, refl, ap}
use Prim.Native.Nat.{ℕ, suc, ◌+◌, ◌-◌}
use native.Mathlib.Omega.{arith}
use Rattle.std.proofs.lemmas.Result.{err_from_is_err_and}
use Rattle.layout.specs.Geometry as layout
use Rattle.layout.specs.Flash.{flash_of}
use Rattle.layout.specs.Header.{on_pages, header_bytes, intent_words}
use Rattle.layout.specs.Budgets.{memory}
use Rattle.geometry.specs.Shape.{shape}
use Rattle.state.specs.Contract.{state_is, call_of}
use Rattle.changes.specs.Edits.{edit_is}
use Rattle.changes.specs.Tasks.{changed, task_on}
use Rattle.calls.proofs.CallsLaws.{header_fits}
use Rattle.calls.proofs.FinishLaws.{intent_length}
use Rattle.calls.proofs.RequestLaws.{change_refused, change_accepted, refused_cut_lem, none_cut, some_cut, told_cut_lem, fits_still, ran_still}
use Rattle.state.specs.Judge.{fits_shape}
use Rattle.calls.proofs.perform_planned.Goals as goal

-- 7
pub returns-in_err-fresh_refusal : goal.returns-in_err-fresh_refusal
returns-in_err-fresh_refusal c =
    let x = c.args in
    let v = task_on x.t x.main.now x.spare.now x.ram.now in
    let w = on_pages v in
    let i = c.in_err-fresh_refusal in
    let p = err_from_is_err_and c.from_residual.result c.from_residual.ensures.1 in
    rw (p.1, p.2)
    (refused_cut_lem v (call_of x.q) x.budget i.field-0.0 w
    (change_refused v (call_of x.q) (shape x.t.g) w x.t.edit c.requires.0.1 i.field-0.0
    (i.ensures w.flash.main w.ram c.requires.0.0.long.read.ram_fits)))

-- ---- a change that is accepted

pub returns-then-budget-eq0 : goal.returns-then-budget-eq0
returns-then-budget-eq0 c =
    let x = c.args in
    let v = task_on x.t x.main.now x.spare.now x.ram.now in
    let w = on_pages v in
    let is = change_accepted v (call_of x.q) (shape x.t.g) w x.t.edit c.requires.0.1 in
    rw c.cut_at.ensures
    (none_cut v (call_of x.q) _ (is (c.in_ok-fresh_refusal.ensures w.flash.main w.ram c.requires.0.0.long.read.ram_fits)) refl x.budget c.if-budget-eq0.true)

pub intend-requires : goal.intend-requires
intend-requires c =
    let x = c.args in
    header_fits (task_on x.t x.main.now x.spare.now x.ram.now) x.t.g c.requires.0.0

-- the intent is stored
pub finish-r-requires-clause-header_size_in_bounds : goal.finish-r-requires-clause-header_size_in_bounds
finish-r-requires-clause-header_size_in_bounds c =
    let x = c.args in
    fits_still x.main.now x.spare.now x.ram.now _ (header_bytes (state_is x.t.state) (intent_words (call_of x.q))) c.intend.ensures
    (intent_length (state_is x.t.state) (call_of x.q)) x.t.state x.t.g c.requires.0.0

-- ---- what the steps behind it leave

budgeted : (b : ℕ) → (b ≡ 0 → ⊥) → b ≡ suc (b - 1)
budgeted b some = omega (arith, some)

pub returns : goal.returns
returns c =
    let x = c.args in
    let v = task_on x.t x.main.now x.spare.now x.ram.now in
    let w = on_pages v in
    let whole = changed (shape x.t.g) w (edit_is x.t.edit) 0 in
    let is = change_accepted v (call_of x.q) (shape x.t.g) w x.t.edit c.requires.0.1 in
    let F = c.finish-r in
    let p = F.result in
    let N = c.counted_state in
    let after = memory (flash_of F.new.main F.new.spare) F.new.ram in
    let ran = ran_still x.main.now x.spare.now x.ram.now _ (header_bytes (state_is x.t.state) (intent_words (call_of x.q))) c.intend.ensures
    (intent_length (state_is x.t.state) (call_of x.q)) x.t (layout.unit_of v.state.sizes) (x.budget - 1) after p
    (ap (λ (g : layout.Geometry). g.u) (fits_shape w x.t.g c.requires.0.0)) F.ensures in
    rw c.cut_after.ensures
    (told_cut_lem p.finished (p.steps + 1) N.result x.t.state F.new.main F.new.spare F.new.ram whole.volume.state _
    (ap state_is N.ensures)
    (some_cut v (call_of x.q) whole (is (c.in_ok-fresh_refusal.ensures w.flash.main w.ram c.requires.0.0.long.read.ram_fits)) refl
    (x.budget - 1) x.budget (budgeted x.budget c.if-budget-eq0.false) after p ran))
