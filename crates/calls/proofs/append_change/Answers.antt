use mathlib.Core.Path.{◌≡◌, refl, ap}
use mathlib.Core.Bool.{true, false}
use mathlib.Core.List.{List}
use Prim.Native.Nat.{ℕ, suc, ◌-◌, ◌≤◌}
use native.Mathlib.Omega.{arith}
use Rattle.layout.specs.Geometry as layout
use Rattle.layout.specs.Flash.{flash_of}
use Rattle.layout.specs.Hash.{fnv_family}
use Rattle.layout.specs.Header.{pages, on_pages, intended, header_bytes, intent_words}
use Rattle.layout.specs.Budgets.{result_of, memory}
use Rattle.laws.specs.HeaderLaws.{pages_part}
use Rattle.planning.specs.Edits.{programs_in}
use Rattle.geometry.specs.Shape.{shape}
use Rattle.state.specs.Contract.{state_is, call_of}
use Rattle.state.specs.declared.Progress.{Progress}
use Rattle.state.specs.declared.Request.{Request}
use Rattle.changes.specs.Edits.{edit_is}
use Rattle.changes.specs.Tasks.{HasRoom, changed, task_on, task_slots, task_result}
use Rattle.changes.specs.declared.Task.{Task}
use Rattle.changes.proofs.ChangeLaws.{change_nothing}
use Rattle.changes.proofs.CarryLaws.{carried_nothing}
use Rattle.calls.specs.Request.{Decided}
use Rattle.calls.proofs.CallsLaws.{header_fits}
use Rattle.calls.proofs.FinishLaws.{intent_length, ran_none, ran_all, pages_back}
use Rattle.calls.proofs.RequestLaws.{change_accepted, none_cut, some_cut, told_cut_lem, fits_still, ran_still}
use Rattle.state.specs.Judge.{fits_shape}
use Rattle.calls.proofs.append_change.Goals as goal

-- ---- it is accepted: 7 is asked of no sector

accepts : (t : Task) (q : Request) (main spare ram : List ℕ) → Decided t q (task_on t main spare ram) → HasRoom t
    → programs_in (shape t.g) (task_slots t) ≡ false
    → result_of fnv_family (task_on t main spare ram) (call_of q) ≡ changed (shape t.g) (on_pages (task_on t main spare ram)) (edit_is t.edit) 0
accepts t q main spare ram D room none =
    let v = task_on t main spare ram in
    change_accepted v (call_of q) (shape t.g) (on_pages v) t.edit D.1
    (change_nothing t.g (on_pages v) t.edit room none)

pub returns-then-budget-eq0 : goal.returns-then-budget-eq0
returns-then-budget-eq0 c =
    let x = c.args in
    rw c.cut_at.ensures
    (none_cut (task_on x.t x.main.now x.spare.now x.ram.now) (call_of x.q) _
    (accepts x.t x.q x.main.now x.spare.now x.ram.now c.requires.0 c.requires.1 c.requires.2) refl x.budget c.if-budget-eq0.true)

pub intend-requires : goal.intend-requires
intend-requires c =
    let x = c.args in
    header_fits (task_on x.t x.main.now x.spare.now x.ram.now) x.t.g c.requires.0.0

-- ---- the intent is stored

pub returns-then-budget-eq1 : goal.returns-then-budget-eq1
returns-then-budget-eq1 c =
    let x = c.args in
    let v = task_on x.t x.main.now x.spare.now x.ram.now in
    let chip = flash_of x.main.now x.spare.now in
    let whole = changed (shape x.t.g) (on_pages v) (edit_is x.t.edit) 0 in
    rw c.cut_at-then-budget-eq1.ensures
    (some_cut v (call_of x.q) whole
    (accepts x.t x.q x.main.now x.spare.now x.ram.now c.requires.0 c.requires.1 c.requires.2) refl 0 x.budget c.if-budget-eq1.true
    (memory chip c.intend.new.ram) (record { steps = 0; finished = false })
    (ran_none (layout.unit_of v.state.sizes) whole (memory chip (intended v (call_of x.q))) (memory chip c.intend.new.ram)
    (ap (memory chip) c.intend.ensures)))

pub append-requires-clause-room : goal.append-requires-clause-room
append-requires-clause-room c =
    let x = c.args in
    let f = (fits_still x.main.now x.spare.now x.ram.now c.intend.new.ram (header_bytes (state_is x.t.state) (intent_words (call_of x.q)))
    c.intend.ensures (intent_length (state_is x.t.state) (call_of x.q)) x.t.state x.t.g c.requires.0.0).1 in
    rw (pages_part c.intend.new.ram c.pages_end-n.result c.pages_end-n.ensures) (c.requires.1, f.long.read.ram_fits)

-- ---- all of it

budgeted : (b : ℕ) → (b ≡ 0 → ⊥) → (b ≡ 1 → ⊥) → (b ≡ suc (b - 1)) × (1 ≤ b - 1)
budgeted b some more = (omega (arith, some), omega (arith, some, more))

abbrev done : Progress
done = record { steps = 1; finished = true }

pub returns : goal.returns
returns c =
    let x = c.args in
    let v = task_on x.t x.main.now x.spare.now x.ram.now in
    let chip = flash_of x.main.now x.spare.now in
    let whole = changed (shape x.t.g) (on_pages v) (edit_is x.t.edit) 0 in
    let b = x.budget - 1 in
    let some = budgeted x.budget c.if-budget-eq0.false c.if-budget-eq1.false in
    let l = c.intend.new.ram in
    let n = c.pages_end-n in
    let N = c.counted_state-next in
    let intent = header_bytes (state_is x.t.state) (intent_words (call_of x.q)) in
    let size = intent_length (state_is x.t.state) (call_of x.q) in
    let f = fits_still x.main.now x.spare.now x.ram.now l intent c.intend.ensures size x.t.state x.t.g c.requires.0.0 in
    let r = task_result x.t x.main.now x.spare.now (pages l) 0 in
    let ran = ran_still x.main.now x.spare.now x.ram.now l intent c.intend.ensures size x.t (layout.unit_of v.state.sizes) b
    (memory chip c.clear.new.ram) done (ap (λ (g : layout.Geometry). g.u) (fits_shape (on_pages v) x.t.g c.requires.0.0))
    (ran_all x.t.g.chip.unit r b chip chip (record { steps = 0; finished = true }) l c.append.new.ram _
    (carried_nothing x.t.g (task_on x.t x.main.now x.spare.now (pages l)) x.t.edit 0 b
    (omega (arith, some.1)) (omega arith) c.requires.2 _ (rw (pages_part l n.result n.ensures) at (c.append.ensures x.main.now x.spare.now)))
    (pages_back l c.append.new.ram n.result n.ensures) refl f.0 c.clear.new.ram (rw N.ensures at c.clear.ensures)) in
    told_cut_lem true 2 N.result x.t.state x.main.now x.spare.now c.clear.new.ram whole.volume.state _ (ap state_is N.ensures)
    (some_cut v (call_of x.q) whole (accepts x.t x.q x.main.now x.spare.now x.ram.now c.requires.0 c.requires.1 c.requires.2) refl b
    x.budget some.0 (memory chip c.clear.new.ram) done ran)
