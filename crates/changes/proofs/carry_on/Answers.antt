use mathlib.Core.Path.{◌≡◌, refl, ap, ◌∙◌}
use mathlib.Core.List.{List}
use Prim.Native.Nat.{ℕ, ◌+◌, ◌≤◌}
use native.Mathlib.Omega.{arith}
use lib.ListN.{length}
use Rattle.geometry.specs.Shape.{shape}
use Rattle.plan.specs.declared.Span.{Span}
use Rattle.plan.specs.Plans.{PlanFits, count_fits, whole_of}
use Rattle.plan.specs.declared.Plan.{Plan}
use Rattle.planning.specs.declared.Slots.{Slots}
use Rattle.changes.specs.declared.Task.{Task}
use Rattle.state.specs.Judge.{VolumeFits}
use Rattle.planning.specs.Edits.{edit_fits}
use Rattle.changes.specs.Tasks.{task_on, task_slots, task_bytes, TaskFilters, task_plan, Prepared}
use Rattle.changes.proofs.CarryLaws.{plan_as, Parts, total_is, carried_all, carried_some}
use Rattle.changes.proofs.carry_on.Goals as goal

-- of a task on a volume that fits
module _ (t : Task) (p : Plan) (main spare ram : List ℕ) (V : VolumeFits (task_on t main spare ram) t.g) (R : Prepared t p) where
  -- the plan fits
  plan_fits : PlanFits p (length main) (length spare) (length ram)
  plan_fits =
      plan_as t.g p (task_slots t) _ _ _ R.1
      (edit_fits t.g main spare ram V.long (task_slots t) R.0)

  -- what is known of its places and bytes
  parts : (e : Slots) (new : List ℕ) → e ≡ task_slots t → new ≡ task_bytes t → Parts (shape t.g) (task_on t main spare ram) t.edit e new
  parts e new e_is new_is = record {
    pos = t.g.power.some;
    long = V.long.read.ram_fits;
    slots_are = e_is;
    new_is = new_is;
  }

  -- no more is done than is planned
  from_le : (new filters : List ℕ) → new ≡ task_bytes t → TaskFilters t ram filters → (total : Span) → total ≡ whole_of p
      → (from : ℕ) → from ≤ length (task_plan t main spare ram) → from ≤ total.to
  from_le new filters new_is F total whole_is from h =
      let e : total.to ≡ length (task_plan t main spare ram)
      = ap (λ (w : Span). w.to) whole_is
      ∙ total_is t.g (task_on t main spare ram) t.edit _ new (parts (task_slots t) new refl new_is) filters F p R.1 in
      omega (arith, e, h)

pub whole-requires : goal.whole-requires
whole-requires c =
    let x = c.args in
    count_fits _ _ _ _ (plan_fits x.t x.p x.main.now x.spare.now x.ram.now c.requires.volume_fits.0 c.requires.volume_fits.1) (omega arith)

pub overflow_sub-left : goal.overflow_sub-left
overflow_sub-left c =
    let x = c.args in
    from_le x.t x.p x.main.now x.spare.now x.ram.now c.requires.volume_fits.0 c.requires.volume_fits.1 c.new_bytes-new.result
    c.new_filters.new.filters c.new_bytes-new.ensures c.new_filters.ensures c.whole.result c.whole.ensures x.from c.requires.from_in_bounds

pub run-requires : goal.run-requires
run-requires c =
    let x = c.args in
    plan_fits x.t x.p x.main.now x.spare.now x.ram.now c.requires.volume_fits.0 c.requires.volume_fits.1

-- ---- after the operations

pub returns-then-budget-left : goal.returns-then-budget-left
returns-then-budget-left c =
    let x = c.args in
    let V = c.requires.volume_fits.0 in
    let R = c.requires.volume_fits.1 in
    let A = parts x.t x.p x.main.now x.spare.now x.ram.now V R (task_slots x.t) c.new_bytes-new.result refl c.new_bytes-new.ensures in
    let some = c.if-budget-left.true in
    let e : c.min.result ≡ x.budget = omega (arith, c.min.ensures, some) in
    carried_some x.t.g (task_on x.t x.main.now x.spare.now x.ram.now) x.t.edit (task_slots x.t) c.new_bytes-new.result A
    c.new_filters.new.filters c.new_filters.ensures x.p R.1 x.from x.budget
    c.whole.result.to (ap (λ (a : Span). a.to) c.whole.ensures) _ some (rw e at c.run.ensures)

pub returns : goal.returns
returns c =
    let x = c.args in
    let V = c.requires.volume_fits.0 in
    let R = c.requires.volume_fits.1 in
    let A = parts x.t x.p x.main.now x.spare.now x.ram.now V R c.slots.result c.new_bytes-new.result c.slots.ensures c.new_bytes-new.ensures in
    let all = c.if-budget-left.false in
    let l = from_le x.t x.p x.main.now x.spare.now x.ram.now V R c.new_bytes-new.result c.new_filters.new.filters c.new_bytes-new.ensures
    c.new_filters.ensures c.whole.result c.whole.ensures x.from c.requires.from_in_bounds in
    let e : x.from + c.min.result ≡ c.whole.result.to = omega (arith, c.min.ensures, all, l) in
    carried_all x.t.g (task_on x.t x.main.now x.spare.now x.ram.now) x.t.edit c.slots.result c.new_bytes-new.result A
    c.new_filters.new.filters c.new_filters.ensures x.p R.1 x.from x.budget
    c.whole.result.to (ap (λ (a : Span). a.to) c.whole.ensures) _ (omega (arith, all)) (rw e at c.run.ensures) _
    c.finish.ensures
