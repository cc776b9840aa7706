use native.Mathlib.Omega.{arith}
use Prim.Native.Nat.{◌*◌}
use Rattle.layout.specs.Flash.{flash_of}
use Rattle.plan.specs.Segments.{next_set}
use Rattle.plan.specs.Groups.{turn_of, turn_span, next_part, beside}
use Rattle.plan.proofs.NextSet.set_run.Goals as goal

pub group_run-requires : goal.group_run-requires
group_run-requires c =
    let l = c.loop-j in
    let x = c.args in
    let n = c.pages_together-n in
    let some = c.up_to-some in
    let T = turn_of l.j (n.result * 4) x.part.to some.result (omega (arith, n.ensures.1)) (omega arith) some.ensures in
    record {
      next_fits = (
        next_part x.self.chip.unit x.self.set x.self.sector x.part.to some.result.to _ _ _ _ c.requires T.most l.auto.main l.auto.spare,
        omega (arith, T.first, T.more),
      );
      beside = rw (some.ensures, ← n.ensures.0) (beside l.j n.result x.part.to n.ensures.1 (omega arith));
    }

pub loop-j-preserved : goal.loop-j-preserved
loop-j-preserved c =
    let l = c.loop-j in
    let x = c.args in
    let n = c.pages_together-n in
    let some = c.up_to-some in
    let T = turn_of l.j (n.result * 4) x.part.to some.result (omega (arith, n.ensures.1)) (omega arith) some.ensures in
    let u = x.self.chip.unit in record {
      begun = omega (arith, T.more);
      within = omega (arith, T.most);
      so_far = turn_span u (next_set u x.self.set x.self.sector) x.part.from l.j some.result (flash_of x.main.now x.spare.now)
          T.first l.invariant.begun (omega (arith, T.more)) l.invariant.so_far c.group_run.ensures;
    }
