use native.Mathlib.Omega.{arith}
use Prim.Native.Nat.{◌<◌}
use Rattle.layout.specs.Flash.{flash_of}
use Rattle.plan.specs.Segments.{next_set}
use Rattle.plan.specs.Groups.{turn_of, turn_span, steps_few, few_sectors, next_part, of_page, shared_at}
use Rattle.plan.proofs.NextSet.group_run.Goals as goal

pub up_to-some-requires : goal.up_to-some-requires
up_to-some-requires c =
    let x = c.args in
    let n = c.at_once-n in
    let f = steps_few n.result n.ensures.1 in
    let l = few_sectors x.self.chip.unit x.self.set x.self.sector x.part.to _ _ c.requires.next_fits.0 in
    (f.0, f.1, omega (arith, l), omega arith)

pub page_part-requires : goal.page_part-requires
page_part-requires c =
    let l = c.loop-j in
    let x = c.args in
    let n = c.at_once-n in
    let some = c.up_to-some in
    let T = turn_of l.j n.result x.part.to some.result (steps_few n.result n.ensures.1).0 (omega arith) some.ensures in
    let u = x.self.chip.unit in
    let set = x.self.set in
    let F = c.requires.next_fits.0 in
    let h : l.j < x.part.to = omega arith in
    record {
      next_fits = (next_part u set x.self.sector x.part.to some.result.to _ _ _ _ F T.most l.auto.main l.auto.spare, omega (arith, T.first, T.more));
      of_page = rw some.ensures (of_page u l.j n.result x.part.to n.ensures.1 n.ensures.2 h);
      shares = rw T.first (shared_at u set x.self.sector x.part.to x.main.now x.spare.now l.main l.spare F x.part.from l.j _
          l.invariant.begun h (c.requires.beside l.j l.invariant.begun h) l.invariant.so_far l.invariant.shared);
    }

pub loop-j-preserved : goal.loop-j-preserved
loop-j-preserved c =
    let l = c.loop-j in
    let x = c.args in
    let n = c.at_once-n in
    let some = c.up_to-some in
    let T = turn_of l.j n.result x.part.to some.result (steps_few n.result n.ensures.1).0 (omega arith) some.ensures in
    let u = x.self.chip.unit in record {
      begun = omega (arith, T.more);
      within = T.most;
      so_far = turn_span u (next_set u x.self.set x.self.sector) x.part.from l.j some.result (flash_of x.main.now x.spare.now)
          T.first l.invariant.begun (omega (arith, T.more)) l.invariant.so_far c.page_part.ensures;
      shared = l.invariant.shared;
    }
