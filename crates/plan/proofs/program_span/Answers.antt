use native.Mathlib.Omega.{arith}
use Rattle.layout.specs.Flash.{flash_of}
use Rattle.plan.specs.Runs.{turn}
use Rattle.plan.proofs.program_span.Goals as goal

pub loop-j-preserved : goal.loop-j-preserved
loop-j-preserved g c =
    let l = c.loop-j in
    let x = c.args in
    let r = c.program.new in
    let S = g.S.Sectors in
    record {
      within = omega arith;
      so_far = turn (S.unit x.sectors.now) (S.planned x.sectors.now) x.part.from l.j (flash_of x.main.now x.spare.now)
          {y = flash_of r.main r.spare} l.auto.j l.invariant.so_far c.program.ensures;
    }
