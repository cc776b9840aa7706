use native.Mathlib.Omega.{arith}
use Prim.Native.Nat.{◌*◌}
use Rattle.filter.proofs.Rows.{has_position, tested_none, tested_more}
use Rattle.filter.proofs.groups.eights.Goals as goal

-- A position more each turn.

pub loop-p-init : goal.loop-p-init
loop-p-init c =
    let x = c.args in
    tested_none (has_position x.l x.bytes.now) x.ps.now x.first (x.n * 8) (omega (arith, c.requires.0))

pub loop-p-preserved : goal.loop-p-preserved
loop-p-preserved c =
    let x = c.args in
    let l = c.loop-p in
    tested_more (has_position x.l x.bytes.now) x.ps.now x.first (x.n * 8) l.p-index c.loop-p-test.true l.r c.position_bits-r.result l.invariant
    c.position_bits-r.ensures
