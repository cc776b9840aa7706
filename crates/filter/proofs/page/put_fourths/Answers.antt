use native.Mathlib.Omega.{arith}
use Rattle.filter.proofs.Pairs.{one_turn}
use Rattle.filter.proofs.page.put_fourths.Goals as goal

pub loop-i-preserved : goal.loop-i-preserved
loop-i-preserved c =
    let x = c.args in
    let z = c.fourth_size-piece in
    one_turn x.chip.unit z.result z.ensures x.chip.small c.loop-i.i x.f x.bits.now x.out.now
    c.loop-i.out _ c.loop-i-test.true c.requires.1 c.requires.2
    (λ k. omega (arith, c.type_inv.bits k)) c.loop-i.invariant c.copy_at.ensures
