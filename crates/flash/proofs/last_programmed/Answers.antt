use Rattle.std.proofs.Common.{◌≡◌, ◌+◌, ◌-◌, ◌∙◌, sym, ap, not, arith}
use Rattle.flash.proofs.Laws.{last_none, last_here, last_below}
use Rattle.flash.proofs.last_programmed.Goals as goal

pub returns-then-not-is_fresh : goal.returns-then-not-is_fresh
returns-then-not-is_fresh c =
    let x = c.args in
    let k = c.loop-k.k in
    let e : k - 1 + 1 ≡ k = omega arith in
    e ∙ last_here x.spare.now x.first x.step k c.is_fresh.result (omega arith) c.is_fresh.ensures (ap not c.if-not-is_fresh.true)
    ∙ sym c.loop-k.invariant

pub loop-k-preserved : goal.loop-k-preserved
loop-k-preserved c =
    let x = c.args in
    c.loop-k.invariant ∙ last_below x.spare.now x.first x.step c.loop-k.k c.is_fresh.result (omega arith) c.is_fresh.ensures (ap not c.if-not-is_fresh.false)

pub returns : goal.returns
returns c =
    let x = c.args in
    last_none x.spare.now x.first x.step c.loop-k.k (omega arith) ∙ sym c.loop-k.invariant
