use Rattle.std.proofs.Common.{◌∙◌, sym}
use Rattle.flash.proofs.Laws.{fresh_more, fresh_end}
use Rattle.flash.proofs.all_fresh.Goals as goal

pub loop-i-preserved : goal.loop-i-preserved
loop-i-preserved c =
    let x = c.args in
    let l = c.loop-i in
    l.invariant ∙ fresh_more x.spare.now x.s x.stride x.k l.i l.all c.is_fresh-all.result c.loop-i-test.true c.is_fresh-all.ensures

pub returns : goal.returns
returns c =
    let x = c.args in
    sym (c.loop-i.invariant ∙ fresh_end x.spare.now x.s x.stride x.k c.loop-i.i c.loop-i.all c.loop-i-test.false)
