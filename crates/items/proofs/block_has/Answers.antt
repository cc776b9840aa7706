use Rattle.std.proofs.Common.{sym}
use Rattle.items.specs.Scans.{any_end, word_more}
use Rattle.items.proofs.block_has.Goals as goal

-- A word more each turn.

pub loop-i-init : goal.loop-i-init
loop-i-init g c = sym (any_end _)

pub loop-i-preserved : goal.loop-i-preserved
loop-i-preserved g c =
    rw c.loop-i.invariant (word_more c.args.s.now c.args.at c.args.j c.loop-i.i c.get32.result c.get32.ensures)
