use Rattle.items.specs.Scans.{word_more}
use Rattle.items.proofs.rest_have.Goals as goal

-- A word more each turn.

pub loop-i-preserved : goal.loop-i-preserved
loop-i-preserved c =
    rw c.loop-i.invariant (word_more c.args.s.now c.args.at c.args.j c.loop-i.i c.get32.result c.get32.ensures)
