use Rattle.kept.specs.Pieces.{none_yet, more_pieces}
use Rattle.kept.proofs.put_fourths.Goals as goal

pub loop-i-init : goal.loop-i-init
loop-i-init c =
    let x = c.args in
    none_yet x.chip.unit x.piece x.at x.fourths.now x.ram.now

pub loop-i-preserved : goal.loop-i-preserved
loop-i-preserved c =
    let x = c.args in
    let l = c.loop-i in
    let a = c.sector_address in
    more_pieces x.chip.unit x.piece x.at l.i a.result a.ensures x.fourths.now x.ram.now l.ram _
    c.loop-i-test.true c.requires.fourths_len.0 l.invariant c.copy_at.ensures
