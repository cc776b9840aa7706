use native.Mathlib.Omega.{arith}
use Rattle.state.specs.Contract.{volume}
use Rattle.header.proofs.Laws.{header_fits}
use Rattle.header.proofs.judge.Goals as goal

pub word-requires : goal.word-requires
word-requires c =
    let x = c.args in
    (header_fits (volume x.s x.main.now x.spare.now x.ram.now) c.in_ok-g.g c.in_ok-g.ensures.fits, omega arith)
