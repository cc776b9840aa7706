-- A line without its line feed is answered as one with it.
use Rattle.std.proofs.Common.{eq-eqb, ne_eqb}
use Rattle.console.specs.Buffers.{close}
use Rattle.console.proofs.stream.close.Goals as goal

pub returns-then-p-eq0-clause-equal : goal.returns-then-p-eq0-clause-equal
unfolding close
returns-then-p-eq0-clause-equal c = rw (eq-eqb c.args.p.fill 0 c.if-p-eq0.true)

pub returns-clause-equal : goal.returns-clause-equal
unfolding close
returns-clause-equal c = rw (ne_eqb c.args.p.fill 0 c.if-p-eq0.false) c.end_line.ensures.equal
