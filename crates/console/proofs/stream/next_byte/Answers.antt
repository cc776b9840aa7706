-- A line feed ends the line, any other byte lengthens it.
use Rattle.std.proofs.Common.{eq-eqb}
use Rattle.console.specs.Buffers.{next_byte}
use Rattle.console.specs.Contract.{buffers_of}
use Rattle.console.proofs.stream.Laws.{add_byte_lem}
use Rattle.console.proofs.stream.next_byte.Goals as goal

pub returns-then-c-eq10-clause-equal : goal.returns-then-c-eq10-clause-equal
unfolding next_byte
returns-then-c-eq10-clause-equal c = rw (eq-eqb c.args.c 10 c.if-c-eq10.true) c.end_line.ensures.equal

pub returns-clause-equal : goal.returns-clause-equal
returns-clause-equal c =
    let x = c.args in
    let k = buffers_of x.p x.line.now x.main.now x.spare.now x.ram.now x.out.now in
    let a = c.add_byte in
    add_byte_lem k x.c a.result a.new.line c.if-c-eq10.false a.ensures.equal.0 a.ensures.equal.1
