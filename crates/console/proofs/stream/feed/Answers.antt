-- One byte more, and the last.
use Rattle.std.proofs.Common.{sym, ◌∙◌, arith}
use Rattle.console.specs.Buffers.{feed}
use Rattle.console.specs.Contract.{buffers_of}
use Rattle.console.proofs.stream.Laws.{feed_more, feed_end}
use Rattle.console.proofs.stream.feed.Goals as goal

pub loop-c-preserved : goal.loop-c-preserved
loop-c-preserved c =
    let x = c.args in
    let l = c.loop-c in
    let n = c.next_byte-q in
    let k = buffers_of l.q l.line l.main l.spare l.ram l.out in
    record {
      fill = omega (arith, n.ensures.within);
      room = omega (arith, n.ensures.within);
      left = feed_more (feed (buffers_of x.p x.line.now x.main.now x.spare.now x.ram.now x.out.now) x.chunk.now) k
          (buffers_of n.result n.new.line n.new.main n.new.spare n.new.ram n.new.out) x.chunk.now l.c-index (omega arith) l.invariant.left
          n.ensures.equal;
    }

pub returns-clause-equal : goal.returns-clause-equal
returns-clause-equal c =
    let l = c.loop-c in
    sym (l.invariant.left ∙ feed_end (buffers_of l.q l.line l.main l.spare l.ram l.out) c.args.chunk.now l.c-index (omega arith))
