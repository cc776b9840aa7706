use Rattle.state.specs.Contract.{volume}
use Rattle.script.specs.Values.{command_of}
use Rattle.lines.proofs.Answering.{line_answer}
use Rattle.lines.proofs.answer_line.Goals as goal

-- What is read is performed, and what is performed is written.

pub returns : goal.returns
returns c =
    let x = c.args in
    let p = c.perform-p in
    let w = c.put_answer-length in
    line_answer p.result (volume x.s x.main.now x.spare.now x.ram.now) (command_of c.parse_line.result) x.line.now
    p.new.main p.new.spare p.new.ram x.out.now w.new.out w.result
    c.parse_line.ensures p.ensures w.ensures.size w.ensures.bytes
