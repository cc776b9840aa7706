-- The line that is kept is answered behind what was printed, in at most 32 bytes.
use Rattle.std.specs.Prelude.{◌+◌, ◌-◌, take, drop}
use Rattle.std.proofs.Common.{refl, arith}
use Rattle.state.specs.Contract.{volume}
use Rattle.lines.specs.Contract.{AfterLine, after_line}
use Rattle.console.specs.Contract.{buffers_of}
use Rattle.console.proofs.stream.Laws.{line_short, line_ends}
use Rattle.console.proofs.stream.end_line.Goals as goal

pub overflow_add-result : goal.overflow_add-result
overflow_add-result c =
    let x = c.args in
    let k = c.answer_next-reply in
    let l : AfterLine = after_line k.result k.new.main k.new.spare k.new.ram k.new.out in
    let short = line_short (volume x.p.state x.main.now x.spare.now x.ram.now) (take x.p.fill x.line.now)
    (take (x.p.printed + 32 - x.p.printed) (drop x.p.printed x.out.now)) l k.ensures in
    omega (arith, short)

pub returns-clause-equal : goal.returns-clause-equal
returns-clause-equal c =
    let x = c.args in
    let k = c.answer_next-reply in
    line_ends (buffers_of x.p x.line.now x.main.now x.spare.now x.ram.now x.out.now) (after_line k.result k.new.main k.new.spare k.new.ram k.new.out)
    k.ensures

pub returns-clause-within : goal.returns-clause-within
returns-clause-within c =
    let x = c.args in
    let k = c.answer_next-reply in
    let l : AfterLine = after_line k.result k.new.main k.new.spare k.new.ram k.new.out in
    let short = line_short (volume x.p.state x.main.now x.spare.now x.ram.now) (take x.p.fill x.line.now)
    (take (x.p.printed + 32 - x.p.printed) (drop x.p.printed x.out.now)) l k.ensures in
    (refl, omega (arith, short))
