-- A byte is stored where there is room; past the end a write changes nothing.
use Rattle.std.specs.Prelude.{[], ◌∷◌, length}
use Rattle.std.proofs.Common.{sym, arith, lt-ltb, le-ltb}
use Rattle.script.specs.AnswerLaws.{write_byte}
use Rattle.console.specs.BufferLaws.{write_past}
use Rattle.console.proofs.stream.add_byte.Goals as goal

pub returns-then-fill-line-clause-equal : goal.returns-then-fill-line-clause-equal
returns-then-fill-line-clause-equal c =
    let x = c.args in
    (rw (le-ltb x.fill (length x.line.now) c.if-fill-line.true), sym (write_past x.line.now x.fill (x.c ∷ []) c.if-fill-line.true))

pub returns-clause-equal : goal.returns-clause-equal
returns-clause-equal c =
    let x = c.args in
    (rw (lt-ltb x.fill (length x.line.now) (omega arith)), write_byte x.line.now x.fill x.c)
