use native.Mathlib.Omega.{arith}
use mathlib.Core.List.{[], ◌∷◌}
use lib.ListN.{length-append}
use Rattle.script.specs.Answers.{decimal}
use Rattle.script.specs.AnswerLaws.{write_byte, write_then, decimal_length}
use Rattle.script.proofs.answers.put_number.Goals as goal

-- The byte stands where the number ends.

pub bounds-out-end : goal.bounds-out-end
bounds-out-end c = omega (arith, decimal_length c.args.n)

pub overflow_add-result : goal.overflow_add-result
overflow_add-result c = omega (arith, decimal_length c.args.n)

pub returns-clause-end : goal.returns-clause-end
returns-clause-end c = simp length-append (omega (arith, decimal_length c.args.n))

pub returns-clause-bytes : goal.returns-clause-bytes
returns-clause-bytes c =
    let x = c.args in
    let k = c.put_decimal-end in
    write_then x.out.now k.new.out _ x.at k.result (decimal x.n) (x.terminator ∷ []) k.ensures.bytes k.ensures.end
    (write_byte k.new.out k.result x.terminator)
