use Rattle.std.proofs.Common.{arith, sym, ◌∙◌}
use Rattle.script.specs.ReadNumber.{number_empty, number_one, number_zero, number_more}
use Rattle.script.proofs.read_number.Goals as goal

-- Two digits or more do not begin with 0.

pub returns-in-empty : goal.returns-in-empty
returns-in-empty c = sym (number_empty c.args.word.now (omega arith))

pub returns-in-len1 : goal.returns-in-len1
returns-in-len1 c = c.read_digits.ensures ∙ sym (number_one c.args.word.now (omega arith))

pub returns-in-48 : goal.returns-in-48
returns-in-48 c = sym (number_zero c.args.word.now (omega arith) (omega arith))

pub returns-in_default : goal.returns-in_default
returns-in_default c =
    c.read_digits-in_default.ensures
    ∙ sym (number_more c.args.word.now (omega arith) (λ e. omega arith))
