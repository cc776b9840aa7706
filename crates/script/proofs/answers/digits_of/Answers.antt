use Rattle.std.proofs.Common.{arith, sym}
use Rattle.script.specs.AnswerLaws.{decimal_log}
use Rattle.script.proofs.answers.digits_of.Goals as goal

pub returns : goal.returns
returns c = sym (decimal_log c.ilog10.result c.args.n (omega arith) (omega arith) (omega arith))
