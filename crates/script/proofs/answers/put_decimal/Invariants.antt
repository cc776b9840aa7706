use Rattle.std.proofs.Common.{◌≡◌, ◌+◌, length}
use Rattle.memory.specs.Lists.{write}
use Rattle.script.specs.Answers.{decimal}
use Rattle.script.specs.AnswerLaws.{unwritten}
use Rattle.script.proofs.answers.put_decimal.Given as goal

-- What is left to write is the digits of what is left of the number.
abbrev pub invariant-loop-i : goal.invariant-loop-i
invariant-loop-i l = record {
  place : l.i ≡ l.at + length (unwritten l.at l.i l.left);
  written : write l.out l.at (unwritten l.at l.i l.left) ≡ write l.initial.out l.at (decimal l.n);
}
