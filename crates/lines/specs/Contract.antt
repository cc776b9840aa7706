-- What a line does to a volume, as the contracts compare it.
use Rattle.std.specs.Prelude as std
use Rattle.std.specs.Prelude.{List, ℕ, length, Result}
use Rattle.memory.specs.Lists.{write}
use Rattle.layout.specs.Calls.{Volume}
use Rattle.state.specs.Contract.{volume, number_of}
use Rattle.state.specs.declared.State.{State}
use Rattle.state.specs.declared.Refusal.{Refusal}
use Rattle.script.specs.Lines.{command}
use Rattle.script.specs.Answers.{text}
use Rattle.script.specs.Values.{answer_of}
use Rattle.script.specs.Script.{perform}
use Rattle.script.specs.Script as script
use Rattle.script.specs.declared.answers.Answer.{Answer}
use Rattle.script.specs.declared.answers.Answer.TheVariants.{Ok, No}
use Rattle.lines.specs.declared.Performed.{Performed}
use Rattle.lines.specs.declared.LineReply.{LineReply}

-- ---- a command

-- the code's reply with the bytes that it leaves
abbrev pub performed_of : Performed → List ℕ → List ℕ → List ℕ → script.Performed
performed_of r main spare ram = record { answer = answer_of r.answer; volume = volume r.state main spare ram }

-- a change's answer: n and d, or the refusal's number
abbrev pub change_answer : Result State Refusal → Answer
change_answer (std.Ok t) = Ok t.records t.deletions
change_answer (std.Err i) = No (number_of i)

-- ---- a line

-- what a line leaves: the length of its answer, the volume, and the bytes of `out`
pub record AfterLine : Type 0 where
  pub length : ℕ
  pub volume : Volume
  pub out : List ℕ

abbrev pub after_line : LineReply → List ℕ → List ℕ → List ℕ → List ℕ → AfterLine
after_line r main spare ram out = record { length = r.length; volume = volume r.state main spare ram; out = out }

-- the line's command performed, and its answer's text at the start of `out`
unfoldable pub answer_line : Volume → List ℕ → List ℕ → AfterLine
answer_line v line out =
    let r : script.Performed = perform v (command line) in
    record { length = length (text r.answer); volume = r.volume; out = write out 0 (text r.answer) }
