-- The code's numbers, commands and answers as the definitions have them.
use Rattle.std.proofs.Math.Option.{Option, none, some}
use Rattle.std.specs.Prelude.{ℕ, Option as Maybe, Some, None}
use Rattle.layout.specs.Items.{record_of}
use Rattle.layout.specs.Calls.{insert, update, delete, lookup}
use Rattle.script.specs.Lines as lines
use Rattle.script.specs.Answers as answers
use Rattle.script.specs.declared.Command.{Command}
use Rattle.script.specs.declared.Command.TheVariants.{Format, Insert, Update, Delete, Lookup}
use Rattle.script.specs.declared.answers.Answer.{Answer}
use Rattle.script.specs.declared.answers.Answer.TheVariants as answer

abbrev pub number_of : Maybe ℕ → Option ℕ
number_of None = none
number_of (Some v) = some v

-- "goal and free word are 0"
abbrev pub command_of : Maybe Command → lines.Command
command_of None = lines.bad
command_of (Some (Format S R D)) = lines.format S R D
command_of (Some (Insert key moves)) = lines.call (insert (record_of (lines.line_key key) moves 0 0))
command_of (Some (Update key moves)) = lines.call (update (record_of (lines.line_key key) moves 0 0))
command_of (Some (Delete key)) = lines.call (delete (lines.line_key key))
command_of (Some (Lookup key)) = lines.call (lookup (lines.line_key key))

abbrev pub answer_of : Answer → answers.Answer
answer_of (answer.Ok n d) = answers.ok n d
answer_of (answer.Hit moves count) = answers.hit moves count
answer_of (answer.Miss count) = answers.miss count
answer_of (answer.No number) = answers.no number
answer_of answer.Bad = answers.bad
