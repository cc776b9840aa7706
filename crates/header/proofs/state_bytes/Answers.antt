use mathlib.Core.Path.{◌∙◌}
use Rattle.state.specs.Contract.{state_is}
use Rattle.header.proofs.Laws.{state_written}
use Rattle.header.proofs.state_bytes.Goals as goal

pub returns : goal.returns
returns c = c.put_words.ensures ∙ state_written (state_is c.args.s)
