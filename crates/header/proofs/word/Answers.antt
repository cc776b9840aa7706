use mathlib.Core.Path.{ap, ◌∙◌}
use Prim.Native.Nat.{ℕ, ◌+◌, ◌*◌}
use Rattle.memory.specs.Words.{word}
use Rattle.header.proofs.Laws.{word_at}
use Rattle.header.proofs.word.Goals as goal

pub returns : goal.returns
returns c =
    let x = c.args in
    c.get32.ensures ∙ ap (λ (n : ℕ). word x.ram.now (n + x.i * 4)) c.pages_end.ensures ∙ word_at x.ram.now x.i
