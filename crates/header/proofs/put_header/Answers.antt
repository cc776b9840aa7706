use mathlib.Core.Path.{ap, ◌∙◌}
use mathlib.Core.List.{List}
use Prim.Native.Nat.{ℕ, ◌+◌}
use Rattle.memory.specs.Lists.{write}
use Rattle.memory.specs.Words.{words_bytes, length_words}
use Rattle.layout.specs.Header.{state_words}
use Rattle.state.specs.Contract.{state_is}
use Rattle.header.proofs.Laws.{put_whole}
use Rattle.header.proofs.put_header.Goals as goal

pub returns : goal.returns
returns c =
    let x = c.args in
    let words = state_words (state_is x.s) in
    let first = c.copy_at.ensures ∙ ap (λ (l : List ℕ). write x.ram.now c.pages_end-at.result l) c.state_bytes-b.ensures in
    c.copy_at-2.ensures ∙ ap (λ (l : List ℕ). write l (c.pages_end-at.result + 24) x.intent.now) first
    ∙ ap (λ (n : ℕ). write (write x.ram.now n (words_bytes words)) (n + 24) x.intent.now) c.pages_end-at.ensures
    ∙ put_whole x.ram.now (words_bytes words) x.intent.now c.requires.0 (length_words words) c.requires.1
