use mathlib.Core.Path.{ap, ◌∙◌}
use mathlib.Core.List.{List}
use Prim.Native.Nat.{ℕ, ◌+◌}
use Rattle.memory.specs.Lists.{write}
use Rattle.memory.specs.Words.{words_bytes, length_words}
use Rattle.layout.specs.Header.{format_words}
use Rattle.geometry.specs.Shape.{sizes_is}
use Rattle.header.proofs.Laws.{put_intent}
use Rattle.header.proofs.intend_format.Goals as goal

pub returns : goal.returns
returns c =
    let x = c.args in
    let words = format_words (sizes_is x.sizes) in
    c.copy_at.ensures ∙ ap (λ (l : List ℕ). write x.ram.now (c.pages_end-at.result + 24) l) c.intent_bytes-intent.ensures
    ∙ ap (λ (n : ℕ). write x.ram.now (n + 24) (words_bytes words)) c.pages_end-at.ensures
    ∙ put_intent x.ram.now (words_bytes words) c.requires (length_words words)
