use mathlib.Core.Path.{ap, ◌∙◌}
use mathlib.Core.List.{[], ◌∷◌}
use lib.ListN.{replicate}
use Prim.Native.Nat.{ℕ}
use Rattle.memory.specs.Lists.{write}
use Rattle.memory.specs.Words.{words_bytes}
use Rattle.header.specs.Header.{kind_number}
use Rattle.header.proofs.Laws.{intent_written}
use Rattle.header.proofs.intent_bytes.Goals as goal

pub returns : goal.returns
returns c =
    let x = c.args in
    c.put_words.ensures
    ∙ ap (λ (n : ℕ). write (replicate 40 0) 0 (words_bytes (n ∷ x.a ∷ x.b ∷ x.c ∷ x.d ∷ []))) c.from.ensures
    ∙ intent_written (kind_number x.kind) x.a x.b x.c x.d
