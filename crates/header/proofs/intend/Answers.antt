use mathlib.Core.Path.{ap, ◌∙◌}
use mathlib.Core.List.{List, ◌++◌}
use Prim.Native.Nat.{ℕ}
use Rattle.state.specs.Contract.{state_is}
use Rattle.memory.specs.Words.{words_bytes}
use Rattle.layout.specs.Header.{header_bytes, pages, state_words}
use Rattle.header.proofs.intend.Goals as goal

pub returns : goal.returns
unfolding header_bytes words_bytes
returns c =
    let x = c.args in
    c.put_header.ensures
    ∙ ap (λ (l : List ℕ). pages x.ram.now ++ (words_bytes (state_words (state_is x.s)) ++ l)) c.request_bytes-intent.ensures
