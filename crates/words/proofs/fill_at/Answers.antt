use Rattle.std.proofs.Common.{◌≡◌, ◌+◌, length, replicate, ap, ◌∙◌, arith}
use Rattle.std.proofs.lemmas.List.{length-replicate}
use Rattle.memory.specs.Lists.{write, length_part, part_back}
use Rattle.words.proofs.fill_at.Goals as goal

pub returns : goal.returns
returns c =
    let x = c.args in
    let k = c.fill in
    let l : k.new.self ≡ replicate x.n x.v = k.ensures.after (λ y e. e) ∙ rw (length_part x.dst.now x.at x.n c.requires) in
    part_back x.dst.now x.at (x.at + x.n) k.new.self (omega arith) (omega arith) (omega (arith, ap length l, length-replicate x.n x.v))
    ∙ ap (write x.dst.now x.at) l
