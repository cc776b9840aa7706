use Rattle.std.proofs.Common.{◌+◌, length, ap, ◌∙◌, arith}
use Rattle.memory.specs.Lists.{write, part_back}
use Rattle.words.proofs.copy_at.Goals as goal

pub returns : goal.returns
returns c =
    let x = c.args in
    let k = c.copy in
    part_back x.dst.now x.at (x.at + length x.src.now) k.new.dst (omega arith) (omega arith) (omega (arith, ap length k.ensures))
    ∙ ap (write x.dst.now x.at) k.ensures
