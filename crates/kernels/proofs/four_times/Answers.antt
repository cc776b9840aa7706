use mathlib.Core.Path.{ap, ◌∙◌}
use Prim.Native.Nat.{ℕ, ◌+◌, ◌*◌}
use Rattle.memory.specs.Bits.{bit}
use Rattle.kernels.proofs.Lanes.{four_copies, bit_copies}
use Rattle.kernels.proofs.four_times.Goals as goal

-- One after the other.

pub returns : goal.returns
returns c i b h l =
    let m = c.args.m in
    ap (λ (y : ℕ). bit y (16 * i + b)) (four_copies m) ∙ bit_copies 4 m i b c.requires h l
