use Prim.Native.Nat.{◌+◌}
use lib.Bits.{bit_and, bit_or}
use Rattle.kernels.proofs.Lanes.{not_zero, nothing_below}
use Rattle.kernels.proofs.nonzero.Goals as goal

-- A carry, or the highest bit itself.

pub returns : goal.returns
returns c =
    let d = c.args.d in
    (λ i h. not_zero d i h, λ i j h l. nothing_below (bit_or (bit_and d 9223231297218904063 + 9223231297218904063) d) i j h l)
