use native.Mathlib.Omega.{arith}
use Prim.Native.Nat.{suc}
use Rattle.kernels.proofs.Bits.{bit_top, bit_over}
use Rattle.kernels.proofs.top.Goals as goal

-- The power of two below the number tells which it is.

pub returns : goal.returns
returns c =
    let y = c.args.bits in
    let T = c.ilog2 in
    let L = T.ensures in
    (L.bound, bit_top T.result y L.power_le (omega (arith, L.next_power_gt)), λ i a b. bit_over (suc T.result) y i (omega (arith, L.next_power_gt)) a)
