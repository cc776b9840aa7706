use native.Mathlib.Omega.{arith}
use Prim.Native.Nat.{◌+◌, ◌*◌}
use mathlib.Core.Path.{◌≡◌}
use lib.ListN.{get_or}
use Rattle.fields.proofs.Bits.{eight_bytes}
use Rattle.fields.proofs.column.Goals as goal

pub returns : goal.returns
returns c =
    let x = c.args in
    let z : x.a + 0 * x.stride ≡ x.a = omega arith in
    let o : x.a + 1 * x.stride ≡ x.a + x.stride = omega arith in
    eight_bytes (λ k. get_or x.bytes.now (x.a + k * x.stride) 0) (λ k. omega (arith, c.type_inv.bytes (x.a + k * x.stride))) c.from_le_bytes.result
    (rw (z, o) c.from_le_bytes.ensures)
