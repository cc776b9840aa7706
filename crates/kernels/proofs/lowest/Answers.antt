use native.Mathlib.Omega.{arith}
use native.Mathlib.Nat.{mod-lt}
use mathlib.Core.Path.{◌∙◌}
use Prim.Native.Nat.{◌+◌, ◌*◌, ◌-◌, ◌%◌, ◌^◌}
use lib.Pow.{pow_pos}
use borrow.Author.Tests.{lt-ltb, le-ltb}
use Rattle.memory.specs.Bits.{bit_shr, bit_shl}
use Rattle.memory.specs.Cases.{either, lt?}
use Rattle.kernels.proofs.Bits.{bit_over}
use Rattle.kernels.proofs.lowest.Goals as goal

-- What is above falls off at the top.

pub returns : goal.returns
returns c i h =
    let x = c.args.x in
    let m = c.args.m in
    bit_shr ((x * 2 ^ (64 - m)) % 2 ^ 64) (64 - m) i
    ∙ either (lt? i m)
    (λ l. bit_shl x (64 - m) 64 i (omega (arith, l.1)) ∙ rw (lt-ltb i m l.1))
    (λ l. bit_over 64 ((x * 2 ^ (64 - m)) % 2 ^ 64) (64 - m + i) (mod-lt (x * 2 ^ (64 - m)) (pow_pos 64)) (omega (arith, l.1)) ∙ rw (le-ltb i m l.1))
