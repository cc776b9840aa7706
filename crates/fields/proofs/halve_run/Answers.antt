use native.Mathlib.Omega.{arith}
use Prim.Native.Nat.{ℕ, ◌+◌}
use lib.ListN.{length}
use Rattle.fields.specs.Sources.{field_byte}
use Rattle.fields.specs.Lists.{done_all}
use Rattle.fields.proofs.halve_run.Goals as goal

-- Each byte is put together out of two.

pub returns : goal.returns
returns c =
    let x = c.args in
    let l = c.loop-i in
    let f : ℕ → ℕ = λ k. field_byte x.bytes.now x.s x.w (x.y + k) in
    done_all f l.out (length x.out.now) l.i l.auto.out (omega arith) l.invariant
