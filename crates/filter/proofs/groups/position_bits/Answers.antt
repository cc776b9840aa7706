use native.Mathlib.Nat.{mod-lt}
use native.Mathlib.Omega.{arith}
use Prim.Native.Nat.{◌+◌, ◌*◌, ◌/◌, ◌%◌, ◌≤◌}
use lib.ListN.{length}
use Rattle.filter.proofs.Bytes.{eighth, first_in, byte_in, step_bit}
use Rattle.filter.proofs.groups.position_bits.Goals as goal
use Rattle.filter.proofs.groups.position_bits.Goals.{After-row_of}

-- The byte of each filter, and its bit in it.

-- the first filter's part lies within the bytes
first_there : (c : After-row_of) → c.row_of.result + c.args.first * (c.power-w.result / 8) ≤ length c.args.bytes.now
first_there c =
    let x = c.args in
    let P = c.power-w in
    let e = eighth x.l.exponent P.result P.ensures.0 c.requires.1.some in
    let s = rw (← c.row_of.ensures, ← P.ensures.0) at c.requires.1.reach in
    omega (arith, first_in c.row_of.result P.result (P.result / 8) x.first x.n (length x.bytes.now) e s)

pub overflow_mul-first : goal.overflow_mul-first
overflow_mul-first c = omega (arith, first_there c)

pub overflow_add-row_of : goal.overflow_add-row_of
overflow_add-row_of c = omega (arith, first_there c)

pub overflow_add-row_of-2 : goal.overflow_add-row_of-2
overflow_add-row_of-2 c = omega (arith, first_there c, mod-lt c.args.p c.power-w.ensures.1)

pub row_bits-requires : goal.row_bits-requires
row_bits-requires c =
    let x = c.args in
    let R = c.row_of in
    let P = c.power-w in
    let e = eighth x.l.exponent P.result P.ensures.0 c.requires.1.some in
    let s = rw (← R.ensures, ← P.ensures.0) at c.requires.1.reach in
    (c.requires.0, λ i h. byte_in R.result P.result (P.result / 8) x.first x.n (length x.bytes.now) e s (x.p % P.result) i (mod-lt x.p P.ensures.1) h)

pub returns : goal.returns
returns c i h =
    let x = c.args in
    let R = c.row_of in
    let P = c.power-w in
    let e = eighth x.l.exponent P.result P.ensures.0 c.requires.1.some in
    rw (e, R.ensures, P.ensures.0) at (step_bit x.bytes.now R.result (x.p % P.result) x.first (P.result / 8) i c.row_bits.result (c.row_bits.ensures.0 i h))
