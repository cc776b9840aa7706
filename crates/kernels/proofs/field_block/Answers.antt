use native.Mathlib.Omega.{arith}
use mathlib.Core.Path.{◌≡◌}
use Prim.Native.Nat.{◌+◌}
use lib.ListN.{get_or, length}
use Rattle.kernels.proofs.Filters.{one_of_eight, firsts_none, firsts_more, firsts_all}
use Rattle.kernels.proofs.field_block.Goals as goal

-- A row more each turn, for eight words.

pub loop-row-init : goal.loop-row-init
loop-row-init c j h = rw (one_of_eight j h) (firsts_none c.args.bytes.now c.args.rows.now (c.args.q + j))

pub loop-row-preserved : goal.loop-row-preserved
loop-row-preserved c j h =
    let x = c.args in
    let l = c.loop-row in
    firsts_more x.bytes.now x.rows.now l.row-index (x.q + j) (get_or l.r j 0) (get_or c.and_row-f.result j 0) (omega arith) (l.invariant j h)
    (λ i k. c.and_row-f.ensures j h i k)

pub returns : goal.returns
returns c j h =
    let x = c.args in
    let l = c.loop-row in
    let e : l.row-index ≡ length x.rows.now = omega arith in
    firsts_all x.bytes.now x.rows.now (x.q + j) (get_or l.r j 0) (rw e at (l.invariant j h))
