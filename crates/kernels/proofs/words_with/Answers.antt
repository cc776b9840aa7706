use native.Mathlib.Omega.{arith}
use mathlib.Core.Path.{◌∙◌}
use Prim.Native.Nat.{◌-◌}
use Rattle.kernels.specs.Blocks.{open_none}
use Rattle.kernels.specs.Masks.{has_mask}
use Rattle.kernels.proofs.Masks.{bool_bit, word_has, open_more}
use Rattle.kernels.proofs.words_with.Goals as goal

-- A bit more each turn, below those of later words.

pub loop-k-init : goal.loop-k-init
loop-k-init c =
    let x = c.args in
    open_none (has_mask x.bytes.now x.at 64 x.m) x.n (x.n - x.n) (omega arith)

pub loop-k-preserved : goal.loop-k-preserved
loop-k-preserved c =
    let b = c.has_mask-b in
    let n = c.from.result in
    let B = rw (← c.from.ensures) at (bool_bit b.result) in
    let w = c.get64 in
    let l = c.loop-k in
    let x = c.args in
    let k = l.k - 1 in
    open_more (has_mask x.bytes.now x.at 64 x.m) k l.k (x.n - l.k) (x.n - k) l.r n
    (omega arith) (omega arith) B.0
    (word_has x.bytes.now x.at x.m k w.result n w.ensures (B.1 ∙ b.ensures)) l.invariant
