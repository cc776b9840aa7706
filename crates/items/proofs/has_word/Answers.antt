use Rattle.std.proofs.Common.{◌≡◌, ◌+◌, ◌*◌, sym, ◌∙◌, arith}
use Rattle.items.specs.Scans.{any_end, block_yes, block_no}
use Rattle.items.proofs.has_word.Goals as goal

-- A block more each turn, then the words behind the blocks.

pub loop-b-init : goal.loop-b-init
loop-b-init c = any_end _

pub returns-then-block_has : goal.returns-then-block_has
returns-then-block_has c =
    let x = c.args in
    let b = c.loop-b.b in
    let e : x.at + b * 256 ≡ x.at + b * 64 * 4 = omega arith in
    sym (block_yes x.s.now x.at x.j (b * 64) 64 x.n (rw e at (sym c.block_has.ensures ∙ c.if-block_has.true)) (omega arith))

pub loop-b-preserved : goal.loop-b-preserved
loop-b-preserved c =
    let x = c.args in
    let b = c.loop-b.b in
    let e : x.at + b * 256 ≡ x.at + b * 64 * 4 = omega arith in
    let k : (b + 1) * 64 ≡ b * 64 + 64 = omega arith in
    rw k (block_no x.s.now x.at x.j (b * 64) 64 (rw e at (sym c.block_has.ensures ∙ c.if-block_has.false)) c.loop-b.invariant)
