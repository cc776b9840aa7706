use native.Mathlib.Omega.{arith}
use mathlib.Core.Path.{◌≡◌}
use Prim.Native.Nat.{◌+◌, ◌*◌, ◌/◌}
use Rattle.kernels.specs.Rows.{all_in}
use Rattle.kernels.proofs.Fews.{word_at, of_words, filled_none, filled_more, filled_part, enough}
use Rattle.kernels.proofs.few_block.Goals as goal

-- A block of the rows' words each turn, a word of filters after another.

pub loop-b-init : goal.loop-b-init
loop-b-init g c = let z : 0 * (8 / g.row.W) ≡ 0 = omega arith in rw z (filled_none _ _)

pub loop-k-preserved : goal.loop-k-preserved
loop-k-preserved g c =
    let x = c.args in
    let b = c.loop-b.b in
    let k = c.loop-k.k in
    let w = g.row.W in
    let gate = all_in x.bytes.now x.rows.now w in
    let P = word_at w x.first x.n b k c.requires.0 c.requires.1 c.requires.2 (omega (arith, c.div_ceil-b-end.ensures)) c.loop-k-test.true in
    filled_more gate x.first (b * (8 / w) + k) (b * (8 / w) + (k + 1)) c.loop-k.r c.packed.result (omega arith) P.below
    (of_words x.bytes.now x.rows.now w (x.first + (b * (8 / w) + k) * 64) c.packed.result c.field_block-f.result (x.first / 64 * w + b * 8) (k * w)
    c.requires.0 P.in_block c.requires.3.low_lt P.is c.field_block-f.ensures c.packed.ensures)
    c.loop-k.invariant

pub returns : goal.returns
returns g c =
    let x = c.args in
    let l = c.loop-b in
    let w = g.row.W in
    let e : l.b ≡ c.div_ceil-b-end.result = omega arith in
    filled_part (all_in x.bytes.now x.rows.now w) x.first x.n (l.b * (8 / w)) l.r c.part.result
    (rw (e, c.div_ceil-b-end.ensures) (enough w x.n c.requires.0)) l.invariant c.part.ensures
