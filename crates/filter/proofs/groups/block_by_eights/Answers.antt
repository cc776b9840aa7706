use native.Mathlib.Omega.{arith}
use Prim.Native.Nat.{ℕ, ◌*◌, ◌-◌, ◌/◌}
use Rattle.filter.proofs.Rows.{word_block}
use Rattle.filter.proofs.groups.block_by_eights.Goals as goal

-- Whole eights reach no further than the filters in use.

pub returns : goal.returns
returns c =
    let x = c.args in
    let p = c.requires in
    let all : ℕ = x.below - x.l.start in
    let first : ℕ = (all - 1) / 64 * 64 in
    word_block x.l x.bytes.now x.below x.ps.now first (all - first) (c.div_ceil.result * 8) c.eights-shown.result c.lowest.result
    (omega (arith, p.le_count)) p.le_count (omega (arith, p.le_count)) (omega (arith, p.le_count)) (omega (arith, c.div_ceil.ensures)) (omega arith)
    c.eights-shown.ensures c.lowest.ensures
