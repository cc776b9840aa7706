use native.Mathlib.Omega.{arith}
use mathlib.Core.Path.{◌≡◌}
use mathlib.Core.Bool.{Bool}
use Prim.Native.Nat.{ℕ, ◌+◌, ◌-◌, ◌<◌}
use lib.ListN.{length}
use lib.Seq.{take-length}
use Rattle.memory.specs.Bits.{bit}
use Rattle.filter.proofs.Rows.{has_position, tested_none, tested_more, few_block}
use Rattle.filter.proofs.groups.block_of_few.Goals as goal

-- A position more each turn.

-- counted from filter 0
from_0 : (F : ℕ → Bool) (n y : ℕ) → ((i : ℕ) → i < n → bit y i ≡ F i) → (i : ℕ) → i < n → bit y i ≡ F (0 + i)
from_0 F n y h i l = let z : 0 + i ≡ i = omega arith in rw z (h i l)

pub loop-p-init : goal.loop-p-init
loop-p-init c =
    let x = c.args in
    tested_none (has_position x.l x.bytes.now) x.ps.now 0 (x.below - x.l.start) (omega (arith, c.requires.le_count.1))

pub loop-p-preserved : goal.loop-p-preserved
loop-p-preserved c =
    let x = c.args in
    let l = c.loop-p in
    let n : ℕ = x.below - x.l.start in
    let y = c.few_bits-r in
    tested_more (has_position x.l x.bytes.now) x.ps.now 0 n l.p-index c.loop-p-test.true l.r y.result l.invariant
    (from_0 (has_position x.l x.bytes.now _) n y.result y.ensures.1)

pub returns : goal.returns
returns c =
    let x = c.args in
    let l = c.loop-p in
    let e : l.p-index ≡ length x.ps.now = omega arith in
    few_block x.l x.bytes.now x.below x.ps.now (x.below - x.l.start) l.r c.lowest.result (omega arith) c.requires.le_count.0
    (omega (arith, c.requires.le_count.1)) (rw (e, take-length) at l.invariant) c.lowest.ensures
