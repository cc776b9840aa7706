use native.Mathlib.Omega.{arith}
use mathlib.Core.Path.{◌≡◌}
use Prim.Native.Nat.{◌+◌, ◌*◌}
use lib.ListN.{get_or}
use Rattle.memory.specs.Bits.{bit}
use Rattle.kernels.specs.Rows.{all_in}
use Rattle.kernels.proofs.Uptos.{single, upto_all, upto_map}
use Rattle.kernels.proofs.Widths.{wide}
use Rattle.kernels.proofs.block.Goals as goal

-- By the width; one bit for a filter: the block itself, or a part of it.

pub wide_block-requires : goal.wide_block-requires
wide_block-requires c =
    let G = c.requires.3 in
    let w = c.args.w in
    let a : w ≡ 1 → ⊥ = omega arith in
    let b : w ≡ 2 → ⊥ = omega arith in
    let d : w ≡ 4 → ⊥ = omega arith in
    (wide G.power.0 w G.power.2 a b d, c.requires.1, omega (arith, c.requires.2), G)

pub returns-then-n-eq512 : goal.returns-then-n-eq512
returns-then-n-eq512 c =
    let x = c.args in
    let G = rw c.in-1.is at c.requires.3 in
    rw c.in-1.is
    (upto_all (λ j i. all_in x.bytes.now x.rows.now 1 (x.first + (j * 64 + i))) x.n c.field_block-f.result c.if-n-eq512.true
    (single x.bytes.now x.rows.now x.first c.field_block-f.result c.requires.2 G.low_lt c.field_block-f.ensures))

pub returns-else-n-eq512 : goal.returns-else-n-eq512
returns-else-n-eq512 c =
    let x = c.args in
    let G = rw c.in-1.is at c.requires.3 in
    rw c.in-1.is
    (upto_map (λ j i. bit (get_or c.field_block-f.result j 0) i) (λ j i. all_in x.bytes.now x.rows.now 1 (x.first + (j * 64 + i))) x.n c.part.result
    (single x.bytes.now x.rows.now x.first c.field_block-f.result c.requires.2 G.low_lt c.field_block-f.ensures) c.part.ensures)
