-- Bounds of a geometry's sizes.
use Rattle.std.specs.Prelude.{ℕ, ◌*◌, ◌≤◌}
use Rattle.std.proofs.Common.{mul-le-mul_right, mul-le-mul_left, le_trans, div-mul-le_self, arith}
use Rattle.layout.specs.Geometry as layout
use Rattle.geometry.specs.declared.volume.Geometry.{Geometry}
use Rattle.geometry.specs.Shape.{shape}

-- a product of bounded numbers
pub product_le : (a b m n : ℕ) → a ≤ m → b ≤ n → a * b ≤ m * n
product_le a b m n h k = le_trans (mul-le-mul_right b h) (mul-le-mul_left m k)

module _ (g : Geometry) where
  pub index_le : layout.index_block (shape g) ≤ 10240
  index_le = omega arith

  -- the full sets' blocks: a sixteenth of those of records
  pub full_le : layout.full_sets (shape g) * layout.side_blocks g.chip.unit ≤ 256
  full_le = omega (arith, div-mul-le_self g.ra (64 * g.chip.unit))

  -- those of the index over the deletions: a fourth of theirs
  pub deletion_full_le : layout.deletion_sets (shape g) * layout.side_blocks g.chip.unit ≤ 1024
  deletion_full_le = omega (arith, div-mul-le_self g.da (16 * g.chip.unit))

  pub deletion_index_le : layout.deletion_index_block (shape g) ≤ 10753
  deletion_index_le =
      let i = index_le in
      let f = full_le in
      omega arith

  pub blocks_le : layout.blocks (shape g) ≤ 12034
  blocks_le =
      let i = deletion_index_le in
      let f = deletion_full_le in
      omega arith

  pub record_capacity_le : layout.record_capacity (shape g) ≤ 8388608
  record_capacity_le = omega (arith, product_le g.ra g.chip.unit 4096 32 g.ra_allowed.1 g.chip.small)

  pub deletion_capacity_le : layout.deletion_capacity (shape g) ≤ 33554432
  deletion_capacity_le = omega (arith, product_le g.da g.chip.unit 4096 32 g.da_allowed.1 g.chip.small)
