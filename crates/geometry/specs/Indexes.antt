-- The code's index as the layout's, and the two indexes as the code has them.
use Rattle.std.specs.Prelude.{◌≡◌, ◌≤◌}
use Rattle.std.proofs.Common.{arith}
use mathlib.Core.HLevel.{is_prop→PathP}
use Rattle.std.specs.Coded.{le_prop}
use Rattle.layout.specs.Index as layout
use Rattle.layout.specs.Calls.{key_index, deletion_index}
use Rattle.geometry.specs.declared.volume.Geometry.{Geometry}
use Rattle.geometry.specs.declared.index.Index.{Index}
use Rattle.geometry.specs.Shape.{shape}
use Rattle.geometry.specs.Bounds.{index_le, deletion_index_le}

abbrev pub index_of : Index → layout.Index
index_of ix = record { first = ix.first; ska = ix.ska }

-- indexes with the same fields are the same
pub index_eq : (x y : Index) → x.first ≡ y.first → x.ska ≡ y.ska → x ≡ y
index_eq x y p q =
    λ i. record { first = p i; ska = q i; near = is_prop→PathP (λ j. p j ≤ 20000) (λ j. le_prop) x.near y.near i }

-- the index over the entries
abbrev pub index_for : Geometry → Index
index_for g = record { first = (key_index (shape g)).first; ska = (key_index (shape g)).ska; near = omega (arith, index_le g) }

-- the index over the deletions
abbrev pub deletion_index_for : Geometry → Index
deletion_index_for g =
    record {
      first = (deletion_index (shape g)).first;
      ska = (deletion_index (shape g)).ska;
      near = omega (arith, deletion_index_le g);
    }
