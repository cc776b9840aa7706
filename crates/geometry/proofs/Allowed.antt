-- Which sector sizes, counts of blocks and of hash functions are allowed: by the table.
use Rattle.std.specs.Prelude.{ℕ, ◌+◌, ◌<◌, ◌≤◌, ◌≡◌, refl, Bool, true, false, ◌||◌, cond, None, Some, is_some, unwrap_or, find, eqb, List, [], ◌∷◌}
use Rattle.std.proofs.Common.{add-one, ap, sym, ◌∙◌, eqb-true, eq-eqb, ne_eqb, drop_of_length-le, drop-cons}
use mathlib.Core.Bool.{false≢true}
use Rattle.memory.specs.Ranges.{memb}
use Rattle.layout.specs.Geometry as layout
use Rattle.geometry.specs.declared.table.SizeRow.{SizeRow}
use Rattle.geometry.specs.Rows.{row, rows, row_of, row_with}
use Rattle.geometry.specs.Allowed.{row_from}
use Rattle.geometry.specs.Shape.{rest_allowed, shaped_by, shaped_of}

pub from_hit : (S i : ℕ) → i < 6 → (row_of i).sector ≡ S → row_from S i ≡ Some (row_of i)
from_hit S i h e = rw (drop-cons rows i (row 0 0 0 0) h, eq-eqb (row_of i).sector S e)

pub from_next : (S i : ℕ) → i < 6 → ((row_of i).sector ≡ S → ⊥) → row_from S i ≡ row_from S (i + 1)
from_next S i h ne = rw (add-one, drop-cons rows i (row 0 0 0 0) h, ne_eqb (row_of i).sector S ne)

pub from_end : (S i : ℕ) → 6 ≤ i → row_from S i ≡ None
from_end S i h = rw (drop_of_length-le rows {i = i} h)

-- a sector size has a row if it is one of the sizes that are allowed
has_row : (S : ℕ) → is_some (row_with S) ≡ memb S layout.sector_sizes
unfolding row_with memb
has_row S = each (eqb 16 S) (eqb 32 S) (eqb 64 S) (eqb 128 S) (eqb 256 S) (eqb 512 S)
  where
    each : (a b c d e f : Bool) → is_some (cond a (Some (row_of 0)) (cond b (Some (row_of 1)) (cond c (Some (row_of 2)) (cond d (Some (row_of 3)) (cond e (Some (row_of 4)) (cond f (Some (row_of 5)) None)))))) ≡ (a || (b || (c || (d || (e || (f || false))))))
    each true b c d e f = refl
    each false true c d e f = refl
    each false false true d e f = refl
    each false false false true e f = refl
    each false false false false true f = refl
    each false false false false false true = refl
    each false false false false false false = refl

-- the row that is found has that sector size
found_in : (S : ℕ) (xs : List SizeRow) (r : SizeRow) → find (λ x. eqb x.sector S) xs ≡ Some r → r.sector ≡ S
found_in S [] r e = let z : false ≡ true = ap is_some e in absurd (false≢true z)
found_in S (x ∷ xs) r e = by (found_in S xs r) (eqb x.sector S) refl e
  where
    by : (find (λ y. eqb y.sector S) xs ≡ Some r → r.sector ≡ S) → (t : Bool) → eqb x.sector S ≡ t
        → cond t (Some x) (find (λ y. eqb y.sector S) xs) ≡ Some r → r.sector ≡ S
    by later true q f = let same : x ≡ r = ap (λ o. unwrap_or o x) f in sym (ap (λ y. y.sector) same) ∙ eqb-true _ _ q
    by later false q f = later f

pub found_row : (S : ℕ) (r : SizeRow) → row_with S ≡ Some r → r.sector ≡ S
unfolding row_with
found_row S r e = found_in S rows r e

-- sizes whose sector size is in the table are allowed if the rest is
pub allowed_hit : (sizes : layout.Sizes) (r : SizeRow) → row_with sizes.sector_size ≡ Some r → layout.allowed sizes ≡ rest_allowed sizes
unfolding layout.allowed
allowed_hit sizes r e = rw (← has_row sizes.sector_size, e)

-- what is answered to a sector size that is in the table, and to one that is not
pub shaped_hit : (sizes : layout.Sizes) (r : SizeRow) → row_with sizes.sector_size ≡ Some r → shaped_of sizes ≡ shaped_by (rest_allowed sizes) sizes
unfolding layout.allowed
shaped_hit sizes r e = rw (← has_row sizes.sector_size, e)

pub shaped_miss : (sizes : layout.Sizes) → row_with sizes.sector_size ≡ None → shaped_of sizes ≡ None
unfolding layout.allowed
shaped_miss sizes e = rw (← has_row sizes.sector_size, e)
