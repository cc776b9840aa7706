-- Looking a sector size up in the table.
use Rattle.std.specs.Prelude.{ℕ, Option, find, drop, eqb}
use Rattle.geometry.specs.declared.table.SizeRow.{SizeRow}
use Rattle.geometry.specs.Rows.{rows}

-- the first row with sector size S, from row i on
abbrev pub row_from : ℕ → ℕ → Option SizeRow
row_from S i = find (λ r. eqb r.sector S) (drop i rows)
