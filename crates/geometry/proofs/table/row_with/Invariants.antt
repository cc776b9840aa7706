use Rattle.std.proofs.Common.{◌≡◌}
use Rattle.geometry.specs.Rows.{row_with}
use Rattle.geometry.specs.Allowed.{row_from}
use Rattle.geometry.proofs.table.row_with.Given as goal

-- the rows before the one looked at have other sector sizes
abbrev pub invariant-loop-row : goal.invariant-loop-row
invariant-loop-row l = row_with l.sector ≡ row_from l.sector l.row-index
