use mathlib.Core.Path.{refl}
use Rattle.geometry.proofs.Rows.{rule}
use Rattle.geometry.proofs.table.row_at.Goals as goal

pub returns : goal.returns
returns c = record { equal = refl; ruled = rule c.before.args.i c.before.requires }
