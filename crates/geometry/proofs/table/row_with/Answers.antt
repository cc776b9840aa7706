use Rattle.std.proofs.Common.{◌∙◌, sym, refl}
use Rattle.geometry.specs.Rows.{row_with}
use Rattle.geometry.proofs.Rows.{rule}
use Rattle.geometry.proofs.Allowed.{from_hit}
use Rattle.geometry.proofs.table.row_with.Goals as goal

pub loop-row-init : goal.loop-row-init
unfolding row_with
loop-row-init c = refl

pub returns-then-from-sector : goal.returns-then-from-sector
returns-then-from-sector c =
    let l = c.loop-row in
    let hit = from_hit c.args.sector l.row-index c.loop-row-test.true (sym c.from.ensures ∙ c.if-from-sector.true) in
    record { equal = sym (l.invariant ∙ hit); ruled = rule l.row-index c.loop-row-test.true }
