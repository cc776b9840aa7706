use Rattle.std.specs.Prelude.{refl, ◌/◌, Some, ◌≡◌}
use Rattle.std.proofs.Common.{◌∙◌, sym, ap, arith}
use Rattle.laws.specs.Sound.{sound, unit}
use Rattle.geometry.specs.Powers.{unit_power}
use Rattle.geometry.specs.Rows.{row_for}
use Rattle.geometry.specs.Shape.{sizes_is, shaped_by, shaped_of, known, geometry_for, geometry_is, geometry_eq}
use Rattle.geometry.proofs.Rows.{row_is}
use Rattle.geometry.proofs.Allowed.{found_row, allowed_hit, shaped_hit, shaped_miss}
use Rattle.geometry.proofs.geometry_for.Goals as goal

pub returns-in_err-row : goal.returns-in_err-row
returns-in_err-row c = rw c.from_residual.ensures (sym (shaped_miss (sizes_is c.args.sizes) (sym c.row_with.ensures.equal ∙ c.in_err-row.was)))

pub returns-then-not-rest_allowed : goal.returns-then-not-rest_allowed
returns-then-not-rest_allowed c =
    let s = sizes_is c.args.sizes in
    rw (shaped_hit s c.in_ok-row.row (sym c.in_ok-row.ensures.equal), ← c.rest_allowed.ensures, c.if-not-rest_allowed.true)

pub invariant_of-result : goal.invariant_of-result
invariant_of-result c =
    record { small = omega (arith, c.with_sectors-chip.ensures, c.from.ensures, c.in_ok-row.ensures.ruled.most) }

pub invariant_of-result-2-clause-power : goal.invariant_of-result-2-clause-power
invariant_of-result-2-clause-power c =
    let s = sizes_is c.args.sizes in
    let e = allowed_hit s c.in_ok-row.row (sym c.in_ok-row.ensures.equal) ∙ sym c.rest_allowed.ensures ∙ c.if-not-rest_allowed.false in
    let ok = sound s e in
    let at : c.with_sectors-chip.result.unit ≡ s.sector_size / 16
    = c.with_sectors-chip.ensures ∙ ap (λ n. n / 16) (c.from.ensures ∙ found_row s.sector_size c.in_ok-row.row (sym c.in_ok-row.ensures.equal)) in
    rw at (unit_power (s.sector_size / 16) (ok.e, unit s ok))

pub returns : goal.returns
unfolding known
returns c =
    let s = sizes_is c.args.sizes in
    let r = c.in_ok-row.row in
    let found = sym c.in_ok-row.ensures.equal in
    let e = allowed_hit s r found ∙ sym c.rest_allowed.ensures ∙ c.if-not-rest_allowed.false in
    let is : r ≡ row_for s.sector_size = row_is r s.sector_size c.in_ok-row.ensures.ruled (found_row s.sector_size r found) in
    let unit : c.with_sectors-chip.result.unit ≡ s.sector_size / 16 = c.with_sectors-chip.ensures ∙ ap (λ n. n / 16) (c.from.ensures ∙ found_row s.sector_size r found) in
    let hit : shaped_of s ≡ Some (geometry_for s) = shaped_hit s r found ∙ ap (λ t. shaped_by t s) (sym c.rest_allowed.ensures ∙ c.if-not-rest_allowed.false) in
    ap Some (geometry_eq _ (known s e) unit is refl refl refl ∙ sym (geometry_is s e)) ∙ sym hit
