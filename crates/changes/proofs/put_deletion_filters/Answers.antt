use native.Mathlib.Omega.{arith}
use mathlib.Core.Path.{ap, sym, ◌∙◌}
use mathlib.Core.Bool.{false≢true}
use Rattle.filter.specs.NewFilter.{half_fourths}
use Rattle.layout.specs.Items.{Area, fills}
use Rattle.geometry.specs.Shape.{shape, unit_sound}
use Rattle.changes.proofs.put_deletion_filters.Goals as goal

pub returns-then-not-fills : goal.returns-then-not-fills
returns-then-not-fills c =
    let f = c.fills in
    let a = c.deletion_area in
    let d = c.args.d in
    let none = sym (f.ensures ∙ ap (λ (x : Area). fills x d) a.ensures) ∙ c.if-not-fills.true in
    λ full. absurd (false≢true (sym none ∙ full))

pub number_filters-requires : goal.number_filters-requires
number_filters-requires c =
    record {
      unit_sound = (unit_sound c.args.g, c.args.g.hashes_allowed.1, rw c.da_ram.ensures (omega (arith, c.requires.0)));
      out_len = c.requires.1;
    }

pub returns : goal.returns
returns c =
    λ full.
    half_fourths (shape c.args.g) c.args.d c.args.old c.args.ram.now c.args.g.power.some full (omega arith)
    (omega (arith, c.requires.0)) c.number_filters.new.out (rw c.da_ram.ensures at c.number_filters.ensures)
