use native.Mathlib.Omega.{arith}
use mathlib.Core.Path.{ap, sym, ◌∙◌}
use mathlib.Core.Bool.{false≢true}
use lib.ListN.{length}
use Rattle.keys.specs.Key.{key_is}
use Rattle.filter.specs.NewFilter.{entry_fourths_lem}
use Rattle.layout.specs.Items.{Area, fills}
use Rattle.geometry.specs.Shape.{shape, unit_sound}
use Rattle.changes.proofs.put_entry_filter.Goals as goal

pub returns-then-not-fills : goal.returns-then-not-fills
returns-then-not-fills c =
    let f = c.fills in
    let a = c.entry_area in
    let n = c.args.n in
    let none = sym (f.ensures ∙ ap (λ (x : Area). fills x n) a.ensures) ∙ c.if-not-fills.true in
    λ full. absurd (false≢true (sym none ∙ full))

pub new_filter-requires : goal.new_filter-requires
new_filter-requires c =
    record {
      unit_sound = (unit_sound c.args.g, c.args.g.hashes_allowed.1, omega arith, rw c.ka_ram.ensures (omega (arith, c.requires.0)));
      bits_value = c.requires.1;
    }

pub returns : goal.returns
returns c =
    λ full.
    entry_fourths_lem (shape c.args.g) c.args.n (key_is c.args.key) c.args.ram.now c.args.g.power.some full
    (record { level_lt = omega arith })
    (omega (arith, c.requires.0)) c.new_filter.new.bits c.args.g.power.most
    (c.new_filter.auto.bits ∙ ap length c.requires.1) (λ y. omega (arith, c.type_inv.out y))
    (rw (c.ka_ram.ensures, c.of_key.ensures) at c.new_filter.ensures)
