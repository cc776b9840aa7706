use native.Mathlib.Omega.{arith}
use mathlib.Core.Path.{◌≡◌, refl, sym}
use Prim.Native.Nat.{◌+◌, ◌-◌}
use Rattle.memory.specs.Lists.{tabulate_part}
use Rattle.lookup.proofs.record_at.Goals as goal

pub returns-in-Ram : goal.returns-in-Ram
returns-in-Ram c =
    let a = c.in-Ram in
    let s : a.at + 16 - a.at ≡ 16 = omega arith in
    rw (s, a.is) (sym (tabulate_part c.args.ram.now a.at 16 (rw a.is at c.requires)), refl)

pub returns-in-Flash : goal.returns-in-Flash
returns-in-Flash c =
    let a = c.in-Flash in
    let s : a.at + 16 - a.at ≡ 16 = omega arith in
    rw (s, a.is) (sym (tabulate_part c.args.main.now a.at 16 (rw a.is at c.requires)), refl)
