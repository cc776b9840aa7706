use Prim.Native.Nat.{◌-◌, ◌≤◌}
use mathlib.Core.Path.{◌≡◌}
use Rattle.layout.specs.Flash.{flash_of, planned_from}
use Rattle.plan.specs.Runs.{done}
use Rattle.plan.proofs.program_span.Given as goal

abbrev pub invariant-loop-j : goal.invariant-loop-j
invariant-loop-j g l = record {
  within : l.j - l.fn.part.from ≤ l.j-end - l.fn.part.from;
  so_far : flash_of l.main l.spare
      ≡ done (g.S.Sectors.unit l.sectors) (planned_from (g.S.Sectors.planned l.sectors) l.fn.part.from (l.j - l.fn.part.from)) (flash_of l.initial.main l.initial.spare);
}
