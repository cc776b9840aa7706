use Prim.Native.Nat.{◌-◌, ◌≤◌}
use mathlib.Core.Path.{◌≡◌}
use Rattle.layout.specs.Flash.{flash_of, planned_from}
use Rattle.plan.specs.Runs.{done}
use Rattle.plan.specs.Segments.{next_set}
use Rattle.plan.proofs.NextSet.set_run.Given as goal

abbrev pub invariant-loop-j : goal.invariant-loop-j
invariant-loop-j l =
    let u = l.self.chip.unit in record {
      begun : l.part.from ≤ l.j;
      within : l.j - l.part.from ≤ l.part.to - l.part.from;
      so_far : flash_of l.main l.spare
          ≡ done u (planned_from (next_set u l.self.set l.self.sector) l.part.from (l.j - l.part.from)) (flash_of l.initial.main l.initial.spare);
    }

abbrev pub decreases-loop-j : goal.decreases-loop-j
decreases-loop-j l = l.part.to - l.j
