use Rattle.std.proofs.Common.{◌≡◌, ◌+◌, ◌-◌}
use Rattle.layout.specs.Flash.{flash_of, apply_all, erases}
use Rattle.flash.proofs.erase_blocks.Given as goal

abbrev pub invariant-loop-i : goal.invariant-loop-i
invariant-loop-i l =
    apply_all l.chip.unit (erases l.b l.k) (flash_of l.initial.main l.initial.spare) ≡ apply_all l.chip.unit (erases (l.b + l.i) (l.k - l.i)) (flash_of l.main l.spare)
