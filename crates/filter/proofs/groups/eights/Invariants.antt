use Prim.Native.Nat.{◌*◌}
use lib.ListN.{take}
use Rattle.kernels.specs.Blocks.{Shows}
use Rattle.filter.specs.Groups.{level_has}
use Rattle.filter.proofs.groups.eights.Given as goal

abbrev pub invariant-loop-p : goal.invariant-loop-p
invariant-loop-p l = Shows (level_has l.l l.bytes (take l.p-index l.ps)) l.first (l.n * 8) l.r
