use mathlib.Core.Path.{◌≡◌}
use Prim.Native.Nat.{◌/◌, ◌^◌, ◌<◌}
use Rattle.filter.specs.Recent.{MaskOf, OneRow}
use Rattle.filter.proofs.groups.mask_of.Given as goal

abbrev pub invariant-loop-p : goal.invariant-loop-p
invariant-loop-p l =
    (l.bits < 2 ^ 2 ^ l.e) × MaskOf l.ps l.p-index (2 ^ l.e) l.bits × (l.differ / 2 ^ l.e ≡ 0 → OneRow l.ps l.p-index l.e)
