-- Calls that are not cut, on a volume with a header of its state and no intent: they are document 01's calls, whatever the bytes. So all
-- theorems about lists of calls are theorems about these too, and 10 is never met.
use Rattle.std.specs.Prelude.{◌≡◌, List, [], ◌∷◌, ◌++◌, ◌+◌}
use Rattle.layout.specs.Geometry.{unit_of}
use Rattle.layout.specs.Flash.{Op, apply_all}
use Rattle.layout.specs.Hash.{Family}
use Rattle.layout.specs.Calls.{Volume, Call, Outcome, accepted, hit, miss, refused, Result, refuse}
use Rattle.layout.specs.Budgets.{call_whole}
use Rattle.cuts.specs.Events.{lift}

-- ---- what a call of document 01 is, by its outcome: nothing in a result is left open

abbrev pub Shown : Outcome → Volume → Result → Type 0
Shown accepted v r =
    (r.count ≡ 0) × (r.da_pages ≡ 0) × (apply_all (unit_of v.state.sizes) r.ops v.flash ≡ r.volume.flash)
Shown (hit place bytes) v r = (r.volume ≡ v) × (r.ops ≡ [])
Shown miss v r = (r.volume ≡ v) × (r.ops ≡ [])
Shown (refused i) v r = r ≡ refuse v i

-- a result whose volume has the header
abbrev pub lift_result : Result → Result
lift_result r =
    record { outcome = r.outcome; count = r.count; da_pages = r.da_pages; volume = lift r.volume; ops = r.ops }

-- ---- lists of calls

-- the volume after calls, each with enough
abbrev pub whole_after : Family → Volume → List Call → Volume
whole_after h v [] = v
whole_after h v (c ∷ cs) = whole_after h (call_whole h v c).volume cs

-- their chip operations
abbrev pub whole_ops : Family → Volume → List Call → List Op
whole_ops h v [] = []
whole_ops h v (c ∷ cs) = (call_whole h v c).ops ++ whole_ops h (call_whole h v c).volume cs
