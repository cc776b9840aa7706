-- The induction over a list of calls, from the format on.
use Rattle.std.specs.Prelude.{◌≡◌, List, ℕ, ◌<◌, length}
use Rattle.std.proofs.Math.Option.{some}
use Rattle.layout.specs.Geometry.{geometry}
use Rattle.layout.specs.Geometry.{spare_size, Sizes, unit_of}
use Rattle.layout.specs.Flash.{apply_all}
use Rattle.layout.specs.Hash.{Family}
use Rattle.layout.specs.Keys.{Key}
use Rattle.layout.specs.Calls.{Volume, Call}
use Rattle.layout.specs.FiniteMap.{Map, Reply, accepts, hits, misses, refuses}
use Rattle.history.specs.FlashLaws.{AllAllowed}
use Rattle.history.specs.Image.{History}
use Rattle.history.specs.Live.{find_live}
use Rattle.history.specs.Frames.{Beyond}
use Rattle.history.specs.Runs.{after, ops_of, EachAgrees, grow, history_of}
use Rattle.history.specs.ProgramOrder.{Below}
use Rattle.history.specs.Volumes.{Holds, volume_of}

-- ---- the history grows by the accepted calls

abbrev pub grow_by : Reply → History → Call → History
grow_by accepts H c = grow H c
grow_by (hits bytes) H c = H
grow_by misses H c = H
grow_by (refuses i) H c = H

-- what is known after the calls, from the volume v with history H and the map m on
pub record Ran (h : Family) (sizes : Sizes) (v : Volume) (H : History) (m : Map) (cs : List Call) : Type 0 where
  pub agrees : EachAgrees h sizes v m cs
  pub flash_is : apply_all (unit_of sizes) (ops_of h v cs) v.flash ≡ (after h v cs).flash
  pub ops_allowed : AllAllowed (unit_of sizes) (ops_of h v cs) v.flash
  pub inside : Below (spare_size (geometry sizes)) (ops_of h v cs)
  pub volume_is : after h v cs ≡ volume_of sizes (history_of h v H cs) (after h v cs).flash (after h v cs).ram
  pub holds : Holds h sizes (history_of h v H cs) (after h v cs).flash (after h v cs).ram
  pub beyond : Beyond (geometry sizes) v.flash (after h v cs).flash v.ram (after h v cs).ram
  pub room : (k : Key) (j : ℕ) → find_live (history_of h v H cs) k ≡ some j
      → length (history_of h v H cs).deleted < length (history_of h v H cs).records
