-- One call on a volume that holds the image of a history: it answers as the history does, and leaves the image of the next history.
use Rattle.std.specs.Prelude.{◌≡◌, List, ℕ, ◌/◌, ◌≤◌, length}
use Rattle.layout.specs.Geometry.{geometry, entries_per_page}
use Rattle.layout.specs.Geometry.{spare_size, Sizes, unit_of}
use Rattle.layout.specs.Flash.{Flash, apply_all}
use Rattle.layout.specs.Hash.{Family}
use Rattle.layout.specs.Calls.{Result}
use Rattle.history.specs.FlashLaws.{AllAllowed}
use Rattle.history.specs.Image.{History}
use Rattle.history.specs.Live.{HistoryStep}
use Rattle.history.specs.Frames.{Beyond}
use Rattle.history.specs.Runs.{reply_of, Possible, HandedOn}
use Rattle.history.specs.ProgramOrder.{Below}
use Rattle.history.specs.Volumes.{Holds, volume_of}

pub record CallDone (h : Family) (sizes : Sizes) (H : History) (C : Flash) (ram : List ℕ) (r : Result) (s : HistoryStep) : Type 0 where
  pub says : reply_of r.outcome ≡ s.says
  pub possible : Possible r.outcome
  pub handed_on : HandedOn r.outcome (volume_of sizes H C ram) r.volume
  pub volume_is : r.volume ≡ volume_of sizes s.next r.volume.flash r.volume.ram
  pub holds : Holds h sizes s.next r.volume.flash r.volume.ram
  pub flash_is : apply_all (unit_of sizes) r.ops C ≡ r.volume.flash
  pub ops_allowed : AllAllowed (unit_of sizes) r.ops C
  pub inside : Below (spare_size (geometry sizes)) r.ops
  pub beyond : Beyond (geometry sizes) C r.volume.flash ram r.volume.ram
  pub count_le : r.count ≤ length H.records / entries_per_page (unit_of sizes)
