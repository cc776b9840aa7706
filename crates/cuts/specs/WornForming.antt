-- A format on any volume, cut, restarted, cut again and finished, on any other spare bytes: it reads none and erases all, so that each of
-- its runs is the same, and the one that finishes it leaves the volume's spare bytes as on a sound chip. Document 02, §3 and §8.
use Rattle.std.specs.Prelude.{◌≡◌, ◌⊎◌, false}
use Rattle.layout.specs.Geometry.{geometry, Sizes}
use Rattle.layout.specs.Calls.{Volume, too_short}
use Rattle.layout.specs.Header.{pages, formatting, pending_in}
use Rattle.cuts.specs.WornEvents.{Run, RunSame}
use Rattle.cuts.specs.WornSteady.{Steady}

-- a volume on which a format of these sizes is pending, long enough for it, whatever its bytes
pub record Forming (sizes : Sizes) (v : Volume) : Type 0 where
  pub pending_is_lem : pending_in v.ram ≡ formatting sizes
  pub long : too_short (geometry sizes) v.flash (pages v.ram) ≡ false

-- a run of a format on any spare bytes, as many of them, and what it leaves
pub record FormingOn (sizes : Sizes) (v : Volume) (r : Run) : Type 0 where
  pub same : RunSame sizes 0 v r
  pub next : Forming sizes (r v).volume ⊎ Steady sizes (r v).volume
