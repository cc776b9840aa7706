-- The volumes that calls reach from a format: each holds the image of a history, and a finite map answers as it does.
use Rattle.std.specs.Prelude.{◌≡◌, true, List, [], ◌∷◌}
use Rattle.layout.specs.Geometry.{Sizes, Geometry, allowed}
use Rattle.layout.specs.Hash.{Family}
use Rattle.layout.specs.Calls.{Volume, Call}
use Rattle.layout.specs.FiniteMap.{Map, map_of}
use Rattle.history.specs.Image.{History}
use Rattle.history.specs.Live.{Live}
use Rattle.history.specs.Volumes.{Holds, volume_of}

-- the map after the calls
abbrev pub map_after : Geometry → Map → List Call → Map
map_after g m [] = m
map_after g m (c ∷ cs) = map_after g (map_of g m c).next cs

pub record Reached (h : Family) (sizes : Sizes) (v : Volume) (m : Map) : Type 0 where
  pub can : allowed sizes ≡ true
  pub H : History
  pub is : v ≡ volume_of sizes H v.flash v.ram
  pub holds : Holds h sizes H v.flash v.ram
  pub live : Live H m
