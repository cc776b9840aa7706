-- Calls made of several: a list of calls in turn, ended by the first that is refused.
use Rattle.std.specs.Prelude.{◌≡◌, List, [], ◌∷◌}
use Rattle.layout.specs.Geometry.{Geometry}
use Rattle.layout.specs.Hash.{Family}
use Rattle.layout.specs.Calls.{Volume, Call, accepted, call}
use Rattle.layout.specs.Several.{Several, ended, go_on}
use Rattle.layout.specs.FiniteMap.{Map, accepts, map_of}

abbrev pub call_all : Family → Volume → List Call → Several
call_all h v [] = ended accepted v
call_all h v (c ∷ cs) = go_on (call h v c).outcome (call h v c).volume (call_all h (call h v c).volume cs)

-- ---- where the map takes every call, so does the volume

-- the map takes each call of the list
abbrev pub AllTaken : Geometry → Map → List Call → Type 0
AllTaken g m [] = Unit {0}
AllTaken g m (c ∷ cs) = ((map_of g m c).says ≡ accepts) × AllTaken g (map_of g m c).next cs
