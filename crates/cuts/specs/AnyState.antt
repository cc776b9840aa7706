-- A restart "is handed a state too but goes by the header's": whatever state it is handed, on any bytes, it answers the same and leaves the
-- same bytes.
use Rattle.std.specs.Prelude.{◌≡◌}
use Rattle.layout.specs.Geometry.{State}
use Rattle.layout.specs.Calls.{Volume, Result}

-- the same bytes, handed over with another state
abbrev pub with_state : State → Volume → Volume
with_state s v = record { state = s; flash = v.flash; ram = v.ram }

-- the same answer and the same bytes
pub record SameAnswer (r r' : Result) : Type 0 where
  pub outcome : r'.outcome ≡ r.outcome
  pub flash : r'.volume.flash ≡ r.volume.flash
  pub ram : r'.volume.ram ≡ r.volume.ram
  pub ops : r'.ops ≡ r.ops
