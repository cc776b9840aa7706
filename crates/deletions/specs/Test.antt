-- What the contract of a test compares: the code's answer as the layout's, and the volume as far as a test reads it.
use Rattle.std.specs.Prelude.{cond, List, [], ℕ, ◌≤◌}
use Rattle.std.proofs.Math.Option.{none, some}
use Rattle.layout.specs.Geometry.{sizes_of, state_of, deletion_capacity}
use Rattle.layout.specs.Flash.{flash_of}
use Rattle.layout.specs.Search.{Found, found, reply}
use Rattle.layout.specs.Calls.{Volume}
use Rattle.laws.specs.Lengths.{Readable}
use Rattle.geometry.specs.Shape.{shape}
use Rattle.deletions.specs.declared.Deletions.{Deletions}
use Rattle.deletions.specs.declared.Tested.{Tested}

-- what a test of number j found
abbrev pub tested_of : ℕ → Tested → Found
tested_of j r = reply (cond r.met (some (found j)) none) r.opened

-- a volume with these bytes; a test reads nothing else of it
abbrev pub held : Deletions → List ℕ → List ℕ → Volume
held t main ram = record { state = state_of (sizes_of 0 0 0 0) 0 t.d; flash = flash_of main []; ram = ram }

-- the lent bytes hold a volume, of whose deletions no more are tested than there are
pub record DeletionsFit (t : Deletions) (main ram : List ℕ) : Type 0 where
  pub read : Readable (shape t.g) main ram
  pub cap : t.d ≤ deletion_capacity (shape t.g)
  pub bound : t.d0 ≤ t.d
