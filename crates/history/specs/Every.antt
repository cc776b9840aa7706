-- Every call on every volume, whatever its state and lent bytes: a refusal hands everything back, bytes past the volume never change,
-- and a lookup opens at most floor(n / (S/2)) pages.
use Rattle.std.specs.Prelude.{◌≡◌, Bool, List}
use Rattle.std.proofs.Math.Bool.{true, false}
use Prim.Native.Nat.{ℕ, ◌≤◌}
use Rattle.layout.specs.Geometry.{Geometry, geometry, blocks, ram_size}
use Rattle.layout.specs.Geometry.{Sizes, unit_of}
use Rattle.layout.specs.Flash.{Planned}
use Rattle.layout.specs.Calls.{Volume, Outcome, accepted, hit, miss, refused, Result}
use Rattle.history.specs.Frames.{Beyond}
use Rattle.history.specs.Inside.{Inside, PlanInside}
use Rattle.history.specs.Inside.{Past}

-- ---- a refusal hands everything back

abbrev pub Keeps : Volume → Result → Type 0
Keeps v r = (i : ℕ) → r.outcome ≡ refused i → r.volume ≡ v

-- ---- "the DA pages opened, 0 on a refusal"

abbrev pub NoPages : Result → Type 0
NoPages r = (i : ℕ) → r.outcome ≡ refused i → (r.count ≡ 0) × (r.da_pages ≡ 0)

abbrev pub is_accepted : Outcome → Bool
is_accepted accepted = true
is_accepted (hit place bytes) = false
is_accepted miss = false
is_accepted (refused i) = false

-- ---- the count: "It is at most floor(n / (S/2))"

abbrev pub Most : ℕ → Result → Type 0
Most m r = r.count ≤ m

-- ---- "bytes past the volume and past the desk's 20S never change", 24S since document 02, §5

-- a plan inside the volume, and a RAM that keeps what is past its pages
pub record Bounded (g : Geometry) (ram : List ℕ) (plan : List Planned) (ram' : List ℕ) : Type 0 where
  pub inside : PlanInside g.u (blocks g) plan
  pub past : Past (ram_size g) ram ram'

abbrev pub Bounds : Sizes → Volume → Result → Type 0
Bounds sizes v r =
    Beyond (geometry sizes) v.flash r.volume.flash v.ram r.volume.ram × Inside (unit_of sizes) (blocks (geometry sizes)) r.ops
