-- Operations inside the first B blocks of a chip, plans whose operations lie there on every chip, and RAM written below byte N: what lies
-- past these is kept.
use Rattle.std.specs.Prelude.{◌≡◌, get_or}
use mathlib.Core.List.{List, [], ◌∷◌}
use Prim.Native.Nat.{ℕ, ◌*◌, ◌≤◌, ◌<◌}
use Rattle.std.proofs.Math.ListN.{length}
use Rattle.layout.specs.Geometry.{sector}
use Rattle.layout.specs.Flash.{Op, program, erase, Planned, known, made, wipe}

-- ---- operations

-- sectors and blocks of the first B blocks, a sector with its S bytes
unfoldable pub Inside : ℕ → ℕ → List Op → Type 0
Inside u B [] = Unit {0}
Inside u B (program s bytes ∷ os) = (s < B * 64) × (length bytes ≡ sector u) × Inside u B os
Inside u B (erase b ∷ os) = (b < B) × Inside u B os

-- ---- plans

-- a planned operation, on whatever chip it is done
abbrev pub OneInside : ℕ → ℕ → Planned → Type 0
OneInside u B (known s bytes) = (s < B * 64) × (length bytes ≡ sector u)
OneInside u B (made s bytes) = (s < B * 64) × ((main : List ℕ) → length (bytes main) ≡ sector u)
OneInside u B (wipe b) = b < B

-- all of a plan
unfoldable pub PlanInside : ℕ → ℕ → List Planned → Type 0
PlanInside u B [] = Unit {0}
PlanInside u B (p ∷ ps) = OneInside u B p × PlanInside u B ps

-- ---- RAM

-- the bytes from N on, and the length
pub record Past (N : ℕ) (r r' : List ℕ) : Type 0 where
  pub same : (x : ℕ) → N ≤ x → get_or r' x 0 ≡ get_or r x 0
  pub long : length r' ≡ length r
