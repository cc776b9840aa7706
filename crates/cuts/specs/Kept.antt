-- What a cut list of operations leaves of a byte of a programmed sector: the byte itself, or FF.
use Rattle.std.specs.Prelude.{◌≡◌, List, [], ◌∷◌, ℕ, ◌*◌, ◌≤◌, ◌<◌, length}
use Rattle.layout.specs.Flash.{Op, program, erase}

-- every program has the bytes of one sector
abbrev pub Sized : ℕ → List Op → Type 0
Sized u [] = Unit {0}
Sized u (program s bytes ∷ os) = (length bytes ≡ 16 * u) × Sized u os
Sized u (erase b ∷ os) = Sized u os

-- every erase is of a block from lo to hi
abbrev pub ErasesIn : ℕ → ℕ → List Op → Type 0
ErasesIn lo hi [] = Unit {0}
ErasesIn lo hi (program s bytes ∷ os) = ErasesIn lo hi os
ErasesIn lo hi (erase b ∷ os) = (lo ≤ b) × (b < hi) × ErasesIn lo hi os
