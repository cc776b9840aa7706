-- Every other field of a byte.
use Rattle.std.specs.Prelude.{◌≡◌, ◌⊎◌, ℕ, ◌+◌, ◌*◌, ◌/◌, ◌%◌, ◌<◌}
use Rattle.memory.specs.Bits.{bit}

-- widths of which a byte holds several
abbrev pub Narrow : ℕ → Type 0
Narrow w = (w ≡ 1) ⊎ ((w ≡ 2) ⊎ (w ≡ 4))

-- r has the fields of w bits of x that are even, put together
pub record Half (w x r : ℕ) : Type 0 where
  pub small : r < 16
  pub bits : (i : ℕ) → i < 4 → bit r i ≡ bit x (i / w * (2 * w) + i % w)
