-- Filters side by side in a row: which of them have all bits of a mask.
use Rattle.std.specs.Prelude.{◌≡◌, Bool, ◌&&◌, not, List, ℕ, ◌+◌, ◌-◌, ◌*◌, ◌/◌, ◌≤◌, ◌<◌, ltb}
use Rattle.memory.specs.Bits.{bit, bit_in}
use Rattle.memory.specs.Ranges.{any}
use Rattle.kernels.specs.Blocks.{Open}

-- has filter g, of those of w bits each in the row that begins at byte `at`, all bits of m
unfoldable pub has_mask : List ℕ → ℕ → ℕ → ℕ → ℕ → Bool
has_mask bytes at w m g = not (any (λ b. bit m b && not (bit_in bytes at (g * w + b))) w)

-- r has in each of four fields of 16 bits a bit for each of q words of four filters, the last word's on top: is the filter shut
unfoldable pub Shut : (ℕ → Bool) → ℕ → ℕ → Type 0
Shut gate q r = (i j : ℕ) → i < 4 → j < 16 → bit r (16 * i + j) ≡ (not (ltb j (16 - q)) && not (gate (4 * (j + q - 16) + i)))

-- r shows which of n filters are not shut, x being the word of those that are
abbrev pub Had : ℕ → ℕ → ℕ → Type 0
Had x n r = (gate : ℕ → Bool) → Shut gate ((n + 3) / 4) x → Open gate 0 n r

-- r has, after those of `start`, the filters of n words that lack a bit of m
abbrev pub Lacked : ℕ → ℕ → ℕ → ℕ → List ℕ → ℕ → Type 0
Lacked start m at n bytes r =
    (gate : ℕ → Bool) (q : ℕ) → q + n ≤ 16 → Shut gate q start
    → ((g : ℕ) → g < 4 * n → gate (4 * q + g) ≡ has_mask bytes at 16 m g) → Shut gate (q + n) r
