-- Bits of a word that change places.
use Rattle.std.specs.Prelude.{◌≡◌, true, false, cond, ℕ, ◌+◌, ◌-◌, ◌<◌, ltb}
use Rattle.memory.specs.Bits.{bit}

-- the bits that m has, and those s further up: none is in both, and all are in the word
unfoldable pub Apart : ℕ → ℕ → Type 0
Apart s m = (i : ℕ) → i < 64 → bit m i ≡ true → (s + i < 64) × (bit m (s + i) ≡ false)

-- whence the bit at i comes where they change places
unfoldable pub origin : ℕ → ℕ → ℕ → ℕ
origin s m i = cond (bit m i) (s + i) (cond (ltb i s) i (cond (bit m (i - s)) (i - s) i))

-- r is x after they changed places
unfoldable pub Exchanged : ℕ → ℕ → ℕ → ℕ → Type 0
Exchanged s m x r = (i : ℕ) → i < 64 → bit r i ≡ bit x (origin s m i)
