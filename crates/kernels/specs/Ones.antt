-- The set bits of a word, the highest first: what a call gives, and that there are fewer then.
use Rattle.std.specs.Prelude.{◌≡◌, true, false, ◌&&◌, not, ℕ, ◌<◌, eqb, Option, MatchOption}
use Rattle.memory.specs.Bits.{bit}
use Rattle.kernels.specs.declared.ones.Ones.{Ones}

-- bit f is the highest of a word, and r is the word without it
abbrev pub TakesHighest : ℕ → ℕ → ℕ → Type 0
TakesHighest bits f r =
    ((f < 64) × (bit bits f ≡ true) × ((i : ℕ) → f < i → i < 64 → bit bits i ≡ false))
    × ((i : ℕ) → i < 64 → bit r i ≡ (not (eqb i f) && bit bits i))

-- none was left, or the highest is given and the others are left
abbrev pub GivesHighest : Ones → Option ℕ → Ones → Type 0
GivesHighest s r t = MatchOption r ((s.left ≡ 0) × (t.left ≡ 0)) (λ f. TakesHighest s.left f t.left)
