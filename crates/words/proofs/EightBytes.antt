-- The number that the library reads from eight bytes has their 64 bits.
use Rattle.std.proofs.Common.{◌≡◌, ℕ, ◌+◌, ◌<◌, List, [], ◌∷◌, get_or, ap, ◌∙◌, arith}
use Rattle.std.specs.Int.{w64, from_le_bytes}
use Rattle.memory.specs.Bits.{bit, number, bit_number}
use Rattle.memory.specs.Words.{Word64}

-- the eight bytes from `at` on
abbrev pub eight : List ℕ → ℕ → List ℕ
eight s at =
    get_or s at 0 ∷ get_or s (at + 1) 0 ∷ get_or s (at + 2) 0 ∷ get_or s (at + 3) 0
    ∷ get_or s (at + 4) 0 ∷ get_or s (at + 5) 0 ∷ get_or s (at + 6) 0 ∷ get_or s (at + 7) 0 ∷ []

number_of : (s : List ℕ) (at : ℕ) → from_le_bytes w64 (eight s at) ≡ number (λ k. get_or s (at + k) 0) 8
unfolding number
number_of s at = let f0 : at + 0 ≡ at = omega arith in rw f0 (omega arith)

pub word_of : (s : List ℕ) (at x : ℕ) → ((k : ℕ) → get_or s k 0 < 256) → x ≡ from_le_bytes w64 (eight s at) → Word64 s at x
unfolding Word64
word_of s at x all e i h =
    ap (λ (z : ℕ). bit z i) (e ∙ number_of s at) ∙ bit_number (λ k. get_or s (at + k) 0) (λ k. all (at + k)) 8 i h
