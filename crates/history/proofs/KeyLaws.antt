-- When two keys are the same: what proofs know of `same_key_lem`.
use Rattle.std.specs.Prelude.{◌≡◌, ◌≢◌, ◌⊎◌, true, false}
use Rattle.std.proofs.Common.{sym, ◌∙◌, true≢false}
use Rattle.memory.specs.Cases.{eq?, either}
use Rattle.layout.specs.Keys.{Key, same_key}

pub key? : (a b : Key) → ((same_key a b ≡ true) × (a ≡ b)) ⊎ ((same_key a b ≡ false) × (a ≢ b))
unfolding same_key
key? a b = eq? a b

pub same_key_lem : (a b : Key) → same_key a b ≡ true → a ≡ b
same_key_lem a b e = either (key? a b) (λ p. p.1) (λ p. absurd (true≢false (sym e ∙ p.0)))

pub key_other : (a b : Key) → a ≢ b → same_key a b ≡ false
key_other a b e = either (key? a b) (λ p. absurd (e p.1)) (λ p. p.0)
