-- Exchanges one after another: whence each bit comes, computed for all 64.
use Rattle.std.specs.Prelude.{◌≡◌, Bool, true, ◌&&◌, ◌||◌, not, ℕ, ◌+◌, ◌-◌, ◌<◌, ltb, eqb}
use Rattle.std.proofs.Common.{ap, ◌∙◌, arith, ltb-true, eqb-true}
use Rattle.std.proofs.Math.Bool.{and-eq-true_iff}
use Rattle.std.proofs.lemmas.Bool.{not-true}
use Rattle.memory.specs.Bits.{bit}
use Rattle.memory.specs.Cases.{either, bool?, lt?}
use Rattle.memory.specs.Ranges.{all, all_at}
use Rattle.words.specs.Exchanges.{Apart, origin, Exchanged}

-- the bits of a mask are apart from those above them, by computing
abbrev pub is_apart : ℕ → ℕ → ℕ → Bool
is_apart s m i = not (bit m i) || (ltb (s + i) 64 && not (bit m (s + i)))

pub apart_by : (s m : ℕ) → all (is_apart s m) 64 ≡ true → Apart s m
unfolding Apart
apart_by s m e i h b =
    let a : is_apart s m i ≡ true = all_at (is_apart s m) 64 i e h in
    let t = (and-eq-true_iff (ltb (s + i) 64) (not (bit m (s + i)))).0 (rw b at a) in
    (ltb-true (s + i) 64 t.0, not-true (bit m (s + i)) t.1)

-- ---- bit i of r is bit f i of x

abbrev pub Moved : (ℕ → ℕ) → ℕ → ℕ → Type 0
Moved f x r = (i : ℕ) → i < 64 → bit r i ≡ bit x (f i)

origin_lt : (s m i : ℕ) → Apart s m → i < 64 → origin s m i < 64
unfolding Apart origin
origin_lt s m i A l =
    either (bool? (bit m i))
    (λ h. rw h (A i l h).0)
    (λ h.
    either (lt? i s)
    (λ t. rw (h, t.0) l)
    (λ t. either (bool? (bit m (i - s))) (λ u. rw (h, t.0, u) (omega arith)) (λ u. rw (h, t.0, u) l)))

-- after one exchange, and after one more
pub moved : (s m x r : ℕ) → Exchanged s m x r → Moved (origin s m) x r
unfolding Exchanged
moved s m x r X = X

pub moved_on : (f : ℕ → ℕ) (s m x y r : ℕ) → Apart s m → Moved f x y → Exchanged s m y r → Moved (λ i. f (origin s m i)) x r
unfolding Exchanged
moved_on f s m x y r A F X i h = X i h ∙ F (origin s m i) (origin_lt s m i A h)

-- the same places by another rule, by computing
pub moved_by : (f g : ℕ → ℕ) (x r : ℕ) → Moved f x r → all (λ i. eqb (f i) (g i)) 64 ≡ true → Moved g x r
moved_by f g x r F e i h = F i h ∙ ap (bit x) (eqb-true (f i) (g i) (all_at (λ j. eqb (f j) (g j)) 64 i e h))
