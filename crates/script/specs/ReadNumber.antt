-- What one more digit does to a number that is read, and when a word is no number.
use Rattle.std.specs.Prelude.{◌≡◌, refl, ◌⊎◌, true, false, List, [], ◌∷◌, ℕ, zero, suc, ◌+◌, ◌*◌, ◌-◌, ◌^◌, ◌≤◌, ◌<◌, length, get_or, drop}
use Rattle.std.proofs.Common.{ap, ◌∙◌, inl, inr, not-suc-le-zero, pow-suc, arith}
use Rattle.std.proofs.lemmas.List.{drop_more, drop_all}
use Rattle.std.proofs.Math.Option.{none, some}
use borrow.Author.Tests.{le-leb, lt-ltb, le-ltb, eq-eqb, ne_eqb}
use Rattle.memory.specs.Cases.{either, le?, eq?}
use Rattle.text.specs.Text.{is_digit, digits_from}
use Rattle.script.specs.Lines.{small, number}

-- ---- digits

digit? : (c : ℕ) → ((is_digit c ≡ true) × (48 ≤ c) × (c ≤ 57)) ⊎ (is_digit c ≡ false)
digit? c = either (le? 48 c) (λ a. either (le? c 57) (λ b. inl (cc, a.1, b.1)) (λ b. inr cc)) (λ a. inr cc)

module _ (l : List ℕ) (v i : ℕ) where
  -- a digit more
  pub digits_more : i < length l → 48 ≤ get_or l i 0 → get_or l i 0 ≤ 57
      → digits_from v (drop i l) ≡ digits_from (v * 10 + (get_or l i 0 - 48)) (drop (i + 1) l)
  unfolding digits_from
  digits_more h a b = rw (drop_more l i 0 h, le-leb 48 (get_or l i 0) a, le-leb (get_or l i 0) 57 b)

  -- another byte
  pub digits_other : i < length l → (48 ≤ get_or l i 0 → get_or l i 0 ≤ 57 → ⊥) → digits_from v (drop i l) ≡ none
  unfolding digits_from
  digits_other h n = rw (drop_more l i 0 h) (either (digit? (get_or l i 0)) (λ d. absurd (n d.1 d.2)) (λ d. rw d))

  pub digits_end : length l ≤ i → digits_from v (drop i l) ≡ some v
  unfolding digits_from
  digits_end h = rw (drop_all i l h)

-- a value of 2^32 or more stays so
pub stays_large : (v : ℕ) (l : List ℕ) → 4294967296 ≤ v → small (digits_from v l) ≡ none
unfolding digits_from
stays_large v [] h = rw (le-ltb v 4294967296 h)
stays_large v (c ∷ cs) h =
    either (digit? c)
    (λ d. rw d.0 (stays_large (v * 10 + (c - 48)) cs (omega arith)))
    (λ d. rw d)

-- k digits more make a value 10^k times as large, or larger
pub grows_large : (k v : ℕ) (l : List ℕ) → 4294967296 ≤ v * 10 ^ k → k ≤ length l → small (digits_from v l) ≡ none
unfolding digits_from
grows_large zero v l h n = stays_large v l (omega arith)
grows_large (suc k) v [] h n = absurd (not-suc-le-zero n)
grows_large (suc k) v (c ∷ cs) h n =
    either (digit? c)
    (λ d. rw d.0 (grows_large k (v * 10 + (c - 48)) cs (omega (arith, ap (λ (x : ℕ). v * x) (pow-suc 10 k))) (omega arith)))
    (λ d. rw d)

-- ---- numbers

pub number_empty : (l : List ℕ) → length l ≡ 0 → number l ≡ none
unfolding number
number_empty [] h = refl
number_empty (c ∷ cs) h = absurd (omega arith)

-- one digit needs no test of its size
pub number_one : (l : List ℕ) → length l ≡ 1 → number l ≡ small (digits_from 0 l)
unfolding digits_from number
number_one [] h = absurd (omega arith)
number_one (c ∷ []) h =
    either (digit? c)
    (λ d. let s : 0 * 10 + (c - 48) < 4294967296 = omega arith in rw (d.0, lt-ltb (0 * 10 + (c - 48)) 4294967296 s))
    (λ d. rw d)
number_one (c ∷ d ∷ cs) h = absurd (omega arith)

pub number_zero : (l : List ℕ) → 1 < length l → get_or l 0 0 ≡ 48 → number l ≡ none
unfolding number
number_zero [] h e = absurd (omega arith)
number_zero (c ∷ []) h e = absurd (omega arith)
number_zero (c ∷ d ∷ cs) h e = rw (eq-eqb c 48 e)

pub number_more : (l : List ℕ) → 1 < length l → (get_or l 0 0 ≡ 48 → ⊥) → number l ≡ small (digits_from 0 l)
unfolding number
number_more [] h e = absurd (omega arith)
number_more (c ∷ []) h e = absurd (omega arith)
number_more (c ∷ d ∷ cs) h e = rw (ne_eqb c 48 e)

-- eleven digits of which the first is not 0 make 10^10 or more
pub number_long : (l : List ℕ) → 10 < length l → number l ≡ none
unfolding digits_from
number_long [] h = absurd (omega arith)
number_long (c ∷ cs) h =
    either (eq? c 48)
    (λ z. number_zero (c ∷ cs) (omega arith) z.1)
    (λ z.
    number_more (c ∷ cs) (omega arith) z.1
    ∙ either (digit? c)
    (λ d. rw d.0 (grows_large 10 (0 * 10 + (c - 48)) cs (omega arith) (omega arith)))
    (λ d. rw d))
