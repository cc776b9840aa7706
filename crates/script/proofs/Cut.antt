-- A line that asks for something has at most 34 bytes; so a line may be cut after 64.
use Rattle.std.specs.Prelude.{◌≡◌, refl, List, [], ◌∷◌, ℕ, suc, ◌+◌, ◌<◌, length, take}
use Rattle.std.proofs.Common.{ap, sym, ◌∙◌, arith, length-take, take_all}
use Rattle.std.proofs.Math.Option.{Option, none, some}
use Rattle.memory.specs.Cases.{either, le?, eq?}
use Rattle.script.specs.Lines.{bad, number, lengthen, fields, two_numbers, three_numbers, words_command, command}
use Rattle.script.specs.ReadNumber.{number_long}
use Rattle.script.specs.Cut.{total}

total_lengthen : (c : ℕ) (ws : List (List ℕ)) → 0 < total ws → total (lengthen c ws) ≡ suc (total ws)
unfolding total
total_lengthen c [] h = absurd (omega arith)
total_lengthen c (w ∷ ws) h = omega arith

total_fields : (l : List ℕ) → total (fields l) ≡ suc (length l)
unfolding fields total
total_fields [] = refl
total_fields (c ∷ cs) =
    let e : total (fields cs) ≡ suc (length cs) = total_fields cs in
    either (eq? c 32)
    (λ h. rw h.0 (omega arith))
    (λ h. rw h.0 (total_lengthen c (fields cs) (omega arith) ∙ ap suc e))

-- ---- one of them is too long

two_none : (c : ℕ) (x : Option ℕ) → two_numbers c x none ≡ bad
two_none c none = refl
two_none c (some x) = refl

three_none_2 : (c : ℕ) (x z : Option ℕ) → three_numbers c x none z ≡ bad
three_none_2 c none z = refl
three_none_2 c (some x) z = refl

three_none_3 : (c : ℕ) (x y : Option ℕ) → three_numbers c x y none ≡ bad
three_none_3 c none y = refl
three_none_3 c (some x) none = refl
three_none_3 c (some x) (some y) = refl

two_long : (c : ℕ) (x y : List ℕ) → 20 < length x + length y → two_numbers c (number x) (number y) ≡ bad
two_long c x y h =
    either (le? (length x) 10)
    (λ a. rw (number_long y (omega arith)) (two_none c (number x)))
    (λ a. rw (number_long x a.1))

three_long_after : (c : ℕ) (x y z : List ℕ) → 20 < length y + length z → three_numbers c (number x) (number y) (number z) ≡ bad
three_long_after c x y z h =
    either (le? (length y) 10)
    (λ a. rw (number_long z (omega arith)) (three_none_3 c (number x) (number y)))
    (λ a. rw (number_long y a.1) (three_none_2 c (number x) (number z)))

three_long : (c : ℕ) (x y z : List ℕ) → 30 < length x + length y + length z → three_numbers c (number x) (number y) (number z) ≡ bad
three_long c x y z h =
    either (le? (length x) 10)
    (λ a. three_long_after c x y z (omega arith))
    (λ a. rw (number_long x a.1))

long_words : (ws : List (List ℕ)) → 35 < total ws → words_command ws ≡ bad
unfolding total
long_words [] h = refl
long_words ([] ∷ ws) h = refl
long_words ((c ∷ d ∷ cs) ∷ ws) h = refl
long_words ((c ∷ []) ∷ []) h = refl
long_words ((c ∷ []) ∷ x ∷ []) h = rw (number_long x (omega arith))
long_words ((c ∷ []) ∷ x ∷ y ∷ []) h = two_long c x y (omega arith)
long_words ((c ∷ []) ∷ x ∷ y ∷ z ∷ []) h = three_long c x y z (omega arith)
long_words ((c ∷ []) ∷ x ∷ y ∷ z ∷ w ∷ ws) h = refl

-- `f 4294967295 4294967295 4294967295` has 34 bytes
pub long : (l : List ℕ) → 34 < length l → command l ≡ bad
unfolding command
long l h = long_words (fields l) (omega (arith, total_fields l))

-- a reader needs to keep no more than 64 bytes of a line
pub cut : (l : List ℕ) → command (take 64 l) ≡ command l
cut l =
    either (le? (length l) 64)
    (λ h. ap command (take_all 64 l h.1))
    (λ h. long (take 64 l) (omega (arith, length-take 64 l)) ∙ sym (long l (omega arith)))
