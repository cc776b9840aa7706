-- The command that a line makes, by its words.
use Rattle.std.specs.Prelude.{◌≡◌, refl, List, [], ◌∷◌, ℕ, Bool, true, false, eqb, is_some, length, get_or, Option as Maybe, Some, None}
use Rattle.std.proofs.Common.{sym, ap, arith}
use Rattle.std.proofs.Math.Option.{Option, none, some}
use Rattle.std.proofs.lemmas.Iterator.{YieldsList}
use Rattle.std.proofs.lemmas.Iterator.Splits.{YieldsList-from_slice_split}
use Rattle.std.specs.Fn.{CalledAt}
use Rattle.std.specs.Iterator.Runs.{EachRunFrom, IsSplitRun}
use Rattle.std.specs.List.{slice_split, onto_first}
use Rattle.std.specs.Slice.Iter.{split_steps, split_rest, split_done, split_callee}
use denote.Param.Members.{Mut}
use denote.Ref.{Bor}
use Rattle.memory.specs.Cases.{either, eq?}
use Rattle.script.specs.Lines.{bad, number, lengthen, fields, two_numbers, three_numbers, letter_command, command}

-- ---- the words of a line, one after another

onto_is : (c : ℕ) (ws : List (List ℕ)) → onto_first c ws ≡ lengthen c ws
onto_is c [] = refl
onto_is c (w ∷ ws) = refl

fields_are : (l : List ℕ) → slice_split (λ c. eqb c 32) l ≡ fields l
unfolding fields
fields_are [] = refl
fields_are (c ∷ cs) = either (eq? c 32) (λ h. rw (h.0, fields_are cs)) (λ h. rw (h.0, fields_are cs) (onto_is c (fields cs)))

-- a line that is split at its spaces; the first fact tells what the closure is
pub words_of : {F : Type 0} {s : _} {g : Mut F (Bor ℕ × Unit {0}) Bool} {f : F} (l : List ℕ)
    → EachRunFrom (split_steps g) s (λ p. IsSplitRun p l g f) → split_rest s ≡ l → split_done s ≡ false → split_callee s ≡ f
    → ((x : ℕ) (b : Bool) (q : F) → CalledAt g f x b q → (q ≡ f) × (b ≡ eqb x 32)) → YieldsList (split_steps g) (λ x. x.now) s (fields l)
words_of {F} {s} {g} l runs r d e k = rw (fields_are l) at (YieldsList-from_slice_split {s = s} g (λ c. eqb c 32) l r d e k)

-- a word, and those after it
pub record Next {S : Type 0} (steps : S → Maybe (Bor (List ℕ)) → S → Type 0) (ws : List (List ℕ)) (w : List ℕ) (t : S) : Type 0 where
  pub rest : List (List ℕ)
  pub is : ws ≡ w ∷ rest
  pub left : YieldsList steps (λ x. x.now) t rest

module _ {S : Type 0} {steps : S → Maybe (Bor (List ℕ)) → S → Type 0} {s : S} where
  pub next_some : (ws : List (List ℕ)) (x : Bor (List ℕ)) (t : S) → YieldsList steps (λ x. x.now) s ws → steps s (Some x) t
      → Next steps ws x.now t
  next_some [] x t y h = absurd (y.runs x t h)
  next_some (w ∷ ws) x t y h =
      let r = y.runs.1 x t h in
      record { rest = ws; is = ap (λ (u : List ℕ). u ∷ ws) (sym r.0); left = record { runs = r.1 } }

  pub next_none : (ws : List (List ℕ)) (t : S) → YieldsList steps (λ x. x.now) s ws → steps s None t → ws ≡ []
  next_none [] t y h = refl
  next_none (w ∷ ws) t y h = absurd (y.runs.0 t h)

  -- whether there is another word
  pub next_no : (ws : List (List ℕ)) (r : Maybe (Bor (List ℕ))) (t : S) → YieldsList steps (λ x. x.now) s ws → steps s r t
      → is_some r ≡ false → ws ≡ []
  next_no ws None t y h e = next_none ws t y h
  next_no ws (Some x) t y h e = cc

  pub next_yes : (ws : List (List ℕ)) (r : Maybe (Bor (List ℕ))) (t : S) → YieldsList steps (λ x. x.now) s ws → steps s r t
      → is_some r ≡ true → (w : List ℕ) × Next steps ws w t
  next_yes ws None t y h e = cc
  next_yes ws (Some x) t y h e = (x.now, next_some ws x t y h)

-- ---- the command

module _ (l : List ℕ) where
  pub no_letter : (w : List ℕ) (ws : List (List ℕ)) → fields l ≡ w ∷ ws → (length w ≡ 1 → ⊥) → command l ≡ bad
  unfolding command
  no_letter [] ws e n = rw e
  no_letter (c ∷ []) ws e n = absurd (n refl)
  no_letter (c ∷ d ∷ cs) ws e n = rw e

  pub letter : (w : List ℕ) (ws : List (List ℕ)) → fields l ≡ w ∷ ws → length w ≡ 1 → command l ≡ letter_command (get_or w 0 0) ws
  unfolding command
  letter [] ws e n = absurd (omega arith)
  letter (c ∷ []) ws e n = rw e
  letter (c ∷ d ∷ cs) ws e n = absurd (omega arith)

module _ (c : ℕ) (x : List ℕ) where
  pub first_bad : (ws : List (List ℕ)) → number x ≡ none → letter_command c (x ∷ ws) ≡ bad
  first_bad [] e = rw e
  first_bad (y ∷ []) e = rw e
  first_bad (y ∷ z ∷ []) e = rw e
  first_bad (y ∷ z ∷ w ∷ ws) e = refl

  pub second_bad : (y : List ℕ) (ws : List (List ℕ)) → number y ≡ none → letter_command c (x ∷ y ∷ ws) ≡ bad
  second_bad y [] e = rw e (two (number x))
    where
      two : (o : Option ℕ) → two_numbers c o none ≡ bad
      two none = refl
      two (some v) = refl
  second_bad y (z ∷ []) e = rw e (three (number x))
    where
      three : (o : Option ℕ) → three_numbers c o none (number z) ≡ bad
      three none = refl
      three (some v) = refl
  second_bad y (z ∷ w ∷ ws) e = refl

  pub third_bad : (y z : List ℕ) (ws : List (List ℕ)) → number z ≡ none → letter_command c (x ∷ y ∷ z ∷ ws) ≡ bad
  third_bad y z [] e = rw e (three (number x) (number y))
    where
      three : (o p : Option ℕ) → three_numbers c o p none ≡ bad
      three none p = refl
      three (some v) none = refl
      three (some v) (some w) = refl
  third_bad y z (w ∷ ws) e = refl
