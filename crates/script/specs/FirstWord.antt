-- A line's first word, and the words after the space that ends it.
use Rattle.std.specs.Prelude.{◌≡◌, refl, cond, List, [], ◌∷◌, ℕ, suc, ◌+◌, ◌≤◌, ◌<◌, eqb, length, get_or, take, drop}
use Rattle.std.proofs.Common.{ap, ◌∙◌, add-one, arith, drop-cons}
use Prim.Native.Char.{code}
use borrow.Author.Tests.{eq-eqb, ne_eqb}
use Rattle.std.proofs.Math.ListN.{drop_of_length-le}
use Rattle.memory.specs.Cases.{either, eq?}
use Rattle.script.specs.Lines.{fields, lengthen}

-- the bytes before the first space; all of them if there is none
unfoldable pub word_length : List ℕ → ℕ
word_length [] = 0
word_length (c ∷ cs) = cond (eqb c (code " ")) 0 (suc (word_length cs))

-- ---- from a byte on

module _ (i : ℕ) (l : List ℕ) where
  pub word_space : i < length l → get_or l i 0 ≡ 32 → i + word_length (drop i l) ≡ i
  unfolding word_length
  word_space h e = rw (drop-cons l i 0, eq-eqb (get_or l i 0) 32 e) (omega arith)

  pub word_more : i < length l → (get_or l i 0 ≡ 32 → ⊥) → i + word_length (drop i l) ≡ i + 1 + word_length (drop (i + 1) l)
  unfolding word_length
  word_more h e = rw (drop-cons l i 0, ne_eqb (get_or l i 0) 32 e, add-one) (omega arith)

  pub word_end : length l ≤ i → i + word_length (drop i l) ≡ i
  unfolding word_length
  word_end h = rw drop_of_length-le (omega arith)

-- ---- the words

-- what follows the first word: nothing, or a space and the other words
abbrev pub after : List ℕ → List (List ℕ)
after [] = []
after (c ∷ cs) = fields cs

pub fields_word : (l : List ℕ) → fields l ≡ take (word_length l) l ∷ after (drop (word_length l) l)
unfolding fields word_length
fields_word [] = refl
fields_word (c ∷ cs) = either (eq? c 32) (λ h. rw h.0) (λ h. rw h.0 (ap (lengthen c) (fields_word cs)))

-- a line of one word, as long as it
pub fields_last : (l : List ℕ) (n : ℕ) → n ≡ word_length l → n ≡ length l → fields l ≡ take n l ∷ []
fields_last l n w e =
    let h : length l ≤ n = omega arith in
    fields_word l ∙ rw (← w, drop_of_length-le)

-- a line of more words, m being what follows the first space
pub fields_next : (l m : List ℕ) (n : ℕ) → n ≡ word_length l → n < length l → m ≡ drop (n + 1) l → fields l ≡ take n l ∷ fields m
fields_next l m n w h e = fields_word l ∙ rw (← w, e, drop-cons l n 0, add-one)
