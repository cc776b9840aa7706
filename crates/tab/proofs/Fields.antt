-- Fields: the reader reads those of the grammar, and no others.
use Rattle.std.specs.Prelude.{◌≡◌, refl, ◌≢◌, Bool, true, false, ◌&&◌, ◌||◌, ℕ, suc, ◌+◌, ◌-◌, ◌*◌, ◌^◌, ◌≤◌, ◌<◌, length, leb, ltb, eqb}
use Rattle.std.proofs.Common.{sym, ap, subst, ◌∙◌, inl, inr, arith, le-leb, leb-true, lt-ltb, ltb-true, eq-eqb, ne_eqb}
use Rattle.std.proofs.Math.Bool.{and-eq-true_iff}
use Rattle.std.proofs.Math.Option.{Option, none, some, none-ne-some}
use mathlib.Core.List.{List, [], ◌∷◌, ◌++◌, append_assoc}
use Rattle.memory.specs.Cases.{either, bool?, eq?}
use Rattle.text.specs.Text.{is_digit, digits_from}
use Rattle.tab.specs.Grammar.{dquote, text_data, each, doubled, Field, Decimal}
use Rattle.tab.specs.Reader.{Got, got, digits, small, decimal, word, name_of, bare, after, ended, quoted}
use Rattle.tab.specs.declared.Column.{Column}
use Rattle.tab.specs.declared.Column.TheVariants.{Level, Moves, Goal}
use Rattle.tab.specs.Fields.{Simple, Unquoted, Stops, Shown, Digits, Named, FieldShown, Means, Content}

-- ---- digits

digit_range : (c : ℕ) → is_digit c ≡ true → (48 ≤ c) × (c ≤ 57)
digit_range c d =
    let p = (and-eq-true_iff (leb 48 c) (leb c 57)).0 d in
    (leb-true 48 c p.0, leb-true c 57 p.1)

digit_no_quote : (c : ℕ) → is_digit c ≡ true → eqb c dquote ≡ false
digit_no_quote c d = ne_eqb c dquote (λ e. omega (arith, (digit_range c d).0))

or_last : (a b : Bool) → (a || (b || true)) ≡ true
or_last true b = refl
or_last false true = refl
or_last false false = refl

digit_text : (c : ℕ) → is_digit c ≡ true → text_data c ≡ true
digit_text c d =
    let r = digit_range c d in
    rw (le-leb 0x2D c (omega (arith, r.0)), le-leb c 0x7E (omega (arith, r.1)))
    (or_last (leb 0x20 c && leb c 0x21) (leb 0x23 c && leb c 0x2B))

-- where digits are read, the first byte is one
digit_first : (v n c : ℕ) (cs : List ℕ) → digits_from v (c ∷ cs) ≡ some n → is_digit c ≡ true
unfolding digits_from
digit_first v n c cs e = either (bool? (is_digit c)) (λ d. d) (λ d. absurd (none-ne-some n (rw d at e)))

digits_more : (v n c : ℕ) (cs : List ℕ) → digits_from v (c ∷ cs) ≡ some n → digits_from (v * 10 + (c - 48)) cs ≡ some n
unfolding digits_from
digits_more v n c cs e = rw (digit_first v n c cs e) at e

digits_simple : (v n : ℕ) (value : List ℕ) → digits_from v value ≡ some n → Simple value
unfolding each doubled
digits_simple v n [] e = record { text = refl; quotes = refl; same = refl }
digits_simple v n (c ∷ cs) e =
    let d = digit_first v n c cs e in
    let S = digits_simple (v * 10 + (c - 48)) n cs (digits_more v n c cs e) in
    record {
      text = rw (digit_text c d) S.text;
      quotes = rw (digit_text c d) S.quotes;
      same = rw (digit_no_quote c d) (ap (λ (x : List ℕ). c ∷ x) S.same);
    }

digits_stop : (v : ℕ) (t : List ℕ) → Stops t → digits v t ≡ got v t
unfolding digits
digits_stop v [] s = refl
digits_stop v (c ∷ cs) s = rw s

digits_read : (v n : ℕ) (value t : List ℕ) → digits_from v value ≡ some n → Stops t → digits v (value ++ t) ≡ got n t
unfolding digits digits_from
digits_read v n [] t e s = let q : v ≡ n = cc in rw (← q) (digits_stop v t s)
digits_read v n (c ∷ cs) t e s =
    rw (digit_first v n c cs e) (digits_read (v * 10 + (c - 48)) n cs t (digits_more v n c cs e) s)

decimal_complete : (value t : List ℕ) (n : ℕ) → Decimal value n → Stops t → decimal (value ++ t) ≡ some (got n t)
unfolding decimal
decimal_complete [] t n D s = absurd (D.some_digit refl)
decimal_complete (c ∷ cs) t n D s =
    rw (digit_first 0 n c cs D.is, digits_read 0 n (c ∷ cs) t D.is s, lt-ltb n 4294967296 D.below)

decimal_unquoted : (value : List ℕ) (n : ℕ) → Decimal value n → Unquoted value
decimal_unquoted [] n D = absurd (D.some_digit refl)
decimal_unquoted (c ∷ cs) n D = digit_no_quote c (digit_first 0 n c cs D.is)

pub digits_sound : (v : ℕ) (text : List ℕ) → Digits v text
unfolding digits digits_from
digits_sound v [] = record { value = []; is = refl; says = refl }
digits_sound v (c ∷ cs) =
    either (bool? (is_digit c))
    (λ d.
    let I = digits_sound (v * 10 + (c - 48)) cs in
    record { value = c ∷ I.value; is = rw d (ap (λ (x : List ℕ). c ∷ x) I.is); says = rw d I.says })
    (λ d. record { value = []; is = rw d; says = rw d })

cons_some : (c : ℕ) (cs : List ℕ) → (c ∷ cs) ≢ []
cons_some c cs z = let y : suc (length cs) ≡ 0 = ap length z in omega arith

-- of the digits that there are, those after the first
decimal_first : (c : ℕ) (cs : List ℕ) (g : Got) → is_digit c ≡ true → digits (0 * 10 + (c - 48)) cs ≡ g → g.value < 2 ^ 32
    → Shown Decimal (c ∷ cs) g
unfolding digits_from
decimal_first c cs g d q below =
    let I = digits_sound (0 * 10 + (c - 48)) cs in
    let says : digits_from 0 (c ∷ I.value) ≡ some g.value = rw (d, ← q) I.says in
    record {
      value = c ∷ I.value;
      is = ap (λ (x : List ℕ). c ∷ x) (rw (← q) I.is);
      simple = digits_simple 0 g.value (c ∷ I.value) says;
      says = record { some_digit = cons_some c I.value; is = says; below = below };
    }

decimal_sound : (text : List ℕ) (g : Got) → decimal text ≡ some g → Shown Decimal text g
unfolding digits decimal
decimal_sound [] g e = absurd (none-ne-some g e)
decimal_sound (c ∷ cs) g e =
    either (bool? (is_digit c))
    (λ d.
    let G : Got = digits (0 * 10 + (c - 48)) cs in
    let e₁ : small G ≡ some g = rw d at e in
    either (bool? (ltb G.value 4294967296))
    (λ b.
    let q : G ≡ g = (let z : some G ≡ some g = rw b at e₁ in cc) in
    decimal_first c cs g d q (rw (← q) (ltb-true G.value 4294967296 b)))
    (λ b. absurd (none-ne-some g (rw b at e₁))))
    (λ d. absurd (none-ne-some g (rw d at e)))

-- ---- words

pub word_complete : (w t : List ℕ) → word w (w ++ t) ≡ some (got 0 t)
unfolding word
word_complete [] t = refl
word_complete (x ∷ w) t = rw (eq-eqb x x refl) (word_complete w t)

pub word_is : (w text : List ℕ) (g : Got) → word w text ≡ some g → (text ≡ w ++ g.rest) × (g.value ≡ 0)
unfolding word
word_is [] text g e = let q : got 0 text ≡ g = cc in (ap (λ (x : Got). x.rest) q, sym (ap (λ (x : Got). x.value) q))
word_is (x ∷ w) [] g e = absurd (none-ne-some g e)
word_is (x ∷ w) (c ∷ cs) g e =
    either (eq? c x)
    (λ a. let I = word_is w cs g (rw a.0 at e) in (rw a.1 (ap (λ (t : List ℕ). x ∷ t) I.0), I.1))
    (λ a. absurd (none-ne-some g (rw a.0 at e)))

name_simple : (c : Column) → Simple (name_of c)
unfolding each doubled
name_simple Level = record { text = refl; quotes = refl; same = refl }
name_simple Moves = record { text = refl; quotes = refl; same = refl }
name_simple Goal = record { text = refl; quotes = refl; same = refl }

name_unquoted : (c : Column) → Unquoted (name_of c)
name_unquoted Level = refl
name_unquoted Moves = refl
name_unquoted Goal = refl

name_sound : (c : Column) (text : List ℕ) (g : Got) → word (name_of c) text ≡ some g → Shown (Named (name_of c)) text g
name_sound c text g e =
    let I = word_is (name_of c) text g e in
    record { value = name_of c; is = I.0; simple = name_simple c; says = (refl, I.1) }

-- ---- quoted or not

unquoted_read : (f : List ℕ → Option Got) (value t : List ℕ) → Unquoted value → quoted f (value ++ t) ≡ f (value ++ t)
unfolding quoted
unquoted_read f [] t u = absurd u
unquoted_read f (c ∷ cs) t u = rw u

quoted_complete : (f : List ℕ → Option Got) (value text t : List ℕ) (n : ℕ) → Simple value → Unquoted value
    → f (value ++ (dquote ∷ t)) ≡ some (got n (dquote ∷ t)) → f (value ++ t) ≡ some (got n t) → Field text value
    → quoted f (text ++ t) ≡ some (got n t)
unfolding quoted
quoted_complete f value text t n S u inside alone F =
    either F
    (λ q. rw (q.is, S.same, append_assoc value (dquote ∷ []) t, inside))
    (λ p. rw p.is (unquoted_read f value t u ∙ alone))

pub after_sound : (x : ℕ) (text t : List ℕ) → after x text ≡ some t → text ≡ x ∷ t
after_sound x [] t e = absurd (none-ne-some t e)
after_sound x (c ∷ cs) t e =
    either (eq? c x)
    (λ a. let z : some cs ≡ some t = rw a.0 at e in let q : cs ≡ t = cc in rw (a.1, q))
    (λ a. absurd (none-ne-some t (rw a.0 at e)))

-- what was read before the end, and the end
pub ended_sound : (end : List ℕ → Option (List ℕ)) (o : Option Got) (g : Got) → ended end o ≡ some g
    → (t : List ℕ) × (o ≡ some (got g.value t)) × (end t ≡ some g.rest)
ended_sound end none g e = absurd (none-ne-some g e)
ended_sound end (some x) g e = go (end x.rest) refl e
  where
    go : (o : Option (List ℕ)) → end x.rest ≡ o → ended (λ _. o) (some x) ≡ some g
        → (t : List ℕ) × (some x ≡ some (got g.value t)) × (end t ≡ some g.rest)
    go none p q = absurd (none-ne-some g q)
    go (some t) p q =
        let z : got x.value t ≡ g = cc in
        let v : x.value ≡ g.value = ap (λ (y : Got). y.value) z in
        let r : t ≡ g.rest = ap (λ (y : Got). y.rest) z in
        (x.rest, rw v, p ∙ rw r)

module _ (P : List ℕ → ℕ → Type 0) where
  plain_shown : (text : List ℕ) (g : Got) → Shown P text g → FieldShown P text g
  plain_shown text g S = record {
    field = S.value;
    value = S.value;
    is = S.is;
    field_is = inr (record { may = S.simple.text; is = refl });
    says = S.says;
  }

  quoted_shown : (c : ℕ) (cs : List ℕ) (g : Got) → c ≡ dquote → Shown P cs (got g.value (dquote ∷ g.rest)) → FieldShown P (c ∷ cs) g
  quoted_shown c cs g a S = record {
    field = dquote ∷ (S.value ++ (dquote ∷ []));
    value = S.value;
    is = rw a (ap (λ (x : List ℕ). dquote ∷ x) (S.is ∙ sym (append_assoc S.value (dquote ∷ []) g.rest)));
    field_is = inl (record { may = S.simple.quotes; is = rw S.simple.same });
    says = S.says;
  }

  quoted_sound : (f : List ℕ → Option Got) → ((t : List ℕ) (g : Got) → f t ≡ some g → Shown P t g)
      → (text : List ℕ) (g : Got) → quoted f text ≡ some g → FieldShown P text g
  unfolding quoted
  quoted_sound f sound [] g e = plain_shown [] g (sound [] g e)
  quoted_sound f sound (c ∷ cs) g e =
      either (eq? c dquote)
      (λ a.
      let I = ended_sound (after dquote) (f cs) g (rw a.0 at e) in
      let r : I.0 ≡ dquote ∷ g.rest = after_sound dquote I.0 g.rest I.2 in
      quoted_shown c cs g a.1 (sound cs (got g.value (dquote ∷ g.rest)) (I.1 ∙ rw r)))
      (λ a. plain_shown (c ∷ cs) g (sound (c ∷ cs) g (rw a.0 at e)))

pub content_complete : (header : Bool) (c : Column) (text t : List ℕ) (n : ℕ) → Means header c text n → Stops t
    → quoted (bare header c) (text ++ t) ≡ some (got n t)
unfolding bare
content_complete true c text t n M s =
    rw M.1
    (quoted_complete (word (name_of c)) (name_of c) text t 0 (name_simple c) (name_unquoted c)
    (word_complete (name_of c) (dquote ∷ t)) (word_complete (name_of c) t) M.0)
content_complete false c text t n M s =
    quoted_complete decimal M.value text t n (digits_simple 0 n M.value M.decimal.is) (decimal_unquoted M.value n M.decimal)
    (decimal_complete M.value (dquote ∷ t) n M.decimal refl) (decimal_complete M.value t n M.decimal s) M.field

pub content_sound : (header : Bool) (c : Column) (text : List ℕ) (g : Got) → quoted (bare header c) text ≡ some g → Content header c text g
unfolding bare
content_sound true c text g e =
    let F = quoted_sound (Named (name_of c)) (word (name_of c)) (name_sound c) text g e in
    record { field = F.field; is = F.is; means = (subst (Field F.field) F.says.0 F.field_is, F.says.1) }
content_sound false c text g e =
    let F = quoted_sound Decimal decimal decimal_sound text g e in
    record { field = F.field; is = F.is; means = record { value = F.value; field = F.field_is; decimal = F.says } }
