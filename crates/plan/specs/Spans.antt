-- A span of a list of planned operations: those from number `from` on up to, but without, number `to`.
use Rattle.std.specs.Prelude.{◌≡◌, refl, List, [], ◌∷◌, ◌++◌, ℕ, zero, suc, ◌+◌, ◌-◌, ◌≤◌, min, length, take, drop}
use Rattle.std.proofs.Common.{sym, ap, ◌∙◌, append-nil, arith}
use Rattle.layout.specs.Flash.{Flash, Planned, planned_from}
use Rattle.plan.specs.declared.Span.{Span}
use Rattle.plan.specs.Runs.{done, done_append}

abbrev pub span : List Planned → Span → List Planned
span xs s = take (s.to - s.from) (drop s.from xs)

-- the flash after a span of a segment
abbrev pub run_of : ℕ → (ℕ → Planned) → Span → Flash → Flash
run_of u f s c = done u (planned_from f s.from (s.to - s.from)) c

-- of a span those among the first n, and those behind them, counted from there
abbrev pub among : Span → ℕ → Span
among s n = record { from = s.from; to = min s.to n }

abbrev pub behind : Span → ℕ → Span
behind s n = record { from = s.from - n; to = s.to - n }

pub among_le : (s r : Span) (n m : ℕ) → r ≡ among s n → n ≤ m → r.to ≤ m
among_le s r n m e h = rw e (omega arith)

pub length_planned : (f : ℕ → Planned) (i n : ℕ) → length (planned_from f i n) ≡ n
length_planned f i zero = refl
length_planned f i (suc n) = ap suc (length_planned f (suc i) n)

-- ---- lists cut by two numbers

abbrev cut : List Planned → ℕ → ℕ → List Planned
cut xs f t = take (t - f) (drop f xs)

drop_none : (k : ℕ) → drop {A = Planned} k [] ≡ []
drop_none zero = refl
drop_none (suc k) = refl

take_none : (k : ℕ) → take {A = Planned} k [] ≡ []
take_none zero = refl
take_none (suc k) = refl

cut_none : (f t : ℕ) → cut [] f t ≡ []
cut_none f t = rw (drop_none f) (take_none (t - f))

no_less : (a : ℕ) → 0 - a ≡ 0
no_less a = omega arith

all_of : (a : ℕ) → a - 0 ≡ a
all_of a = omega arith

sub_suc : (a b : ℕ) → suc a - suc b ≡ a - b
sub_suc a b = omega arith

min_suc : (t n f : ℕ) → min (suc t) (suc n) - suc f ≡ min t n - f
min_suc t n f = omega arith

min_first : (t n : ℕ) → min (suc t) (suc n) - 0 ≡ suc (min t n)
min_first t n = omega arith

min_zero : (n f : ℕ) → min 0 n - f ≡ 0
min_zero n f = omega arith

cut_append : (xs ys : List Planned) (f t : ℕ) → cut (xs ++ ys) f t ≡ cut xs f (min t (length xs)) ++ cut ys (f - length xs) (t - length xs)
cut_append [] ys f t = rw (all_of f, all_of t, cut_none f (min t 0))
cut_append (x ∷ xs) ys f zero =
    rw (no_less f, min_zero (suc (length xs)) f, no_less (suc (length xs)), no_less (f - suc (length xs)))
cut_append (x ∷ xs) ys zero (suc t) =
    rw (all_of (suc t), min_first t (length xs), no_less (suc (length xs)), sub_suc t (length xs))
    (ap (λ (l : List Planned). x ∷ l) (rw (all_of t, all_of (min t (length xs)), no_less (length xs)) at (cut_append xs ys zero t)))
cut_append (x ∷ xs) ys (suc f) (suc t) =
    rw (sub_suc t f, min_suc t (length xs) f, sub_suc f (length xs), sub_suc t (length xs)) (cut_append xs ys f t)

cut_segment : (g : ℕ → Planned) (i n f t : ℕ) → t ≤ n → cut (planned_from g i n) f t ≡ planned_from g (i + f) (t - f)
cut_segment g i n f zero h = rw (no_less f)
cut_segment g i zero f (suc t) h = absurd (omega arith)
cut_segment g i (suc n) zero (suc t) h =
    let b : i + 0 ≡ i = omega arith in
    let b' : suc i + 0 ≡ suc i = omega arith in
    rw (all_of (suc t), b) (ap (λ (l : List Planned). g i ∷ l) (rw (all_of t, b') at (cut_segment g (suc i) n zero t (omega arith))))
cut_segment g i (suc n) (suc f) (suc t) h =
    let b : i + suc f ≡ suc i + f = omega arith in
    rw (sub_suc t f, b) (cut_segment g (suc i) n f t (omega arith))

cut_min : (xs : List Planned) (f t : ℕ) → cut xs f t ≡ cut xs f (min t (length xs))
cut_min xs f t =
    ap (λ (l : List Planned). cut l f t) (sym (append-nil xs)) ∙ cut_append xs [] f t
    ∙ ap (λ (l : List Planned). cut xs f (min t (length xs)) ++ l) (cut_none (f - length xs) (t - length xs))
    ∙ append-nil (cut xs f (min t (length xs)))

-- ---- spans

-- the whole list
pub span_all : (xs : List Planned) (n : ℕ) → length xs ≡ n → span xs (record { from = 0; to = n }) ≡ xs
span_all [] n e = cut_none 0 n
span_all (x ∷ xs) zero e = absurd (omega arith)
span_all (x ∷ xs) (suc n) e =
    rw (all_of (suc n)) (ap (λ (l : List Planned). x ∷ l) (rw (all_of n) at (span_all xs n (omega arith))))

-- none of it
pub span_none : (xs : List Planned) (s : Span) → s.to ≡ 0 → span xs s ≡ []
span_none xs s e = rw (e, no_less s.from)

-- those among all n of it
pub span_among : (xs : List Planned) (n : ℕ) (s r : Span) → length xs ≡ n → r ≡ among s n → span xs r ≡ span xs s
span_among xs n s r size r_is = rw (r_is, ← size) (sym (cut_min xs s.from s.to))

-- ---- the flash after a span of lists in a row

module _ (u : ℕ) where
  first_part : (g : ℕ → Planned) (n f t : ℕ) → cut (planned_from g 0 n) f (min t n) ≡ planned_from g f (min t n - f)
  first_part g n f t =
      let e : 0 + f ≡ f = omega arith in
      cut_segment g 0 n f (min t n) (omega arith) ∙ ap (λ (i : ℕ). planned_from g i (min t n - f)) e

  -- a segment alone
  pub last_run : (g : ℕ → Planned) (n : ℕ) (s r : Span) (c : Flash) {x : Flash} → r ≡ among s n → x ≡ run_of u g r c
      → x ≡ done u (span (planned_from g 0 n) s) c
  last_run g n s r c r_is e =
      (rw r_is at e)
      ∙ ap (λ (l : List Planned). done u l c)
      (sym (first_part g n s.from s.to)
      ∙ sym (cut_min (planned_from g 0 n) s.from s.to
      ∙ ap (λ (m : ℕ). cut (planned_from g 0 n) s.from (min s.to m)) (length_planned g 0 n)))

  -- a segment and what comes after it
  pub first_run : (g : ℕ → Planned) (n : ℕ) (rest : List Planned) (s r b : Span) (c : Flash) {x y : Flash} → r ≡ among s n → b ≡ behind s n
      → x ≡ run_of u g r c → y ≡ done u (span rest b) x
      → y ≡ done u (span (planned_from g 0 n ++ rest) s) c
  first_run g n rest s r b c r_is b_is e d =
      let f : ℕ = s.from in
      let t : ℕ = s.to in
      (rw b_is at d) ∙ ap (done u (cut rest (f - n) (t - n))) (rw r_is at e)
      ∙ sym (done_append u (planned_from g f (min t n - f)) (cut rest (f - n) (t - n)) c)
      ∙ ap (λ (l : List Planned). done u (l ++ cut rest (f - n) (t - n)) c) (sym (first_part g n f t))
      ∙ ap (λ (l : List Planned). done u l c) (sym (rw (length_planned g 0 n) at (cut_append (planned_from g 0 n) rest f t)))

  -- two lists, the first of n operations
  pub both_run : (xs ys : List Planned) (n : ℕ) (s b : Span) (c : Flash) {x y : Flash} → length xs ≡ n → b ≡ behind s n
      → x ≡ done u (span xs s) c → y ≡ done u (span ys b) x → y ≡ done u (span (xs ++ ys) s) c
  both_run xs ys n s b c size b_is e d =
      let f : ℕ = s.from in
      let t : ℕ = s.to in
      (rw b_is at d) ∙ ap (done u (cut ys (f - n) (t - n))) e
      ∙ ap (λ (m : ℕ). done u (cut ys (f - m) (t - m)) (done u (cut xs f t) c)) (sym size)
      ∙ ap (λ (l : List Planned). done u (cut ys (f - length xs) (t - length xs)) (done u l c)) (cut_min xs f t)
      ∙ sym (done_append u (cut xs f (min t (length xs))) (cut ys (f - length xs) (t - length xs)) c)
      ∙ ap (λ (l : List Planned). done u l c) (sym (cut_append xs ys f t))
