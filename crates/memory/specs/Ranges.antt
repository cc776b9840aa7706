-- The last index below n that passes a test, whether any does and whether all do; a list of numbers and what is in it.
use Rattle.std.specs.Prelude.{◌≡◌, refl, Bool, true, false, ◌&&◌, ◌||◌, cond, List, [], ◌∷◌, ℕ, zero, suc, ◌<◌, eqb, length, get_or}
use Rattle.std.proofs.Common.{sym, ◌∙◌, ⊎_elim, not-suc-le-zero, arith, eq-eqb}
use Rattle.std.proofs.lemmas.Bool.{false≢true}
use Rattle.std.proofs.Math.Bool.{and-eq-true_iff}
use Rattle.std.proofs.Math.Option.{Option, none, some}
use Rattle.memory.specs.Cases.{bool?, lt?, eq?, either}
use Rattle.memory.specs.Lists.{tabulate, length_tabulate, get_d_tabulate}

unfoldable pub last : (ℕ → Bool) → ℕ → Option ℕ
last f zero = none
last f (suc n) = cond (f n) (some n) (last f n)

pub last_some : (f : ℕ → Bool) (n j : ℕ) → last f n ≡ some j → (j < n) × (f j ≡ true)
unfolding last
last_some f zero j e = absurd (let z : ◌≡◌ {A = ℕ} 0 1 = cc in omega arith)
last_some f (suc n) j e =
    ⊎_elim
    (λ h. let q : n ≡ j = cc in (omega arith, rw (← q) h))
    (λ h. let p = last_some f n j (cc) in (omega arith, p.1))
    (bool? (f n))

pub last_none : (f : ℕ → Bool) (n i : ℕ) → last f n ≡ none → i < n → f i ≡ false
unfolding last
last_none f zero i e h = absurd (not-suc-le-zero h)
last_none f (suc n) i e h =
    ⊎_elim
    (λ t. cc)
    (λ t. ⊎_elim (λ l. last_none f n i (cc) l.1) (λ l. let q : i ≡ n = omega arith in rw q t) (lt? i n))
    (bool? (f n))

pub last_ext : (f g : ℕ → Bool) (n : ℕ) → ((i : ℕ) → i < n → f i ≡ g i) → last f n ≡ last g n
unfolding last
last_ext f g zero h = refl
last_ext f g (suc n) h = rw (h n (omega arith), last_ext f g n (λ i k. h i (omega arith)))

pub last_no : (f : ℕ → Bool) (n : ℕ) → ((i : ℕ) → i < n → f i ≡ false) → last f n ≡ none
unfolding last
last_no f zero h = refl
last_no f (suc n) h = rw (h n (omega arith)) (last_no f n (λ i k. h i (omega arith)))

-- does some i below n pass
unfoldable pub any : (ℕ → Bool) → ℕ → Bool
any f zero = false
any f (suc n) = f n || any f n

pub any_at : (f : ℕ → Bool) (n i : ℕ) → i < n → f i ≡ true → any f n ≡ true
unfolding any
any_at f zero i h e = absurd (not-suc-le-zero h)
any_at f (suc n) i h e =
    ⊎_elim (λ t. cc) (λ t. ⊎_elim (λ l. let a = any_at f n i l.1 e in cc) (λ l. let q : i ≡ n = omega arith in cc) (lt? i n))
    (bool? (f n))

pub any_ext : (f g : ℕ → Bool) (n : ℕ) → ((i : ℕ) → i < n → f i ≡ g i) → any f n ≡ any g n
unfolding any
any_ext f g zero h = refl
any_ext f g (suc n) h = rw (h n (omega arith), any_ext f g n (λ i k. h i (omega arith)))

pub any_no : (f : ℕ → Bool) (n : ℕ) → ((i : ℕ) → i < n → f i ≡ false) → any f n ≡ false
unfolding any
any_no f zero h = refl
any_no f (suc n) h = rw (h n (omega arith)) (any_no f n (λ i k. h i (omega arith)))

pub no_any : (f : ℕ → Bool) (n i : ℕ) → any f n ≡ false → i < n → f i ≡ false
no_any f n i e h =
    either (bool? (f i))
    (λ t. let z : true ≡ false = sym (any_at f n i h t) ∙ e in cc)
    (λ t. t)

-- does each i below n pass
unfoldable pub all : (ℕ → Bool) → ℕ → Bool
all f zero = true
all f (suc n) = f n && all f n

pub all_at : (f : ℕ → Bool) (n i : ℕ) → all f n ≡ true → i < n → f i ≡ true
unfolding all
all_at f zero i e h = absurd (not-suc-le-zero h)
all_at f (suc n) i e h =
    let p = (and-eq-true_iff (f n) (all f n)).0 e in
    either (lt? i n) (λ l. all_at f n i p.1 l.1) (λ l. let q : i ≡ n = omega arith in rw q p.0)

-- is x in the list
unfoldable pub memb : ℕ → List ℕ → Bool
memb x [] = false
memb x (y ∷ ys) = eqb y x || memb x ys

-- does each number of the list pass
unfoldable pub all_of : (ℕ → Bool) → List ℕ → Bool
all_of f [] = true
all_of f (x ∷ xs) = f x && all_of f xs

-- ---- membership in a list by index

any_front : (f : ℕ → Bool) (n : ℕ) → any f (suc n) ≡ (f zero || any (λ i. f (suc i)) n)
unfolding any
any_front f zero = refl
any_front f (suc n) =
    let ih = any_front f n in
    either (bool? (f (suc n)))
    (λ a. either (bool? (f zero)) (λ b. cc) (λ b. cc))
    (λ a. either (bool? (f zero)) (λ b. cc) (λ b. cc))

pub any_memb : (x : ℕ) (l : List ℕ) → any (λ i. eqb (get_or l i 0) x) (length l) ≡ memb x l
unfolding any memb
any_memb x [] = refl
any_memb x (y ∷ ys) = any_front (λ i. eqb (get_or (y ∷ ys) i 0) x) (length ys) ∙ rw (any_memb x ys)

-- ---- membership in a list of positions

pub all_of_true : (f : ℕ → Bool) (l : List ℕ) → ((x : ℕ) → memb x l ≡ true → f x ≡ true) → all_of f l ≡ true
unfolding all_of memb
all_of_true f [] h = refl
all_of_true f (y ∷ ys) h =
    let first : f y ≡ true = h y (rw (eq-eqb y y refl)) in
    rw first (all_of_true f ys (λ x m. h x (either (bool? (eqb y x)) (λ c. rw c) (λ c. rw c m))))

-- what holds of the number at each index holds of each member
memb_all : (P : ℕ → Type 0) (l : List ℕ) → ((i : ℕ) → i < length l → P (get_or l i 0)) → (x : ℕ) → memb x l ≡ true → P x
unfolding memb
memb_all P [] h x m = absurd (false≢true m)
memb_all P (y ∷ ys) h x m =
    either (eq? y x)
    (λ e. rw (← e.1) (h 0 (omega arith)))
    (λ e. memb_all P ys (λ i l. h (suc i) (omega arith)) x (rw e.0 at m))

-- every number of a table comes from an index: what holds of each f j holds of each member
pub memb_tabulate_all : (P : ℕ → Type 0) (k : ℕ) (f : ℕ → ℕ) → ((j : ℕ) → j < k → P (f j)) → (x : ℕ) → memb x (tabulate k f) ≡ true → P x
memb_tabulate_all P k f h = memb_all P (tabulate k f) (λ i l. let s : i < k = rw (length_tabulate k f) at l in rw (get_d_tabulate k f i 0 s) (h i s))
