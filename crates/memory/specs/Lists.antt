-- Memory as a list of bytes: a write keeps the length, and what a read after it gives is settled by the address. Assumes nothing.
use Rattle.std.specs.Prelude.{◌≡◌, ◌⊎◌, length, get_or, set, take, drop}
use Rattle.std.proofs.Math.Path.{refl, ap}
use Rattle.std.proofs.Common.{sym, ◌∙◌, inl, ⊎_elim, le_of_suc-le-suc, not-suc-le-zero, length-take, length-drop, ext_get_or, drop-drop, get_or-set_same, get_or-set_other, get_or-take, get_or-drop}
use mathlib.Core.List.{List, [], ◌∷◌, ◌++◌}
use Prim.Native.Nat.{ℕ, zero, suc, ◌+◌, ◌-◌, ◌*◌, ◌≤◌, ◌<◌, zero-le}
use Rattle.std.proofs.Math.Nat.{suc-sub-suc, sub-zero}
use native.Mathlib.Omega.{arith}
use Rattle.memory.specs.Cases.{either, eq?}

module _ {ℓ} {A : Type ℓ} where
  -- l with the elements from index at on replaced by those of s, as far as l goes
  unfoldable pub write : List A → ℕ → List A → List A
  write [] at s = []
  write (x ∷ xs) zero [] = x ∷ xs
  write (x ∷ xs) zero (y ∷ ys) = y ∷ write xs zero ys
  write (x ∷ xs) (suc n) s = x ∷ write xs n s

  pub length_write : (l : List A) (at : ℕ) (s : List A) → length (write l at s) ≡ length l
  unfolding write
  length_write [] at s = refl
  length_write (x ∷ xs) zero [] = refl
  length_write (x ∷ xs) zero (y ∷ ys) = ap suc (length_write xs zero ys)
  length_write (x ∷ xs) (suc n) s = ap suc (length_write xs n s)

  pub get_d_write_before : (l : List A) (at : ℕ) (s : List A) (i : ℕ) (d : A) → i < at → get_or (write l at s) i d ≡ get_or l i d
  unfolding write
  get_d_write_before [] at s i d h = refl
  get_d_write_before (x ∷ xs) zero s i d h = absurd (not-suc-le-zero h)
  get_d_write_before (x ∷ xs) (suc n) s zero d h = refl
  get_d_write_before (x ∷ xs) (suc n) s (suc i) d h = get_d_write_before xs n s i d (le_of_suc-le-suc h)

  -- the element written at address i
  pub get_d_write_in : (l : List A) (at : ℕ) (s : List A) (i : ℕ) (d : A) → at ≤ i → i < at + length s → i < length l
      → get_or (write l at s) i d ≡ get_or s (i - at) d
  unfolding write
  get_d_write_in [] at s i d h k hl = absurd (not-suc-le-zero hl)
  get_d_write_in (x ∷ xs) zero [] i d h k hl = absurd (omega arith)
  get_d_write_in (x ∷ xs) zero (y ∷ ys) zero d h k hl = refl
  get_d_write_in (x ∷ xs) zero (y ∷ ys) (suc i) d h k hl =
      get_d_write_in xs zero ys i d zero-le (omega arith) (omega arith) ∙ rw (sub-zero, sub-zero)
  get_d_write_in (x ∷ xs) (suc n) s zero d h k hl = absurd (not-suc-le-zero h)
  get_d_write_in (x ∷ xs) (suc n) s (suc i) d h k hl =
      get_d_write_in xs n s i d (omega arith) (omega arith) (omega arith) ∙ rw suc-sub-suc

  pub get_d_write_after : (l : List A) (at : ℕ) (s : List A) (i : ℕ) (d : A) → at + length s ≤ i → get_or (write l at s) i d ≡ get_or l i d
  unfolding write
  get_d_write_after [] at s i d h = refl
  get_d_write_after (x ∷ xs) zero [] i d h = refl
  get_d_write_after (x ∷ xs) zero (y ∷ ys) zero d h = absurd (omega arith)
  get_d_write_after (x ∷ xs) zero (y ∷ ys) (suc i) d h = get_d_write_after xs zero ys i d (omega arith)
  get_d_write_after (x ∷ xs) (suc n) s zero d h = absurd (omega arith)
  get_d_write_after (x ∷ xs) (suc n) s (suc i) d h = get_d_write_after xs n s i d (omega arith)

  -- lists of one length that agree at an address agree there after the same write
  pub write_same : (l l' : List A) (at : ℕ) (s : List A) (i : ℕ) (d : A) → length l ≡ length l' → get_or l i d ≡ get_or l' i d
      → get_or (write l at s) i d ≡ get_or (write l' at s) i d
  unfolding write
  write_same [] [] at s i d n e = e
  write_same [] (y ∷ ys) at s i d n e = absurd (omega arith)
  write_same (x ∷ xs) [] at s i d n e = absurd (omega arith)
  write_same (x ∷ xs) (y ∷ ys) zero [] i d n e = e
  write_same (x ∷ xs) (y ∷ ys) zero (z ∷ zs) zero d n e = refl
  write_same (x ∷ xs) (y ∷ ys) zero (z ∷ zs) (suc i) d n e = write_same xs ys zero zs i d (omega arith) e
  write_same (x ∷ xs) (y ∷ ys) (suc at) s zero d n e = e
  write_same (x ∷ xs) (y ∷ ys) (suc at) s (suc i) d n e = write_same xs ys at s i d (omega arith) e

  -- ---- a list by its elements: n elements, element i being f i

  unfoldable pub tabulate_from : ℕ → ℕ → (ℕ → A) → List A
  tabulate_from k zero f = []
  tabulate_from k (suc n) f = f k ∷ tabulate_from (suc k) n f

  unfoldable pub tabulate : ℕ → (ℕ → A) → List A
  tabulate n f = tabulate_from zero n f

  length_tabulate_from : (k n : ℕ) (f : ℕ → A) → length (tabulate_from k n f) ≡ n
  unfolding tabulate_from
  length_tabulate_from k zero f = refl
  length_tabulate_from k (suc n) f = ap suc (length_tabulate_from (suc k) n f)

  get_d_tabulate_from : (k n : ℕ) (f : ℕ → A) (i : ℕ) (d : A) → i < n → get_or (tabulate_from k n f) i d ≡ f (k + i)
  unfolding tabulate_from
  get_d_tabulate_from k zero f i d h = absurd (not-suc-le-zero h)
  get_d_tabulate_from k (suc n) f zero d h = let e : k ≡ k + zero = omega arith in ap f e
  get_d_tabulate_from k (suc n) f (suc i) d h =
      let e : suc k + i ≡ k + suc i = omega arith in get_d_tabulate_from (suc k) n f i d (le_of_suc-le-suc h) ∙ ap f e

  pub length_tabulate : (n : ℕ) (f : ℕ → A) → length (tabulate n f) ≡ n
  unfolding tabulate
  length_tabulate n f = length_tabulate_from zero n f

  pub get_d_tabulate : (n : ℕ) (f : ℕ → A) (i : ℕ) (d : A) → i < n → get_or (tabulate n f) i d ≡ f i
  unfolding tabulate
  get_d_tabulate n f i d h = let e : zero + i ≡ i = omega arith in get_d_tabulate_from zero n f i d h ∙ ap f e

pub tabulate_ext : {A : Type 0} (n : ℕ) (f g : ℕ → A) → ((i : ℕ) → i < n → f i ≡ g i) → tabulate n f ≡ tabulate n g
unfolding tabulate tabulate_from
tabulate_ext zero f g h = refl
tabulate_ext (suc n) f g h =
    ext_get_or (f zero) (tabulate (suc n) f) (tabulate (suc n) g) (length_tabulate (suc n) f ∙ sym (length_tabulate (suc n) g))
    (λ i l. let b : i < suc n = rw length_tabulate at l in get_d_tabulate (suc n) f i (f zero) b ∙ h i b ∙ sym (get_d_tabulate (suc n) g i (f zero) b))

-- a list is the table of its elements
pub is_tabulate : (l : List ℕ) (n : ℕ) (f : ℕ → ℕ) → length l ≡ n → ((i : ℕ) → i < n → get_or l i 0 ≡ f i) → l ≡ tabulate n f
is_tabulate l n f e h =
    ext_get_or 0 l (tabulate n f) (e ∙ sym (length_tabulate n f)) (λ i k. let b : i < n = omega arith in h i b ∙ sym (get_d_tabulate n f i 0 b))

-- the n bytes from `at` on
abbrev pub part : List ℕ → ℕ → ℕ → List ℕ
part l at n = tabulate n (λ k. get_or l (at + k) 0)

-- the same as a cut
pub tabulate_part : (l : List ℕ) (a n : ℕ) → a + n ≤ length l → tabulate n (λ y. get_or l (a + y) 0) ≡ take n (drop a l)
tabulate_part l a n h =
    sym (is_tabulate (take n (drop a l)) n (λ y. get_or l (a + y) 0) (simp (length-take, length-drop) (omega arith))
    (λ i k. get_or-take n (drop a l) i 0 k ∙ get_or-drop a l i 0))

-- ---- a list that is filled from its start on: its first i elements are those of f

abbrev pub Done : (ℕ → ℕ) → List ℕ → ℕ → Type 0
Done f l i = (k : ℕ) → k < i → get_or l k 0 ≡ f k

pub done_more : (f : ℕ → ℕ) (l : List ℕ) (i v : ℕ) → i < length l → Done f l i → v ≡ f i → Done f (set l i v) (i + 1)
done_more f l i v h D e k p =
    either (eq? k i)
    (λ a. rw (a.1, get_or-set_same l i v 0 h) e)
    (λ a. rw (get_or-set_other l i k v 0 a.1) (D k (omega arith)))

-- ---- a write as a cut and a paste, for contracts of code that copies

pub write_cut : {A : Type 0} (l : List A) (at : ℕ) (s : List A) → at + length s ≤ length l
    → write l at s ≡ take at l ++ (s ++ drop (at + length s) l)
unfolding write
write_cut [] at [] h = let e : at + 0 ≡ 0 = omega arith in let f : at ≡ 0 = omega arith in rw (e, f)
write_cut [] at (y ∷ ys) h = absurd (omega arith)
write_cut (x ∷ xs) zero [] h = refl
write_cut (x ∷ xs) zero (y ∷ ys) h =
    let e : 0 + suc (length ys) ≡ suc (0 + length ys) = omega arith in
    rw (e, write_cut xs zero ys (omega arith))
write_cut (x ∷ xs) (suc n) s h =
    let e : suc n + length s ≡ suc (n + length s) = omega arith in
    rw (e, write_cut xs n s (omega arith))

-- the part of n elements from `at` on has n
pub length_part : (l : List ℕ) (at n : ℕ) → at + n ≤ length l → length (take (at + n - at) (drop at l)) ≡ n
length_part l at n h = simp (length-take, length-drop) (omega arith)

-- the part from element i to element e, lent and come back as s, is a write of s
pub part_back : (l : List ℕ) (i e : ℕ) (s : List ℕ) → i ≤ e → e ≤ length l → length s ≡ e - i
    → take i l ++ (s ++ drop (e - i) (drop i l)) ≡ write l i s
part_back l i e s order h size = rw (← size, drop-drop, write_cut l i s (omega arith))

-- what is written behind a write is written with it
pub write_append : (l : List ℕ) (at : ℕ) (a b : List ℕ) → write (write l at a) (at + length a) b ≡ write l at (a ++ b)
unfolding write
write_append [] at a b = refl
write_append (x ∷ xs) zero [] b = refl
write_append (x ∷ xs) zero (y ∷ ys) b =
    let e : 0 + suc (length ys) ≡ suc (0 + length ys) = omega arith in
    rw e (ap (λ (l : List ℕ). y ∷ l) (write_append xs zero ys b))
write_append (x ∷ xs) (suc n) a b =
    let e : suc n + length a ≡ suc (n + length a) = omega arith in
    rw e (ap (λ (l : List ℕ). x ∷ l) (write_append xs n a b))

-- ---- k pieces of L elements, the j-th from at + j * d on; element y of the j-th is f j y

unfoldable pub pieces : {A : Type 0} → ℕ → ℕ → ℕ → ℕ → (ℕ → ℕ → A) → List A → List A
pieces L d at zero f l = l
pieces L d at (suc k) f l = pieces L d (at + d) k (λ j. f (suc j)) (write l at (tabulate L (f zero)))

pub length_pieces : {A : Type 0} (L d at k : ℕ) (f : ℕ → ℕ → A) (l : List A) → length (pieces L d at k f l) ≡ length l
unfolding pieces
length_pieces L d at zero f l = refl
length_pieces L d at (suc k) f l =
    length_pieces L d (at + d) k (λ j. f (suc j)) (write l at (tabulate L (f zero))) ∙ length_write l at (tabulate L (f zero))

pub pieces_out : {A : Type 0} (L d at k : ℕ) (f : ℕ → ℕ → A) (l : List A) (x : ℕ) (z : A)
    → ((j : ℕ) → j < k → (x < at + j * d) ⊎ (at + j * d + L ≤ x))
    → get_or (pieces L d at k f l) x z ≡ get_or l x z
unfolding pieces
pieces_out L d at zero f l x z o = refl
pieces_out L d at (suc k) f l x z o =
    let t = length_tabulate L (f zero) in
    pieces_out L d (at + d) k (λ j. f (suc j)) (write l at (tabulate L (f zero))) x z (λ j h.
    let e : at + suc j * d ≡ at + d + j * d = omega arith in rw e at (o (suc j) (omega arith)))
    ∙ ⊎_elim (λ a. get_d_write_before l at (tabulate L (f zero)) x z (omega arith))
    (λ a. get_d_write_after l at (tabulate L (f zero)) x z (omega arith)) (o 0 (omega arith))

pub pieces_same : {A : Type 0} (L d at k : ℕ) (f : ℕ → ℕ → A) (l l' : List A) (x : ℕ) (z : A) → length l ≡ length l'
    → get_or l x z ≡ get_or l' x z
    → get_or (pieces L d at k f l) x z ≡ get_or (pieces L d at k f l') x z
unfolding pieces
pieces_same L d at zero f l l' x z n e = e
pieces_same L d at (suc k) f l l' x z n e =
    pieces_same L d (at + d) k (λ j. f (suc j)) (write l at (tabulate L (f zero))) (write l' at (tabulate L (f zero))) x z
    (length_write l at (tabulate L (f zero)) ∙ n ∙ sym (length_write l' at (tabulate L (f zero)))) (write_same l l' at (tabulate L (f zero)) x z n e)

pub pieces_in : {A : Type 0} (L d at k : ℕ) (f : ℕ → ℕ → A) (l : List A) (j y : ℕ) (z : A) → L ≤ d → at + j * d + L ≤ length l → j < k
    → y < L
    → get_or (pieces L d at k f l) (at + j * d + y) z ≡ f j y
unfolding pieces
pieces_in L d at zero f l j y z g h a b = absurd (not-suc-le-zero a)
pieces_in L d at (suc k) f l zero y z g h a b =
    let t = length_tabulate L (f zero) in
    let e : at + 0 * d + y ≡ at + y = omega arith in
    let s : at + y - at ≡ y = omega arith in
    rw e (pieces_out L d (at + d) k (λ j. f (suc j)) (write l at (tabulate L (f zero))) (at + y) z (λ j h'. inl (omega arith))
    ∙ get_d_write_in l at (tabulate L (f zero)) (at + y) z (omega arith) (omega arith) (omega arith)
    ∙ ap (λ (n : ℕ). get_or (tabulate L (f zero)) n z) s ∙ get_d_tabulate L (f zero) y z b)
pieces_in L d at (suc k) f l (suc j) y z g h a b =
    let e : at + suc j * d + y ≡ at + d + j * d + y = omega arith in
    rw e (pieces_in L d (at + d) k (λ j. f (suc j)) (write l at (tabulate L (f zero))) j y z g
    (rw (length_write l at (tabulate L (f zero))) (omega arith)) (omega arith) b)
