-- Laws of the searches of pages, over any gate on pages, test of an item, cost of a test and number q of items to a page: the scan of a
-- page's items, and what is left of a walk over full pages, page by page and part by part, the newest first.
use Rattle.std.specs.Prelude.{◌≡◌, refl, Bool, true, false, ◌&&◌, List, ltb, get_or}
use Rattle.std.proofs.Common.{sym, ◌∙◌, lt-ltb, le-ltb}
use Rattle.std.proofs.Math.Path.{ap}
use Rattle.std.proofs.Math.Option.{Option, none, some}
use Prim.Native.Nat.{ℕ, zero, suc, ◌+◌, ◌*◌, ◌-◌, ◌/◌, ◌≤◌, ◌<◌}
use native.Mathlib.Omega.{arith}
use Rattle.memory.specs.Cases.{bool?, lt?, eq?, either}
use Rattle.memory.specs.Numbers.{euclid, div_lt}
use Rattle.layout.specs.Search.{Stop, Found, reply, scan, scan_cost, opening, unless_ended, search_pages, pages_cost}
use Rattle.laws.specs.SearchLaws.{opened_le}
use Rattle.laws.specs.Walks.{onward}

-- ---- the items of a page

-- the same items, counted from another number
pub scan_same : (try try' : ℕ → Option Stop) (lo lo' m : ℕ) → ((k : ℕ) → k < m → try (lo + k) ≡ try' (lo' + k))
    → scan try lo m ≡ scan try' lo' m
unfolding scan
scan_same try try' lo lo' zero same = refl
scan_same try try' lo lo' (suc m) same = rw (same m (omega arith), scan_same try try' lo lo' m (λ k l. same k (omega arith)))

pub cost_same : (try try' : ℕ → Option Stop) (cost cost' : ℕ → ℕ) (lo lo' m : ℕ) → ((k : ℕ) → k < m → try (lo + k) ≡ try' (lo' + k))
    → ((k : ℕ) → k < m → cost (lo + k) ≡ cost' (lo' + k)) → scan_cost try cost lo m ≡ scan_cost try' cost' lo' m
unfolding scan_cost
cost_same try try' cost cost' lo lo' zero same price = refl
cost_same try try' cost cost' lo lo' (suc m) same price =
    rw (
      same m (omega arith),
      price m (omega arith),
      cost_same try try' cost cost' lo lo' m (λ k l. same k (omega arith)) (λ k l. price k (omega arith)),
    )

unless_most : (o : Option Stop) (c : ℕ) → unless_ended o c ≤ c
unless_most none c = omega arith
unless_most (some r) c = omega arith

-- if each costs at most m
pub cost_most : (try : ℕ → Option Stop) (cost : ℕ → ℕ) (m : ℕ) → ((i : ℕ) → cost i ≤ m) → (lo k : ℕ) → scan_cost try cost lo k ≤ k * m
unfolding scan_cost
cost_most try cost m h lo zero = omega arith
cost_most try cost m h lo (suc k) =
    omega (arith, h (lo + k), unless_most (try (lo + k)) (scan_cost try cost lo k), cost_most try cost m h lo k)

-- ---- pages

-- no more are full when there were fewer items
pub full_mono : (n₀ n q : ℕ) → 0 < q → n₀ ≤ n → n₀ / q ≤ n / q
full_mono n₀ n q pos h =
    let E = euclid n q pos in
    let k : n₀ < (n / q + 1) * q = omega (arith, h, E.whole, E.small) in
    omega (arith, div_lt n₀ q (n / q + 1) pos k)

-- a page that is opened before others
opening_onward : (s o : Option Stop) (k : ℕ) (older : Found)
    → opening s (onward o k older) ≡ onward (opening s (reply o k)).stop (opening s (reply o k)).opened older
opening_onward none none k older =
    let e : suc (k + older.opened) ≡ suc k + older.opened = omega arith in
    ap (reply older.stop) e
opening_onward none (some r) k older = refl
opening_onward (some r) o k older = refl

module _ (gate : ℕ → Bool) (try : ℕ → Option Stop) (cost : ℕ → ℕ) (q : ℕ) where
  page_open : (p : ℕ) → gate p ≡ true → search_pages gate try q (suc p) ≡ opening (scan try (p * q) q) (search_pages gate try q p)
  unfolding search_pages
  page_open p t = rw t

  page_shut : (p : ℕ) → gate p ≡ false → search_pages gate try q (suc p) ≡ search_pages gate try q p
  unfolding search_pages
  page_shut p t = rw t

  cost_open : (p : ℕ) → gate p ≡ true
      → pages_cost gate try cost q (suc p) ≡ scan_cost try cost (p * q) q + unless_ended (scan try (p * q) q) (pages_cost gate try cost q p)
  unfolding pages_cost
  cost_open p t = rw t

  cost_shut : (p : ℕ) → gate p ≡ false → pages_cost gate try cost q (suc p) ≡ pages_cost gate try cost q p
  unfolding pages_cost
  cost_shut p t = rw t

  -- pages from m on that are shut may be left out
  pub shut_out : (p m : ℕ) → m ≤ p → ((i : ℕ) → m ≤ i → i < p → gate i ≡ false)
      → (search_pages gate try q p ≡ search_pages gate try q m) × (pages_cost gate try cost q p ≡ pages_cost gate try cost q m)
  shut_out zero m l h = let e : m ≡ 0 = omega arith in rw e (refl, refl)
  shut_out (suc p) m l h =
      either (eq? m (suc p))
      (λ t. rw t.1 (refl, refl))
      (λ t.
      let ne = t.1 in
      let shut = h p (omega arith) (omega arith) in
      let e = shut_out p m (omega arith) (λ i a b. h i a (omega arith)) in
      (page_shut p shut ∙ e.0, cost_shut p shut ∙ e.1))

  -- if each item costs at most m
  pub pages_cost_lem : (m : ℕ) → ((i : ℕ) → cost i ≤ m) → (p : ℕ) → pages_cost gate try cost q p ≤ p * (q * m)
  unfolding pages_cost
  pages_cost_lem m h zero = omega arith
  pages_cost_lem m h (suc p) =
      let rest = pages_cost_lem m h p in
      let here = cost_most try cost m h (p * q) q in
      either (bool? (gate p))
      (λ t. rw t (omega (arith, here, unless_most (scan try (p * q) q) (pages_cost gate try cost q p), rest)))
      (λ t. rw t (omega (arith, rest)))

  -- of N pages the search has ended nowhere in page p or above, after `opened` pages and at the cost of `sum`
  pub record Pages (N opened sum p : ℕ) : Type 0 where
    pub low : p ≤ N
    pub rest : search_pages gate try q N ≡ onward none opened (search_pages gate try q p)
    pub paid : pages_cost gate try cost q N ≡ sum + pages_cost gate try cost q p

  pub pages_first : (N : ℕ) → Pages N 0 0 N
  pages_first N =
      let f : Found = search_pages gate try q N in
      let z : f.opened ≡ 0 + f.opened = omega arith in
      record { low = omega arith; rest = ap (reply f.stop) z; paid = omega arith }

  -- the next part of it, from page p down to page `start`, opened k pages, cost c and ended so
  pub record Part (p start k c : ℕ) (s : Option Stop) : Type 0 where
    pub found : search_pages gate try q p ≡ onward s k (search_pages gate try q start)
    pub price : pages_cost gate try cost q p ≡ c + unless_ended s (pages_cost gate try cost q start)

  -- n pages from page a on, by themselves and then those below them
  module _ (gate' : ℕ → Bool) (try' : ℕ → Option Stop) (a : ℕ) where
    pub newer_first : (n : ℕ) → ((i : ℕ) → i < n → gate (a + i) ≡ gate' i)
        → ((i k : ℕ) → i < n → k < q → try ((a + i) * q + k) ≡ try' (i * q + k))
        → search_pages gate try q (a + n)
        ≡ onward (search_pages gate' try' q n).stop (search_pages gate' try' q n).opened (search_pages gate try q a)
    unfolding search_pages
    newer_first zero gates tries =
        let e : a + zero ≡ a = omega arith in
        let f : Found = search_pages gate try q a in
        let z : f.opened ≡ 0 + f.opened = omega arith in
        rw e (ap (reply f.stop) z)
    newer_first (suc n) gates tries =
        let e : a + suc n ≡ suc (a + n) = omega arith in
        let rest = newer_first n (λ i h. gates i (omega arith)) (λ i k h. tries i k (omega arith)) in
        let f : Found = search_pages gate' try' q n in
        either (bool? (gate' n))
        (λ t.
        rw (e, t, gates n (omega arith) ∙ t, scan_same try try' ((a + n) * q) (n * q) q (λ k h. tries n k (omega arith) h), rest)
        (opening_onward (scan try' (n * q) q) f.stop f.opened (search_pages gate try q a)))
        (λ t. rw (e, t, gates n (omega arith) ∙ t) rest)

module _ {gate : ℕ → Bool} {try : ℕ → Option Stop} {cost : ℕ → ℕ} {q N opened sum p : ℕ} (P : Pages gate try cost q N opened sum p) where
  pub pages_none : p ≤ 0 → (search_pages gate try q N ≡ reply none opened) × (sum ≡ pages_cost gate try cost q N)
  unfolding search_pages pages_cost
  pages_none h =
      let z : p ≡ 0 = omega arith in
      let e : opened + 0 ≡ opened = omega arith in
      ((rw z at P.rest) ∙ ap (reply none) e, omega (arith, rw z at P.paid))

  pub pages_few : opened ≤ N
  pages_few = omega (arith, opened_le gate try q N, ap (λ (f : Found). f.opened) P.rest)

  -- ---- by pages

  pub pages_skip : (m : ℕ) → m ≤ p → ((i : ℕ) → m ≤ i → i < p → gate i ≡ false) → Pages gate try cost q N opened sum m
  pages_skip m l h =
      let e = shut_out gate try cost q p m l h in
      record {
        low = omega (arith, P.low);
        rest = P.rest ∙ ap (onward none opened) e.0;
        paid = P.paid ∙ ap (λ (c : ℕ). sum + c) e.1;
      }

  -- page f is the newest of those left that is open
  module _ (f : ℕ) (l : f < p) (is_open : gate f ≡ true) (shut : (i : ℕ) → f < i → i < p → gate i ≡ false) where
    here : (s : Option Stop) → scan try (f * q) q ≡ s → search_pages gate try q N ≡ onward none opened (opening s (search_pages gate try q f))
    here s e =
        (pages_skip (suc f) l shut).rest
        ∙ ap (onward none opened)
        (page_open gate try cost q f is_open ∙ ap (λ (o : Option Stop). opening o (search_pages gate try q f)) e)

    paid_here : (s : Option Stop) → scan try (f * q) q ≡ s
        → pages_cost gate try cost q N ≡ sum + (scan_cost try cost (f * q) q + unless_ended s (pages_cost gate try cost q f))
    paid_here s e =
        (pages_skip (suc f) l shut).paid
        ∙ ap (λ (c : ℕ). sum + c)
        (cost_open gate try cost q f is_open
        ∙ ap (λ (o : Option Stop). scan_cost try cost (f * q) q + unless_ended o (pages_cost gate try cost q f)) e)

    pub pages_most : sum + scan_cost try cost (f * q) q ≤ pages_cost gate try cost q N
    pages_most = omega (arith, paid_here (scan try (f * q) q) refl)

    pub pages_ended : (r : Stop) → scan try (f * q) q ≡ some r
        → (search_pages gate try q N ≡ reply (some r) (opened + 1)) × (pages_cost gate try cost q N ≡ sum + scan_cost try cost (f * q) q)
    pages_ended r e = (here (some r) e, omega (arith, paid_here (some r) e))

    pub pages_vain : scan try (f * q) q ≡ none → Pages gate try cost q N (opened + 1) (sum + scan_cost try cost (f * q) q) f
    pages_vain e =
        let g : Found = search_pages gate try q f in
        let s : opened + suc g.opened ≡ opened + 1 + g.opened = omega arith in
        record {
          low = omega (arith, P.low);
          rest = here none e ∙ ap (reply g.stop) s;
          paid = omega (arith, paid_here none e);
        }

  -- ---- by parts

  module _ {start k c : ℕ} {s : Option Stop} (A : Part gate try cost q p start k c s) where
    pub part_ended : (r : Stop) → s ≡ some r
        → (search_pages gate try q N ≡ reply (some r) (opened + k)) × (pages_cost gate try cost q N ≡ sum + c)
    part_ended r e = (P.rest ∙ ap (onward none opened) (rw e at A.found), omega (arith, P.paid, rw e at A.price))

    pub part_next : s ≡ none → start ≤ p → Pages gate try cost q N (opened + k) (sum + c) start
    part_next e h =
        let f : Found = search_pages gate try q start in
        let z : opened + (k + f.opened) ≡ opened + k + f.opened = omega arith in
        record {
          low = omega (arith, P.low);
          rest = P.rest ∙ ap (onward none opened) (rw e at A.found) ∙ ap (reply f.stop) z;
          paid = omega (arith, P.paid, rw e at A.price);
        }

    pub part_few : opened + k ≤ N
    part_few = few s A.found
      where
        few : (s : Option Stop) → search_pages gate try q p ≡ onward s k (search_pages gate try q start) → opened + k ≤ N
        few none e = omega (arith, opened_le gate try q N, ap (λ (f : Found). f.opened) (P.rest ∙ ap (onward none opened) e))
        few (some r) e = omega (arith, opened_le gate try q N, ap (λ (f : Found). f.opened) (P.rest ∙ ap (onward none opened) e))

    pub part_most : sum + c ≤ pages_cost gate try cost q N
    part_most = omega (arith, P.paid, A.price)

-- ---- a walk whose tests cost nothing

abbrev pub free : ℕ → ℕ
free i = 0

pub scan_free : (try : ℕ → Option Stop) (lo k : ℕ) → scan_cost try free lo k ≡ 0
scan_free try lo k = omega (arith, cost_most try free 0 (λ i. omega arith) lo k)

pub part_free : (gate : ℕ → Bool) (try : ℕ → Option Stop) (q : ℕ) {p start k : ℕ} {s : Option Stop}
    → search_pages gate try q p ≡ onward s k (search_pages gate try q start) → Part gate try free q p start k 0 s
part_free gate try q {p} {start} {k} {s} e =
    record {
      found = e;
      price = omega (
        arith,
        pages_cost_lem gate try free q 0 (λ i. omega arith) p,
        pages_cost_lem gate try free q 0 (λ i. omega arith) start,
        unless_most s (pages_cost gate try free q start),
      );
    }

-- ---- the pages of a block, from page `first` on, z to a word

-- the lesser of two numbers
abbrev pub lesser : ℕ → ℕ → ℕ
lesser a b = a - (a - b)

pub same_order : (a b c d : ℕ) → (a < b → c < d) → (b ≤ a → d ≤ c) → ltb a b ≡ ltb c d
same_order a b c d f g =
    either (lt? a b)
    (λ t. t.0 ∙ sym (lt-ltb c d (f t.1)))
    (λ t. t.0 ∙ sym (le-ltb c d (g t.1)))

-- its words have the gates of those below page `below`, page i of a word by a test of the word
abbrev pub Shown : (ℕ → ℕ → Bool) → ℕ → ℕ → ℕ → List ℕ → (ℕ → Bool) → Type 0
Shown has z first below words gate =
    (w : ℕ) → w < 8 → (i : ℕ) → i < z → has (get_or words w 0) i ≡ (ltb (first + w * z + i) below && gate (first + w * z + i))

module _ (try : ℕ → Option Stop) (cost : ℕ → ℕ) (q : ℕ) (has : ℕ → ℕ → Bool) (z first below : ℕ) (words : List ℕ) where
  -- whatever opens them: the words from w on are done, `opened` pages among them were opened, `sum` was paid
  pub record Words (opened sum w : ℕ) : Type 0 where
    pub used : w * z ≤ below - first + (z - 1)
    pub left : (gate : ℕ → Bool) → Shown has z first below words gate
        → Pages gate try cost q below opened sum (lesser (first + w * z) below)

  pub words_first : (w : ℕ) → w * z ≤ below - first + (z - 1) → below ≤ first + w * z → Words 0 0 w
  words_first w h l =
      let e : lesser (first + w * z) below ≡ below = omega arith in
      record { used = h; left = λ gate shows. rw e (pages_first gate try cost q below) }

  -- word w is done too
  pub words_next : (opened sum w : ℕ) → first + w * z < below
      → ((gate : ℕ → Bool) → Shown has z first below words gate → Pages gate try cost q below opened sum (first + w * z))
      → Words opened sum w
  words_next opened sum w l done =
      let e : lesser (first + w * z) below ≡ first + w * z = omega arith in
      record { used = omega arith; left = λ gate shows. rw e (done gate shows) }

module _ {try : ℕ → Option Stop} {cost : ℕ → ℕ} {q : ℕ} {has : ℕ → ℕ → Bool} {z first below : ℕ} {words : List ℕ} {opened sum w : ℕ}
    (W : Words try cost q has z first below words opened sum w) (gate : ℕ → Bool) (shows : Shown has z first below words gate) where
  -- the pages of the next word are left
  pub words_left : 0 < w → Pages gate try cost q below opened sum (lesser (first + (w - 1) * z + z) below)
  words_left h =
      let s : w ≡ suc (w - 1) = omega arith in
      let e : first + suc (w - 1) * z ≡ first + (w - 1) * z + z = omega arith in
      let a : first + w * z ≡ first + (w - 1) * z + z = ap (λ (x : ℕ). first + x * z) s ∙ e in
      rw (← a) (W.left gate shows)

  -- no word is
  pub words_end : w ≤ 0 → first < below → Part gate try cost q below first opened sum none
  words_end h l =
      let o : w ≡ 0 = omega arith in
      let e : lesser (first + w * z) below ≡ first = rw o (omega arith) in
      record { found = rw e at (W.left gate shows).rest; price = rw e at (W.left gate shows).paid }
