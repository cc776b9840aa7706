-- The search page by page, with pages left out, is one scan from the newest entry down.
use Rattle.std.specs.Prelude.{◌≡◌, refl, Bool, false, cond, ℕ, zero, suc, ◌+◌, ◌*◌, ◌/◌, ◌%◌, ◌≤◌, ◌<◌}
use Rattle.std.proofs.Common.{sym, ◌∙◌, not-suc-le-zero, add-suc, add-zero, add_assoc, arith}
use Rattle.std.proofs.Math.Option.{Option, none, some, map}
use Rattle.memory.specs.Cases.{bool?, either}
use Rattle.memory.specs.Numbers.{euclid}
use Rattle.memory.specs.Ranges.{last, any}
use Rattle.layout.specs.Search.{Stop, found, Found, is_found, or_else, scan, opening, search_pages, ram_first, search_from}
use Rattle.laws.specs.SearchLaws.{opened_le}

-- ---- a scan in parts

or_else_assoc : (a b c : Option Stop) → or_else (or_else a b) c ≡ or_else a (or_else b c)
or_else_assoc none b c = refl
or_else_assoc (some r) b c = refl

scan_add : (try : ℕ → Option Stop) (lo a b : ℕ) → scan try lo (a + b) ≡ or_else (scan try (lo + a) b) (scan try lo a)
unfolding scan
scan_add try lo a zero = rw add-zero
scan_add try lo a (suc b) =
    rw (add-suc, scan_add try lo a b, add_assoc) (sym (or_else_assoc (try (lo + (a + b))) (scan try (lo + a) b) (scan try lo a)))

scan_none : (try : ℕ → Option Stop) (lo len : ℕ) → ((i : ℕ) → i < len → try (lo + i) ≡ none) → scan try lo len ≡ none
unfolding scan
scan_none try lo zero h = refl
scan_none try lo (suc k) h = rw (h k (omega arith)) (scan_none try lo k (λ i l. h i (omega arith)))

-- ---- pages left out

opening_stop : (s : Option Stop) (rest : Found) → (opening s rest).stop ≡ or_else s rest.stop
opening_stop none rest = refl
opening_stop (some r) rest = refl

ram_stop : (s : Option Stop) (rest : Found) → (ram_first s rest).stop ≡ or_else s rest.stop
ram_stop none rest = refl
ram_stop (some r) rest = refl

-- leaving out pages in which no test stops changes nothing: filters without false negatives do not change the answer
pages_all : (gate : ℕ → Bool) (try : ℕ → Option Stop) (q N : ℕ) → ((p i : ℕ) → p < N → i < q → gate p ≡ false → try (p * q + i) ≡ none)
    → (search_pages gate try q N).stop ≡ scan try 0 (N * q)
unfolding search_pages
pages_all gate try q zero h = let e : 0 * q ≡ 0 = omega arith in rw e (sym (scan_none try 0 0 (λ i l. absurd (not-suc-le-zero l))))
pages_all gate try q (suc p) h =
    let e : suc p * q ≡ p * q + q = omega arith in
    let z : 0 + p * q ≡ p * q = omega arith in
    let ih = pages_all gate try q p (λ p' i l m c. h p' i (omega arith) m c) in
    rw (e, scan_add, z, ← ih)
    (either (bool? (gate p))
    (λ c. rw c (opening_stop (scan try (p * q) q) (search_pages gate try q p)))
    (λ c. rw (c, scan_none try (p * q) q (λ i l. h p i (omega arith) l c))))

-- ---- the whole search

-- the whole search, RAM's entries first, as one scan
pub search_all : (gate : ℕ → Bool) (try : ℕ → Option Stop) (q n : ℕ) → 0 < q
    → ((p i : ℕ) → p < n / q → i < q → gate p ≡ false → try (p * q + i) ≡ none)
    → (search_from gate try q n).stop ≡ scan try 0 n
search_all gate try q n pq h =
    let E = euclid n q pq in
    let z : 0 + n / q * q ≡ n / q * q = omega arith in
    let parts : scan try 0 n ≡ or_else (scan try (n / q * q) (n % q)) (scan try 0 (n / q * q))
    = rw (E.whole, z) at (scan_add try 0 (n / q * q) (n % q)) in
    ram_stop (scan try (n / q * q) (n % q)) (search_pages gate try q (n / q)) ∙ rw (pages_all gate try q (n / q) h) (sym parts)

pub search_opened : (gate : ℕ → Bool) (try : ℕ → Option Stop) (q n : ℕ) → (search_from gate try q n).opened ≤ n / q
search_opened gate try q n = ram (scan try (n / q * q) (n % q)) (search_pages gate try q (n / q)) (opened_le gate try q (n / q))
  where
    ram : (s : Option Stop) (rest : Found) → rest.opened ≤ n / q → (ram_first s rest).opened ≤ n / q
    ram none rest l = l
    ram (some r) rest l = omega arith

-- where a test says found exactly at the live entries, the scan gives the newest live one
pub scan_live : (try : ℕ → Option Stop) (live : ℕ → Bool) (n : ℕ) → ((j : ℕ) → j < n → try j ≡ cond (live j) (some (found j)) none)
    → scan try 0 n ≡ map found (last live n)
unfolding scan last
scan_live try live zero h = refl
scan_live try live (suc n) h =
    let z : 0 + n ≡ n = omega arith in
    let ih = scan_live try live n (λ j l. h j (omega arith)) in
    rw (z, h n (omega arith), ih) (either (bool? (live n)) (λ c. rw c) (λ c. rw c))

-- where a test ends exactly at the items of a kind, the scan ends if there is one
pub scan_any : (try : ℕ → Option Stop) (is : ℕ → Bool) (r : Stop) (n : ℕ) → ((j : ℕ) → j < n → try j ≡ cond (is j) (some r) none)
    → is_found (scan try 0 n) ≡ any is n
unfolding scan any
scan_any try is r zero h = refl
scan_any try is r (suc n) h =
    let z : 0 + n ≡ n = omega arith in
    let ih = scan_any try is r n (λ j l. h j (omega arith)) in
    rw (z, h n (omega arith)) (either (bool? (is n)) (λ c. rw c) (λ c. rw (c, ih)))
