-- What is left of the scan of a page's entries at the newest entry with the key, and the step from it to the next.
use mathlib.Core.Path.{◌≡◌, refl, sym, ap, ◌∙◌}
use mathlib.Core.Bool.{Bool, true, false, cond}
use mathlib.Core.Option.{Option, none, some}
use mathlib.Core.List.{List}
use Prim.Native.Nat.{ℕ, zero, suc, ◌+◌, ◌*◌, ◌≤◌, ◌<◌}
use native.Mathlib.Omega.{arith}
use borrow.Author.Tests.{le-leb, lt-leb}
use lib.Dec.{leb}
use Rattle.memory.specs.Cases.{bool?, either}
use Rattle.memory.specs.Words.{word}
use Rattle.layout.specs.Keys.{Key, same_key, key_at, number_in}
use Rattle.layout.specs.Search.{Stop, found, corrupt, try_entry, entry_cost, or_else, unless_ended, scan, scan_cost}
use Rattle.memory.specs.Candidate.{candidate}
use Rattle.items.specs.Scans.{has_key, last_entry, place_of}
use Rattle.std.specs.Prelude.{Some, None}
use Rattle.search.proofs.Places.{Place, past, past_newest, newest_few, newest_passes}

-- ---- the newest that passes

-- a scan may begin at the newest entry that passes
scan_from : (try : ℕ → Option Stop) (f : ℕ → Bool) (lo m : ℕ) → ((i : ℕ) → i < m → f i ≡ false → try (lo + i) ≡ none)
    → scan try lo m ≡ scan try lo (candidate f m)
unfolding scan candidate
scan_from try f lo zero pass = refl
scan_from try f lo (suc m) pass =
    either (bool? (f m))
    (λ t. rw t)
    (λ t. rw (t, pass m (omega arith) t) (scan_from try f lo m (λ i h. pass i (omega arith))))

scan_last : (try : ℕ → Option Stop) (lo k : ℕ) → scan try lo (suc k) ≡ or_else (try (lo + k)) (scan try lo k)
unfolding scan
scan_last try lo k = refl

scan_end : (try : ℕ → Option Stop) (lo : ℕ) → scan try lo 0 ≡ none
unfolding scan
scan_end try lo = refl

-- ---- what it costs

module _ (try : ℕ → Option Stop) (cost : ℕ → ℕ) where
  cost_from_lem : (f : ℕ → Bool) (lo m : ℕ) → ((i : ℕ) → i < m → f i ≡ false → (try (lo + i) ≡ none) × (cost (lo + i) ≡ 0))
      → scan_cost try cost lo m ≡ scan_cost try cost lo (candidate f m)
  unfolding scan_cost candidate
  cost_from_lem f lo zero pass = refl
  cost_from_lem f lo (suc m) pass =
      either (bool? (f m))
      (λ t. rw t)
      (λ t.
      let p = pass m (omega arith) t in
      rw (t, p.0, p.1) (omega (arith, cost_from_lem f lo m (λ i h. pass i (omega arith)))))

  cost_last : (lo k : ℕ) → scan_cost try cost lo (suc k) ≡ cost (lo + k) + unless_ended (try (lo + k)) (scan_cost try cost lo k)
  unfolding scan_cost
  cost_last lo k = refl

  cost_end : (lo : ℕ) → scan_cost try cost lo 0 ≡ 0
  unfolding scan_cost
  cost_end lo = refl

-- ---- entries in a row of bytes

-- entries lo to lo + count - 1 lie in a row from byte `from` on
pub record Same (bytes : List ℕ) (from count n : ℕ) (key : Key) (deleted : ℕ → Bool) (test : ℕ → ℕ) (try : ℕ → Option Stop) (cost : ℕ → ℕ) (lo : ℕ) : Type 0 where
  pub entry : (k : ℕ) → k < count → try (lo + k) ≡ try_entry n deleted key (key_at bytes (from + k * 8)) (number_in (word bytes (from + k * 8 + 4)))
  pub price : (k : ℕ) → k < count → cost (lo + k) ≡ entry_cost n test key (key_at bytes (from + k * 8)) (number_in (word bytes (from + k * 8 + 4)))

-- entry e is the next to be tried: it has the key, and those above it do not end the scan; `base` was paid before it, `sum` by now
pub record Left (bytes : List ℕ) (from : ℕ) (key : Key) (try : ℕ → Option Stop) (cost : ℕ → ℕ) (lo count base : ℕ) (e : Place) (sum : ℕ) : Type 0 where
  pub le : past e ≤ count
  pub has : (k : ℕ) → e ≡ Some k → has_key bytes from key k ≡ true
  pub rest : scan try lo count ≡ scan try lo (past e)
  pub paid : base + scan_cost try cost lo count ≡ sum + scan_cost try cost lo (past e)

pub left_none : {bytes : List ℕ} {from : ℕ} {key : Key} {try : ℕ → Option Stop} {cost : ℕ → ℕ} {lo count base : ℕ} {e : Place} {sum : ℕ}
    → Left bytes from key try cost lo count base e sum → e ≡ None → (scan try lo count ≡ none) × (sum ≡ base + scan_cost try cost lo count)
left_none {try = try} {cost = cost} {lo = lo} {e = e} L none_left =
    let z : past e ≡ 0 = ap past none_left in
    ((rw z at L.rest) ∙ scan_end try lo, omega (arith, rw z at L.paid, cost_end try cost lo))

module _ {bytes : List ℕ} {from count n : ℕ} {key : Key} {deleted : ℕ → Bool} {test : ℕ → ℕ} {try : ℕ → Option Stop} {cost : ℕ → ℕ} {lo : ℕ}
    (S : Same bytes from count n key deleted test try cost lo) where
  other_key : (k : ℕ) → k < count → has_key bytes from key k ≡ false → (try (lo + k) ≡ none) × (cost (lo + k) ≡ 0)
  unfolding has_key same_key
  other_key k h t = (S.entry k h ∙ rw t, S.price k h ∙ rw t)

  this_key : (k : ℕ) → k < count → has_key bytes from key k ≡ true → let j : ℕ = number_in (word bytes (from + k * 8 + 4)) in
      (try (lo + k) ≡ cond (leb n j) (some corrupt) (cond (deleted j) none (some (found j)))) × (cost (lo + k) ≡ cond (leb n j) 0 (test j))
  unfolding has_key same_key
  this_key k h t = (S.entry k h ∙ rw t, S.price k h ∙ rw t)

  skipped : (m : ℕ) → m ≤ count → scan try lo m ≡ scan try lo (last_entry bytes from m key)
  skipped m h = scan_from try (has_key bytes from key) lo m (λ i l t. (other_key i (omega arith) t).0)

  skipped_cost : (m : ℕ) → m ≤ count → scan_cost try cost lo m ≡ scan_cost try cost lo (last_entry bytes from m key)
  skipped_cost m h = cost_from_lem try cost (has_key bytes from key) lo m (λ i l t. other_key i (omega arith) t)

  pub left_first : (base : ℕ) (e : Place) → e ≡ place_of (last_entry bytes from count key) → Left bytes from key try cost lo count base e base
  left_first base e is =
      let z = past_newest (has_key bytes from key) count e is in
      record {
        le = newest_few (has_key bytes from key) count e is;
        has = newest_passes (has_key bytes from key) count e is;
        rest = rw z (skipped count (omega arith));
        paid = rw z (ap (λ (x : ℕ). base + x) (skipped_cost count (omega arith)));
      }

  -- entry k is
  module _ {base sum j : ℕ} {e : Place} (L : Left bytes from key try cost lo count base e sum) {k : ℕ} (here_is : e ≡ Some k)
      (number : j ≡ number_in (word bytes (from + k * 8 + 4))) where
    past_is : past e ≡ suc k
    past_is = ap past here_is

    pub left_in : k < count
    left_in = omega (arith, past_is, L.le)

    abbrev outcome : Option Stop
    outcome = cond (leb n j) (some corrupt) (cond (deleted j) none (some (found j)))

    tried : (try (lo + k) ≡ outcome) × (cost (lo + k) ≡ cond (leb n j) 0 (test j))
    tried = rw number (this_key k left_in (L.has k here_is))

    here : scan try lo count ≡ or_else outcome (scan try lo k)
    here = (rw past_is at L.rest) ∙ scan_last try lo k ∙ ap (λ (o : Option Stop). or_else o (scan try lo k)) tried.0

    paid_here : base + scan_cost try cost lo count ≡ sum + (cond (leb n j) 0 (test j) + unless_ended outcome (scan_cost try cost lo k))
    paid_here =
        (rw past_is at L.paid)
        ∙ ap (λ (x : ℕ). sum + x)
        (cost_last try cost lo k ∙ (λ t. tried.1 t + unless_ended (tried.0 t) (scan_cost try cost lo k)))

    pub left_corrupt : n ≤ j → (scan try lo count ≡ some corrupt) × (sum ≡ base + scan_cost try cost lo count)
    left_corrupt h = (here ∙ rw (le-leb n j h), omega (arith, rw (le-leb n j h) at paid_here))

    module _ (below : j < n) where
      paid_test : base + scan_cost try cost lo count ≡ sum + (test j + unless_ended (cond (deleted j) none (some (found j))) (scan_cost try cost lo k))
      paid_test = rw (lt-leb n j below) at paid_here

      pub left_most : sum + test j ≤ base + scan_cost try cost lo count
      left_most = omega (arith, paid_test)

      module _ (t : Bool) (c : ℕ) (is : t ≡ deleted j) (opened : c ≡ test j) where
        pub left_found : t ≡ false → (scan try lo count ≡ some (found j)) × (sum + c ≡ base + scan_cost try cost lo count)
        left_found f = (here ∙ rw (lt-leb n j below, ← is, f), omega (arith, opened, rw (← is, f) at paid_test))

        gone : deleted j ≡ true → scan try lo count ≡ scan try lo k
        gone t = here ∙ rw (lt-leb n j below, t)

        pub left_next : (r : Place) → t ≡ true → r ≡ place_of (last_entry bytes from k key) → Left bytes from key try cost lo count base r (sum + c)
        left_next r f at =
            let z = past_newest (has_key bytes from key) k r at in
            let few = newest_few (has_key bytes from key) k r at in
            record {
              le = omega (arith, left_in);
              has = newest_passes (has_key bytes from key) k r at;
              rest = rw z (gone (sym is ∙ f) ∙ skipped k (omega (arith, left_in)));
              paid = rw z (omega (arith, opened, rw (← is, f) at paid_test, skipped_cost k (omega (arith, left_in))));
            }

    pub left_less : (r : Place) → r ≡ place_of (last_entry bytes from k key) → past r < past e
    left_less r at = omega (arith, past_is, newest_few (has_key bytes from key) k r at)
