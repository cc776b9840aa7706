-- The pages of a word of bits, one after another: what is left of them at each, and what a search has found in them.
use mathlib.Core.Path.{◌≡◌, refl, sym, ◌∙◌}
use mathlib.Core.Bool.{Bool, true, false, ◌&&◌, true≢false, and-eq-true_iff}
use mathlib.Core.Option.{Option, none, some}
use Prim.Native.Nat.{ℕ, zero, suc, ◌+◌, ◌*◌, ◌-◌, ◌≤◌, ◌<◌}
use native.Mathlib.Omega.{arith}
use lib.Dec.{ltb}
use borrow.Author.Tests.{lt-ltb, le-ltb, ltb-true}
use Rattle.memory.specs.Bits.{bit}
use Rattle.memory.specs.Candidate.{candidate, candidate_le, candidate_open, candidate_shut, candidate_opens, candidate_skip}
use Rattle.memory.specs.Cases.{bool?, lt?, eq?, either}
use Rattle.layout.specs.Search.{Stop, reply, scan, scan_cost, search_pages, pages_cost}
use Rattle.laws.specs.TopBits.{Top, Cleared, BitsLeft, all_left, none_left, top_both, top_gap, top_left}
use Rattle.laws.specs.WalkLaws.{Pages, pages_few, pages_skip, pages_most, pages_ended, pages_vain}
use Rattle.search.specs.Tries.{newest_of, opened_of}

shut_left : (a b : Bool) → a ≡ false → (a && b) ≡ false
shut_left a b e = rw e

-- ---- pages to be opened, and their newest entries

module _ (set : ℕ → Bool) (entry : ℕ → ℕ) where
  abbrev gate : ℕ → Bool
  gate i = set i && ltb 0 (entry i)

  pub opened_le : (n : ℕ) → opened_of set entry n ≤ n
  unfolding opened_of
  opened_le zero = omega arith
  opened_le (suc n) =
      either (bool? (set n))
      (λ t.
      either (bool? (ltb 0 (entry n)))
      (λ s. rw (t, s) (omega arith))
      (λ s. rw (t, s) (omega (arith, opened_le n))))
      (λ t. rw t (omega (arith, opened_le n)))

  -- pages from m on that are not to be opened
  opened_skip : (n m : ℕ) → m ≤ n → ((i : ℕ) → m ≤ i → i < n → set i ≡ false) → opened_of set entry n ≡ opened_of set entry m
  unfolding opened_of
  opened_skip zero m l h = let e : m ≡ 0 = omega arith in rw e
  opened_skip (suc n) m l h =
      either (eq? m (suc n))
      (λ t. rw t.1)
      (λ t.
      let ne = t.1 in
      rw (h n (omega arith) (omega arith)) (opened_skip n m (omega arith) (λ i a b. h i a (omega arith))))

  opened_end : opened_of set entry 0 ≡ 0
  unfolding opened_of
  opened_end = refl

  opened_vain : (n : ℕ) → set n ≡ true → entry n ≡ 0 → opened_of set entry (suc n) ≡ suc (opened_of set entry n)
  unfolding opened_of
  opened_vain n t z = rw (t, z)

  opened_some : (n : ℕ) → set n ≡ true → 0 < entry n → opened_of set entry (suc n) ≡ 1
  unfolding opened_of
  opened_some n t p = rw (t, lt-ltb 0 (entry n) p)

  gate_vain : (n : ℕ) → entry n ≡ 0 → gate n ≡ false
  gate_vain n z = either (bool? (set n)) (λ t. rw (t, z)) (λ t. rw t)

  gate_some : (n : ℕ) → set n ≡ true → 0 < entry n → gate n ≡ true
  gate_some n t p = rw (t, lt-ltb 0 (entry n) p)

  newest_end : newest_of set entry 0 ≡ 0
  unfolding candidate
  newest_end = refl

  newest_skip : (n m : ℕ) → m ≤ n → ((i : ℕ) → m ≤ i → i < n → set i ≡ false) → newest_of set entry n ≡ newest_of set entry m
  newest_skip n m l h = candidate_skip gate n m l (λ i a b. shut_left (set i) (ltb 0 (entry i)) (h i a b))

  -- the newest is to be opened
  pub newest_set : (n : ℕ) → 0 < newest_of set entry n → set (newest_of set entry n - 1) ≡ true
  newest_set n p = let f = newest_of set entry n - 1 in ((and-eq-true_iff (set f) (ltb 0 (entry f))).0 (candidate_opens gate n p)).0

  -- and has an entry
  pub newest_some : (n : ℕ) → 0 < newest_of set entry n → 0 < entry (newest_of set entry n - 1)
  newest_some n p =
      let f = newest_of set entry n - 1 in
      ltb-true 0 (entry f) ((and-eq-true_iff (set f) (ltb 0 (entry f))).0 (candidate_opens gate n p)).1

  pub newest_le : (n : ℕ) → newest_of set entry n ≤ n
  newest_le n = candidate_le gate n

-- ---- the bits of a word, of which those below m are left

module _ (bits : ℕ) (entry : ℕ → ℕ) where
  abbrev pub count : ℕ → ℕ
  count m = opened_of (bit bits) entry m

  abbrev pub newest : ℕ → ℕ
  newest m = newest_of (bit bits) entry m

  -- `opened` pages were opened in vain, those of bits m and above
  pub record Vain (left opened : ℕ) : Type 0 where
    pub m : ℕ
    pub shown : BitsLeft bits left m
    pub opened_is : count 64 ≡ opened + count m
    pub newest_is : newest 64 ≡ newest m

  pub vain_first : Vain bits 0
  vain_first = record { m = 64; shown = all_left bits; opened_is = omega arith; newest_is = refl }

module _ {bits : ℕ} {entry : ℕ → ℕ} {left opened : ℕ} (T : Vain bits entry left opened) where
  pub vain_few : opened ≤ 64
  vain_few = omega (arith, T.opened_is, opened_le (bit bits) entry 64)

  -- none is left
  module _ (z : left ≡ 0) where
    none_set : (i : ℕ) → 0 ≤ i → i < T.m → bit bits i ≡ false
    none_set i a b = none_left T.shown z i b

    pub vain_newest : newest bits entry 64 ≡ 0
    vain_newest = T.newest_is ∙ newest_skip (bit bits) entry T.m 0 (omega arith) none_set ∙ newest_end (bit bits) entry

    pub vain_opened : opened ≡ count bits entry 64
    vain_opened =
        let a : count bits entry T.m ≡ 0 = opened_skip (bit bits) entry T.m 0 (omega arith) none_set ∙ opened_end (bit bits) entry in
        omega (arith, T.opened_is)

  -- bit f is the highest left
  module _ (f : ℕ) (top : Top left f) where
    here : (f < T.m) × (bit bits f ≡ true)
    here = top_both T.shown f top

    opened_here : count bits entry T.m ≡ count bits entry (suc f)
    opened_here = opened_skip (bit bits) entry T.m (suc f) here.0 (top_gap T.shown f top)

    newest_here : newest bits entry T.m ≡ newest bits entry (suc f)
    newest_here = newest_skip (bit bits) entry T.m (suc f) here.0 (top_gap T.shown f top)

    pub vain_next : (r : ℕ) → Cleared left f r → entry f ≡ 0 → Vain bits entry r (opened + 1)
    vain_next r is z =
        record {
          m = f;
          shown = top_left T.shown f top r is;
          opened_is = omega (arith, T.opened_is, opened_here, opened_vain (bit bits) entry f here.1 z);
          newest_is = T.newest_is ∙ newest_here ∙ candidate_shut (gate (bit bits) entry) f (gate_vain (bit bits) entry f z);
        }

    module _ (p : 0 < entry f) where
      pub some_newest : newest bits entry 64 ≡ suc f
      some_newest = T.newest_is ∙ newest_here ∙ candidate_open (gate (bit bits) entry) f (gate_some (bit bits) entry f here.1 p)

      pub some_opened : opened + 1 ≡ count bits entry 64
      some_opened = omega (arith, T.opened_is, opened_here, opened_some (bit bits) entry f here.1 p)

-- ---- what a search has found in them

module _ (gated : ℕ → Bool) (try : ℕ → Option Stop) (cost : ℕ → ℕ) (q N from : ℕ) where
  -- page f was the last of k that were opened, those before it in vain; `sum` was paid before it
  pub record Reached (k sum f : ℕ) : Type 0 where
    pub low : f < N
    pub few : k ≤ N + 1
    pub most : sum + scan_cost try cost (f * q) q ≤ pages_cost gated try cost q N
    pub ended : (r : Stop) → scan try (f * q) q ≡ some r
        → (search_pages gated try q N ≡ reply (some r) k) × (pages_cost gated try cost q N ≡ sum + scan_cost try cost (f * q) q)
    pub vain : scan try (f * q) q ≡ none → Pages gated try cost q N k (sum + scan_cost try cost (f * q) q) f

  -- all were opened in vain, or the newest with an entry was reached
  pub record Through (k sum newest : ℕ) : Type 0 where
    pub all : newest ≡ 0 → Pages gated try cost q N k sum from
    pub one : 0 < newest → Reached k sum (from + (newest - 1))

  module _ (set : ℕ → Bool) (entry : ℕ → ℕ)
      (other : (i : ℕ) → set i ≡ true → from + i < N → entry i ≡ 0
      → (scan try ((from + i) * q) q ≡ none) × (scan_cost try cost ((from + i) * q) q ≡ 0)) where
    -- from page p on, which the lowest m bits reach
    abbrev Goes : ℕ → Type 0
    Goes m =
        (k sum p : ℕ) → Pages gated try cost q N k sum p → from ≤ p → p ≤ from + m → ((i : ℕ) → i < m → set i ≡ (ltb (from + i) p && gated (from + i)))
        → Through (k + opened_of set entry m) sum (newest_of set entry m)

    module _ (m : ℕ) (rest : Goes m) (k sum p : ℕ) (P : Pages gated try cost q N k sum p) (a : from ≤ p) (b : p ≤ from + suc m)
        (shown : (i : ℕ) → i < suc m → set i ≡ (ltb (from + i) p && gated (from + i))) where
      lower : (i : ℕ) → i < m → from + m ≤ p → set i ≡ (ltb (from + i) (from + m) && gated (from + i))
      lower i h l = shown i (omega arith) ∙ rw (lt-ltb (from + i) p (omega arith), lt-ltb (from + i) (from + m) (omega arith))

      opened_one : set m ≡ true → gated (from + m) ≡ true → from + m < p → ((i : ℕ) → from + m < i → i < p → gated i ≡ false)
          → Through (k + opened_of set entry (suc m)) sum (newest_of set entry (suc m))
      opened_one t o l gap =
          either (lt? 0 (entry m))
          (λ s.
          let w : newest_of set entry (suc m) ≡ suc m = candidate_open (gate set entry) m (gate_some set entry m t s.1) in
          let c : k + opened_of set entry (suc m) ≡ k + 1 = omega (arith, opened_some set entry m t s.1) in
          rw (w, c) record {
            all = λ h. absurd (omega arith);
            one = λ h.
                let e : from + (suc m - 1) ≡ from + m = omega arith in
                rw e record {
                  low = omega (arith, P.low);
                  few = omega (arith, pages_few P);
                  most = pages_most P (from + m) l o gap;
                  ended = pages_ended P (from + m) l o gap;
                  vain = pages_vain P (from + m) l o gap;
                };
          })
          (λ s.
          let z : entry m ≡ 0 = omega (arith, s.1) in
          let w : newest_of set entry (suc m) ≡ newest_of set entry m = candidate_shut (gate set entry) m (gate_vain set entry m z) in
          let c : k + opened_of set entry (suc m) ≡ k + 1 + opened_of set entry m = omega (arith, opened_vain set entry m t z) in
          let e = other m t (omega (arith, P.low)) z in
          let s : sum + scan_cost try cost ((from + m) * q) q ≡ sum = omega (arith, e.1) in
          let v = rw s at (pages_vain P (from + m) l o gap e.0) in
          rw (w, c) (rest (k + 1) sum (from + m) v (omega arith) (omega arith) (λ i h. lower i h (omega arith))))

      passed : set m ≡ false → Through (k + opened_of set entry (suc m)) sum (newest_of set entry (suc m))
      passed t =
          let none_set : (i : ℕ) → m ≤ i → i < suc m → set i ≡ false = λ i c d. (let e : i ≡ m = omega arith in rw e t) in
          let w : newest_of set entry (suc m) ≡ newest_of set entry m = newest_skip set entry (suc m) m (omega arith) none_set in
          let c : k + opened_of set entry (suc m) ≡ k + opened_of set entry m = omega (arith, opened_skip set entry (suc m) m (omega arith) none_set) in
          either (lt? (from + m) p)
          (λ s.
          let l = s.1 in
          let shut : gated (from + m) ≡ false = (rw s.0 at (sym (shown m (omega arith)))) ∙ t in
          let v = pages_skip P (from + m) (omega arith) (λ i c d. (let e : i ≡ from + m = omega arith in rw e shut)) in
          rw (w, c) (rest k sum (from + m) v (omega arith) (omega arith) (λ i h. lower i h (omega arith))))
          (λ s.
          let l = s.1 in
          rw (w, c) (rest k sum p P a (omega arith) (λ i h. shown i (omega arith))))

      one_more : Through (k + opened_of set entry (suc m)) sum (newest_of set entry (suc m))
      one_more =
          either (bool? (set m))
          (λ t.
          let B = (and-eq-true_iff (ltb (from + m) p) (gated (from + m))).0 (sym (shown m (omega arith)) ∙ t) in
          opened_one t B.1 (ltb-true (from + m) p B.0) (λ i c d. absurd (omega arith)))
          (λ t. passed t)

    pub through : (m : ℕ) → Goes m
    through zero k sum p P a b shown =
        let e : p ≡ from = omega arith in
        let z : k + opened_of set entry 0 ≡ k = omega (arith, opened_end set entry) in
        rw (z, newest_end set entry) record {
          all = λ h. rw e at P;
          one = λ h. absurd (omega arith);
        }
    through (suc m) k sum p P a b shown = one_more m (through m) k sum p P a b shown

-- ---- the bits left

-- an open gate's candidate is above it
above : (f : ℕ → Bool) (n i : ℕ) → i < n → f i ≡ true → i < candidate f n
unfolding candidate
above f zero i h t = absurd (omega arith)
above f (suc n) i h t =
    either (bool? (f n))
    (λ s. rw s (omega arith))
    (λ s.
    either (eq? i n)
    (λ e. let z : f n ≡ true = rw e.1 at t in absurd (true≢false (sym z ∙ s)))
    (λ e. let ne = e.1 in rw s (above f n i (omega arith) t)))

abbrev pub measure : ℕ → ℕ
measure bits = candidate (bit bits) 64 + (1 - (1 - bits))

-- there are fewer, by the highest: those below the newest page's remain
module _ (bits : ℕ) (entry : ℕ → ℕ) (r : ℕ) (left : (i : ℕ) → i < 64 → bit r i ≡ (ltb i (newest bits entry 64 - 1) && bit bits i)) where
  abbrev n : ℕ
  n = newest bits entry 64

  gone : (i : ℕ) → n - 1 ≤ i → i < 64 → bit r i ≡ false
  gone i a k = left i k ∙ shut_left (ltb i (n - 1)) (bit bits i) (le-ltb i (n - 1) a)

  -- a word without any is 0
  pub fewer : 0 < bits → (n ≡ 0 → r ≡ 0) → measure r < measure bits
  fewer p z =
      let a : candidate (bit r) 64 ≡ candidate (bit r) (n - 1) = candidate_skip (bit r) 64 (n - 1) (omega (arith, newest_le (bit bits) entry 64)) gone in
      let b = candidate_le (bit r) (n - 1) in
      either (lt? 0 n)
      (λ t.
      let c = above (bit bits) 64 (n - 1) (omega (arith, newest_le (bit bits) entry 64, t.1)) (newest_set (bit bits) entry 64 t.1) in
      omega (arith, a, b, c))
      (λ t. omega (arith, a, b, t.1, z (omega (arith, t.1))))
