-- The pages of a word of filters, two to a page: of a word with bit 2i for page i the highest bit left is that of the newest page that is
-- open.
use mathlib.Core.Path.{◌≡◌, sym, ◌∙◌}
use mathlib.Core.Bool.{Bool, true, false, true≢false}
use mathlib.Core.Option.{Option, none, some}
use Prim.Native.Nat.{ℕ, ◌+◌, ◌*◌, ◌/◌, ◌<◌}
use native.Mathlib.Omega.{arith}
use Rattle.memory.specs.Bits.{bit}
use Rattle.memory.specs.Cases.{eq?, either}
use Rattle.layout.specs.Search.{Stop, reply, scan, scan_cost, search_pages}
use Rattle.laws.specs.TopBits.{Top, Cleared, BitsLeft, all_left, none_left, top_both, top_gap, top_left}
use Rattle.laws.specs.WalkLaws.{Pages, pages_first, pages_skip, pages_ended, pages_vain, free, scan_free}

-- the pages of bits m and above are done
pub record Left (gate : ℕ → Bool) (try : ℕ → Option Stop) (q word left opened : ℕ) : Type 0 where
  pub m : ℕ
  pub bits : BitsLeft word left m
  pub pages : Pages gate try free q 32 opened 0 ((m + 1) / 2)

pub left_first : (gate : ℕ → Bool) (try : ℕ → Option Stop) (q word : ℕ) → Left gate try q word word 0
left_first gate try q word = record { m = 64; bits = all_left word; pages = pages_first gate try free q 32 }

module _ {gate : ℕ → Bool} {try : ℕ → Option Stop} {q word left opened : ℕ} (L : Left gate try q word left opened)
    (are : (i : ℕ) → i < 32 → (bit word (2 * i) ≡ gate i) × (bit word (2 * i + 1) ≡ false)) where
  pub left_none : left ≡ 0 → Pages gate try free q 32 opened 0 0
  left_none z =
      let b = L.bits in
      pages_skip L.pages 0 (omega arith)
      (λ i a k. sym (are i (omega (arith, b.most))).0 ∙ none_left b z (2 * i) (omega arith))

  -- bit f is the highest
  module _ (f : ℕ) (top : Top left f) where
    is_even : f ≡ 2 * (f / 2)
    is_even =
        either (eq? f (2 * (f / 2)))
        (λ t. t.1)
        (λ t.
        let ne = t.1 in
        let e : f ≡ 2 * (f / 2) + 1 = omega arith in
        let s : bit word (2 * (f / 2) + 1) ≡ true = rw e at (top_both L.bits f top).1 in
        absurd (true≢false (sym s ∙ (are (f / 2) (omega (arith, top.0))).1)))

    pub top_open : gate (f / 2) ≡ true
    top_open =
        let s : bit word (2 * (f / 2)) ≡ true = rw is_even at (top_both L.bits f top).1 in
        sym (are (f / 2) (omega (arith, top.0))).0 ∙ s

    below : f / 2 < (L.m + 1) / 2
    below = omega (arith, is_even, (top_both L.bits f top).0)

    shut : (i : ℕ) → f / 2 < i → i < (L.m + 1) / 2 → gate i ≡ false
    shut i a k =
        let b = L.bits in
        sym (are i (omega (arith, b.most))).0 ∙ top_gap b f top (2 * i) (omega (arith, is_even)) (omega arith)

    pub left_met : (r : Stop) → scan try (f / 2 * q) q ≡ some r → search_pages gate try q 32 ≡ reply (some r) (opened + 1)
    left_met r e = (pages_ended L.pages (f / 2) below top_open shut r e).0

    pub left_next : (r : ℕ) → Cleared left f r → scan try (f / 2 * q) q ≡ none → Left gate try q word r (opened + 1)
    left_next r is e =
        let h : (f + 1) / 2 ≡ f / 2 = omega (arith, is_even) in
        let s : 0 + scan_cost try free (f / 2 * q) q ≡ 0 = omega (arith, scan_free try (f / 2 * q) q) in
        let v = rw s at (pages_vain L.pages (f / 2) below top_open shut e) in
        record { m = f; bits = top_left L.bits f top r is; pages = rw h v }
