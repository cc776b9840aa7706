-- The pages of a block, 64 to a word: the bits of a word are the gates of its pages that are left, the highest that of the newest which is
-- open.
use mathlib.Core.Path.{◌≡◌, sym, ap, ◌∙◌}
use mathlib.Core.Bool.{Bool, true, false, ◌&&◌, and-eq-true_iff}
use mathlib.Core.Option.{Option, none, some}
use mathlib.Core.List.{List}
use Prim.Native.Nat.{ℕ, ◌+◌, ◌*◌, ◌-◌, ◌≤◌, ◌<◌}
use native.Mathlib.Omega.{arith}
use lib.Dec.{ltb}
use lib.ListN.{get_or}
use borrow.Author.Tests.{lt-ltb, le-ltb, ltb-true}
use Rattle.memory.specs.Bits.{bit, bit_zero}
use Rattle.memory.specs.Cases.{lt?, either}
use Rattle.layout.specs.Search.{Stop, reply, scan, scan_cost, search_pages, pages_cost}
use Rattle.laws.specs.WalkLaws.{Pages, pages_few, pages_skip, lesser, same_order, Shown, Words, words_next, words_left}
use Rattle.search.proofs.Tries.{count, newest, newest_le, newest_set, Through, through}

module _ (gate : ℕ → Bool) where
  -- of the 64 pages from `from` on those below page p are left, and the bits are their gates
  pub record Bits (from p bits : ℕ) : Type 0 where
    pub some : from ≤ p
    pub few : p ≤ from + 64
    pub shown : (i : ℕ) → i < 64 → bit bits i ≡ (ltb (from + i) p && gate (from + i))

  -- word w of a block
  pub bits_first : (first below : ℕ) (words : List ℕ) (w : ℕ) → Shown bit 64 first below words gate → w < 8 → first + w * 64 < below
      → Bits (first + w * 64) (lesser (first + w * 64 + 64) below) (get_or words w 0)
  bits_first first below words w shows h l =
      record {
        some = omega arith;
        few = omega arith;
        shown = λ i k.
            let from : ℕ = first + w * 64 in
            shows w h i k
            ∙ ap (λ (t : Bool). t && gate (from + i))
            (same_order (from + i) below (from + i) (lesser (from + 64) below) (λ a. omega arith) (λ a. omega arith));
      }

  module _ (from p bits : ℕ) (B : Bits from p bits) where
    -- a page that is left is shut where its bit is 0
    shut_at : (i : ℕ) → i < 64 → from + i < p → bit bits i ≡ false → gate (from + i) ≡ false
    shut_at i k l e = (rw (lt-ltb (from + i) p l) at (sym (B.shown i k))) ∙ e

    pub bits_none : bits ≡ 0 → (i : ℕ) → from ≤ i → i < p → gate i ≡ false
    bits_none z i a b =
        let e : from + (i - from) ≡ i = omega arith in
        let s : bit bits (i - from) ≡ false = rw z (bit_zero (i - from)) in
        rw e at (shut_at (i - from) (omega (arith, B.few)) (omega arith) s)

    -- a page whose bit is set is left
    pub set_left : (f : ℕ) → f < 64 → bit bits f ≡ true → from + f < p
    set_left f f_lt set =
        ltb-true (from + f) p ((and-eq-true_iff (ltb (from + f) p) (gate (from + f))).0 (sym (B.shown f f_lt) ∙ set)).0

    -- the bits below f are left
    pub bits_lower : (f r : ℕ) → f ≤ 64 → from + f ≤ p → ((i : ℕ) → i < 64 → bit r i ≡ (ltb i f && bit bits i)) → Bits from (from + f) r
    bits_lower f r most l is =
        record {
          some = omega arith;
          few = omega arith;
          shown = λ i k.
              either (lt? i f)
              (λ t.
              is i k
              ∙ rw (t.0, lt-ltb (from + i) (from + f) (omega (arith, t.1)))
              (B.shown i k ∙ rw (lt-ltb (from + i) p (omega (arith, t.1)))))
              (λ t. is i k ∙ rw (t.0, le-ltb (from + i) (from + f) (omega (arith, t.1))));
        }

-- ---- the pages of a word, whatever opens them

-- of word w those are left whose bits are; `opened` pages of the block were opened, `sum` was paid
pub record Word (try : ℕ → Option Stop) (cost : ℕ → ℕ) (q first below : ℕ) (words : List ℕ) (opened sum w bits : ℕ) : Type 0 where
  pub page : ℕ
  pub shown : (gate : ℕ → Bool) → Shown bit 64 first below words gate → Bits gate (first + w * 64) page bits
  pub left : (gate : ℕ → Bool) → Shown bit 64 first below words gate → Pages gate try cost q below opened sum page

module _ {try : ℕ → Option Stop} {cost : ℕ → ℕ} {q first below : ℕ} {words : List ℕ} {opened sum w : ℕ} where
  pub word_first : Words try cost q bit 64 first below words opened sum w → 0 < w → w - 1 < 8
      → Word try cost q first below words opened sum (w - 1) (get_or words (w - 1) 0)
  word_first W h l =
      record {
        page = lesser (first + (w - 1) * 64 + 64) below;
        shown = λ gate shows. bits_first gate first below words (w - 1) shows l (omega (arith, W.used));
        left = λ gate shows. words_left W gate shows h;
      }

  module _ {bits : ℕ} (R : Word try cost q first below words opened sum w bits) where
    pub word_done : bits ≡ 0 → first + w * 64 < below → Words try cost q bit 64 first below words opened sum w
    word_done z l =
        words_next try cost q bit 64 first below words opened sum w l
        (λ gate shows.
        let B = R.shown gate shows in
        pages_skip (R.left gate shows) (first + w * 64) B.some (bits_none gate (first + w * 64) R.page bits B z))

    -- its pages are opened until one has an entry with the key
    module _ (entry : ℕ → ℕ)
        (other : (i : ℕ) → bit bits i ≡ true → first + w * 64 + i < below → entry i ≡ 0
        → (scan try ((first + w * 64 + i) * q) q ≡ none) × (scan_cost try cost ((first + w * 64 + i) * q) q ≡ 0)) where
      abbrev k : ℕ
      k = opened + count bits entry 64

      abbrev n : ℕ
      n = newest bits entry 64

      -- what the entries of the newest page cost
      abbrev pub page_cost : ℕ
      page_cost = scan_cost try cost ((first + w * 64 + (n - 1)) * q) q

      module _ (gate : ℕ → Bool) (shows : Shown bit 64 first below words gate) where
        abbrev B : Bits gate (first + w * 64) R.page bits
        B = R.shown gate shows

        abbrev T : Through gate try cost q below (first + w * 64) k sum n
        T =
            through gate try cost q below (first + w * 64) (bit bits) entry other 64 opened sum R.page (R.left gate shows)
            B.some B.few B.shown

        pub word_in : (i : ℕ) → i < 64 → bit bits i ≡ true → first + w * 64 + i < below
        word_in i h s = omega (arith, set_left gate (first + w * 64) R.page bits B i h s, (R.left gate shows).low)

        pub word_few : k ≤ below + 1
        word_few =
            either (lt? 0 n)
            (λ t. (T.one t.1).few)
            (λ t. omega (arith, pages_few (T.all (omega (arith, t.1)))))

        pub word_ended : 0 < n → (r : Stop) → scan try ((first + w * 64 + (n - 1)) * q) q ≡ some r
            → (search_pages gate try q below ≡ reply (some r) k) × (pages_cost gate try cost q below ≡ sum + page_cost)
        word_ended h = (T.one h).ended

        pub word_most : 0 < n → sum + page_cost ≤ pages_cost gate try cost q below
        word_most h = (T.one h).most

        lower_left : first + w * 64 + (n - 1) ≤ R.page
        lower_left =
            either (lt? 0 n)
            (λ t.
            let h : n - 1 < 64 = omega (arith, t.1, newest_le (bit bits) entry 64) in
            omega (arith, set_left gate (first + w * 64) R.page bits B (n - 1) h (newest_set (bit bits) entry 64 t.1)))
            (λ t. omega (arith, t.1, B.some))

        module _ (paid : ℕ) (spent : 0 < n → paid ≡ sum + page_cost) (free : n ≡ 0 → paid ≡ sum) where
          vain : (0 < n → scan try ((first + w * 64 + (n - 1)) * q) q ≡ none)
              → Pages gate try cost q below k paid (first + w * 64 + (n - 1))
          vain e =
              either (lt? 0 n)
              (λ t. rw (spent t.1) ((T.one t.1).vain (e t.1)))
              (λ t.
              let z : first + w * 64 + (n - 1) ≡ first + w * 64 = omega (arith, t.1) in
              rw (z, free (omega (arith, t.1))) (T.all (omega (arith, t.1))))

      pub word_next : (r : ℕ) → ((i : ℕ) → i < 64 → bit r i ≡ (ltb i (n - 1) && bit bits i))
          → (0 < n → scan try ((first + w * 64 + (n - 1)) * q) q ≡ none)
          → (paid : ℕ) → (0 < n → paid ≡ sum + page_cost) → (n ≡ 0 → paid ≡ sum)
          → Word try cost q first below words k paid w r
      word_next r is e paid spent free =
          record {
            page = first + w * 64 + (n - 1);
            shown = λ gate shows.
                bits_lower gate (first + w * 64) R.page bits (R.shown gate shows) (n - 1) r
                (omega (arith, newest_le (bit bits) entry 64)) (lower_left gate shows) is;
            left = λ gate shows. vain gate shows paid spent free e;
          }
