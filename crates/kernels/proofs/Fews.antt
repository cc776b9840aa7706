-- Filters of two and of four bits in each row, 64 to a word.
use mathlib.Core.Path.{◌≡◌, refl, sym, ap, ◌∙◌}
use mathlib.Core.Bool.{Bool, ◌&&◌}
use mathlib.Core.List.{List}
use Prim.Native.Nat.{ℕ, ◌+◌, ◌*◌, ◌/◌, ◌%◌, ◌≤◌, ◌<◌, min}
use native.Mathlib.Omega.{arith}
use Rattle.std.specs.Prelude.{◌⊎◌}
use Rattle.std.proofs.Math.Logic.{inl, inr}
use lib.Dec.{ltb}
use lib.ListN.{length, length-set, get_or, set}
use lib.Seq.{get_or-set_same, get_or-set_other}
use borrow.Author.Tests.{le-ltb}
use Rattle.memory.specs.Bits.{bit}
use Rattle.memory.specs.Cases.{either, lt?, eq?}
use Rattle.kernels.specs.Rows.{row_of, all_in, Words}
use Rattle.kernels.specs.declared.Row.{Row}
use Rattle.kernels.specs.Blocks.{Shows, Upto, OpenBlock}
use Rattle.kernels.proofs.Eights.{noughts}
use Rattle.kernels.proofs.Filters.{all_from}

-- ---- a word of filters, w bits of each, out of w words

fits : (w i low : ℕ) → (w ≡ 2) ⊎ (w ≡ 4) → low < w → low + i * w % 64 < 64
fits w i low (inl e) h = let l : low < 2 = rw e at h in let r : low + i * 2 % 64 < 64 = omega (arith, l) in rw e r
fits w i low (inr e) h = let l : low < 4 = rw e at h in let r : low + i * 4 % 64 < 64 = omega (arith, l) in rw e r

within : (w i k : ℕ) → (w ≡ 2) ⊎ (w ≡ 4) → k + w ≤ 8 → i < 64 → k + i * w / 64 < 8
within w i k (inl e) h l = let t : k + 2 ≤ 8 = rw e at h in let r : k + i * 2 / 64 < 8 = omega (arith, t, l) in rw e r
within w i k (inr e) h l = let t : k + 4 ≤ 8 = rw e at h in let r : k + i * 4 / 64 < 8 = omega (arith, t, l) in rw e r

-- words k and so on of the block from word Q on make r
pub of_words : (bytes : List ℕ) (rows : List Row) (w from r : ℕ) (f : List ℕ) (Q k : ℕ) → (w ≡ 2) ⊎ (w ≡ 4) → k + w ≤ 8
    → ((j : ℕ) → j < length rows → (row_of rows j).low < w) → from * w ≡ (Q + k) * 64
    → ((j : ℕ) → j < 8 → Words bytes rows (Q + j) (get_or f j 0))
    → ((i : ℕ) → i < 64 → bit r i ≡ bit (get_or f (k + i * w / 64) 0) (i * w % 64)) → Shows (all_in bytes rows w) from 64 r
unfolding Shows Words
of_words bytes rows w from r f Q k two_or_four in_block lows first W R i h =
    let t = i * w / 64 in
    let u = i * w % 64 in
    let e : (Q + (k + t)) * 64 + u ≡ (from + i) * w = omega (arith, first) in
    R i h ∙ (W (k + t) (within w i k two_or_four in_block h) u (omega arith) (λ j l. fits w i (row_of rows j).low two_or_four (lows j l))
    ∙ (ap (all_in bytes rows 1) e ∙ sym (all_from bytes rows w (from + i))))

-- ---- the first j of eight words

unfoldable pub Filled : (ℕ → Bool) → ℕ → ℕ → List ℕ → Type 0
Filled gate first j l = (length l ≡ 8) × ((k : ℕ) → k < j → Shows gate (first + k * 64) 64 (get_or l k 0))

pub filled_none : (gate : ℕ → Bool) (first : ℕ) → Filled gate first 0 noughts
unfolding Filled
filled_none gate first = (refl, λ k h. absurd (omega arith))

pub filled_more : (gate : ℕ → Bool) (first j i : ℕ) (l : List ℕ) (y : ℕ) → i ≡ j + 1 → j < 8
    → Shows gate (first + j * 64) 64 y → Filled gate first j l → Filled gate first i (set l j y)
unfolding Filled
filled_more gate first j i l y e h S F =
    let n = F.0 in (
      length-set l j y ∙ n,
      λ k b.
          either (eq? k j)
          (λ t. let q : k ≡ j = t.1 in rw (q, get_or-set_same l j y 0 (omega arith)) S)
          (λ t. let ne = t.1 in rw (get_or-set_other l j k y 0 ne) (F.1 k (omega arith))),
    )

pub filled_part : (gate : ℕ → Bool) (first n j : ℕ) (f l : List ℕ) → n ≤ j * 64 → Filled gate first j f
    → Upto (λ k i. bit (get_or f k 0) i) n l → OpenBlock gate first n l
unfolding Filled Upto Shows
filled_part gate first n j f l h F U k a i b =
    U k a i b ∙ either (lt? (k * 64 + i) n)
    (λ t.
    let e : first + k * 64 + i ≡ first + (k * 64 + i) = omega arith in
    ap (λ (z : Bool). ltb (k * 64 + i) n && z) (F.1 k (omega (arith, t.1)) i b ∙ ap gate e))
    (λ t.
    ap (λ (z : Bool). z && bit (get_or f k 0) i) (le-ltb (k * 64 + i) n t.1)
    ∙ sym (ap (λ (z : Bool). z && gate (first + (k * 64 + i))) (le-ltb (k * 64 + i) n t.1)))

-- ---- the block of the rows' words from word q on

inside_two : (A first n b len : ℕ) → first % 512 ≡ 0 → b < n * 2 / 512 + min 1 (n * 2 % 512) → A + ((first + n) * 2 + 511) / 512 * 64 ≤ len
    → A + (first / 64 * 2 + b * 8) * 8 + 64 ≤ len
inside_two A first n b len f h l = omega arith

inside_four : (A first n b len : ℕ) → first % 512 ≡ 0 → b < n * 4 / 512 + min 1 (n * 4 % 512) → A + ((first + n) * 4 + 511) / 512 * 64 ≤ len
    → A + (first / 64 * 4 + b * 8) * 8 + 64 ≤ len
inside_four A first n b len f h l = omega arith

-- what block b and its word k are, at both widths
pub record Word (w first n b k : ℕ) : Type 0 where
  pub inside : (A len : ℕ) → A + ((first + n) * w + 511) / 512 * 64 ≤ len → A + (first / 64 * w + b * 8) * 8 + 64 ≤ len
  pub below : b * (8 / w) + k < 8
  pub next : (b + 1) * (8 / w) ≡ b * (8 / w) + 8 / w
  pub in_block : k * w + w ≤ 8
  pub is : (first + (b * (8 / w) + k) * 64) * w ≡ (first / 64 * w + b * 8 + k * w) * 64

pub word_two : (first n b k : ℕ) → n ≤ 512 → first % 512 ≡ 0 → b < n * 2 / 512 + min 1 (n * 2 % 512) → k < 4 → Word 2 first n b k
word_two first n b k some f h l =
    record {
      inside = λ A len t. inside_two A first n b len f h t;
      below = omega arith;
      next = omega arith;
      in_block = omega arith;
      is = omega arith;
    }

pub word_four : (first n b k : ℕ) → n ≤ 512 → first % 512 ≡ 0 → b < n * 4 / 512 + min 1 (n * 4 % 512) → k < 2 → Word 4 first n b k
word_four first n b k some f h l =
    record {
      inside = λ A len t. inside_four A first n b len f h t;
      below = omega arith;
      next = omega arith;
      in_block = omega arith;
      is = omega arith;
    }

pub word_at : (w first n b k : ℕ) → (w ≡ 2) ⊎ (w ≡ 4) → n ≤ 512 → first % 512 ≡ 0 → b < n * w / 512 + min 1 (n * w % 512) → k < 8 / w → Word w first n b k
word_at w first n b k (inl e) some f h l = let t = rw e at h in let u = rw e at l in rw e (word_two first n b k some f t u)
word_at w first n b k (inr e) some f h l = let t = rw e at h in let u = rw e at l in rw e (word_four first n b k some f t u)

-- eight bytes' bits have a place for each of the filters
pub enough : (w n : ℕ) → (w ≡ 2) ⊎ (w ≡ 4) → n ≤ (n * w / 512 + min 1 (n * w % 512)) * (8 / w) * 64
enough w n (inl e) = let t : n ≤ (n * 2 / 512 + min 1 (n * 2 % 512)) * 4 * 64 = omega arith in rw e t
enough w n (inr e) = let t : n ≤ (n * 4 / 512 + min 1 (n * 4 % 512)) * 2 * 64 = omega arith in rw e t

pub four : (w : ℕ) → (w ≡ 2) ⊎ (w ≡ 4) → (w ≡ 2 → ⊥) → w ≡ 4
four w (inl e) h = absurd (h e)
four w (inr e) h = e
