-- Bits that are shown so far, and a word or a bit more below them.
use mathlib.Core.Path.{◌≡◌, sym, ap, ◌∙◌}
use mathlib.Core.Bool.{Bool, false, ◌&&◌, or-false}
use mathlib.Core.List.{List}
use Prim.Native.Nat.{ℕ, zero, suc, ◌+◌, ◌*◌, ◌-◌, ◌%◌, ◌^◌, ◌≤◌, ◌<◌}
use native.Mathlib.Nat.{mul-le-mul_right, mul-le-mul_left}
use native.Mathlib.Omega.{arith}
use lib.Bits.{bit_or}
use lib.ListN.{length}
use lib.Pow.{pow_pos}
use borrow.Author.Tests.{lt-ltb, le-ltb}
use Rattle.memory.specs.Bits.{bit, bit_or_lem, bit_shl, bit_shl_low}
use Rattle.memory.specs.Cases.{either, lt?}
use Rattle.kernels.specs.Rows.{row_of, all_in, Words}
use Rattle.kernels.specs.declared.Row.{Row}
use Rattle.kernels.specs.Blocks.{Shows, Squeezed}
use Rattle.kernels.proofs.Filters.{all_from}

-- a word has several filters
pub eight_le : (e w : ℕ) → 2 < e → w ≡ 2 ^ e → 8 ≤ w
eight_le zero w h q = absurd (omega arith)
eight_le (suc zero) w h q = absurd (omega arith)
eight_le (suc (suc zero)) w h q = absurd (omega arith)
eight_le (suc (suc (suc e))) w h q = omega (arith, pow_pos e)

pub per_le : (e w per : ℕ) → 2 < e → w ≡ 2 ^ e → per * w ≡ 64 → per ≤ 32
per_le e w per h q word = omega (arith, mul-le-mul_left per (eight_le e w h q))

-- n bits are shown from b on, and s shows d below them
module _ (f : ℕ → Bool) (b d n r s : ℕ) (fits : n + d ≤ 64) (R : (i : ℕ) → i < n → bit r i ≡ f (b + d + i))
    (S : (i : ℕ) → i < d → bit s i ≡ f (b + i)) (Z : (i : ℕ) → d ≤ i → i < 64 → bit s i ≡ false) where
  pub below : (i : ℕ) → i < n + d → bit (bit_or ((r * 2 ^ d) % 2 ^ 64) s) i ≡ f (b + i)
  below i h =
      bit_or_lem ((r * 2 ^ d) % 2 ^ 64) s i
      ∙ either (lt? i d)
      (λ l. rw (bit_shl_low r d 64 i l.1 (omega arith)) (S i l.1))
      (λ l.
      let e : d + (i - d) ≡ i = omega (arith, l.1) in
      let k : b + d + (i - d) ≡ b + i = omega (arith, l.1) in
      let u : bit ((r * 2 ^ d) % 2 ^ 64) i ≡ bit r (i - d) = rw e at (bit_shl r d 64 (i - d) (omega (arith, l.1))) in
      rw (u, Z i l.1 (omega arith)) (or-false (bit r (i - d)) ∙ (R (i - d) (omega (arith, l.1)) ∙ ap f k)))

-- every w-th bit of a word is a filter's
pub filter_at : (bytes : List ℕ) (rows : List Row) (w per Q x u : ℕ) → 0 < w → per * w ≡ 64 → ((k : ℕ) → k < length rows → (row_of rows k).low < w)
    → Words bytes rows Q x → u < per → bit x (u * w) ≡ all_in bytes rows w (Q * per + u)
unfolding Words
filter_at bytes rows w per Q x u pw word lows W h =
    let f : u * w + w ≤ 64 = omega (arith, mul-le-mul_right w h) in
    let e : (Q * per + u) * w ≡ Q * 64 + u * w = omega (arith, ap (λ (z : ℕ). Q * z) word) in
    v (u * w) (omega arith) (λ k l. omega (arith, lows k l)) ∙ sym (all_from bytes rows w (Q * per + u) ∙ ap (all_in bytes rows 1) e)
  where
    v : (i : ℕ) → i < 64 → ((k : ℕ) → k < length rows → (row_of rows k).low + i < 64) → bit x i ≡ all_in bytes rows 1 (Q * 64 + i)
    v = W

module _ (bytes : List ℕ) (rows : List Row) (w per Q N r x s : ℕ) (pw : 0 < w) (word : per * w ≡ 64)
    (lows : (k : ℕ) → k < length rows → (row_of rows k).low < w) (W : Words bytes rows Q x) (S : Squeezed w x s) where
  own : (u : ℕ) → u < per → bit s u ≡ all_in bytes rows w (Q * per + u)
  unfolding Squeezed
  own u h =
      let p : per ≤ 64 = omega (arith, mul-le-mul_right per pw) in
      S u (omega arith)
      ∙ (ap (λ (t : Bool). t && bit x (u * w)) (lt-ltb (u * w) 64 (omega (arith, mul-le-mul_right w h)))
      ∙ filter_at bytes rows w per Q x u pw word lows W h)

  none : (i : ℕ) → per ≤ i → i < 64 → bit s i ≡ false
  unfolding Squeezed
  none i h l = S i l ∙ ap (λ (t : Bool). t && bit x (i * w)) (le-ltb (i * w) 64 (omega (arith, mul-le-mul_right w h)))

  pub word_more : (Q1 N1 : ℕ) → Q1 ≡ Q + 1 → N1 ≡ N + 1 → N1 * per ≤ 64 → Shows (all_in bytes rows w) (Q1 * per) (N * per) r
      → Shows (all_in bytes rows w) (Q * per) (N1 * per) (bit_or ((r * 2 ^ per) % 2 ^ 64) s)
  unfolding Shows
  word_more Q1 N1 q n fit R i h =
      let a : Q1 * per ≡ Q * per + per = omega (arith, ap (λ (z : ℕ). z * per) q) in
      let b : N1 * per ≡ N * per + per = omega (arith, ap (λ (z : ℕ). z * per) n) in
      below (all_in bytes rows w) (Q * per) per (N * per) r s (omega arith)
      (λ k l. R k l ∙ ap (λ (z : ℕ). all_in bytes rows w (z + k)) a) own none i (omega arith)

-- nothing is shown yet
pub shows_none : (f : ℕ → Bool) (b n r : ℕ) → n ≡ 0 → Shows f b n r
unfolding Shows
shows_none f b n r e i h = absurd (omega arith)
