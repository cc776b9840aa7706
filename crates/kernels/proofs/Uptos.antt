-- Eight words, one more each turn.
use mathlib.Core.Path.{◌≡◌, sym, ap, ◌∙◌}
use mathlib.Core.Bool.{Bool, ◌&&◌}
use mathlib.Core.List.{List}
use Prim.Native.Nat.{ℕ, ◌+◌, ◌*◌, ◌-◌, ◌/◌, ◌%◌, ◌≤◌, ◌<◌, min}
use native.Mathlib.Nat.{mul-le-mul_right}
use native.Mathlib.Omega.{arith}
use lib.Dec.{ltb}
use lib.ListN.{length, get_or, set}
use lib.Seq.{get_or-set_same, get_or-set_other}
use borrow.Author.Tests.{lt-ltb, le-ltb}
use Rattle.memory.specs.Bits.{bit, bit_zero}
use Rattle.memory.specs.Cases.{either, lt?, eq?}
use Rattle.kernels.specs.Rows.{row_of, all_in, Words}
use Rattle.kernels.specs.declared.Row.{Row}
use Rattle.kernels.specs.Blocks.{Upto, GroupIn}

same : (a b c d : ℕ) → (a < b → c < d) → (b ≤ a → d ≤ c) → ltb a b ≡ ltb c d
same a b c d f g = either (lt? a b) (λ h. lt-ltb a b h.1 ∙ sym (lt-ltb c d (f h.1))) (λ h. le-ltb a b h.1 ∙ sym (le-ltb c d (g h.1)))

module _ (G : ℕ → ℕ → Bool) where
  pub upto_more : (n j y : ℕ) (r : List ℕ) → j * 64 < n → j < 8 → length r ≡ 8 → Upto G (min (j * 64) n) r
      → ((i : ℕ) → i < 64 → bit y i ≡ (ltb i (min (n - j * 64) 64) && G j i)) → Upto G (min ((j + 1) * 64) n) (set r j y)
  unfolding Upto
  upto_more n j y r h l e R Y k a i b =
      either (eq? k j)
      (λ t.
      let q : k ≡ j = t.1 in
      rw (q, get_or-set_same r j y 0 (omega arith)) (Y i b ∙ ap (λ (z : Bool). z && G j i) (same i (min (n - j * 64) 64) (j * 64 + i) (min ((j + 1) * 64) n) (λ u. omega arith) (λ u. omega arith))))
      (λ t.
      let ne = t.1 in
      rw (get_or-set_other r j k y 0 ne) (R k a i b ∙ ap (λ (z : Bool). z && G k i) (same (k * 64 + i) (min (j * 64) n) (k * 64 + i) (min ((j + 1) * 64) n) (λ u. omega arith) (λ u. omega arith))))

-- fewer filters
pub group_fewer : (rows : List Row) (w n m len : ℕ) → m ≤ n → GroupIn rows w n len → GroupIn rows w m len
group_fewer rows w n m len h G =
    let t = mul-le-mul_right w h in
    record {
      some = G.some;
      power = G.power;
      low_lt = G.low_lt;
      blocks_in = λ k l. omega (arith, G.blocks_in k l, t);
      small = omega (arith, G.small, t);
    }

-- none yet
pub upto_none : (G : ℕ → ℕ → Bool) (r : List ℕ) (m : ℕ) → m ≡ 0 → ((k : ℕ) → get_or r k 0 ≡ 0) → Upto G m r
unfolding Upto
upto_none G r m e z k a i b = rw (z k) (bit_zero i ∙ ap (λ (t : Bool). t && G k i) (sym (le-ltb (k * 64 + i) m (omega arith))))

-- the same bits by other words
pub upto_map : (G H : ℕ → ℕ → Bool) (n : ℕ) (r : List ℕ) → ((j : ℕ) → j < 8 → (i : ℕ) → i < 64 → G j i ≡ H j i) → Upto G n r → Upto H n r
unfolding Upto
upto_map G H n r e R j l i h = R j l i h ∙ ap (λ (t : Bool). ltb (j * 64 + i) n && t) (e j l i h)

-- all of them
pub upto_all : (G : ℕ → ℕ → Bool) (n : ℕ) (r : List ℕ) → n ≡ 512 → ((j : ℕ) → j < 8 → (i : ℕ) → i < 64 → bit (get_or r j 0) i ≡ G j i) → Upto G n r
unfolding Upto
upto_all G n r e R j l i h = R j l i h ∙ ap (λ (t : Bool). t && G j i) (sym (lt-ltb (j * 64 + i) n (omega arith)))

-- one bit for a filter in each row
pub single : (bytes : List ℕ) (rows : List Row) (first : ℕ) (f : List ℕ) → first % 512 ≡ 0 → ((k : ℕ) → k < length rows → (row_of rows k).low < 1)
    → ((j : ℕ) → j < 8 → Words bytes rows (first / 64 + j) (get_or f j 0))
    → (j : ℕ) → j < 8 → (i : ℕ) → i < 64 → bit (get_or f j 0) i ≡ all_in bytes rows 1 (first + (j * 64 + i))
unfolding Words
single bytes rows first f m lows W j l i h =
    let e : (first / 64 + j) * 64 + i ≡ first + (j * 64 + i) = omega arith in
    W j l i h (λ k t. omega (arith, lows k t)) ∙ ap (all_in bytes rows 1) e
