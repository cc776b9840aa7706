-- Rows of several positions, one after another: filled in, and the test of all bits.
use mathlib.Core.Path.{◌≡◌, refl, sym, ap, ◌∙◌}
use mathlib.Core.Bool.{Bool, true, false, ◌&&◌, and_comm}
use mathlib.Core.List.{List, [], ◌∷◌}
use Prim.Native.Nat.{ℕ, zero, suc, ◌+◌, ◌*◌, ◌-◌, ◌%◌, ◌^◌, ◌≤◌, ◌<◌}
use native.Mathlib.Numerals.{add-one}
use native.Mathlib.Omega.{arith}
use borrow.Author.Tests.{le-ltb}
use lib.Bits.{bit_and}
use lib.Dec.{ltb}
use lib.ListN.{length, get_or, take}
use Rattle.std.proofs.lemmas.List.{get_or-take, length-take}
use Rattle.memory.specs.Bits.{bit, bit_in, pack, bit_pack, bit_zero, bit_high, bit_and_lem}
use Rattle.memory.specs.Cases.{either, lt?}
use Rattle.memory.specs.Ranges.{all_of}
use Rattle.layout.specs.Index.{Index, filter_bit}
use Rattle.kernels.specs.Rows.{row_of, all_in}
use Rattle.kernels.specs.declared.Row.{Row}
use Rattle.kernels.specs.Blocks.{Shows, Upto}
use Rattle.filter.specs.Groups.{row_at, level_has}
use Rattle.filter.specs.Blocks.{BlockOf, BlockAt}
use Rattle.filter.specs.declared.groups.Block.{Block}
use Rattle.filter.specs.declared.groups.Level.{Level}
use Rattle.filter.proofs.Levels.{Lies, LevelAt}

-- the first i of eight rows are those of the positions
pub record Filled (l : Level) (ps : List ℕ) (w i : ℕ) (rows : List Row) : Type 0 where
  pub eight : length rows ≡ 8
  pub at : (k : ℕ) → k < i → (row_of rows k).at ≡ row_at l (get_or ps k 0)
  pub low : (k : ℕ) → k < i → (row_of rows k).low ≡ get_or ps k 0 % w

-- has filter g of a level position x
abbrev pub has_position : Level → List ℕ → ℕ → ℕ → Bool
has_position l bytes x g = bit_in bytes (row_at l x) (g * 2 ^ l.exponent + x % 2 ^ l.exponent)

-- what holds of the first k positions holds of the slice with them
pub front : (P : ℕ → Type 0) (ps : List ℕ) (k : ℕ) → ((i : ℕ) → i < k → P (get_or ps i 0)) → (i : ℕ) → i < length (take k ps) → P (get_or (take k ps) i 0)
front P ps k H i h =
    let l : i < k = omega (arith, length-take k ps) in
    rw (get_or-take k ps i 0 l) (H i l)

-- ---- the test of the first positions, from the last on

and_swap : (a b c : Bool) → (a && (b && c)) ≡ (b && (a && c))
and_swap true b c = refl
and_swap false true c = refl
and_swap false false c = refl

pub all_take : (f : ℕ → Bool) (ps : List ℕ) (k : ℕ) → k < length ps → all_of f (take (suc k) ps) ≡ (f (get_or ps k 0) && all_of f (take k ps))
unfolding all_of
all_take f [] k h = absurd (omega arith)
all_take f (x ∷ xs) zero h = refl
all_take f (x ∷ xs) (suc k) h =
    ap (λ (b : Bool). f x && b) (all_take f xs k (omega arith)) ∙ and_swap (f x) (f (get_or xs k 0)) (all_of f (take k xs))

all_ext : (f g : ℕ → Bool) (ps : List ℕ) → ((x : ℕ) → f x ≡ g x) → all_of f ps ≡ all_of g ps
unfolding all_of
all_ext f g [] h = refl
all_ext f g (x ∷ xs) h = rw (h x, all_ext f g xs h)

-- a filter has all bits of its positions if it has them in its rows
pub all_rows : (bytes : List ℕ) (rows : List Row) (w g : ℕ) (f : ℕ → Bool) (ps : List ℕ) (k : ℕ) → k ≤ length ps → k ≤ length rows
    → ((i : ℕ) → i < k → f (get_or ps i 0) ≡ bit_in bytes (row_of rows i).at (g * w + (row_of rows i).low))
    → all_of f (take k ps) ≡ all_in bytes (take k rows) w g
unfolding all_of all_in
all_rows bytes rows w g f ps zero h l same = refl
all_rows bytes rows w g f [] (suc k) h l same = absurd (omega arith)
all_rows bytes [] w g f (x ∷ xs) (suc k) h l same = absurd (omega arith)
all_rows bytes (r ∷ rows) w g f (x ∷ xs) (suc k) h l same =
    rw (same 0 (omega arith), all_rows bytes rows w g f xs k (omega arith) (omega arith) (λ i t. same (suc i) (omega arith))) refl

-- ---- a position more: bit i of a word is the test of filter `first` + i

all_ones : (i : ℕ) → i < 64 → bit 18446744073709551615 i ≡ true
unfolding pack
all_ones i h = bit_pack 64 (λ j. true) i h

module _ (F : ℕ → ℕ → Bool) (ps : List ℕ) (first m : ℕ) where
  -- of the first k positions
  abbrev pub Tested : ℕ → ℕ → Type 0
  Tested k r = Shows (λ g. all_of (λ x. F x g) (take k ps)) first m r

  -- of position k
  abbrev pub One : ℕ → ℕ → Type 0
  One k y = (i : ℕ) → i < m → bit y i ≡ F (get_or ps k 0) (first + i)

  -- without a position every filter passes
  pub tested_none : m ≤ 64 → Tested 0 18446744073709551615
  unfolding Shows all_of
  tested_none h i l = all_ones i (omega arith)

  pub tested_more : (k : ℕ) → k < length ps → (r y : ℕ) → Tested k r → One k y → Tested (k + 1) (bit_and r y)
  unfolding Shows
  tested_more k h r y R Y i l =
      rw add-one (bit_and_lem r y i ∙ (and_comm (bit r i) (bit y i) ∙ rw (Y i l, R i l) (sym (all_take (λ x. F x (first + i)) ps k h))))

-- ---- blocks

-- only the first n bits count
pub upto_same : (G H : ℕ → ℕ → Bool) (n : ℕ) (r : List ℕ) → ((j i : ℕ) → j * 64 + i < n → G j i ≡ H j i) → Upto G n r → Upto H n r
unfolding Upto
upto_same G H n r e R j l i h =
    R j l i h
    ∙ either (lt? (j * 64 + i) n)
    (λ t. ap (λ (b : Bool). ltb (j * 64 + i) n && b) (e j i t.1))
    (λ t. rw (le-ltb (j * 64 + i) n t.1))

-- a word, and nothing behind it
none : (j : ℕ) → ◌≡◌ {A = ℕ} (get_or (0 ∷ 0 ∷ 0 ∷ 0 ∷ 0 ∷ 0 ∷ 0 ∷ []) j 0) 0
none zero = refl
none (suc zero) = refl
none (suc (suc zero)) = refl
none (suc (suc (suc zero))) = refl
none (suc (suc (suc (suc zero)))) = refl
none (suc (suc (suc (suc (suc zero))))) = refl
none (suc (suc (suc (suc (suc (suc zero)))))) = refl
none (suc (suc (suc (suc (suc (suc (suc j))))))) = refl

upto_one : (G : ℕ → ℕ → Bool) (n y : ℕ) → n ≤ 64 → ((i : ℕ) → i < 64 → bit y i ≡ (ltb i n && G 0 i))
    → Upto G n (y ∷ 0 ∷ 0 ∷ 0 ∷ 0 ∷ 0 ∷ 0 ∷ 0 ∷ [])
unfolding Upto
upto_one G n y h Y zero l i k = let e : 0 * 64 + i ≡ i = omega arith in rw e (Y i k)
upto_one G n y h Y (suc j) l i k =
    ap (λ (z : ℕ). bit z i) (none j) ∙ (bit_zero i ∙ sym (ap (λ (b : Bool). b && G (suc j) i) (le-ltb (suc j * 64 + i) n (omega arith))))

module _ (l : Level) (bytes : List ℕ) (below : ℕ) (ps : List ℕ) where
  -- one word: the lowest n bits of one that shows as many or more
  pub word_block : (first n m r y : ℕ) → below - l.start ≡ first + n → l.start < below → 0 < n → n ≤ 64 → n ≤ m → first % 2 ≡ 0
      → Shows (level_has l bytes ps) first m r → ((i : ℕ) → i < 64 → bit y i ≡ (ltb i n && bit r i))
      → BlockOf l bytes below ps (record { start = l.start + first; words = y ∷ 0 ∷ 0 ∷ 0 ∷ 0 ∷ 0 ∷ 0 ∷ 0 ∷ [] })
  unfolding Shows
  word_block first n m r y is lt some few le even R Y =
      let z : below - (l.start + first) ≡ n = omega arith in
      record {
        start_le = omega arith;
        start_lt = omega arith;
        few = omega arith;
        pairs = omega arith;
        shown = rw z (upto_one (λ j i. level_has l bytes ps (l.start + first + (j * 64 + i) - l.start)) n y few
            (λ i h.
            Y i h
            ∙ either (lt? i n)
            (λ t.
            let e : first + i ≡ l.start + first + (0 * 64 + i) - l.start = omega arith in
            ap (λ (b : Bool). ltb i n && b) (R i (omega (arith, t.1)) ∙ ap (level_has l bytes ps) e))
            (λ t. rw (le-ltb i n t.1))));
      }

  -- one word of all the level's filters
  pub few_block : (n r y : ℕ) → below - l.start ≡ n → l.start < below → n ≤ 64 → Shows (level_has l bytes ps) 0 n r
      → ((i : ℕ) → i < 64 → bit y i ≡ (ltb i n && bit r i))
      → BlockOf l bytes below ps (record { start = l.start; words = y ∷ 0 ∷ 0 ∷ 0 ∷ 0 ∷ 0 ∷ 0 ∷ 0 ∷ [] })
  few_block n r y is lt few R Y =
      let e : l.start + 0 ≡ l.start = omega arith in
      rw e at (word_block 0 n n r y (omega arith) lt (omega arith) few (omega arith) (omega arith) R Y)

  -- eight words
  pub words_block : (gate : ℕ → Bool) (first n : ℕ) (words : List ℕ) → below - l.start ≡ first + n → l.start < below → 0 < n → n ≤ 512 → first % 2 ≡ 0
      → ((g : ℕ) → g < first + n → gate g ≡ level_has l bytes ps g) → Upto (λ j i. gate (first + (j * 64 + i))) n words
      → BlockOf l bytes below ps (record { start = l.start + first; words = words })
  words_block gate first n words is lt some few even same W =
      let z : below - (l.start + first) ≡ n = omega arith in
      record {
        start_le = omega arith;
        start_lt = omega arith;
        few = omega arith;
        pairs = omega arith;
        shown = rw z (upto_same (λ j i. gate (first + (j * 64 + i))) (λ j i. level_has l bytes ps (l.start + first + (j * 64 + i) - l.start)) n words
            (λ j i h.
            let e : first + (j * 64 + i) ≡ l.start + first + (j * 64 + i) - l.start = omega arith in
            same (first + (j * 64 + i)) (omega arith) ∙ ap (level_has l bytes ps) e)
            W);
      }

-- a level's filters are those of the index
pub level_same : (u : ℕ) (ix : Index) (main ram : List ℕ) (F : ℕ) (l : Level) (ps bytes : List ℕ) (f : ℕ)
    → Lies u ix main ram F l bytes f → all_of (filter_bit u ix main ram F f) ps ≡ level_has l bytes ps (f - l.start)
level_same u ix main ram F l ps bytes f L =
    let w : ℕ = 2 ^ l.exponent in
    all_ext (filter_bit u ix main ram F f) (λ x. bit_in bytes (row_at l x) ((f - l.start) * w + x % w)) ps L

-- a level's block is one of the index
pub block_at : (u : ℕ) (ix : Index) (main ram : List ℕ) (F below : ℕ) (l : Level) (ps : List ℕ) (b : Block)
    → LevelAt u ix main ram F below l → BlockOf l main below ps b → BlockAt u ix main ram F below ps b
block_at u ix main ram F below l ps b L B =
    record {
      start_lt = B.start_lt;
      few = B.few;
      even = omega (arith, L.even, B.pairs, B.start_le);
      shown = upto_same (λ j i. level_has l main ps (b.start + (j * 64 + i) - l.start))
          (λ j i. all_of (filter_bit u ix main ram F (b.start + (j * 64 + i))) ps) (below - b.start) b.words
          (λ j i h. sym (level_same u ix main ram F l ps main (b.start + (j * 64 + i)) (L.lies (b.start + (j * 64 + i)) (omega (arith, B.start_le)) (omega (arith, B.start_lt))))) B.shown;
    }
