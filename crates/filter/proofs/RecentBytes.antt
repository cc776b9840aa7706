-- Filters of whole bytes since the last round: a word of L1's and, behind them, of those of the SKA page.
use mathlib.Core.Path.{◌≡◌, refl, ap, ◌∙◌}
use mathlib.Core.Logic.{◌⊎◌}
use mathlib.Core.Bool.{Bool, ◌&&◌, cond}
use mathlib.Core.List.{List, [], ◌∷◌}
use Prim.Native.Nat.{ℕ, ◌+◌, ◌*◌, ◌-◌, ◌/◌, ◌%◌, ◌^◌, ◌≤◌, ◌<◌, min}
use native.Mathlib.Nat.{mul-le-mul_right}
use native.Mathlib.Omega.{arith}
use borrow.Author.Tests.{lt-ltb, le-ltb}
use lib.Dec.{ltb}
use lib.ListN.{length, get_or}
use lib.Pow.{pow_mono}
use Rattle.memory.specs.Bits.{bit, bit_in}
use Rattle.memory.specs.Cases.{either, lt?}
use Rattle.memory.specs.Ranges.{all_of}
use Rattle.kernels.specs.Blocks.{Shows, Open, open_none, open_lowest}
use Rattle.filter.specs.Groups.{row_at}
use Rattle.filter.specs.Recent.{recent_has, RecentIn, RecentOf}
use Rattle.filter.specs.declared.groups.Recent.{Recent}
use Rattle.filter.proofs.Bytes.{eighth, step_bit, few_bit}
use Rattle.filter.proofs.Recent.{recent_two}
use Rattle.filter.proofs.Rows.{One}

-- ---- the test of a filter, by its number since the last round

-- has filter g, counted from L1's first, position x
abbrev pub has_recent : Recent → List ℕ → List ℕ → ℕ → ℕ → Bool
has_recent rs main ram x g =
    cond (ltb g (rs.ska.start - rs.l1.start))
    (bit_in main (row_at rs.l1 x) (g * 2 ^ rs.l1.exponent + x % 2 ^ rs.l1.exponent))
    (bit_in ram (row_at rs.ska x) ((g - (rs.ska.start - rs.l1.start)) * 2 ^ rs.ska.exponent + x % 2 ^ rs.ska.exponent))

-- all of the positions
pub recent_is : (rs : Recent) (main ram ps : List ℕ) (g : ℕ) → rs.l1.start ≤ rs.ska.start
    → all_of (λ x. has_recent rs main ram x g) ps ≡ recent_has rs main ram ps (rs.l1.start + g)
recent_is rs main ram ps g o =
    either (lt? g (rs.ska.start - rs.l1.start))
    (λ t.
    let k : rs.l1.start + g - rs.l1.start ≡ g = omega arith in
    rw (t.0, lt-ltb (rs.l1.start + g) rs.ska.start (omega (arith, t.1)), k))
    (λ t.
    let k : rs.l1.start + g - rs.ska.start ≡ g - (rs.ska.start - rs.l1.start) = omega (arith, t.1) in
    rw (t.0, le-ltb (rs.l1.start + g) rs.ska.start (omega (arith, t.1)), k))

pub shows_same : (f h : ℕ → Bool) (first m r : ℕ) → ((g : ℕ) → f g ≡ h g) → Shows f first m r → Shows h first m r
unfolding Shows
shows_same f h first m r e R i l = R i l ∙ e (first + i)

-- ---- which bits are L1's

pub aligned : (first : ℕ) → (first ≡ 0) ⊎ (first ≡ 64) → (first ≤ 64) × (first % 64 ≡ 0)
aligned first s = either s (λ h. (omega arith, omega arith)) (λ h. (omega arith, omega arith))

-- a filter behind L1's is below the bound
top_ska : (A S B g top : ℕ) → S - A ≤ g → g < B - A → top ≡ min B S → top ≡ S
top_ska A S B g top a b T = omega arith

first_le : (A S B first : ℕ) → first ≤ 64 → first % 64 ≡ 0 → A + first < B → (S - A) % 8 ≡ 0 → B ≤ S + 8 → first ≤ S - A
first_le A S B first low whole some flushes below = omega arith

place : (D first n i : ℕ) → first % 64 ≡ 0 → D % 8 ≡ 0 → first ≤ D → D ≤ first + i → i < 64 → n ≡ min ((D + 7) / 8 - first / 8) 8 → i ≡ n * 8 + (first + i - D)
place D first n i whole flushes le at c N = omega arith

behind_lt : (A S B g : ℕ) → A ≤ S → S - A ≤ g → g < B - A → g - (S - A) < B - S
behind_lt A S B g o a b = omega arith

bits_of : (A B first i : ℕ) → i < min (B - A - first) 64 → (first + i < B - A) × (i < 64)
bits_of A B first i l = (omega arith, omega arith)

-- L1 from A on, the SKA page from S on, both below B; n eights of the bits from `first` on are L1's
module _ (A S B first top n : ℕ) (low : first ≤ 64) (whole : first % 64 ≡ 0) (some : A + first < B) (order : A ≤ S) (flushes : (S - A) % 8 ≡ 0)
    (round : S < A + 128) (below : B ≤ S + 8) (T : top ≡ min B S) (N : n ≡ min ((top - A + 7) / 8 - first / 8) 8) where
  pub eights_in : first + n * 8 ≤ 128
  eights_in = omega arith

  of_l1 : (i : ℕ) → first + i < S - A → first + i < B - A → i < 64 → i < n * 8
  of_l1 i a b c = omega arith

  of_ska : (i : ℕ) → S - A ≤ first + i → first + i < B - A → i < 64 → i ≡ n * 8 + (first + i - (S - A))
  of_ska i a b c =
      place (S - A) first n i whole flushes (first_le A S B first low whole some flushes below) a c (rw (top_ska A S B (first + i) top a b T) at N)

  in_ska_lem : (i : ℕ) → S - A ≤ first + i → first + i < B - A → first + i - (S - A) < B - top
  in_ska_lem i a b = rw (top_ska A S B (first + i) top a b T) (behind_lt A S B (first + i) order a b)

  -- a word of n eights of L1's, and s behind them
  pub word_bit : (main ram : List ℕ) (row other x step s y : ℕ)
      → ((i : ℕ) → i < B - top → bit s i ≡ bit (get_or ram (other + x / 8 + i * step) 0) (x % 8))
      → ((i : ℕ) → i < n * 8 → bit y i ≡ bit (get_or main (row + first * step + x / 8 + i * step) 0) (x % 8))
      → ((i : ℕ) → n * 8 + i < 64 → bit y (n * 8 + i) ≡ bit s i)
      → (i : ℕ) → i < min (B - A - first) 64
      → bit y i ≡ cond (ltb (first + i) (S - A)) (bit_in main row ((first + i) * (step * 8) + x)) (bit_in ram other ((first + i - (S - A)) * (step * 8) + x))
  word_bit main ram row other x step s y H Y Z i l =
      let b = bits_of A B first i l in
      either (lt? (first + i) (S - A))
      (λ t. rw t.0 (step_bit main row x first step i y (Y i (of_l1 i t.1 b.0 b.1))))
      (λ t.
      let z = of_ska i t.1 b.0 b.1 in
      let d : n * 8 + (first + i - (S - A)) < 64 = rw (← z) b.1 in
      rw t.0 (ap (bit y) z ∙ (Z (first + i - (S - A)) d ∙ few_bit ram other x step (first + i - (S - A)) s (H (first + i - (S - A)) (in_ska_lem i t.1 b.0)))))

-- ---- what the loop works with

-- a filter has w bits in a row; of position k, the bits of the word from `first` on: n eights of L1's row, and those of the SKA page's from `top` on
pub record WordIn (rs : Recent) (first : ℕ) (ps : List ℕ) (main ram w top n k row other : ℕ) : Type 0 where
  pub recent : RecentIn rs ps main ram
  pub low : first ≤ 64
  pub whole : first % 64 ≡ 0
  pub some : rs.l1.start + first < rs.below
  pub w_is : w ≡ 2 ^ rs.l1.exponent
  pub top_is : top ≡ min rs.below rs.ska.start
  pub n_is : n ≡ min ((top - rs.l1.start + 7) / 8 - first / 8) 8
  pub one : k < length ps
  pub row_is : row ≡ row_at rs.l1 (get_or ps k 0)
  pub other_is : other ≡ row_at rs.ska (get_or ps k 0)

module _ {rs : Recent} {first : ℕ} {ps : List ℕ} {main ram w top n k row other : ℕ} (Q : WordIn rs first ps main ram w top n k row other) where
  pub steps : w / 8 * 8 ≡ w
  steps = eighth rs.l1.exponent w Q.w_is Q.recent.some

  pub narrow : w ≤ 512
  narrow =
      let t : rs.l1.exponent ≤ 9 = omega (arith, Q.recent.narrow) in
      omega (arith, Q.w_is, pow_mono t)

  pub on_flash_lem : row + 16 * w ≤ main
  on_flash_lem = rw (Q.row_is, Q.w_is) (Q.recent.on_flash_lem k Q.one)

  pub in_ram_lem : other + w ≤ ram
  in_ram_lem = rw (Q.other_is, Q.w_is) (Q.recent.in_ram_lem k Q.one)

  pub behind : rs.below - top ≤ 8
  behind = omega (arith, Q.top_is, Q.recent.below_le)

  pub n_le : n ≤ 8
  n_le = omega (arith, Q.n_is)

  row_reach : first + n * 8 ≤ 128
  row_reach =
      let I = Q.recent in
      eights_in rs.l1.start rs.ska.start rs.below first top n Q.low Q.whole Q.some I.order I.flushes I.round I.below_le Q.top_is Q.n_is

  -- the first byte is one of the row's
  pub first_in : row + first * (w / 8) ≤ main
  first_in =
      let t = mul-le-mul_right (w / 8) Q.low in
      omega (arith, t, steps, on_flash_lem)

  pub row_in : (x i : ℕ) → x < w → i < n * 8 → row + first * (w / 8) + x / 8 + i * (w / 8) < main
  row_in x i h l =
      let k : first + i + 1 ≤ 128 = omega (arith, row_reach) in
      let t = mul-le-mul_right (w / 8) k in
      let g : x / 8 < w / 8 = omega (arith, steps) in
      omega (arith, t, g, steps, on_flash_lem)

  pub bytes_in : (x i : ℕ) → x < w → i < rs.below - top → other + x / 8 + i * (w / 8) < ram
  bytes_in x i h l =
      let k : i + 1 ≤ 8 = omega (arith, behind) in
      let t = mul-le-mul_right (w / 8) k in
      let g : x / 8 < w / 8 = omega (arith, steps) in
      omega (arith, t, g, steps, in_ram_lem)

  pub bytes_fit : (x : ℕ) → x < w → ram < 2 ^ 63 → other + x / 8 + (rs.below - top) * (w / 8) < 2 ^ 64
  bytes_fit x h l =
      let t = mul-le-mul_right (w / 8) behind in
      let g : x / 8 < w / 8 = omega (arith, steps) in
      omega (arith, t, g, steps, in_ram_lem, narrow)

  -- the word of position k
  pub recent_one : (flash held : List ℕ) (p s y : ℕ) → p ≡ get_or ps k 0
      → ((i : ℕ) → i < rs.below - top → bit s i ≡ bit (get_or held (other + p % w / 8 + i * (w / 8)) 0) (p % w % 8))
      → ((i : ℕ) → i < n * 8 → bit y i ≡ bit (get_or flash (row + first * (w / 8) + p % w / 8 + i * (w / 8)) 0) (p % w % 8))
      → ((i : ℕ) → n * 8 + i < 64 → bit y (n * 8 + i) ≡ bit s i)
      → One (has_recent rs flash held) ps first (min (rs.below - rs.l1.start - first) 64) k y
  recent_one flash held p s y e H Y Z i l =
      let I = Q.recent in
      let O = rw I.same at Q.other_is in
      let B =
      word_bit rs.l1.start rs.ska.start rs.below first top n Q.low Q.whole Q.some I.order I.flushes I.round I.below_le Q.top_is Q.n_is
      flash held row other (p % w) (w / 8) s y H Y Z i l in
      rw I.same (rw (steps, Q.row_is, O, Q.w_is, e) at B)

-- ---- the words of a block

-- all of them
open_whole : (gate : ℕ → Bool) (first k n r : ℕ) → k ≡ 64 → n ≡ 64 → Shows gate first n r → Open gate first k r
unfolding Shows Open
open_whole gate first k n r e z R i h = rw (lt-ltb i k (omega arith)) (R i (omega arith))

module _ (rs : Recent) (main ram ps : List ℕ) (I : RecentIn rs ps (length main) (length ram)) where
  -- is the filter open, counted from L1's first
  abbrev gate : ℕ → Bool
  gate g = recent_has rs main ram ps (rs.l1.start + g)

  abbrev rest : ℕ
  rest = rs.below - rs.l1.start

  few : rs.below ≤ rs.l1.start + 128
  few = omega (arith, I.below_le, I.round, I.order, I.flushes)

  -- more than 64: the first word as it is, the lowest bits of the second
  pub bytes_two : (a b y : ℕ) → 64 < rest → Shows gate 0 (min (rest - 0) 64) a → Shows gate 64 (min (rest - 64) 64) b
      → ((i : ℕ) → i < 64 → bit y i ≡ (ltb i (rest - 64) && bit b i))
      → RecentOf rs main ram ps (record { start = rs.l1.start; words = a ∷ y ∷ 0 ∷ 0 ∷ 0 ∷ 0 ∷ 0 ∷ 0 ∷ [] })
  bytes_two a b y h A B Y =
      recent_two rs main ram ps a y I.start_lt few
      (open_whole gate 0 (min rest 64) (min (rest - 0) 64) a (omega arith) (omega arith) A)
      (open_lowest gate 64 (rest - 64) (rest - 64) (min (rest - 64) 64) b y refl (omega (arith, few)) B Y)

  -- 64 at the most: the lowest bits of one word
  pub bytes_one : (a y : ℕ) → rest ≤ 64 → Shows gate 0 (min (rest - 0) 64) a → ((i : ℕ) → i < 64 → bit y i ≡ (ltb i rest && bit a i))
      → RecentOf rs main ram ps (record { start = rs.l1.start; words = y ∷ 0 ∷ 0 ∷ 0 ∷ 0 ∷ 0 ∷ 0 ∷ 0 ∷ [] })
  bytes_one a y h A Y =
      recent_two rs main ram ps y 0 I.start_lt few
      (open_lowest gate 0 (min rest 64) rest (min (rest - 0) 64) a y (omega arith) (omega arith) A Y)
      (open_none gate 64 (rest - 64) (omega arith))
