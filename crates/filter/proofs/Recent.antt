-- Blocks of the filters since the last round, out of what L1 and the SKA page show.
use mathlib.Core.Path.{◌≡◌, refl, sym, ap, ◌∙◌}
use mathlib.Core.Bool.{Bool, ◌&&◌, not}
use mathlib.Core.List.{List, [], ◌∷◌}
use Prim.Native.Nat.{ℕ, zero, suc, ◌+◌, ◌*◌, ◌-◌, ◌/◌, ◌%◌, ◌^◌, ◌≤◌, ◌<◌, min}
use native.Mathlib.Nat.{mul-le-mul_right}
use native.Mathlib.Omega.{arith}
use borrow.Author.Tests.{lt-ltb, le-ltb}
use lib.Dec.{ltb}
use lib.ListN.{length, get_or}
use lib.Seq.{take-length}
use Rattle.memory.specs.Bits.{bit, bit_in, bit_zero}
use Rattle.memory.specs.Cases.{either, lt?}
use Rattle.memory.specs.Numbers.{euclid, div_lt}
use Rattle.memory.specs.Ranges.{any_ext, all_of}
use Rattle.layout.specs.Index.{Index, filter_bit, in_full, in_set}
use Rattle.laws.specs.Units.{UnitIs}
use Rattle.kernels.specs.Blocks.{Open, Upto}
use Rattle.kernels.specs.Masks.{has_mask}
use Rattle.filter.specs.Blocks.{BlockAt}
use Rattle.filter.specs.Filter.{IndexFits}
use Rattle.filter.specs.Groups.{row_at, ska_level, l1_level}
use Rattle.filter.specs.Recent.{MaskOf, OneRow, recent_has, RecentIn, RecentOf}
use Rattle.filter.specs.declared.groups.Block.{Block}
use Rattle.filter.specs.declared.groups.Recent.{Recent}
use Rattle.filter.proofs.Masks.{level_mask}
use Rattle.filter.proofs.Levels.{power_4, ska_lies, l1_lies}
use Rattle.filter.proofs.Rows.{upto_same, level_same}

-- ---- words that show tests

pub open_map : (G H : ℕ → Bool) (a b m r : ℕ) → ((i : ℕ) → i < m → G (a + i) ≡ H (b + i)) → Open G a m r → Open H b m r
unfolding Open
open_map G H a b m r e R i h =
    R i h
    ∙ either (lt? i m)
    (λ t. ap (λ (z : Bool). ltb i m && z) (e i t.1))
    (λ t. rw t.0)

-- ---- a mask in L1 and in the SKA page

module _ (rs : Recent) (ps main ram : List ℕ) (m w : ℕ) (R : RecentIn rs ps (length main) (length ram))
    (is : 2 ^ rs.l1.exponent ≡ w) (top : w ≤ 64) (M : MaskOf ps (length ps) w m) (one : OneRow ps (length ps) rs.l1.exponent) where
  pub l1_gate : (g : ℕ) → g < rs.ska.start - rs.l1.start
      → has_mask main (row_at rs.l1 (get_or ps 0 0)) w m g ≡ recent_has rs main ram ps (rs.l1.start + g)
  l1_gate g h =
      let e : rs.l1.start + g - rs.l1.start ≡ g = omega arith in
      rw (lt-ltb (rs.l1.start + g) rs.ska.start (omega arith), e, ← is)
      (rw take-length at (level_mask rs.l1 ps (length ps) m (omega arith) (omega (arith, is, top)) (λ b l. rw is (M b l)) one main g))

  pub ska_gate : (g : ℕ)
      → has_mask ram (row_at rs.ska (get_or ps 0 0)) w m g ≡ recent_has rs main ram ps (rs.l1.start + (rs.ska.start - rs.l1.start + g))
  ska_gate g =
      let s : 2 ^ rs.ska.exponent ≡ w = ap (λ (e : ℕ). 2 ^ e) R.same ∙ is in
      let o = R.same in
      let e : rs.l1.start + (rs.ska.start - rs.l1.start + g) - rs.ska.start ≡ g = omega (arith, R.order) in
      rw (le-ltb (rs.l1.start + (rs.ska.start - rs.l1.start + g)) rs.ska.start (omega (arith, R.order)), e, ← s)
      (rw take-length at (level_mask rs.ska ps (length ps) m (omega arith) (omega (arith, s, top)) (λ b l. rw s (M b l)) (λ i l. rw o (one i l)) ram g))

-- 64 filters further on
pub mask_later : (bytes : List ℕ) (row w m g : ℕ) → has_mask bytes (row + 8 * w) w m g ≡ has_mask bytes row w m (64 + g)
unfolding has_mask
mask_later bytes row w m g =
    ap not
    (any_ext (λ b. bit m b && not (bit_in bytes (row + 8 * w) (g * w + b))) (λ b. bit m b && not (bit_in bytes row ((64 + g) * w + b))) w
    (λ b h.
    let p : (64 + g) * w ≡ 64 * w + g * w = omega arith in
    let d : row + 8 * w + (g * w + b) / 8 ≡ row + ((64 + g) * w + b) / 8 = omega (arith, p) in
    let q : (g * w + b) % 8 ≡ ((64 + g) * w + b) % 8 = omega (arith, p) in
    rw (d, q)))

-- ---- two words

none : (j : ℕ) → ◌≡◌ {A = ℕ} (get_or (0 ∷ 0 ∷ 0 ∷ 0 ∷ 0 ∷ 0 ∷ []) j 0) 0
none zero = refl
none (suc zero) = refl
none (suc (suc zero)) = refl
none (suc (suc (suc zero))) = refl
none (suc (suc (suc (suc zero)))) = refl
none (suc (suc (suc (suc (suc zero))))) = refl
none (suc (suc (suc (suc (suc (suc j)))))) = refl

-- a block of two words: the first n filters of a row of tests, 128 at the most
pub upto_two : (gate : ℕ → Bool) (n a b : ℕ) → n ≤ 128 → Open gate 0 (min n 64) a → Open gate 64 (n - 64) b
    → Upto (λ j i. gate (j * 64 + i)) n (a ∷ b ∷ 0 ∷ 0 ∷ 0 ∷ 0 ∷ 0 ∷ 0 ∷ [])
unfolding Upto Open
upto_two gate n a b h A B zero l i k =
    let e : 0 * 64 + i ≡ i = omega arith in
    let z : 0 + i ≡ i = omega arith in
    rw e (rw z at (A i k) ∙ ap (λ (t : Bool). t && gate i) (tests i n k))
  where
    tests : (i n : ℕ) → i < 64 → ltb i (min n 64) ≡ ltb i n
    tests i n k = either (lt? i n) (λ t. lt-ltb i (min n 64) (omega (arith, t.1)) ∙ sym t.0) (λ t. le-ltb i (min n 64) (omega (arith, t.1)) ∙ sym t.0)
upto_two gate n a b h A B (suc zero) l i k =
    let e : 1 * 64 + i ≡ 64 + i = omega arith in
    rw e (B i k ∙ ap (λ (t : Bool). t && gate (64 + i)) (tests i n))
  where
    tests : (i n : ℕ) → ltb i (n - 64) ≡ ltb (64 + i) n
    tests i n = either (lt? (64 + i) n) (λ t. lt-ltb i (n - 64) (omega (arith, t.1)) ∙ sym t.0) (λ t. le-ltb i (n - 64) (omega (arith, t.1)) ∙ sym t.0)
upto_two gate n a b h A B (suc (suc j)) l i k =
    ap (λ (z : ℕ). bit z i) (none j)
    ∙ (bit_zero i ∙ sym (ap (λ (t : Bool). t && gate (suc (suc j) * 64 + i)) (le-ltb (suc (suc j) * 64 + i) n (omega arith))))

-- as a block
pub recent_two : (rs : Recent) (main ram ps : List ℕ) (a b : ℕ) → rs.l1.start < rs.below → rs.below ≤ rs.l1.start + 128
    → Open (λ g. recent_has rs main ram ps (rs.l1.start + g)) 0 (min (rs.below - rs.l1.start) 64) a
    → Open (λ g. recent_has rs main ram ps (rs.l1.start + g)) 64 (rs.below - rs.l1.start - 64) b
    → RecentOf rs main ram ps (record { start = rs.l1.start; words = a ∷ b ∷ 0 ∷ 0 ∷ 0 ∷ 0 ∷ 0 ∷ 0 ∷ [] })
recent_two rs main ram ps a b lt le A B =
    record {
      start_le = omega arith;
      start_lt = lt;
      few = omega arith;
      pairs = omega arith;
      shown = upto_two (λ g. recent_has rs main ram ps (rs.l1.start + g)) (rs.below - rs.l1.start) a b (omega arith) A B;
    }

-- ---- the block of the index

-- whole rounds are in sets
pub rounds_are : (u F : ℕ) → 0 < u → in_full u F * (128 * (4 * u)) + 128 * in_set u F ≡ F / 128 * 128
rounds_are u F p =
    let E = euclid (F / 8 / 16) (4 * u) (omega arith) in
    let d : F / 8 / 16 ≡ F / 128 = omega arith in
    let q : (F / 8 / 16 / (4 * u) * (4 * u) + F / 8 / 16 % (4 * u)) * 128 ≡ F / 8 / 16 * 128 = ap (λ (z : ℕ). z * 128) E.whole in
    omega (arith, q, d)

module _ (u e F Z : ℕ) (ix : Index) (main ram : List ℕ) (S : UnitIs u e) (I : IndexFits u ix Z main ram) where
  -- those of F filters below one
  abbrev pub recent_of : ℕ → Recent
  recent_of below = record { l1 = l1_level u e ix (F / 128 * 128); ska = ska_level u e ix (F / 8 * 8); below = below }

  flash : (ix.first + 1) * (1024 * u) ≤ length main
  flash = omega (arith, I.on_flash_lem)

  -- a filter of the index
  has_is : (below : ℕ) (ps : List ℕ) (f : ℕ) → F / 128 * 128 ≤ f
      → all_of (filter_bit u ix main ram F f) ps ≡ recent_has (recent_of below) main ram ps f
  has_is below ps f a =
      either (lt? f (F / 8 * 8))
      (λ t. rw t.0 (level_same u ix main ram F (l1_level u e ix (F / 128 * 128)) ps main f (l1_lies u e S ix main ram F (F / 128 * 128) f (sym (rounds_are u F S.some)) a t.1)))
      (λ t. rw t.0 (level_same u ix main ram F (ska_level u e ix (F / 8 * 8)) ps ram f (ska_lies u e S ix main ram F f t.1)))

  pub recent_at : (below : ℕ) (ps : List ℕ) (b : Block) → below ≤ F → RecentOf (recent_of below) main ram ps b → BlockAt u ix main ram F below ps b
  recent_at below ps b le R =
      record {
        start_lt = R.start_lt;
        few = R.few;
        even = omega (arith, R.pairs, R.start_le);
        shown = upto_same (λ j i. recent_has (recent_of below) main ram ps (b.start + (j * 64 + i)))
            (λ j i. all_of (filter_bit u ix main ram F (b.start + (j * 64 + i))) ps) (below - b.start) b.words
            (λ j i h. sym (has_is below ps (b.start + (j * 64 + i)) (omega (arith, R.start_le)))) R.shown;
      }

  -- the row of the positions
  pub recent_in : (below : ℕ) (ps : List ℕ) → below ≤ F → F / 128 * 128 < below → ((i : ℕ) → i < length ps → get_or ps i 0 < 64 * u)
      → RecentIn (recent_of below) ps (length main) (length ram)
  recent_in below ps le lt low =
      let p : 2 ^ (e + 4) ≡ 16 * u = power_4 u e S in
      let q : (i : ℕ) → i < length ps → get_or ps i 0 / (16 * u) < 4 = λ i h. div_lt (get_or ps i 0) (16 * u) 4 (omega (arith, S.some)) (omega (arith, low i h)) in
      record {
        some = omega arith;
        narrow = omega (arith, S.small);
        same = refl;
        order = omega arith;
        flushes = omega arith;
        round = omega arith;
        start_lt = lt;
        below_le = omega arith;
        on_flash_lem = rw p (λ i h. omega (arith, flash, mul-le-mul_right (4 * (64 * u)) (q i h)));
        in_ram_lem = rw p (λ i h. omega (arith, I.in_ram_lem, mul-le-mul_right (16 * u) (q i h)));
      }
