-- Blocks of filters of eight bytes since the last round.
use mathlib.Core.Path.{◌≡◌, refl, sym, ap, ◌∙◌}
use mathlib.Core.Bool.{Bool, true, false, ◌&&◌, ◌||◌}
use mathlib.Core.List.{List, [], ◌∷◌}
use Prim.Native.Nat.{ℕ, ◌+◌, ◌*◌, ◌-◌, ◌%◌, ◌^◌, ◌≤◌, ◌<◌, min}
use native.Mathlib.Omega.{arith}
use borrow.Author.Tests.{lt-ltb, le-ltb}
use lib.Bits.{bit_or}
use lib.Dec.{ltb}
use lib.ListN.{length, get_or}
use lib.Pow.{pow_pos}
use Rattle.memory.specs.Bits.{bit, bit_or_lem, bit_zero, bit_mod, bit_low, bit_high}
use Rattle.memory.specs.Cases.{either, lt?}
use Rattle.kernels.specs.Blocks.{Open, open_none}
use Rattle.kernels.specs.Masks.{has_mask}
use Rattle.filter.specs.Groups.{row_at}
use Rattle.filter.specs.Recent.{MaskOf, OneRow, recent_has, RecentIn, RecentOf}
use Rattle.filter.specs.declared.groups.Recent.{Recent}
use Rattle.filter.proofs.Recent.{open_map, l1_gate, ska_gate, mask_later, recent_two}

-- ---- words that show tests

or-false : (t : Bool) → (t || false) ≡ t
or-false true = refl
or-false false = refl

-- n more behind k
pub open_join : (G : ℕ → Bool) (f k n a c : ℕ) → k + n ≤ 64 → Open G f k a → Open G (f + k) n c → Open G f (k + n) (bit_or a ((c * 2 ^ k) % 2 ^ 64))
unfolding Open
open_join G f k n a c fits A C i h =
    bit_or_lem a ((c * 2 ^ k) % 2 ^ 64) i
    ∙ either (lt? i k)
    (λ l.
    let e : c * 2 ^ k ≡ c * 2 ^ k + 0 = omega arith in
    let z : bit ((c * 2 ^ k) % 2 ^ 64) i ≡ false = bit_mod (c * 2 ^ k) 64 i h ∙ (ap (λ (y : ℕ). bit y i) e ∙ (bit_low k c 0 i l.1 ∙ bit_zero i)) in
    rw (z, A i h, l.0, lt-ltb i (k + n) (omega (arith, l.1))) (or-false (G (f + i))))
    (λ l.
    let e : c * 2 ^ k ≡ c * 2 ^ k + 0 = omega arith in
    let s : k + (i - k) ≡ i = omega (arith, l.1) in
    let j : f + k + (i - k) ≡ f + i = omega (arith, l.1) in
    let y : bit (c * 2 ^ k) i ≡ bit c (i - k) = ap (λ (y : ℕ). bit y i) e ∙ rw s at (bit_high k c 0 (i - k) (pow_pos k)) in
    let z : bit ((c * 2 ^ k) % 2 ^ 64) i ≡ bit c (i - k) = bit_mod (c * 2 ^ k) 64 i h ∙ y in
    rw (z, A i h, l.0) (C (i - k) (omega arith) ∙ rw j (ap (λ (t : Bool). t && G (f + i)) (tests k n i l.1))))
  where
    tests : (k n i : ℕ) → k ≤ i → ltb (i - k) n ≡ ltb i (k + n)
    tests k n i l =
        either (lt? i (k + n))
        (λ t. lt-ltb (i - k) n (omega (arith, t.1)) ∙ sym t.0)
        (λ t. le-ltb (i - k) n (omega (arith, t.1)) ∙ sym t.0)

-- ---- numbers: L1 from l to s, filters up to b

-- L1's filters and those behind them are all
sum : (l s b all more : ℕ) → all ≡ min b s - l → more ≡ b - min b s → l ≤ s → l < b → all + more ≡ b - l
sum l s b all more A B order lt =
    either (lt? b s)
    (λ h. let m : min b s ≡ b = omega (arith, h.1) in let p = rw m at A in let q = rw m at B in omega (arith, p, q))
    (λ h. let m : min b s ≡ s = omega (arith, h.1) in let p = rw m at A in let q = rw m at B in omega (arith, p, q, h.1))

-- flushes are whole: what begins in a word ends in it
fits : (l s b all : ℕ) → all ≡ min b s - l → l ≤ s → (s - l) % 8 ≡ 0 → l < b → b ≤ s + 8 → all < 64 → b - l ≤ 64
fits l s b all A order whole lt le h =
    either (lt? b s)
    (λ t. let m : min b s ≡ b = omega (arith, t.1) in let p = rw m at A in omega (arith, p))
    (λ t. let m : min b s ≡ s = omega (arith, t.1) in let p = rw m at A in omega (arith, p, t.1))

-- less than a round, and those of the SKA page
most : (l s b : ℕ) → l ≤ s → (s - l) % 8 ≡ 0 → s < l + 128 → b ≤ s + 8 → b - l ≤ 128
most l s b order whole round le = let k : s - l ≤ 120 = omega arith in omega (arith, k)

-- in one word, and in two
module _ (few all more n : ℕ) (F : few ≡ min all 64) (S : all + more ≡ n) where
  low_few : all < 64 → few ≡ all
  low_few h = omega arith

  low_all : n ≤ 64 → all + more ≡ min n 64
  low_all h = omega arith

  low_rest : n ≤ 64 → n - 64 ≡ 0
  low_rest h = omega arith

  high_few : 64 ≤ all → few ≡ min n 64
  high_few h = omega arith

  high_more : 64 ≤ all → all - few ≡ all - 64
  high_more h = omega arith

  high_all : 64 ≤ all → all - 64 + more ≡ n - 64
  high_all h = omega arith

  high_fits : 64 ≤ all → n ≤ 128 → all - 64 + more ≤ 64
  high_fits h l = omega arith

under : (b l k : ℕ) → b - l ≤ k → b ≤ l + k
under b l k h = omega arith

under_round : (b l : ℕ) → b - l ≤ 64 → b ≤ l + 128
under_round b l h = omega arith

zero_add : (all : ℕ) → 0 + all ≡ all
zero_add all = omega arith

back : (all : ℕ) → 64 ≤ all → 64 + (all - 64) ≡ all
back all h = omega arith

module _ (rs : Recent) (ps main ram : List ℕ) (m all few more a b c : ℕ) (R : RecentIn rs ps (length main) (length ram))
    (six : rs.l1.exponent ≡ 6) (one : OneRow ps (length ps) 6) (M : MaskOf ps (length ps) 64 m) (all_is : all ≡ min rs.below rs.ska.start - rs.l1.start)
    (few_is : few ≡ min all 64) (more_is : more ≡ rs.below - min rs.below rs.ska.start)
    (A : Open (has_mask main (row_at rs.l1 (get_or ps 0 0)) 64 m) 0 few a) (B : Open (has_mask main (row_at rs.l1 (get_or ps 0 0) + 512) 64 m) 0 (all - few) b)
    (C : Open (has_mask ram (row_at rs.ska (get_or ps 0 0)) 64 m) 0 more c) where
  width : 2 ^ rs.l1.exponent ≡ 64
  width = ap (λ (e : ℕ). 2 ^ e) six

  in_row : OneRow ps (length ps) rs.l1.exponent
  in_row = rw six one

  abbrev gate : ℕ → Bool
  gate g = recent_has rs main ram ps (rs.l1.start + g)

  abbrev n : ℕ
  n = rs.below - rs.l1.start

  -- L1's filters
  first : Open gate 0 few a
  first =
      open_map (has_mask main (row_at rs.l1 (get_or ps 0 0)) 64 m) gate 0 0 few a
      (λ i l.
      let z : 0 + i ≡ i = omega arith in
      rw z (l1_gate rs ps main ram m 64 R width (omega arith) M in_row i (omega (arith, R.order, R.start_lt)))) A

  second : Open gate 64 (all - few) b
  second =
      open_map (has_mask main (row_at rs.l1 (get_or ps 0 0) + 512) 64 m) gate 0 64 (all - few) b
      (λ i l.
      let z : 0 + i ≡ i = omega arith in
      rw z (mask_later main (row_at rs.l1 (get_or ps 0 0)) 64 m i ∙ l1_gate rs ps main ram m 64 R width (omega arith) M in_row (64 + i) (omega (arith, R.order, R.start_lt)))) B

  -- those behind them
  third : Open gate all more c
  third =
      open_map (has_mask ram (row_at rs.ska (get_or ps 0 0)) 64 m) gate 0 all more c
      (λ i l.
      let z : 0 + i ≡ i = omega arith in
      let d : all ≡ rs.ska.start - rs.l1.start = omega (arith, R.order, R.start_lt) in
      rw (z, d) (ska_gate rs ps main ram m 64 R width (omega arith) M in_row i)) C

  pub words_low : all < 64
      → RecentOf rs main ram ps (record { start = rs.l1.start; words = bit_or a ((c * 2 ^ all) % 2 ^ 64) ∷ 0 ∷ 0 ∷ 0 ∷ 0 ∷ 0 ∷ 0 ∷ 0 ∷ [] })
  words_low h =
      let q = sum rs.l1.start rs.ska.start rs.below all more all_is more_is R.order R.start_lt in
      let k = fits rs.l1.start rs.ska.start rs.below all all_is R.order R.flushes R.start_lt R.below_le h in
      let f = low_few few all more n few_is q h in
      let s = low_all few all more n few_is q k in
      let t = low_rest few all more n few_is q k in
      let z : 0 + all ≡ all = zero_add all in
      recent_two rs main ram ps (bit_or a ((c * 2 ^ all) % 2 ^ 64)) 0 R.start_lt (under_round rs.below rs.l1.start k)
      (rw s at (open_join gate 0 all more a c (rw q k) (rw f at first) (rw z third)))
      (open_none gate 64 (n - 64) t)

  pub words_high : 64 ≤ all
      → RecentOf rs main ram ps (record { start = rs.l1.start; words = a ∷ bit_or b ((c * 2 ^ (all - 64)) % 2 ^ 64) ∷ 0 ∷ 0 ∷ 0 ∷ 0 ∷ 0 ∷ 0 ∷ [] })
  words_high h =
      let q = sum rs.l1.start rs.ska.start rs.below all more all_is more_is R.order R.start_lt in
      let r = most rs.l1.start rs.ska.start rs.below R.order R.flushes R.round R.below_le in
      let f = high_few few all more n few_is q h in
      let k = high_more few all more n few_is q h in
      let s = high_all few all more n few_is q h in
      let t = back all h in
      recent_two rs main ram ps a (bit_or b ((c * 2 ^ (all - 64)) % 2 ^ 64)) R.start_lt (under rs.below rs.l1.start 128 r)
      (rw f at first)
      (rw s at (open_join gate 64 (all - 64) more b c (high_fits few all more n few_is q h r) (rw k at second) (rw t third)))
