-- Every w-th bit of a word, side by side: fields come together by two.
use mathlib.Core.Path.{◌≡◌, refl, sym, ap, ◌∙◌}
use mathlib.Core.Bool.{Bool, true, false, ◌&&◌, ◌||◌, beq, and-eq-true_iff}
use Prim.Native.Nat.{ℕ, zero, suc, ◌+◌, ◌*◌, ◌/◌, ◌%◌, ◌^◌, ◌≤◌, ◌<◌}
use native.Mathlib.Omega.{arith}
use lib.Bits.{bit_and, bit_or, and_le_l, and_le_r}
use lib.Dec.{ltb}
use borrow.Author.Tests.{lt-ltb, le-ltb}
use Rattle.memory.specs.Bits.{bit, bit_shr, bit_or_lem, bit_and_lem}
use Rattle.memory.specs.Booleans.{eq_of_beq}
use Rattle.memory.specs.Cases.{either, lt?}
use Rattle.kernels.specs.Blocks.{Squeezed}
use Rattle.kernels.proofs.Bits.{bit_over}

-- of every G bits of m the lowest c are set, the first n by computing
unfoldable is_low : ℕ → ℕ → ℕ → ℕ → Bool
is_low m G c zero = true
is_low m G c (suc n) = beq (bit m n) (ltb (n % G) c) && is_low m G c n

low_at : (m G c n i : ℕ) → is_low m G c n ≡ true → i < n → bit m i ≡ ltb (i % G) c
unfolding is_low
low_at m G c zero i e h = absurd (omega arith)
low_at m G c (suc n) i e h =
    let p = (and-eq-true_iff (beq (bit m n) (ltb (n % G) c)) (is_low m G c n)).0 e in
    either (lt? i n)
    (λ l. low_at m G c n i p.1 l.1)
    (λ l. let q : i ≡ n = omega arith in rw q (eq_of_beq (bit m n) (ltb (n % G) c) p.0))

abbrev Lows : ℕ → ℕ → ℕ → Type 0
Lows m G c = (i : ℕ) → i < 64 → bit m i ≡ ltb (i % G) c

-- of every F bits of y the lowest b are those of a row of bits, one field after another
unfoldable pub Spread : ℕ → ℕ → (ℕ → Bool) → ℕ → Type 0
Spread b F X y = (i : ℕ) → i < 64 → bit y i ≡ (ltb (i % F) b && X (i / F * b + i % F))

-- ---- tests

left_only : (t : Bool) → ((t || false) && true) ≡ (true && t)
left_only true = refl
left_only false = refl

right_only : (t : Bool) → ((false || t) && true) ≡ (true && t)
right_only true = refl
right_only false = refl

none : (a t : Bool) → (a && false) ≡ (false && t)
none true t = refl
none false t = refl

-- ---- two fields make one

module _ (b F c G s : ℕ) (X : ℕ → Bool) (y m : ℕ) (small : y < 2 ^ 64) (S : Spread b F X y) (M : Lows m G c)
    (low : (i : ℕ) → i < 64 → i % G < b → (i % F < b) × (i / F * b + i % F ≡ i / G * c + i % G) × (b ≤ (s + i) % F))
    (mid : (i : ℕ) → i < 64 → b ≤ i % G → i % G < c → (b ≤ i % F) × (s + i < 64) × ((s + i) % F < b) × ((s + i) / F * b + (s + i) % F ≡ i / G * c + i % G)) where
  own : (i : ℕ) → i < 64 → i % F < b → bit y i ≡ X (i / F * b + i % F)
  unfolding Spread
  own i h l = S i h ∙ rw (lt-ltb (i % F) b l)

  not : (i : ℕ) → b ≤ i % F → bit y i ≡ false
  unfolding Spread
  not i l = either (lt? i 64) (λ h. S i h.1 ∙ rw (le-ltb (i % F) b l)) (λ h. bit_over 64 y i small h.1)

  pub joined : Spread c G X (bit_and (bit_or y (y / 2 ^ s)) m)
  unfolding Spread
  joined i h =
      let k = i / G * c + i % G in
      rw (bit_and_lem (bit_or y (y / 2 ^ s)) m i, bit_or_lem y (y / 2 ^ s) i, bit_shr y s i, M i h)
      (either (lt? (i % G) c)
      (λ l. rw (lt-ltb (i % G) c l.1)
      (either (lt? (i % G) b)
      (λ t.
      let a = low i h t.1 in
      rw (own i h a.0 ∙ ap X a.1, not (s + i) a.2) (left_only (X k)))
      (λ t.
      let a = mid i h t.1 l.1 in
      rw (not i a.0, own (s + i) a.1 a.2 ∙ ap X a.3) (right_only (X k)))))
      (λ l. rw (le-ltb (i % G) c l.1) (none (bit y i || bit y (s + i)) (X k))))

-- a conjunction is no greater than a word
and_small : (x m : ℕ) → x < 2 ^ 64 → bit_and x m < 2 ^ 64
and_small x m h = omega (arith, and_le_l x m)

-- ---- the lowest bit of each field

module _ (w x m : ℕ) (M : Lows m w 1) (at : (i : ℕ) → i < 64 → i % w < 1 → (i / w * 1 + i % w) * w ≡ i) where
  pub picked : Spread 1 w (λ i. bit x (i * w)) (bit_and x m)
  unfolding Spread
  picked i h =
      rw (bit_and_lem x m i, M i h)
      (either (lt? (i % w) 1)
      (λ l. rw (lt-ltb (i % w) 1 l.1, at i h l.1) (swap (bit x i)))
      (λ l. rw (le-ltb (i % w) 1 l.1) (none (bit x i) (bit x ((i / w * 1 + i % w) * w)))))
    where
      swap : (t : Bool) → (t && true) ≡ (true && t)
      swap true = refl
      swap false = refl

-- ---- one field is left

module _ (w x y : ℕ) (per : ℕ) (S : Spread per 64 (λ i. bit x (i * w)) y)
    (fit : (i : ℕ) → i < per → i * w < 64) (over : (i : ℕ) → per ≤ i → 64 ≤ i * w) where
  pub all_of : Squeezed w x y
  unfolding Spread Squeezed
  all_of i h =
      let e : i % 64 ≡ i = omega arith in
      let k : i / 64 * per + i % 64 ≡ i = omega (arith, d i h) in
      S i h ∙ (rw (k, e) (tests i))
    where
      tests : (i : ℕ) → (ltb i per && bit x (i * w)) ≡ (ltb (i * w) 64 && bit x (i * w))
      tests i =
          either (lt? i per)
          (λ l. ap (λ (t : Bool). t && bit x (i * w)) (lt-ltb i per l.1 ∙ sym (lt-ltb (i * w) 64 (fit i l.1))))
          (λ l. ap (λ (t : Bool). t && bit x (i * w)) (le-ltb i per l.1 ∙ sym (le-ltb (i * w) 64 (over i l.1))))

      d : (i : ℕ) → i < 64 → i / 64 * per ≡ 0
      d i h = let z : i / 64 ≡ 0 = omega arith in rw z (omega arith)

-- ---- w = 2

first_2 : Lows 6148914691236517205 2 1
unfolding is_low bit
first_2 i h = low_at 6148914691236517205 2 1 64 i refl h

lows_2_0 : Lows 3689348814741910323 4 2
unfolding is_low bit
lows_2_0 i h = low_at 3689348814741910323 4 2 64 i refl h

lows_2_1 : Lows 1085102592571150095 8 4
unfolding is_low bit
lows_2_1 i h = low_at 1085102592571150095 8 4 64 i refl h

lows_2_2 : Lows 71777214294589695 16 8
unfolding is_low bit
lows_2_2 i h = low_at 71777214294589695 16 8 64 i refl h

lows_2_3 : Lows 281470681808895 32 16
unfolding is_low bit
lows_2_3 i h = low_at 281470681808895 32 16 64 i refl h

lows_2_4 : Lows 4294967295 64 32
unfolding is_low bit
lows_2_4 i h = low_at 4294967295 64 32 64 i refl h

pub squeezed_2 : (x r0 r1 r2 r3 r4 : ℕ) → x < 2 ^ 64 → r0 ≡ bit_and (bit_or (bit_and x 6148914691236517205) ((bit_and x 6148914691236517205) / 2 ^ 1)) 3689348814741910323 → r1 ≡ bit_and (bit_or r0 (r0 / 2 ^ 2)) 1085102592571150095 → r2 ≡ bit_and (bit_or r1 (r1 / 2 ^ 4)) 71777214294589695 → r3 ≡ bit_and (bit_or r2 (r2 / 2 ^ 8)) 281470681808895 → r4 ≡ bit_and (bit_or r3 (r3 / 2 ^ 16)) 4294967295 → Squeezed 2 x r4
squeezed_2 x r0 r1 r2 r3 r4 h e0 e1 e2 e3 e4 =
    let s = picked 2 x 6148914691236517205 first_2 (λ i l t. omega arith) in
    let h0 = and_small x 6148914691236517205 h in
    let s0 : Spread 2 4 (λ i. bit x (i * 2)) r0 = rw e0 (joined 1 2 2 4 1 (λ i. bit x (i * 2)) (bit_and x 6148914691236517205) 3689348814741910323 h0 s lows_2_0 (λ i l t. (omega arith, omega arith, omega arith)) (λ i l t u. (omega arith, omega arith, omega arith, omega arith))) in
    let k0 : r0 < 2 ^ 64 = omega (arith, e0, and_le_r (bit_or (bit_and x 6148914691236517205) ((bit_and x 6148914691236517205) / 2 ^ 1)) 3689348814741910323) in
    let s1 : Spread 4 8 (λ i. bit x (i * 2)) r1 = rw e1 (joined 2 4 4 8 2 (λ i. bit x (i * 2)) r0 1085102592571150095 k0 s0 lows_2_1 (λ i l t. (omega arith, omega arith, omega arith)) (λ i l t u. (omega arith, omega arith, omega arith, omega arith))) in
    let k1 : r1 < 2 ^ 64 = omega (arith, e1, and_le_r (bit_or r0 (r0 / 2 ^ 2)) 1085102592571150095) in
    let s2 : Spread 8 16 (λ i. bit x (i * 2)) r2 = rw e2 (joined 4 8 8 16 4 (λ i. bit x (i * 2)) r1 71777214294589695 k1 s1 lows_2_2 (λ i l t. (omega arith, omega arith, omega arith)) (λ i l t u. (omega arith, omega arith, omega arith, omega arith))) in
    let k2 : r2 < 2 ^ 64 = omega (arith, e2, and_le_r (bit_or r1 (r1 / 2 ^ 4)) 71777214294589695) in
    let s3 : Spread 16 32 (λ i. bit x (i * 2)) r3 = rw e3 (joined 8 16 16 32 8 (λ i. bit x (i * 2)) r2 281470681808895 k2 s2 lows_2_3 (λ i l t. (omega arith, omega arith, omega arith)) (λ i l t u. (omega arith, omega arith, omega arith, omega arith))) in
    let k3 : r3 < 2 ^ 64 = omega (arith, e3, and_le_r (bit_or r2 (r2 / 2 ^ 8)) 281470681808895) in
    let s4 : Spread 32 64 (λ i. bit x (i * 2)) r4 = rw e4 (joined 16 32 32 64 16 (λ i. bit x (i * 2)) r3 4294967295 k3 s3 lows_2_4 (λ i l t. (omega arith, omega arith, omega arith)) (λ i l t u. (omega arith, omega arith, omega arith, omega arith))) in
    let k4 : r4 < 2 ^ 64 = omega (arith, e4, and_le_r (bit_or r3 (r3 / 2 ^ 16)) 4294967295) in
    all_of 2 x r4 32 s4 (λ i l. omega arith) (λ i l. omega arith)

-- ---- w = 4

pub first_4 : Lows 1229782938247303441 4 1
unfolding is_low bit
first_4 i h = low_at 1229782938247303441 4 1 64 i refl h

-- ---- w = 8

first_8 : Lows 72340172838076673 8 1
unfolding is_low bit
first_8 i h = low_at 72340172838076673 8 1 64 i refl h

lows_8_0 : Lows 844437815230467 16 2
unfolding is_low bit
lows_8_0 i h = low_at 844437815230467 16 2 64 i refl h

lows_8_1 : Lows 64424509455 32 4
unfolding is_low bit
lows_8_1 i h = low_at 64424509455 32 4 64 i refl h

lows_8_2 : Lows 255 64 8
unfolding is_low bit
lows_8_2 i h = low_at 255 64 8 64 i refl h

pub squeezed_8 : (x r0 r1 r2 : ℕ) → x < 2 ^ 64 → r0 ≡ bit_and (bit_or (bit_and x 72340172838076673) ((bit_and x 72340172838076673) / 2 ^ 7)) 844437815230467 → r1 ≡ bit_and (bit_or r0 (r0 / 2 ^ 14)) 64424509455 → r2 ≡ bit_and (bit_or r1 (r1 / 2 ^ 28)) 255 → Squeezed 8 x r2
squeezed_8 x r0 r1 r2 h e0 e1 e2 =
    let s = picked 8 x 72340172838076673 first_8 (λ i l t. omega arith) in
    let h0 = and_small x 72340172838076673 h in
    let s0 : Spread 2 16 (λ i. bit x (i * 8)) r0 = rw e0 (joined 1 8 2 16 7 (λ i. bit x (i * 8)) (bit_and x 72340172838076673) 844437815230467 h0 s lows_8_0 (λ i l t. (omega arith, omega arith, omega arith)) (λ i l t u. (omega arith, omega arith, omega arith, omega arith))) in
    let k0 : r0 < 2 ^ 64 = omega (arith, e0, and_le_r (bit_or (bit_and x 72340172838076673) ((bit_and x 72340172838076673) / 2 ^ 7)) 844437815230467) in
    let s1 : Spread 4 32 (λ i. bit x (i * 8)) r1 = rw e1 (joined 2 16 4 32 14 (λ i. bit x (i * 8)) r0 64424509455 k0 s0 lows_8_1 (λ i l t. (omega arith, omega arith, omega arith)) (λ i l t u. (omega arith, omega arith, omega arith, omega arith))) in
    let k1 : r1 < 2 ^ 64 = omega (arith, e1, and_le_r (bit_or r0 (r0 / 2 ^ 14)) 64424509455) in
    let s2 : Spread 8 64 (λ i. bit x (i * 8)) r2 = rw e2 (joined 4 32 8 64 28 (λ i. bit x (i * 8)) r1 255 k1 s1 lows_8_2 (λ i l t. (omega arith, omega arith, omega arith)) (λ i l t u. (omega arith, omega arith, omega arith, omega arith))) in
    let k2 : r2 < 2 ^ 64 = omega (arith, e2, and_le_r (bit_or r1 (r1 / 2 ^ 28)) 255) in
    all_of 8 x r2 8 s2 (λ i l. omega arith) (λ i l. omega arith)

-- ---- w = 16

first_16 : Lows 281479271743489 16 1
unfolding is_low bit
first_16 i h = low_at 281479271743489 16 1 64 i refl h

lows_16_0 : Lows 12884901891 32 2
unfolding is_low bit
lows_16_0 i h = low_at 12884901891 32 2 64 i refl h

lows_16_1 : Lows 15 64 4
unfolding is_low bit
lows_16_1 i h = low_at 15 64 4 64 i refl h

pub squeezed_16 : (x r0 r1 : ℕ) → x < 2 ^ 64 → r0 ≡ bit_and (bit_or (bit_and x 281479271743489) ((bit_and x 281479271743489) / 2 ^ 15)) 12884901891 → r1 ≡ bit_and (bit_or r0 (r0 / 2 ^ 30)) 15 → Squeezed 16 x r1
squeezed_16 x r0 r1 h e0 e1 =
    let s = picked 16 x 281479271743489 first_16 (λ i l t. omega arith) in
    let h0 = and_small x 281479271743489 h in
    let s0 : Spread 2 32 (λ i. bit x (i * 16)) r0 = rw e0 (joined 1 16 2 32 15 (λ i. bit x (i * 16)) (bit_and x 281479271743489) 12884901891 h0 s lows_16_0 (λ i l t. (omega arith, omega arith, omega arith)) (λ i l t u. (omega arith, omega arith, omega arith, omega arith))) in
    let k0 : r0 < 2 ^ 64 = omega (arith, e0, and_le_r (bit_or (bit_and x 281479271743489) ((bit_and x 281479271743489) / 2 ^ 15)) 12884901891) in
    let s1 : Spread 4 64 (λ i. bit x (i * 16)) r1 = rw e1 (joined 2 32 4 64 30 (λ i. bit x (i * 16)) r0 15 k0 s0 lows_16_1 (λ i l t. (omega arith, omega arith, omega arith)) (λ i l t u. (omega arith, omega arith, omega arith, omega arith))) in
    let k1 : r1 < 2 ^ 64 = omega (arith, e1, and_le_r (bit_or r0 (r0 / 2 ^ 30)) 15) in
    all_of 16 x r1 4 s1 (λ i l. omega arith) (λ i l. omega arith)

-- ---- w = 32

first_32 : Lows 4294967297 32 1
unfolding is_low bit
first_32 i h = low_at 4294967297 32 1 64 i refl h

lows_32_0 : Lows 3 64 2
unfolding is_low bit
lows_32_0 i h = low_at 3 64 2 64 i refl h

pub squeezed_32 : (x r0 : ℕ) → x < 2 ^ 64 → r0 ≡ bit_and (bit_or (bit_and x 4294967297) ((bit_and x 4294967297) / 2 ^ 31)) 3 → Squeezed 32 x r0
squeezed_32 x r0 h e0 =
    let s = picked 32 x 4294967297 first_32 (λ i l t. omega arith) in
    let h0 = and_small x 4294967297 h in
    let s0 : Spread 2 64 (λ i. bit x (i * 32)) r0 = rw e0 (joined 1 32 2 64 31 (λ i. bit x (i * 32)) (bit_and x 4294967297) 3 h0 s lows_32_0 (λ i l t. (omega arith, omega arith, omega arith)) (λ i l t u. (omega arith, omega arith, omega arith, omega arith))) in
    let k0 : r0 < 2 ^ 64 = omega (arith, e0, and_le_r (bit_or (bit_and x 4294967297) ((bit_and x 4294967297) / 2 ^ 31)) 3) in
    all_of 32 x r0 2 s0 (λ i l. omega arith) (λ i l. omega arith)

-- ---- w = 64

first_64 : Lows 1 64 1
unfolding is_low bit
first_64 i h = low_at 1 64 1 64 i refl h

pub squeezed_64 : (x : ℕ) → Squeezed 64 x (bit_and x 1)
squeezed_64 x = all_of 64 x (bit_and x 1) 1 (picked 64 x 1 first_64 (λ i l t. omega arith)) (λ i l. omega arith) (λ i l. omega arith)

-- ---- pairs of bits

keep : (t : Bool) → (t && true) ≡ t
keep true = refl
keep false = refl

drop_all : (t : Bool) → (t && false) ≡ false
drop_all true = refl
drop_all false = refl

-- the mask has the even bits
pub pairs_are : (x r : ℕ) → r ≡ bit_and (bit_or x (x / 2 ^ 1)) 6148914691236517205
    → (i : ℕ) → i < 32 → (bit r (2 * i) ≡ (bit x (2 * i) || bit x (2 * i + 1))) × (bit r (2 * i + 1) ≡ false)
pairs_are x r is i h =
    let a : 1 + 2 * i ≡ 2 * i + 1 = omega arith in
    let e : 2 * i % 2 ≡ 0 = omega arith in
    let o : (2 * i + 1) % 2 ≡ 1 = omega arith in
    let m = first_2 (2 * i) (omega arith) in
    let n = first_2 (2 * i + 1) (omega arith) in
    rw is (
      rw (bit_and_lem (bit_or x (x / 2 ^ 1)) 6148914691236517205 (2 * i), bit_or_lem x (x / 2 ^ 1) (2 * i), bit_shr x 1 (2 * i), m, e, a)
          (keep (bit x (2 * i) || bit x (2 * i + 1))),
      rw (bit_and_lem (bit_or x (x / 2 ^ 1)) 6148914691236517205 (2 * i + 1), n, o) (drop_all (bit (bit_or x (x / 2 ^ 1)) (2 * i + 1))),
    )
