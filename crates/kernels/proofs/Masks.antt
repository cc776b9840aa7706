-- Which filters have all bits of a mask, as the bits of words.
use mathlib.Core.Path.{◌≡◌, refl, sym, ap, ◌∙◌}
use mathlib.Core.Logic.{◌≢◌}
use mathlib.Core.Bool.{Bool, true, false, ◌&&◌, not, or-false, not-not}
use mathlib.Core.List.{List}
use Prim.Native.Nat.{ℕ, zero, suc, ◌+◌, ◌*◌, ◌-◌, ◌/◌, ◌%◌, ◌^◌, ◌<◌}
use native.Mathlib.Omega.{arith}
use mir.Val.{bool_byte}
use lib.Bits.{bit_and, bit_or, and_lt}
use lib.Dec.{ltb}
use borrow.Author.Tests.{lt-ltb, le-ltb}
use Rattle.memory.specs.Bits.{bit, bit_in, bit_ext, bit_or_lem, bit_shr, bit_and_lem, bit_shl, bit_shl_low}
use Rattle.memory.specs.Words.{Word64}
use Rattle.memory.specs.Cases.{bool?, either, lt?}
use Rattle.memory.specs.Ranges.{any, any_ext, any_no, no_any}
use Rattle.kernels.specs.Blocks.{Open}
use Rattle.kernels.specs.Masks.{has_mask, Shut}
use Rattle.kernels.proofs.Bits.{bit_over}
use Rattle.kernels.proofs.Flips.{flip}

-- ---- the bits of a mask that a word lacks

pub missed : (x m i : ℕ) → x < 2 ^ 64 → i < 64 → bit (bit_and m (18446744073709551615 - x)) i ≡ (bit m i && not (bit x i))
missed x m i f h = bit_and_lem m (18446744073709551615 - x) i ∙ ap (λ (t : Bool). bit m i && t) (flip 64 x i f h)

-- none, just if the conjunction is the mask
kept_bit : (s t : Bool) → (s && t) ≡ t → (t && not s) ≡ false
kept_bit true true e = refl
kept_bit true false e = refl
kept_bit false true e = sym e
kept_bit false false e = refl

lacked_bit : (s t : Bool) → (t && not s) ≡ false → (s && t) ≡ t
lacked_bit true true e = refl
lacked_bit true false e = refl
lacked_bit false true e = sym e
lacked_bit false false e = refl

pub kept : (x m : ℕ) → bit_and x m ≡ m → any (λ b. bit m b && not (bit x b)) 64 ≡ false
kept x m e =
    any_no (λ b. bit m b && not (bit x b)) 64
    (λ b l. kept_bit (bit x b) (bit m b) (sym (bit_and_lem x m b) ∙ ap (λ (y : ℕ). bit y b) e))

pub not_kept : (x m : ℕ) → x < 2 ^ 64 → m < 2 ^ 64 → bit_and x m ≢ m → any (λ b. bit m b && not (bit x b)) 64 ≡ true
not_kept x m hx hm n =
    either (bool? (any (λ b. bit m b && not (bit x b)) 64))
    (λ t. t)
    (λ t. absurd (n (bit_ext 64 (bit_and x m) m (and_lt 64 x m hx hm) hm
    (λ i l. bit_and_lem x m i ∙ lacked_bit (bit x i) (bit m i) (no_any (λ b. bit m b && not (bit x b)) 64 i t l)))))

-- a bool's number
pub bool_bit : (b : Bool) → (bool_byte b < 2) × (bit (bool_byte b) 0 ≡ b)
unfolding bit
bool_bit true = (omega arith, refl)
bool_bit false = (omega arith, refl)

-- ---- four filters of 16 bits in a word

pub lacks : (bytes : List ℕ) (at m mask w d z j : ℕ)
    → ((i b : ℕ) → i < 4 → b < 16 → bit mask (16 * i + b) ≡ bit m b) → Word64 bytes (at + j * 8) w
    → ((i : ℕ) → i < 64 → bit d i ≡ (bit mask i && not (bit w i)))
    → ((i : ℕ) → i < 4 → bit z (16 * i + 15) ≡ any (λ b. bit d (16 * i + b)) 16)
    → (i : ℕ) → i < 4 → bit z (16 * i + 15) ≡ not (has_mask bytes at 16 m (4 * j + i))
unfolding Word64 has_mask
lacks bytes at m mask w d z j M W D Z i h =
    Z i h
    ∙ (any_ext (λ b. bit d (16 * i + b)) (λ b. bit m b && not (bit_in bytes at ((4 * j + i) * 16 + b))) 16 own
    ∙ sym (not-not (any (λ b. bit m b && not (bit_in bytes at ((4 * j + i) * 16 + b))) 16)))
  where
    own : (b : ℕ) → b < 16 → bit d (16 * i + b) ≡ (bit m b && not (bit_in bytes at ((4 * j + i) * 16 + b)))
    own b l =
        let p : at + j * 8 + (16 * i + b) / 8 ≡ at + ((4 * j + i) * 16 + b) / 8 = omega arith in
        let q : (16 * i + b) % 8 ≡ ((4 * j + i) * 16 + b) % 8 = omega arith in
        rw (D (16 * i + b) (omega arith), M i b h l, W (16 * i + b) (omega arith), p, q)

same_lt : (a b c d : ℕ) → c ≡ a + 1 → d ≡ b + 1 → ltb c d ≡ ltb a b
same_lt a b c d e f =
    either (lt? a b)
    (λ h. lt-ltb c d (omega arith) ∙ sym h.0)
    (λ h. le-ltb c d (omega arith) ∙ sym h.0)

-- a word more: the bits move down by one
module _ (gate : ℕ → Bool) (q r z : ℕ) (small : r < 2 ^ 64) (room : q < 16) (S : Shut gate q r)
    (top : (i : ℕ) → i < 4 → bit z (16 * i + 15) ≡ not (gate (4 * q + i)))
    (low : (i j : ℕ) → i < 4 → j < 15 → bit z (16 * i + j) ≡ false) where
  -- what comes down into the highest bit of a field
  first : (i : ℕ) → i < 4 → bit r (16 * i + 16) ≡ false
  unfolding Shut
  first i h =
      either (lt? i 3)
      (λ l.
      let e : 16 * i + 16 ≡ 16 * (i + 1) + 0 = omega arith in
      ap (bit r) e ∙ (S (i + 1) 0 (omega arith) (omega arith) ∙ rw (lt-ltb 0 (16 - q) (omega arith))))
      (λ l. bit_over 64 r (16 * i + 16) small (omega arith))

  pub shut_more : Shut gate (q + 1) (bit_or (r / 2 ^ 1) z)
  unfolding Shut
  shut_more i j h k =
      bit_or_lem (r / 2 ^ 1) z (16 * i + j)
      ∙ either (lt? j 15)
      (λ l.
      let e : 1 + (16 * i + j) ≡ 16 * i + (j + 1) = omega arith in
      let g : j + 1 + q - 16 ≡ j + (q + 1) - 16 = omega arith in
      rw (bit_shr r 1 (16 * i + j), low i j h l.1, e, S i (j + 1) h (omega arith), g)
      (either (lt? j (16 - (q + 1)))
      (λ t. rw (t.0, lt-ltb (j + 1) (16 - q) (omega arith)))
      (λ t. rw (t.0, le-ltb (j + 1) (16 - q) (omega arith)) (or-false (not (gate (4 * (j + (q + 1) - 16) + i)))))))
      (λ l.
      let y : j ≡ 15 = omega arith in
      let e : 1 + (16 * i + 15) ≡ 16 * i + 16 = omega arith in
      let g : 15 + (q + 1) - 16 ≡ q = omega arith in
      rw (y, bit_shr r 1 (16 * i + 15), e, first i h, top i h, g, le-ltb 15 (16 - (q + 1)) (omega arith)))

-- ---- a filter of 64 bits, a bit more below those of later words

pub word_has : (bytes : List ℕ) (at m k x b : ℕ) → Word64 bytes (at + k * 8) x
    → bit b 0 ≡ not (any (λ i. bit m i && not (bit x i)) 64) → bit b 0 ≡ has_mask bytes at 64 m k
unfolding Word64 has_mask
word_has bytes at m k x b W e =
    e ∙ ap not (any_ext (λ i. bit m i && not (bit x i)) (λ i. bit m i && not (bit_in bytes at (k * 64 + i))) 64 own)
  where
    own : (i : ℕ) → i < 64 → (bit m i && not (bit x i)) ≡ (bit m i && not (bit_in bytes at (k * 64 + i)))
    own i l =
        let p : at + k * 8 + i / 8 ≡ at + (k * 64 + i) / 8 = omega arith in
        let q : i % 8 ≡ (k * 64 + i) % 8 = omega arith in
        rw (W i l, p, q)

pub open_more : (gate : ℕ → Bool) (k k1 n n1 r b : ℕ) → k1 ≡ k + 1 → n1 ≡ n + 1 → b < 2 → bit b 0 ≡ gate k
    → Open gate k1 n r → Open gate k n1 (bit_or ((r * 2 ^ 1) % 2 ^ 64) b)
unfolding Open
open_more gate k k1 n n1 r b ek en small own R zero h =
    let z : k + 0 ≡ k = omega arith in
    rw (bit_or_lem ((r * 2 ^ 1) % 2 ^ 64) b 0, bit_shl_low r 1 64 0 (omega arith) (omega arith), lt-ltb 0 n1 (omega arith), z) own
open_more gate k k1 n n1 r b ek en small own R (suc i) h =
    let s : 1 + i ≡ suc i = omega arith in
    let z : k1 + i ≡ k + suc i = omega arith in
    let u : bit ((r * 2 ^ 1) % 2 ^ 64) (suc i) ≡ bit r i = rw s at (bit_shl r 1 64 i (omega arith)) in
    rw (bit_or_lem ((r * 2 ^ 1) % 2 ^ 64) b (suc i), u, bit_over 1 b (suc i) small (omega arith), same_lt i n (suc i) n1 (omega arith) en)
    (or-false (bit r i) ∙ (R i (omega arith) ∙ ap (λ (y : ℕ). ltb i n && gate y) z))
