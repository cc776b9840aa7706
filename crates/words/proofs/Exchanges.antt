-- Bits of a word change places, by a mask at a time.
use mathlib.Core.Path.{◌≡◌, refl, ap, ◌∙◌}
use mathlib.Core.Bool.{Bool, true, false, ◌&&◌, xor}
use Prim.Native.Nat.{ℕ, ◌+◌, ◌*◌, ◌-◌, ◌/◌, ◌%◌, ◌^◌, ◌≤◌, ◌<◌}
use native.Mathlib.Omega.{arith}
use lib.Bits.{bit_and, bit_xor}
use Rattle.memory.specs.Bits.{bit, bit_and_lem, bit_xor_lem, bit_shr, bit_shl, bit_shl_low}
use Rattle.memory.specs.Cases.{either, bool?, lt?}
use Rattle.words.specs.Exchanges.{Apart, origin, Exchanged}

-- ---- tests

up : (a b : Bool) → xor (xor a (xor a b && true)) false ≡ b
unfolding xor
up true true = refl
up true false = refl
up false true = refl
up false false = refl

down : (a t b : Bool) → xor (xor a (t && false)) (xor b a && true) ≡ b
unfolding xor
down true true true = refl
down true true false = refl
down true false true = refl
down true false false = refl
down false true true = refl
down false true false = refl
down false false true = refl
down false false false = refl

stay : (a t : Bool) → xor (xor a (t && false)) false ≡ a
unfolding xor
stay true true = refl
stay true false = refl
stay false true = refl
stay false false = refl

none : (t : Bool) → (t && false) ≡ false
none true = refl
none false = refl

-- ---- one exchange

module _ (s m x : ℕ) (A : Apart s m) where
  -- the bits that change, at their lower places and at their upper ones
  abbrev changes : ℕ
  changes = bit_and (bit_xor x (x / 2 ^ s)) m

  abbrev above : ℕ
  above = (changes * 2 ^ s) % 2 ^ 64

  change : (i : ℕ) → bit changes i ≡ (xor (bit x i) (bit x (s + i)) && bit m i)
  change i = bit_and_lem (bit_xor x (x / 2 ^ s)) m i ∙ ap (λ (t : Bool). t && bit m i) (bit_xor_lem x (x / 2 ^ s) i ∙ ap (xor (bit x i)) (bit_shr x s i))

  high : (i : ℕ) → s ≤ i → i < 64 → bit above i ≡ (xor (bit x (i - s)) (bit x i) && bit m (i - s))
  high i h l =
      let e : s + (i - s) ≡ i = omega arith in
      (rw e at (bit_shl changes s 64 (i - s) (omega arith))) ∙ (rw e at (change (i - s)))

  -- where the lower of two is, no upper one is
  lower : (i : ℕ) → i < 64 → bit m i ≡ true → bit above i ≡ false
  unfolding Apart
  lower i l h =
      either (lt? i s)
      (λ t. bit_shl_low changes s 64 i t.1 l)
      (λ t.
      let e : s + (i - s) ≡ i = omega (arith, t.1) in
      high i t.1 l
      ∙ either (bool? (bit m (i - s)))
      (λ u. let f : bit m i ≡ false = rw e at (A (i - s) (omega arith) u).1 in absurd (let z : ◌≡◌ {A = Bool} true false = cc in let k : ◌≡◌ {A = ℕ} 0 1 = cc in omega arith))
      (λ u. rw u (none (xor (bit x (i - s)) (bit x i)))))

  pub exchange : Exchanged s m x (bit_xor (bit_xor x changes) above)
  unfolding Exchanged origin
  exchange i l =
      bit_xor_lem (bit_xor x changes) above i
      ∙ (ap (λ (t : Bool). xor t (bit above i)) (bit_xor_lem x changes i ∙ ap (xor (bit x i)) (change i))
      ∙ either (bool? (bit m i))
      (λ h. rw (lower i l h, h) (up (bit x i) (bit x (s + i))))
      (λ h.
      either (lt? i s)
      (λ t. rw (bit_shl_low changes s 64 i t.1 l, h, t.0) (stay (bit x i) (xor (bit x i) (bit x (s + i)))))
      (λ t.
      either (bool? (bit m (i - s)))
      (λ u. rw (high i t.1 l, h, t.0, u) (down (bit x i) (xor (bit x i) (bit x (s + i))) (bit x (i - s))))
      (λ u. rw (high i t.1 l, h, t.0, u, none (xor (bit x (i - s)) (bit x i))) (stay (bit x i) (xor (bit x i) (bit x (s + i))))))))
