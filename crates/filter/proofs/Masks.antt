-- Positions in one row as a mask: a filter has all of them if it has all bits of the mask.
use mathlib.Core.Path.{◌≡◌, refl, sym, ap, ◌∙◌}
use mathlib.Core.Bool.{Bool, true, false, ◌&&◌, not, false≢true, or_comm}
use mathlib.Core.List.{List}
use Prim.Native.Nat.{ℕ, zero, suc, ◌+◌, ◌*◌, ◌/◌, ◌%◌, ◌^◌, ◌≤◌, ◌<◌}
use native.Mathlib.Nat.{mod-lt}
use native.Mathlib.Numerals.{add-one}
use native.Mathlib.Omega.{arith}
use borrow.Author.Tests.{eq-eqb, eqb-true}
use lib.Dec.{eqb}
use lib.ListN.{length, get_or, take}
use lib.Pow.{pow_pos}
use lib.Bits.{bit_or, bit_xor, or_add_and, xor_add_and, and_le_l, and_le_r, or_shr, xor_shr}
use Rattle.memory.specs.Bits.{bit, bit_in, bit_or_lem, bit_zero}
use Rattle.memory.specs.Cases.{either, bool?, lt?}
use Rattle.memory.specs.Ranges.{any, any_at, all_of, any_no}
use Rattle.kernels.specs.Masks.{has_mask}
use Rattle.filter.specs.Groups.{row_at, level_has}
use Rattle.filter.specs.Recent.{MaskOf, OneRow}
use Rattle.filter.specs.declared.groups.Level.{Level}
use Rattle.filter.proofs.Rows.{all_take}

-- ---- some, and all of the first

-- one that passes
any_some : (f : ℕ → Bool) (n : ℕ) → any f n ≡ true → (i : ℕ) × (i < n) × (f i ≡ true)
unfolding any
any_some f zero e = absurd (false≢true e)
any_some f (suc n) e =
    either (bool? (f n))
    (λ h. (n, omega arith, h))
    (λ h. let r = any_some f n (rw h at e) in (r.0, omega (arith, r.1), r.2))

all_at : (f : ℕ → Bool) (ps : List ℕ) (k i : ℕ) → k ≤ length ps → all_of f (take k ps) ≡ true → i < k → f (get_or ps i 0) ≡ true
all_at f ps zero i h e l = absurd (omega arith)
all_at f ps (suc k) i h e l =
    let s = sym (all_take f ps k h) ∙ e in
    either (bool? (f (get_or ps k 0)))
    (λ t. either (lt? i k)
    (λ q. all_at f ps k i (omega arith) (rw t at s) q.1)
    (λ q. let z : i ≡ k = omega (arith, q.1) in rw z t))
    (λ t. absurd (false≢true (rw t at s)))

all_not : (f : ℕ → Bool) (ps : List ℕ) (k : ℕ) → k ≤ length ps → all_of f (take k ps) ≡ false → (i : ℕ) × (i < k) × (f (get_or ps i 0) ≡ false)
unfolding all_of
all_not f ps zero h e = absurd (false≢true (sym e))
all_not f ps (suc k) h e =
    let s = sym (all_take f ps k h) ∙ e in
    either (bool? (f (get_or ps k 0)))
    (λ t. let r = all_not f ps k (omega arith) (rw t at s) in (r.0, omega (arith, r.1), r.2))
    (λ t. (k, omega arith, t))

pub all_same : (f g : ℕ → Bool) (ps : List ℕ) (k : ℕ) → k ≤ length ps → ((i : ℕ) → i < k → f (get_or ps i 0) ≡ g (get_or ps i 0))
    → all_of f (take k ps) ≡ all_of g (take k ps)
unfolding all_of
all_same f g ps zero h e = refl
all_same f g ps (suc k) h e =
    all_take f ps k h
    ∙ (rw (e k (omega arith), all_same f g ps k (omega arith) (λ i l. e i (omega arith))) (sym (all_take g ps k h)))

-- ---- a mask

module _ (ps : List ℕ) (count w m : ℕ) (few : count ≤ length ps) (W : 0 < w) (top : w ≤ 64) (M : MaskOf ps count w m) (bytes : List ℕ) (row g : ℕ) where
  abbrev has : ℕ → Bool
  has x = bit_in bytes row (g * w + x % w)

  abbrev shut : ℕ → Bool
  shut b = bit m b && not (bit_in bytes row (g * w + b))

  open_all : all_of has (take count ps) ≡ true → (b : ℕ) → b < w → shut b ≡ false
  open_all e b h =
      either (bool? (bit m b))
      (λ t.
      let s = any_some (λ i. eqb b (get_or ps i 0 % w)) count (sym (M b (omega arith)) ∙ t) in
      let q : get_or ps s.0 0 % w ≡ b = sym (eqb-true b (get_or ps s.0 0 % w) s.2) in
      let y : bit_in bytes row (g * w + b) ≡ true = rw q at (all_at has ps count s.0 few e s.1) in
      rw (t, y) refl)
      (λ t. rw t refl)

  pub mask_all : has_mask bytes row w m g ≡ all_of (λ x. bit_in bytes row (g * w + x % w)) (take count ps)
  unfolding has_mask
  mask_all =
      either (bool? (all_of has (take count ps)))
      (λ e. rw (any_no shut w (open_all e)) (sym e))
      (λ e.
      let s = all_not has ps count few e in
      let b : ℕ = get_or ps s.0 0 % w in
      let l : b < w = mod-lt (get_or ps s.0 0) W in
      let t : bit m b ≡ true = M b (omega arith) ∙ any_at (λ i. eqb b (get_or ps i 0 % w)) count s.0 s.1 (eq-eqb b b refl) in
      let y : shut b ≡ true = rw (t, s.2) refl in
      rw (any_at shut w b l y) (sym e))

pub mask_none : (ps : List ℕ) (w : ℕ) → MaskOf ps 0 w 0
unfolding any
mask_none ps w b h = bit_zero b

-- a position more
pub mask_more : (ps : List ℕ) (i w m x : ℕ) → MaskOf ps i w m → ((b : ℕ) → b < 64 → bit x b ≡ eqb b (get_or ps i 0 % w)) → MaskOf ps (i + 1) w (bit_or m x)
unfolding any
mask_more ps i w m x M X b h =
    rw add-one (bit_or_lem m x b ∙ (rw (M b h, X b h) (or_comm (any (λ j. eqb b (get_or ps j 0 % w)) i) (eqb b (get_or ps i 0 % w)))))

-- the filters of a level by a mask
module _ (l : Level) (ps : List ℕ) (count m : ℕ) (few : count ≤ length ps) (top : 2 ^ l.exponent ≤ 64) (M : MaskOf ps count (2 ^ l.exponent) m)
    (one : (i : ℕ) → i < count → get_or ps i 0 / 2 ^ l.exponent ≡ get_or ps 0 0 / 2 ^ l.exponent) where
  pub level_mask : (bytes : List ℕ) (g : ℕ) → has_mask bytes (row_at l (get_or ps 0 0)) (2 ^ l.exponent) m g ≡ level_has l bytes (take count ps) g
  level_mask bytes g =
      mask_all ps count (2 ^ l.exponent) m few (pow_pos l.exponent) top M bytes (row_at l (get_or ps 0 0)) g
      ∙ all_same
      (λ x. bit_in bytes (row_at l (get_or ps 0 0)) (g * 2 ^ l.exponent + x % 2 ^ l.exponent))
      (λ x. bit_in bytes (row_at l x) (g * 2 ^ l.exponent + x % 2 ^ l.exponent))
      ps count few
      (λ i h. ap (λ (z : ℕ). bit_in bytes (l.base + z * l.stride) (g * 2 ^ l.exponent + get_or ps i 0 % 2 ^ l.exponent)) (sym (one i h)))

-- ---- in one row

-- nothing is set in a disjunction of which nothing is set
or_nothing : (a b : ℕ) → bit_or a b ≡ 0 → (a ≡ 0) × (b ≡ 0)
or_nothing a b e = (omega (arith, or_add_and a b, and_le_r a b, e), omega (arith, or_add_and a b, and_le_l a b, e))

xor_nothing : (a b : ℕ) → bit_xor a b ≡ 0 → a ≡ b
xor_nothing a b e = omega (arith, xor_add_and a b, and_le_l a b, and_le_r a b, e)

-- those that differ from the first in no bit from e on
pub row_more : (ps : List ℕ) (i e d : ℕ) → (d / 2 ^ e ≡ 0 → OneRow ps i e)
    → bit_or d (bit_xor (get_or ps i 0) (get_or ps 0 0)) / 2 ^ e ≡ 0 → OneRow ps (i + 1) e
row_more ps i e d R z j h =
    let o = or_nothing (d / 2 ^ e) (bit_xor (get_or ps i 0) (get_or ps 0 0) / 2 ^ e) (sym (or_shr d (bit_xor (get_or ps i 0) (get_or ps 0 0)) e) ∙ z) in
    either (lt? j i)
    (λ l. R o.0 j l.1)
    (λ l.
    let q : j ≡ i = omega (arith, l.1) in
    rw q (xor_nothing (get_or ps i 0 / 2 ^ e) (get_or ps 0 0 / 2 ^ e) (sym (xor_shr (get_or ps i 0) (get_or ps 0 0) e) ∙ o.1)))
