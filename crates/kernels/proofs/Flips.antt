-- A word with all bits flipped, and one with one bit cleared.
use mathlib.Core.Path.{◌≡◌, sym, ap, ◌∙◌}
use mathlib.Core.Bool.{Bool, ◌&&◌, not, and_comm}
use Prim.Native.Nat.{ℕ, zero, suc, ◌+◌, ◌*◌, ◌-◌, ◌/◌, ◌%◌, ◌^◌, ◌<◌}
use native.Mathlib.Nat.{mod-lt}
use native.Mathlib.Omega.{arith}
use lib.Bits.{bit_and}
use lib.Dec.{eqb}
use lib.Pow.{pow_pos}
use borrow.Author.Tests.{eq-eqb, ne_eqb}
use Rattle.memory.specs.Bits.{bit, bit_and_lem, bit_shl, bit_shl_low}
use Rattle.memory.specs.Cases.{either, lt?, eq?}
use Rattle.kernels.proofs.Bits.{bit_over}

-- ---- all bits flipped

pub flip : (k m i : ℕ) → m < 2 ^ k → i < k → bit (2 ^ k - 1 - m) i ≡ not (bit m i)
unfolding bit
flip zero m i h l = absurd (omega arith)
flip (suc k) m zero h l =
    either (eq? (m % 2) 1)
    (λ t. let o : (2 ^ suc k - 1 - m) % 2 ≡ 0 = omega (arith, t.1, pow_pos k) in rw (o, t.1))
    (λ t.
    let ne = t.1 in
    let z : m % 2 ≡ 0 = omega (arith, ne) in
    let o : (2 ^ suc k - 1 - m) % 2 ≡ 1 = omega (arith, z, pow_pos k) in
    rw (o, z))
flip (suc k) m (suc i) h l =
    let o : (2 ^ suc k - 1 - m) / 2 ≡ 2 ^ k - 1 - m / 2 = omega (arith, pow_pos k) in
    ap (λ (y : ℕ). bit y i) o ∙ flip k (m / 2) i (omega arith) (omega arith)

-- ---- one bit cleared

-- the only bit of a power of two
pub one_bit : (f i : ℕ) → f < 64 → i < 64 → bit ((1 * 2 ^ f) % 2 ^ 64) i ≡ eqb i f
unfolding bit
one_bit f i h l =
    either (lt? i f)
    (λ t. bit_shl_low 1 f 64 i t.1 l ∙ sym (ne_eqb i f (λ e. absurd (omega (arith, t.1, e)))))
    (λ t.
    either (eq? i f)
    (λ e. let k : f + 0 ≡ i = omega (arith, e.1) in (rw k at (bit_shl 1 f 64 0 (omega arith))) ∙ sym (eq-eqb i f e.1))
    (λ e.
    let ne = e.1 in
    let k : f + (i - f) ≡ i = omega (arith, t.1) in
    (rw k at (bit_shl 1 f 64 (i - f) (omega arith))) ∙ (bit_over 1 1 (i - f) (omega arith) (omega (arith, t.1, ne)) ∙ sym (ne_eqb i f ne))))

pub cleared : (x f i : ℕ) → f < 64 → i < 64 → bit (bit_and x (18446744073709551615 - (1 * 2 ^ f) % 2 ^ 64)) i ≡ (not (eqb i f) && bit x i)
cleared x f i h l =
    let m = (1 * 2 ^ f) % 2 ^ 64 in
    bit_and_lem x (18446744073709551615 - m) i
    ∙ (ap (λ (t : Bool). bit x i && t) (flip 64 m i (mod-lt (1 * 2 ^ f) (pow_pos 64)) l ∙ ap not (one_bit f i h l)) ∙ and_comm (bit x i) (not (eqb i f)))
