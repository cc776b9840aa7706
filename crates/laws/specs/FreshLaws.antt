-- The laws of freshness that proofs cite: of what erasing and programming write, and of that with up to three wrong bits. Document 02, §3.
use Rattle.std.specs.Prelude.{◌≡◌, refl, ◌⊎◌, true, false, ℕ, zero, suc, ◌+◌, ◌-◌, ◌*◌, ◌/◌, ◌%◌, ◌^◌, ◌≤◌, ◌<◌}
use Rattle.std.proofs.Common.{sym, ap, ◌∙◌, inl, inr, arith, pow_pos, le-leb}
use Rattle.std.specs.Int.Bits.{bit_xor, differ, xor_step, xor_zero_r, xor_self}
use Rattle.std.specs.Int.Count.{ones_in}
use Rattle.std.proofs.lemmas.Bool.{lt-leb}
use Rattle.layout.specs.Flash.{fresh}

-- what programming and erasing write to a spare byte
abbrev pub Written : ℕ → Type 0
Written byte = (byte ≡ 0) ⊎ (byte ≡ 255)

-- in how many of their eight bits two bytes differ
abbrev pub wrong_bits : ℕ → ℕ → ℕ
wrong_bits a b = ones_in 8 (bit_xor a b)

-- as many may be wrong: FF with three zeros still has five ones, 00 with three ones has fewer
abbrev pub most_wrong : ℕ
most_wrong = 3

-- ---- what is written

pub erased_fresh : fresh 255 ≡ true
unfolding fresh ones_in
erased_fresh = refl

pub programmed_not : fresh 0 ≡ false
unfolding fresh ones_in
programmed_not = refl

-- ---- wrong bits

pub none_wrong : (byte : ℕ) → wrong_bits byte byte ≡ 0
unfolding ones_in
none_wrong byte = rw (xor_self byte)

differ_one : (x : ℕ) → x < 2 → differ x 1 ≡ 1 - x
differ_one zero l = refl
differ_one (suc zero) l = refl
differ_one (suc (suc x)) l = absurd (omega arith)

-- the ones of d bits, and those of the d bits flipped, are d
ones_flip : (d a : ℕ) → ones_in d a + ones_in d (bit_xor a (2 ^ d - 1)) ≡ d
unfolding ones_in
ones_flip zero a = refl
ones_flip (suc d) a =
    let p : 0 < 2 ^ d = pow_pos d in
    let half : (2 ^ suc d - 1) / 2 ≡ 2 ^ d - 1 = omega (arith, p) in
    let odd : (2 ^ suc d - 1) % 2 ≡ 1 = omega (arith, p) in
    let low : a % 2 < 2 = omega arith in
    let step : bit_xor a (2 ^ suc d - 1) ≡ bit_xor (a / 2) (2 ^ d - 1) * 2 + (1 - a % 2)
    = xor_step a (2 ^ suc d - 1) ∙ rw (half, odd, differ_one (a % 2) low) in
    let high : bit_xor a (2 ^ suc d - 1) / 2 ≡ bit_xor (a / 2) (2 ^ d - 1) = omega (arith, step, low) in
    let last : bit_xor a (2 ^ suc d - 1) % 2 ≡ 1 - a % 2 = omega (arith, step, low) in
    rw (high, last) (omega (arith, ones_flip d (a / 2), low))

-- a spare byte with up to three wrong bits decides as the one that was written
pub worn_fresh : (worn sound : ℕ) → Written sound → wrong_bits worn sound ≤ most_wrong → fresh worn ≡ fresh sound
unfolding fresh
worn_fresh worn sound (inl z) few =
    let e : wrong_bits worn sound ≡ ones_in 8 worn = rw z (ap (ones_in 8) (xor_zero_r worn)) in
    lt-leb 5 (ones_in 8 worn) (omega (arith, e, few)) ∙ rw z (sym programmed_not)
worn_fresh worn sound (inr o) few =
    let e : wrong_bits worn sound ≡ ones_in 8 (bit_xor worn 255) = rw o in
    let f : ones_in 8 worn + ones_in 8 (bit_xor worn 255) ≡ 8 = ones_flip 8 worn in
    le-leb 5 (ones_in 8 worn) (omega (arith, e, f, few)) ∙ rw o (sym erased_fresh)
