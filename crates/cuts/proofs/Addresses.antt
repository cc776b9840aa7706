-- Addresses of the bytes of filter bits: inside a set's pages, inside a sector of L1.
use Rattle.std.specs.Prelude.{◌≡◌, ℕ, ◌+◌, ◌*◌, ◌/◌, ◌%◌, ◌≤◌, ◌<◌}
use Rattle.std.proofs.Common.{ap, mul-le-mul_right, mod-lt, arith}
use Rattle.std.proofs.Math.Arith.{digits_lt}
use Rattle.memory.specs.Numbers.{euclid, div_lt}

-- of a set of P pages with w bits of each of N filters to a page
pub set_address : (u N P w g x : ℕ) → 0 < w → P * w ≡ 64 * u → N ≤ 8 * P → g < N → x < 64 * u
    → x / w * (64 * u) + (g * w + x % w) / 8 < P * (64 * u)
set_address u N P w g x pw whole small hg hx =
    let E = euclid x w pw in
    let gw : g * w + w ≤ 8 * (P * w) = omega (arith, mul-le-mul_right w hg, mul-le-mul_right w small) in
    let y_lt : (g * w + x % w) / 8 < 64 * u = omega arith in
    let p_lt : x / w < P = div_lt x w P pw (omega arith) in
    digits_lt p_lt y_lt

-- of L1: filter f of the round lies in sector 16 (x / S) + f / 8
pub l1_address : (u f x : ℕ) → 0 < u → (f % 8 * (16 * u) + x % (16 * u)) / 8 < 16 * u
l1_address u f x pu =
    let E = euclid x (16 * u) (omega arith) in
    omega (arith, mul-le-mul_right (16 * u) (mod-lt f {m = 8} (omega arith)))

pub l1_sector : (u f x : ℕ)
    → (4 * (x / (16 * u)) + f / 8 / 4) * (64 * u) + f / 8 % 4 * (16 * u) ≡ (16 * (x / (16 * u)) + f / 8) * (16 * u)
l1_sector u f x =
    let f4 : (f / 8 / 4 * 4 + f / 8 % 4) * (16 * u) ≡ f / 8 * (16 * u) = ap (λ (n : ℕ). n * (16 * u)) (omega arith) in
    omega arith

pub l1_sector_lt : (u f x : ℕ) → 0 < u → f < 128 → x < 64 * u → 16 * (x / (16 * u)) + f / 8 < 64
l1_sector_lt u f x pu hf hx =
    let i4 : x / (16 * u) < 4 = div_lt x (16 * u) 4 (omega arith) (omega arith) in
    omega arith
