-- The numbers of each width.
use mathlib.Core.Path.{◌≡◌, refl}
use Prim.Native.Nat.{ℕ, zero, suc, ◌+◌, ◌*◌, ◌/◌, ◌%◌, ◌^◌, ◌≤◌, ◌<◌}
use native.Mathlib.Omega.{arith}
use lib.Pow.{pow_pos}

-- w = 8 to 64
pub record More (e w from m n : ℕ) : Type 0 where
  pub low_e : 2 < e
  pub high_e : e < 7
  pub word : 64 / w * w ≡ 64
  pub fits : n * 8 * (64 / w) ≤ 64
  pub n_le : n ≤ 8
  pub first : from / 64 * w * (64 / w) ≡ from
  pub enough : m ≤ n * 8 * (64 / w)
  pub q_lt : from / 64 * w < 2 ^ 60
  pub in_block : (b : ℕ) → b < n → (from / 64 * w + b * 8) * 8 + 64 ≤ ((from + m) * w + 511) / 512 * 64

pub more : (e w from m n : ℕ) → w ≡ 2 ^ e → 8 ≤ w → w < 128 → from % 64 ≡ 0 → 0 < m → m ≤ 64 → (from + m) * w < 2 ^ 60 → n ≡ (m * w + 511) / 512 → More e w from m n
more zero w from m n c h l f p q s k = absurd (omega arith)
more (suc zero) w from m n c h l f p q s k = absurd (omega arith)
more (suc (suc zero)) w from m n c h l f p q s k = absurd (omega arith)
more (suc (suc (suc zero))) w from m n c h l f p q s k = let t = rw c at s in let u = rw c at k in
    rw c (record { low_e = omega arith; high_e = omega arith; word = refl; fits = omega arith; n_le = omega arith; first = omega arith; enough = omega arith; q_lt = omega arith; in_block = λ b j. omega arith })
more (suc (suc (suc (suc zero)))) w from m n c h l f p q s k = let t = rw c at s in let u = rw c at k in
    rw c (record { low_e = omega arith; high_e = omega arith; word = refl; fits = omega arith; n_le = omega arith; first = omega arith; enough = omega arith; q_lt = omega arith; in_block = λ b j. omega arith })
more (suc (suc (suc (suc (suc zero))))) w from m n c h l f p q s k = let t = rw c at s in let u = rw c at k in
    rw c (record { low_e = omega arith; high_e = omega arith; word = refl; fits = omega arith; n_le = omega arith; first = omega arith; enough = omega arith; q_lt = omega arith; in_block = λ b j. omega arith })
more (suc (suc (suc (suc (suc (suc zero)))))) w from m n c h l f p q s k = let t = rw c at s in let u = rw c at k in
    rw c (record { low_e = omega arith; high_e = omega arith; word = refl; fits = omega arith; n_le = omega arith; first = omega arith; enough = omega arith; q_lt = omega arith; in_block = λ b j. omega arith })
more (suc (suc (suc (suc (suc (suc (suc e))))))) w from m n c h l f p q s k = absurd (omega (arith, pow_pos e))
