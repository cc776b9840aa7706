-- Filters of whole bytes: where the byte of a position lies, and what it has.
use mathlib.Core.Path.{◌≡◌, ap}
use mathlib.Core.List.{List}
use Prim.Native.Nat.{ℕ, zero, suc, ◌+◌, ◌*◌, ◌/◌, ◌%◌, ◌^◌, ◌≤◌, ◌<◌}
use native.Mathlib.Nat.{mul-le-mul_right}
use native.Mathlib.Omega.{arith}
use lib.ListN.{get_or}
use Rattle.memory.specs.Bits.{bit, bit_in}

pub eighth : (e w : ℕ) → w ≡ 2 ^ e → 3 ≤ e → w / 8 * 8 ≡ w
eighth zero w c h = absurd (omega arith)
eighth (suc zero) w c h = absurd (omega arith)
eighth (suc (suc zero)) w c h = absurd (omega arith)
eighth (suc (suc (suc e))) w c h = omega arith

module _ (row w step first n len : ℕ) (e : step * 8 ≡ w) (reach : row + (first + n * 8 + 7) / 8 * w ≤ len) where
  -- the filters' bytes of the row
  all_in : row + (first + n * 8) * step ≤ len
  all_in =
      let k : first + n * 8 ≤ (first + n * 8 + 7) / 8 * 8 = omega arith in
      let t = mul-le-mul_right step k in
      let z : (first + n * 8 + 7) / 8 * w ≡ (first + n * 8 + 7) / 8 * 8 * step = omega (arith, ap (λ (y : ℕ). (first + n * 8 + 7) / 8 * y) e) in
      omega (arith, t, z, reach)

  pub first_in : row + first * step ≤ len
  first_in = omega (arith, all_in)

  pub byte_in : (low i : ℕ) → low < w → i < n * 8 → row + first * step + low / 8 + i * step < len
  byte_in low i h l =
      let g : low / 8 < step = omega arith in
      let t : suc i * step ≤ n * 8 * step = mul-le-mul_right step l in
      omega (arith, all_in, t)

-- bit `low` of a filter of `step` bytes, by the byte that has it
pub step_bit : (bytes : List ℕ) (row low first step i y : ℕ) → bit y i ≡ bit (get_or bytes (row + first * step + low / 8 + i * step) 0) (low % 8)
    → bit y i ≡ bit_in bytes row ((first + i) * (step * 8) + low)
step_bit bytes row low first step i y e =
    let d : row + ((first + i) * (step * 8) + low) / 8 ≡ row + first * step + low / 8 + i * step = omega arith in
    let m : ((first + i) * (step * 8) + low) % 8 ≡ low % 8 = omega arith in
    rw (d, m) e

-- ---- a few filters

module _ (row w step n low len : ℕ) (e : step * 8 ≡ w) (reach : row + (n + 7) / 8 * w ≤ len) (h : low < w) where
  pub few_in : (i : ℕ) → i < n → row + low / 8 + i * step < len
  few_in i l =
      let k : n ≤ (n + 7) / 8 * 8 = omega arith in
      let t = mul-le-mul_right step k in
      let z : (n + 7) / 8 * w ≡ (n + 7) / 8 * 8 * step = omega (arith, ap (λ (y : ℕ). (n + 7) / 8 * y) e) in
      let q : low / 8 < step = omega arith in
      let s : suc i * step ≤ n * step = mul-le-mul_right step l in
      omega (arith, t, z, reach, s)

  -- one past them is a number of the machine
  pub few_fits : w ≤ 512 → len < 2 ^ 63 → row + low / 8 + n * step < 2 ^ 64
  few_fits m l =
      let k : n ≤ (n + 7) / 8 * 8 = omega arith in
      let t = mul-le-mul_right step k in
      let z : (n + 7) / 8 * w ≡ (n + 7) / 8 * 8 * step = omega (arith, ap (λ (y : ℕ). (n + 7) / 8 * y) e) in
      omega (arith, t, z, reach)

pub few_bit : (bytes : List ℕ) (row low step i y : ℕ) → bit y i ≡ bit (get_or bytes (row + low / 8 + i * step) 0) (low % 8)
    → bit y i ≡ bit_in bytes row (i * (step * 8) + low)
few_bit bytes row low step i y e =
    let d : row + (i * (step * 8) + low) / 8 ≡ row + low / 8 + i * step = omega arith in
    let m : (i * (step * 8) + low) % 8 ≡ low % 8 = omega arith in
    rw (d, m) e
