-- A byte of a row of fields: a byte of the source where the fields have whole bytes, or put together out of fields.
use mathlib.Core.Path.{◌≡◌, sym, ap, ◌∙◌}
use mathlib.Core.List.{List}
use Prim.Native.Nat.{ℕ, ◌+◌, ◌*◌, ◌/◌, ◌%◌, ◌≤◌, ◌<◌}
use native.Mathlib.Omega.{arith}
use lib.ListN.{get_or}
use lib.Pow.{pow_pos, pow_mono}
use Rattle.memory.specs.Bits.{bit, bit_in}
use Rattle.memory.specs.Cases.{lt?, either}
use Rattle.memory.specs.Numbers.{euclid, div_of, mod_of}
use Rattle.fields.specs.declared.Source.{Source}
use Rattle.fields.specs.Laws.{pack_byte, pow_whole}
use Rattle.fields.specs.Sources.{field_byte, run_byte, Aligned, Reaches}

-- ---- fields next to one another: the source's own bytes

module _ (bytes : List ℕ) (s : Source) (w y : ℕ) (A : Aligned s w) (same : s.step ≡ w) where
  w_pos : 0 < w
  w_pos = rw A.w_is (pow_pos A.k)

  pub same_inside : (len : ℕ) → Reaches len s w y → s.at + y < len
  same_inside len R =
      let E = euclid (y * 8 + 7) w w_pos in
      omega (arith, R.inside, ap (λ (n : ℕ). (y * 8 + 7) / w * n) same)

  pub same_byte : get_or bytes (s.at + y) 0 < 256 → get_or bytes (s.at + y) 0 ≡ field_byte bytes s w y
  unfolding field_byte
  same_byte small = sym (pack_byte _ (get_or bytes (s.at + y) 0) small one)
    where
      one : (b : ℕ) → b < 8 → bit_in bytes s.at ((y * 8 + b) / w * s.step + (s.low + (y * 8 + b) % w)) ≡ bit (get_or bytes (s.at + y) 0) b
      one b h =
          let E = euclid (y * 8 + b) w w_pos in
          let z : s.low ≡ 0 = omega (arith, A.room) in
          let q : (y * 8 + b) / w * s.step + (s.low + (y * 8 + b) % w) ≡ y * 8 + b = omega (arith, ap (λ (n : ℕ). (y * 8 + b) / w * n) same) in
          let d : (y * 8 + b) / 8 ≡ y = omega arith in
          let m : (y * 8 + b) % 8 ≡ b = omega arith in
          rw (q, d, m)

-- ---- fields of whole bytes

module _ (bytes : List ℕ) (s : Source) (w y : ℕ) (A : Aligned s w) (big : 8 ≤ w) where
  pub bytes_whole : w / 8 * 8 ≡ w
  bytes_whole =
      let k3 : 3 ≤ A.k = either (lt? A.k 3) (λ a. let l : A.k ≤ 2 = omega arith in absurd (omega (arith, pow_mono l, A.w_is))) (λ a. a.1) in
      rw A.w_is (pow_whole A.k 3 k3)

  abbrev n : ℕ
  n = w / 8

  pub n_pos : 0 < n
  n_pos = omega (arith, bytes_whole)

  step_whole : s.step / 8 * 8 ≡ s.step
  step_whole =
      let e : s.step ≡ A.steps * n * 8 = A.step_is ∙ omega (arith, ap (λ (x : ℕ). A.steps * x) bytes_whole) in
      omega arith

  low_whole : s.low / 8 * 8 ≡ s.low
  low_whole =
      let e : s.low ≡ A.lows * n * 8 = A.low_is ∙ omega (arith, ap (λ (x : ℕ). A.lows * x) bytes_whole) in
      omega arith

  field : (b : ℕ) → b < 8 → (y * 8 + b) / w ≡ y / n
  field b h =
      let E = euclid y n n_pos in
      div_of (y * 8 + b) w (y / n) (y % n * 8 + b) (omega (arith, ap (λ (x : ℕ). y / n * x) bytes_whole)) (omega (arith, bytes_whole))

  place : (b : ℕ) → b < 8 → (y * 8 + b) % w ≡ y % n * 8 + b
  place b h =
      let E = euclid y n n_pos in
      mod_of (y * 8 + b) w (y / n) (y % n * 8 + b) (omega (arith, ap (λ (x : ℕ). y / n * x) bytes_whole)) (omega (arith, bytes_whole))

  -- a field's bytes are a run
  pub run_in : (len : ℕ) → Reaches len s w y → s.at + s.low / 8 + (y / n * (s.step / 8) + y % n) < len
  run_in len R =
      let E = euclid y n n_pos in
      let i : s.at * 8 + (y / n * s.step + (s.low + w)) ≤ len * 8 = rw (field 7 (omega arith)) at R.inside in
      let t = ap (λ (x : ℕ). y / n * x) step_whole in
      omega (arith, bytes_whole, low_whole)

  pub run_is : run_byte bytes (s.at + s.low / 8) (s.step / 8) n y < 256 → run_byte bytes (s.at + s.low / 8) (s.step / 8) n y ≡ field_byte bytes s w y
  unfolding field_byte
  run_is small = sym (pack_byte _ (run_byte bytes (s.at + s.low / 8) (s.step / 8) n y) small one)
    where
      one : (b : ℕ) → b < 8
          → bit_in bytes s.at ((y * 8 + b) / w * s.step + (s.low + (y * 8 + b) % w)) ≡ bit (run_byte bytes (s.at + s.low / 8) (s.step / 8) n y) b
      one b h =
          let t = ap (λ (x : ℕ). y / n * x) step_whole in
          let d : s.at + (y / n * s.step + (s.low + (y % n * 8 + b))) / 8 ≡ s.at + s.low / 8 + (y / n * (s.step / 8) + y % n) = omega (arith, low_whole) in
          let m : (y / n * s.step + (s.low + (y % n * 8 + b))) % 8 ≡ b = omega (arith, low_whole) in
          rw (field b h, place b h, d, m)
