-- A column holds, for each page that takes w bits of its bytes, the page's own bytes: runs of w bytes, eight bytes apart.
use Rattle.std.specs.Prelude.{◌≡◌, refl, List, ℕ, zero, suc, ◌+◌, ◌*◌, ◌/◌, ◌%◌, ◌^◌, ◌≤◌, ◌<◌, get_or}
use Rattle.std.proofs.Math.Path.{ap}
use Rattle.std.proofs.Common.{◌∙◌, inl, inr, pow_pos}
use native.Mathlib.Omega.{arith}
use Rattle.memory.specs.Bits.{bit, bit_in, pack_ext, bit_pack}
use Rattle.memory.specs.Lists.{tabulate, tabulate_ext, get_d_tabulate}
use Rattle.memory.specs.Numbers.{div_of, mod_of}
use Rattle.fields.specs.declared.Source.{Source}
use Rattle.fields.specs.Halves.{Narrow}
use Rattle.fields.specs.Sources.{field_byte, Aligned, Reaches}
use Rattle.fields.specs.Columns.{row, row_bit, column_byte}

-- where the fields of a source lie in the column of their bytes
abbrev pub lane_of : Source → Source
lane_of s = record { at = 0; step = 64; low = s.low % 8 * 8 }

-- the column that a source's fields lie in
abbrev pub column_of : List ℕ → Source → ℕ → List ℕ
column_of bytes s w = tabulate 128 (column_byte bytes (s.at + s.low / 8) (s.step / 8) w)

-- ---- columns of bytes that agree are equal

row_lt : (w j : ℕ) → Narrow w → j < 64 → row w j < 8
row_lt w j (inl e) h = rw e (omega arith)
row_lt w j (inr (inl e)) h = rw e (omega arith)
row_lt w j (inr (inr e)) h = rw e (omega arith)

pub column_same : (bytes bytes' : List ℕ) (at stride w : ℕ) → Narrow w
    → ((r : ℕ) → r < 128 → get_or bytes (at + r * stride) 0 ≡ get_or bytes' (at + r * stride) 0)
    → tabulate 128 (column_byte bytes at stride w) ≡ tabulate 128 (column_byte bytes' at stride w)
unfolding column_byte
column_same bytes bytes' at stride w N same =
    tabulate_ext 128 _ _ (λ k h. pack_ext 8 _ _ (λ b l.
    ap (λ (v : ℕ). bit v (row_bit w (k % 8 * 8 + b)))
    (same (k / 8 * 8 + row w (k % 8 * 8 + b)) (omega (arith, row_lt w (k % 8 * 8 + b) N (omega arith))))))

-- ---- a page's fields in a column

-- the numbers of bit b of byte y: in the lane, in the column, in the rows
record Place (w l y b : ℕ) : Type 0 where
  byte : ((y * 8 + b) / (8 * w) * 64 + (l * 8 + (y * 8 + b) % (8 * w))) / 8 ≡ y / w * 8 + l + y % w
  low : ((y * 8 + b) / (8 * w) * 64 + (l * 8 + (y * 8 + b) % (8 * w))) % 8 ≡ b
  inside : y / w * 8 + l + y % w < 128
  eighth : (y / w * 8 + l + y % w) / 8 ≡ y / w
  within : (y / w * 8 + l + y % w) % 8 ≡ l + y % w
  rows : y / w * 8 + row w ((l + y % w) * 8 + b) ≡ (y * 8 + b) / w
  bits : row_bit w ((l + y % w) * 8 + b) ≡ l + (y * 8 + b) % w
  small : l + (y * 8 + b) % w < 8

in_lane_2 : (l y b k : ℕ) → l ≡ k * 2 → b < 8
    → (y / 2 * 8 + row 2 ((l + y % 2) * 8 + b) ≡ (y * 8 + b) / 2) × (row_bit 2 ((l + y % 2) * 8 + b) ≡ l + (y * 8 + b) % 2)
in_lane_2 l y b k m h =
    let s : (l + y % 2) * 8 + b ≡ k * 16 + (y % 2 * 8 + b) = omega (arith, m) in
    let t : y % 2 * 8 + b < 16 = omega arith in
    rw (div_of ((l + y % 2) * 8 + b) 16 k (y % 2 * 8 + b) s t, mod_of ((l + y % 2) * 8 + b) 16 k (y % 2 * 8 + b) s t)
    (omega arith, omega arith)

in_lane_4 : (l y b k : ℕ) → l ≡ k * 4 → b < 8
    → (y / 4 * 8 + row 4 ((l + y % 4) * 8 + b) ≡ (y * 8 + b) / 4) × (row_bit 4 ((l + y % 4) * 8 + b) ≡ l + (y * 8 + b) % 4)
in_lane_4 l y b k m h =
    let s : (l + y % 4) * 8 + b ≡ k * 32 + (y % 4 * 8 + b) = omega (arith, m) in
    let t : y % 4 * 8 + b < 32 = omega arith in
    rw (div_of ((l + y % 4) * 8 + b) 32 k (y % 4 * 8 + b) s t, mod_of ((l + y % 4) * 8 + b) 32 k (y % 4 * 8 + b) s t)
    (omega arith, omega arith)

place : (w l y b k : ℕ) → Narrow w → l ≡ k * w → l + w ≤ 8 → y < 16 * w → b < 8 → Place w l y b
place w l y b k (inl e) m f h g =
    let m1 : l ≡ k * 1 = rw e at m in
    let f1 : l + 1 ≤ 8 = rw e at f in
    let h1 : y < 16 * 1 = rw e at h in
    rw e
    (record {
      byte = omega arith;
      low = omega arith;
      inside = omega arith;
      eighth = omega arith;
      within = omega arith;
      rows = omega arith;
      bits = omega arith;
      small = omega arith;
    })
place w l y b k (inr (inl e)) m f h g =
    let m1 : l ≡ k * 2 = rw e at m in
    let f1 : l + 2 ≤ 8 = rw e at f in
    let h1 : y < 16 * 2 = rw e at h in
    rw e
    (record {
      byte = omega arith;
      low = omega arith;
      inside = omega arith;
      eighth = omega arith;
      within = omega arith;
      rows = (in_lane_2 l y b k m1 g).0;
      bits = (in_lane_2 l y b k m1 g).1;
      small = omega arith;
    })
place w l y b k (inr (inr e)) m f h g =
    let m1 : l ≡ k * 4 = rw e at m in
    let f1 : l + 4 ≤ 8 = rw e at f in
    let h1 : y < 16 * 4 = rw e at h in
    rw e
    (record {
      byte = omega arith;
      low = omega arith;
      inside = omega arith;
      eighth = omega arith;
      within = omega arith;
      rows = (in_lane_4 l y b k m1 g).0;
      bits = (in_lane_4 l y b k m1 g).1;
      small = omega arith;
    })

module _ (bytes : List ℕ) (s : Source) (w : ℕ) (A : Aligned s w) (narrow : w < 8) where
  pub few : Narrow w
  few = go A.k A.w_is
    where
      go : (k : ℕ) → w ≡ 2 ^ k → Narrow w
      go zero e = inl e
      go (suc zero) e = inr (inl e)
      go (suc (suc zero)) e = inr (inr e)
      go (suc (suc (suc k))) e = absurd (omega (arith, pow_pos k))

  -- the fields' first bit in their byte
  lane : (k : ℕ) × (s.low % 8 ≡ k * w) × (s.low % 8 + w ≤ 8)
  lane = go few
    where
      go : Narrow w → (k : ℕ) × (s.low % 8 ≡ k * w) × (s.low % 8 + w ≤ 8)
      go (inl e) = rw e (s.low % 8, omega arith, omega arith)
      go (inr (inl e)) = let m : s.low ≡ A.lows * 2 = rw e at A.low_is in rw e (s.low % 8 / 2, omega arith, omega arith)
      go (inr (inr e)) = let m : s.low ≡ A.lows * 4 = rw e at A.low_is in rw e (s.low % 8 / 4, omega arith, omega arith)

  pub lane_aligned : Aligned (lane_of s) (8 * w)
  lane_aligned = go few lane
    where
      go : Narrow w → (k : ℕ) × (s.low % 8 ≡ k * w) × (s.low % 8 + w ≤ 8) → Aligned (lane_of s) (8 * w)
      go (inl e) L =
          let m : s.low % 8 ≡ L.0 * 1 = rw e at L.1 in
          rw e (record { k = 3; small = omega arith; w_is = refl; steps = 8; step_is = refl; lows = L.0; low_is = omega arith; room = omega arith })
      go (inr (inl e)) L =
          let m : s.low % 8 ≡ L.0 * 2 = rw e at L.1 in
          rw e (record { k = 4; small = omega arith; w_is = refl; steps = 4; step_is = refl; lows = L.0; low_is = omega arith; room = omega arith })
      go (inr (inr e)) L =
          let m : s.low % 8 ≡ L.0 * 4 = rw e at L.1 in
          rw e (record { k = 5; small = omega arith; w_is = refl; steps = 2; step_is = refl; lows = L.0; low_is = omega arith; room = omega arith })

  pub lane_reaches : (y : ℕ) → y < 16 * w → Reaches 128 (lane_of s) (8 * w) y
  lane_reaches y h = go few lane
    where
      go : Narrow w → (k : ℕ) × (s.low % 8 ≡ k * w) × (s.low % 8 + w ≤ 8) → Reaches 128 (lane_of s) (8 * w) y
      go (inl e) L =
          let m : s.low % 8 + 1 ≤ 8 = rw e at L.2 in
          let l : y < 16 * 1 = rw e at h in
          rw e (record { short = omega arith; few = omega arith; inside = omega arith })
      go (inr (inl e)) L =
          let m : s.low % 8 + 2 ≤ 8 = rw e at L.2 in
          let l : y < 16 * 2 = rw e at h in
          rw e (record { short = omega arith; few = omega arith; inside = omega arith })
      go (inr (inr e)) L =
          let m : s.low % 8 + 4 ≤ 8 = rw e at L.2 in
          let l : y < 16 * 4 = rw e at h in
          rw e (record { short = omega arith; few = omega arith; inside = omega arith })

  pub lane_byte : s.step ≡ 8 * (s.step / 8) → (y : ℕ) → y < 16 * w → field_byte (column_of bytes s w) (lane_of s) (8 * w) y ≡ field_byte bytes s w y
  unfolding field_byte column_byte
  lane_byte whole y h = pack_ext 8 _ _ one
    where
      one : (b : ℕ) → b < 8
          → bit_in (column_of bytes s w) 0 ((y * 8 + b) / (8 * w) * 64 + (s.low % 8 * 8 + (y * 8 + b) % (8 * w)))
          ≡ bit_in bytes s.at ((y * 8 + b) / w * s.step + (s.low + (y * 8 + b) % w))
      one b l =
          let L = lane in
          let P = place w (s.low % 8) y b L.0 few L.1 L.2 h l in
          let z : 0 + (y / w * 8 + s.low % 8 + y % w) ≡ y / w * 8 + s.low % 8 + y % w = omega arith in
          let t = ap (λ (n : ℕ). (y * 8 + b) / w * n) whole in
          let d : s.at + ((y * 8 + b) / w * s.step + (s.low + (y * 8 + b) % w)) / 8 ≡ s.at + s.low / 8 + (y * 8 + b) / w * (s.step / 8) = omega (arith, P.small) in
          let m : ((y * 8 + b) / w * s.step + (s.low + (y * 8 + b) % w)) % 8 ≡ s.low % 8 + (y * 8 + b) % w = omega (arith, P.small) in
          rw (P.byte, P.low, z, d, m, get_d_tabulate 128 (column_byte bytes (s.at + s.low / 8) (s.step / 8) w) (y / w * 8 + s.low % 8 + y % w) 0 P.inside)
          (bit_pack 8 _ b l ∙ rw (P.eighth, P.within, P.rows, P.bits))
