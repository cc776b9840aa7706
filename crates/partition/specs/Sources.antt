-- A page of the next set by its bytes: fields of bits out of the old set, then out of L1, then zeros.
use Rattle.std.specs.Prelude.{◌≡◌, refl, Bool, false, cond, List, [], ℕ, zero, suc, ◌+◌, ◌-◌, ◌*◌, ◌/◌, ◌%◌, ◌^◌, ◌≤◌, ◌<◌, get_or, ltb}
use Rattle.std.proofs.Common.{ap, ◌∙◌, mul-le-mul_right, le-div_iff_mul-le}
use Rattle.std.proofs.Math.Nat.{mod-lt}
use native.Mathlib.Omega.{arith}
use borrow.Author.Tests.{lt-ltb, le-ltb}
use Rattle.memory.specs.Cases.{lt?, either}
use Rattle.memory.specs.Numbers.{euclid, div_of, mod_of, div_lt}
use Rattle.memory.specs.Bits.{bit, bit_in, pack, pack_ext}
use Rattle.layout.specs.Geometry.{sector, page, block}
use Rattle.layout.specs.Index.{Index, filters_per_round, pages_per_fourth, row_bit, row_byte, bit_at}
use Rattle.layout.specs.Index.{set_width, full_filters, side_block, flash_place, set_byte}
use Rattle.laws.specs.SetLaws.{unit_pos, width_pos, place_old, place_new}
use Rattle.fields.specs.declared.Source.{Source}
use Rattle.fields.specs.Sources.{field_byte}
use Rattle.partition.specs.declared.PageSource.{PageSource}
use Rattle.partition.specs.Widths.{old_whole, sector_whole}

-- byte y of a page
unfoldable pub page_byte : List ℕ → PageSource → ℕ → ℕ
page_byte main r y =
    cond (ltb y r.split) (field_byte main r.old r.w y) (cond (ltb y r.end) (field_byte main r.l1 r.w (y - r.split)) 0)

-- bytes that the filters of a round have in a page, for each bit of a filter there
abbrev pub round_bytes : ℕ
round_bytes = filters_per_round / 8

-- ---- where page p of the set after c rounds takes its bits from

-- fields of v bits in rows `gap` bytes apart from `base` on: page p takes w bits of each
abbrev pub source_of : ℕ → ℕ → ℕ → ℕ → ℕ → Source
source_of base gap v w p = record { at = base + p / (v / w) * gap; step = v; low = p % (v / w) * w }

module _ (u : ℕ) (ix : Index) where
  abbrev pub old_of : ℕ → ℕ → Source
  old_of c p = source_of (side_block u ix c * block u) (page u) (set_width u c) (set_width u (c + 1)) p

  abbrev pub l1_of : ℕ → ℕ → Source
  l1_of c p = source_of (ix.first * block u) (pages_per_fourth * page u) (sector u) (set_width u (c + 1)) p

  abbrev pub page_source : ℕ → ℕ → PageSource
  page_source c p = record {
    w = set_width u (c + 1);
    split = round_bytes * c * set_width u (c + 1);
    end = round_bytes * (c + 1) * set_width u (c + 1);
    old = old_of c p;
    l1 = l1_of c p;
  }

-- ---- laws

-- page p of m pages to a field of v = m * w bits
module _ (w v m : ℕ) (whole : m * w ≡ v) (pw : 0 < w) (pv : 0 < v) where
  pub pages_pos : 0 < m
  pages_pos = go m whole
    where
      go : (n : ℕ) → n * w ≡ v → 0 < n
      go zero e = omega arith
      go (suc n) e = omega arith

  pub field_room : (p : ℕ) → p % m * w + w ≤ v
  field_room p = omega (arith, mul-le-mul_right w (mod-lt p pages_pos))

  pub field_split : (p r : ℕ) → r < w → p * w + r ≡ p / m * v + (p % m * w + r)
  field_split p r h =
      let E = euclid p m pages_pos in
      omega (arith, ap (λ (n : ℕ). n * w) E.whole, ap (λ (n : ℕ). p / m * n) whole)

  pub field_div : (p r : ℕ) → r < w → (p * w + r) / v ≡ p / m
  field_div p r h = div_of (p * w + r) v (p / m) (p % m * w + r) (field_split p r h) (omega (arith, field_room p))

  pub field_mod : (p r : ℕ) → r < w → (p * w + r) % v ≡ p % m * w + r
  field_mod p r h = mod_of (p * w + r) v (p / m) (p % m * w + r) (field_split p r h) (omega (arith, field_room p))

-- a bit of L1, in one row for all its filters
l1_bit : (main : List ℕ) (u base i f t : ℕ)
    → bit (get_or main (base + ((4 * i + f / 8 / 4) * (64 * u) + f / 8 % 4 * (16 * u)) + (f % 8 * (16 * u) + t) / 8) 0)
    ((f % 8 * (16 * u) + t) % 8)
    ≡ bit_in main (base + i * (4 * (64 * u))) (f * (16 * u) + t)
l1_bit main u base i f t =
    let d8 : f * u ≡ (f / 8 * 8 + f % 8) * u = ap (λ (n : ℕ). n * u) (omega arith) in
    let d4 : f / 8 * u ≡ (f / 8 / 4 * 4 + f / 8 % 4) * u = ap (λ (n : ℕ). n * u) (omega arith) in
    let a : base + ((4 * i + f / 8 / 4) * (64 * u) + f / 8 % 4 * (16 * u)) + (f % 8 * (16 * u) + t) / 8
    ≡ base + i * (4 * (64 * u)) + (f * (16 * u) + t) / 8
    = omega arith in
    let b : (f % 8 * (16 * u) + t) % 8 ≡ (f * (16 * u) + t) % 8 = omega arith in
    rw (a, b)

zeros : pack 8 (λ b. false) ≡ 0
unfolding pack
zeros = refl

module _ (u e : ℕ) (pow : u ≡ 2 ^ e) (ix : Index) (main : List ℕ) (z c : ℕ) (hc : c < 4 * u) where
  abbrev w : ℕ
  w = set_width u (c + 1)

  abbrev G : ℕ → ℕ → Bool
  G g x = bit_at main [] (flash_place u ix z c (z * full_filters u + g) x)

  w_pos : 0 < w
  w_pos = width_pos u e pow (c + 1) (omega arith)

  bit_old : (p q : ℕ) → q < 128 * (c * w)
      → row_bit G (128 * (c + 1)) w (p * w) q ≡ bit_in main (old_of u ix c p).at (q / w * set_width u c + ((old_of u ix c p).low + q % w))
  unfolding row_bit bit_at
  bit_old p q h =
      let v_pos = width_pos u e pow c (omega arith) in
      let wh = old_whole u e pow c hc in
      let r = mod-lt q w_pos in
      let l : q / w < 128 * c = div_lt q w (128 * c) w_pos (omega arith) in
      rw (
        lt-ltb (q / w) (128 * (c + 1)) (omega arith),
        place_old u ix z c (q / w) (p * w + q % w) l,
        field_div w (set_width u c) (set_width u c / w) wh w_pos v_pos p (q % w) r,
        field_mod w (set_width u c) (set_width u c / w) wh w_pos v_pos p (q % w) r,
      )

  bit_new : (p q : ℕ) → q < 128 * w
      → row_bit G (128 * (c + 1)) w (p * w) (128 * (c * w) + q)
      ≡ bit_in main (l1_of u ix c p).at (q / w * (16 * u) + ((l1_of u ix c p).low + q % w))
  unfolding row_bit bit_at
  bit_new p q h =
      let pu = unit_pos u e pow in
      let S_pos : 0 < 16 * u = omega arith in
      let wh = sector_whole u e pow (c + 1) (omega arith) in
      let E = euclid q w w_pos in
      let r = mod-lt q w_pos in
      let l : q / w < 128 = div_lt q w 128 w_pos h in
      let d : (128 * (c * w) + q) / w ≡ 128 * c + q / w = div_of (128 * (c * w) + q) w (128 * c + q / w) (q % w) (omega arith) r in
      let m : (128 * (c * w) + q) % w ≡ q % w = mod_of (128 * (c * w) + q) w (128 * c + q / w) (q % w) (omega arith) r in
      let f : 128 * c + q / w - 128 * c ≡ q / w = omega arith in
      rw (
        d,
        m,
        lt-ltb (128 * c + q / w) (128 * (c + 1)) (omega arith),
        place_new u ix z c (128 * c + q / w) (p * w + q % w) (omega arith),
        f,
        field_div w (16 * u) (16 * u / w) wh w_pos S_pos p (q % w) r,
        field_mod w (16 * u) (16 * u / w) wh w_pos S_pos p (q % w) r,
      )
      (l1_bit main u (ix.first * (1024 * u)) (p / (16 * u / w)) (q / w) (p % (16 * u / w) * w + q % w))

  bit_none : (p q : ℕ) → 128 * ((c + 1) * w) ≤ q → row_bit G (128 * (c + 1)) w (p * w) q ≡ false
  unfolding row_bit
  bit_none p q h =
      let l : 128 * (c + 1) ≤ q / w = (le-div_iff_mul-le w_pos).1 (omega arith) in
      rw (le-ltb (q / w) (128 * (c + 1)) l)

  -- the page's bytes are those of the row
  page_is : (p y : ℕ) → row_byte G (128 * (c + 1)) w (p * w) y ≡ page_byte main (page_source u ix c p) y
  unfolding row_byte page_byte field_byte
  page_is p y =
      either (lt? y (16 * c * w))
      (λ a. rw a.0 (pack_ext 8 _ _ (λ b l. bit_old p (y * 8 + b) (omega arith))))
      (λ a. rw a.0 (either (lt? y (16 * (c + 1) * w))
      (λ d. rw d.0 (pack_ext 8 _ _ (λ b l. one b l a.1 d.1)))
      (λ d. rw d.0 (pack_ext 8 _ (λ b. false) (λ b l. bit_none p (y * 8 + b) (omega arith)) ∙ zeros))))
    where
      one : (b : ℕ) → b < 8 → 16 * c * w ≤ y → y < 16 * (c + 1) * w
          → row_bit G (128 * (c + 1)) w (p * w) (y * 8 + b)
          ≡ bit_in main (l1_of u ix c p).at
          (((y - 16 * c * w) * 8 + b) / w * (16 * u) + ((l1_of u ix c p).low + ((y - 16 * c * w) * 8 + b) % w))
      one b l h k =
          let q : y * 8 + b ≡ 128 * (c * w) + ((y - 16 * c * w) * 8 + b) = omega arith in
          rw q (bit_new p ((y - 16 * c * w) * 8 + b) (omega arith))

  pub set_byte_is : (j y : ℕ) → set_byte u ix main z c j y ≡ page_byte main (page_source u ix c (j / 4)) (j % 4 * sector u + y)
  unfolding set_byte
  set_byte_is j y = page_is (j / 4) (j % 4 * sector u + y)
