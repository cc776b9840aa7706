-- Laws of rows of filter bits, and of a full set's width and blocks.
use Rattle.std.specs.Prelude.{◌≡◌, refl, ◌≢◌, Bool, false, ◌&&◌, ℕ, zero, suc, ◌+◌, ◌*◌, ◌/◌, ◌%◌, ◌^◌, ◌≤◌, ◌<◌, ltb}
use Rattle.std.proofs.Common.{◌∙◌, zero-le, not-suc-le-zero, arith, pow_pos}
use Rattle.std.proofs.Math.Arith.{digits_div, digits_mod}
use borrow.Author.Tests.{lt-ltb, le-ltb}
use Rattle.memory.specs.Bits.{bit, pack, bit_pack, pack_ext}
use Rattle.memory.specs.Cases.{lt?, either}
use Rattle.memory.specs.Numbers.{euclid, div_of, mod_of}
use Rattle.memory.specs.Power.{log2up, log2up_enough}
use Rattle.layout.specs.Index.{row_bit, row_byte, set_width, set_blocks}
use Rattle.laws.specs.SetLaws.{blocks_fit}

-- bit r of the w bits of filter g, read from the row's bytes
pub read_row : (G : ℕ → ℕ → Bool) (N w lo g r : ℕ) → g < N → r < w
    → bit (row_byte G N w lo ((g * w + r) / 8)) ((g * w + r) % 8) ≡ G g (lo + r)
unfolding row_byte row_bit
read_row G N w lo g r hg hr =
    let q : (g * w + r) / 8 * 8 + (g * w + r) % 8 ≡ g * w + r = omega arith in
    let d : (g * w + r) / w ≡ g = digits_div g hr in
    let m : (g * w + r) % w ≡ r = digits_mod g hr in
    bit_pack 8 _ ((g * w + r) % 8) (omega arith) ∙ rw (q, d, m, lt-ltb g N hg)

-- a row of no filters is zero
pub row_none : (G : ℕ → ℕ → Bool) (w lo y : ℕ) → row_byte G 0 w lo y ≡ 0
unfolding row_byte row_bit pack
row_none G w lo y = pack_ext 8 (λ b. row_bit G 0 w lo (y * 8 + b)) (λ b. false) (λ b l. rw (le-ltb ((y * 8 + b) / w) 0 zero-le))

-- ---- a row of a sector: 2 * u bytes to a filter

module _ (u : ℕ) (pu : 0 < u) where
  slot_div : (y b : ℕ) → b < 8 → (y * 8 + b) / (16 * u) ≡ y / (2 * u)
  slot_div y b h =
      let E = euclid y (2 * u) (omega arith) in
      div_of (y * 8 + b) (16 * u) (y / (2 * u)) (y % (2 * u) * 8 + b) (omega arith) (omega arith)

  slot_mod : (y b : ℕ) → b < 8 → (y * 8 + b) % (16 * u) ≡ y % (2 * u) * 8 + b
  slot_mod y b h =
      let E = euclid y (2 * u) (omega arith) in
      mod_of (y * 8 + b) (16 * u) (y / (2 * u)) (y % (2 * u) * 8 + b) (omega arith) (omega arith)

  -- a byte of the newest filter
  pub row_new : (G : ℕ → ℕ → Bool) (s lo y : ℕ) → y / (2 * u) ≡ s
      → row_byte G (s + 1) (16 * u) lo y ≡ pack 8 (λ b. G s (lo + (y % (2 * u) * 8 + b)))
  unfolding row_byte row_bit
  row_new G s lo y e = pack_ext 8 _ _ (λ b l. rw (slot_div y b l, slot_mod y b l, e, lt-ltb s (s + 1) (omega arith)))

  -- a byte of another one
  pub row_old : (G : ℕ → ℕ → Bool) (s lo y : ℕ) → y / (2 * u) ≢ s → row_byte G (s + 1) (16 * u) lo y ≡ row_byte G s (16 * u) lo y
  unfolding row_byte row_bit
  row_old G s lo y ne = pack_ext 8 _ _ (λ b l. rw (slot_div y b l) (one ((y * 8 + b) % (16 * u))))
    where
      one : (r : ℕ) → (ltb (y / (2 * u)) (s + 1) && G (y / (2 * u)) (lo + r)) ≡ (ltb (y / (2 * u)) s && G (y / (2 * u)) (lo + r))
      one r =
          either (lt? (y / (2 * u)) s)
          (λ a. rw (a.0, lt-ltb (y / (2 * u)) (s + 1) (omega arith)))
          (λ a. rw (a.0, le-ltb (y / (2 * u)) (s + 1) (omega arith)))

-- ---- blocks and width of a set

module _ (u e : ℕ) (pow : u ≡ 2 ^ e) where
  -- a full set has as many blocks as a side, and a bit of a filter to a page
  pub full_blocks : 2 ^ log2up (4 * u) ≡ 4 * u
  full_blocks = omega (arith, blocks_fit u e pow (4 * u) (omega arith), log2up_enough (4 * u))

  pub full_width : set_width u (4 * u) ≡ 1
  full_width = div_of (64 * u) (16 * 2 ^ log2up (4 * u)) 1 0 (omega (arith, full_blocks)) (omega (arith, pow_pos (log2up (4 * u))))

-- blocks of a set, by its rounds
pub blocks_some : (c : ℕ) → 0 < c → set_blocks c ≡ 2 ^ log2up c
blocks_some zero h = absurd (not-suc-le-zero h)
blocks_some (suc c) h = refl

pub blocks_le : (c m : ℕ) → 2 ^ log2up c ≤ m → set_blocks c ≤ m
blocks_le zero m h = zero-le
blocks_le (suc c) m h = h
