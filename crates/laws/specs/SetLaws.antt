-- Widths and places of partition sets, and where the filters lie of which the next one is built.
use Rattle.std.specs.Prelude.{◌≡◌, ℕ, ◌+◌, ◌-◌, ◌*◌, ◌/◌, ◌%◌, ◌^◌, ◌≤◌, ◌<◌, eqb, false}
use Rattle.std.proofs.Common.{mul-le-mul_right, div-mul-le_self, le-div_iff_mul-le, le_of_mul-le-mul_right, arith, pow_pos, lt-ltb, le-ltb, ne_eqb}
use Rattle.memory.specs.Cases.{either, bool?}
use Rattle.memory.specs.Numbers.{div_of}
use Rattle.memory.specs.Power.{log2up, log2up_enough, width}
use Rattle.layout.specs.Index.{Index, filters_per_flush, in_ska, set_pages, set_width, full_filters, side_block, set_place, l1_place, flash_place}

-- ---- pages, blocks and width of the set of c rounds

module _ (u e : ℕ) (pow : u ≡ 2 ^ e) where
  pub unit_pos : 0 < u
  unit_pos = rw pow (pow_pos e)

  -- the pages' bits are the filter's
  pub width_is : (c : ℕ) → c ≤ 4 * u → set_width u c ≡ 2 ^ (e + 2 - log2up c)
  width_is c h =
      let w = width e c (omega arith) in
      div_of (64 * u) (16 * 2 ^ log2up c) (2 ^ (e + 2 - log2up c)) 0 (omega arith) (omega (arith, pow_pos (log2up c)))

  pub set_whole : (c : ℕ) → c ≤ 4 * u → set_pages c * set_width u c ≡ 64 * u
  set_whole c h = rw (width_is c h) (omega (arith, width e c (omega arith)))

  pub width_pos : (c : ℕ) → c ≤ 4 * u → 0 < set_width u c
  width_pos c h = rw (width_is c h) (pow_pos (e + 2 - log2up c))

  -- a set fits a side
  pub blocks_fit : (c : ℕ) → c ≤ 4 * u → 2 ^ log2up c ≤ 4 * u
  blocks_fit c h = omega (arith, width e c (omega arith), mul-le-mul_right (2 ^ log2up c) (pow_pos (e + 2 - log2up c)))

  -- the filters of a set fit its pages
  pub filters_fit : (c : ℕ) → c ≤ 4 * u → 128 * c * set_width u c ≤ 512 * u
  filters_fit c h = omega (arith, set_whole c h, mul-le-mul_right (set_width u c) (log2up_enough c))

-- where a side lies
pub side_range : (u : ℕ) (ix : Index) (c : ℕ) → (ix.first + 1 ≤ side_block u ix c) × (side_block u ix c + 4 * u ≤ ix.first + 1 + 8 * u)
side_range u ix c = either (bool? (eqb (c % 2) 1)) (λ a. rw a (omega arith, omega arith)) (λ a. rw a (omega arith, omega arith))

-- ---- the filters of which the next set is built

module _ (u : ℕ) (ix : Index) where
  -- filter g of the set before the next one
  pub place_old : (z c g x : ℕ) → g < 128 * c
      → flash_place u ix z c (z * full_filters u + g) x ≡ set_place u (side_block u ix c) (set_width u c) g x
  place_old z c g x h =
      let s : z * full_filters u + g - z * full_filters u ≡ g = omega arith in
      rw (
        le-ltb (z * full_filters u + g) (z * full_filters u) (omega arith),
        lt-ltb (z * full_filters u + g) (z * full_filters u + 128 * c) (omega arith),
        s,
      )

  -- and one of L1
  pub place_new : (z c g x : ℕ) → 128 * c ≤ g → flash_place u ix z c (z * full_filters u + g) x ≡ l1_place u ix (g - 128 * c) x
  place_new z c g x h =
      let s : z * full_filters u + g - (z * full_filters u + 128 * c) ≡ g - 128 * c = omega arith in
      rw (
        le-ltb (z * full_filters u + g) (z * full_filters u) (omega arith),
        le-ltb (z * full_filters u + g) (z * full_filters u + 128 * c) (omega arith),
        s,
      )

-- the places for full sets suffice: n records give n / (S/2) filters, 128 (S/4) of them to a full set
pub places_suffice : (u R n : ℕ) → 0 < u → n ≤ 4 * R * (16 * u) → n / (8 * u) / 8 / 16 / (4 * u) ≤ R / (64 * u)
places_suffice u R n pu h =
    let f = div-mul-le_self n (8 * u) in
    let t = div-mul-le_self (n / (8 * u)) 8 in
    let c = div-mul-le_self (n / (8 * u) / 8) 16 in
    let z = div-mul-le_self (n / (8 * u) / 8 / 16) (4 * u) in
    let pos : 0 < 64 * u = omega arith in
    let all : n / (8 * u) / 8 / 16 / (4 * u) * (64 * u) * (64 * u) ≤ R * (64 * u)
    = omega (arith, mul-le-mul_right (16 * 8 * (8 * u)) z, mul-le-mul_right (8 * (8 * u)) c, mul-le-mul_right (8 * u) t, f) in
    (le-div_iff_mul-le pos).1 (le_of_mul-le-mul_right all pos)

-- those of the index over DA too: d deletions give 2 floor(d / S) filters
pub deletion_places_suffice : (u D d : ℕ) → 0 < u → d ≤ 16 * D * (16 * u) → 2 * (d / (16 * u)) / 8 / 16 / (4 * u) ≤ D / (16 * u)
deletion_places_suffice u D d pu h =
    let f = div-mul-le_self d (16 * u) in
    let t = div-mul-le_self (2 * (d / (16 * u))) 8 in
    let c = div-mul-le_self (2 * (d / (16 * u)) / 8) 16 in
    let z = div-mul-le_self (2 * (d / (16 * u)) / 8 / 16) (4 * u) in
    let pos : 0 < 16 * u = omega arith in
    let all : 2 * (d / (16 * u)) / 8 / 16 / (4 * u) * (16 * u) * (256 * u) ≤ D * (256 * u)
    = omega (arith, mul-le-mul_right (16 * 8 * (8 * u)) z, mul-le-mul_right (8 * (8 * u)) c, mul-le-mul_right (8 * u) t, f) in
    let wide : 0 < 256 * u = omega arith in
    (le-div_iff_mul-le pos).1 (le_of_mul-le-mul_right all wide)

-- the first filter of a DA page never fills the SKA page: their number is even
pub first_of_pair : (p : ℕ) → eqb (in_ska (2 * p) + 1) filters_per_flush ≡ false
first_of_pair p = ne_eqb (2 * p % 8 + 1) 8 (λ e. omega arith)
