-- The next set is built of bytes outside its own place: L1 and the set before it, which lies on the other side.
use Rattle.std.specs.Prelude.{◌≡◌, Bool, ◌&&◌, ◌⊎◌, ltb, get_or}
use Rattle.std.proofs.Common.{ap, mod-lt}
use Rattle.std.proofs.Math.Logic.{inl, inr}
use mathlib.Core.List.{List, []}
use Prim.Native.Nat.{ℕ, ◌+◌, ◌-◌, ◌*◌, ◌/◌, ◌%◌, ◌^◌, ◌≤◌, ◌<◌}
use Rattle.std.proofs.Math.Nat.{mul-le-mul_right}
use native.Mathlib.Omega.{arith}
use Rattle.memory.specs.Cases.{lt?, eq?, either}
use Rattle.memory.specs.Numbers.{euclid, div_lt}
use Rattle.memory.specs.Power.{log2up}
use Rattle.memory.specs.Bits.{bit, pack_ext}
use Rattle.layout.specs.Geometry.{sector, page, block}
use Rattle.layout.specs.Index.{Index, row_bit, row_byte, bit_at, set_pages, set_width, full_filters, side_block, flash_place, set_byte, set_block}
use Rattle.laws.specs.SetLaws.{unit_pos, set_whole, width_pos, blocks_fit, filters_fit, side_range, place_old, place_new}

-- only the bits that are there decide
pub row_ext : (G H : ℕ → ℕ → Bool) (N w lo y : ℕ) → 0 < w → ((g r : ℕ) → g < N → r < w → G g (lo + r) ≡ H g (lo + r))
    → row_byte G N w lo y ≡ row_byte H N w lo y
unfolding row_byte row_bit
row_ext G H N w lo y pw same = pack_ext 8 _ _ (λ b l. one (y * 8 + b))
  where
    one : (q : ℕ) → (ltb (q / w) N && G (q / w) (lo + q % w)) ≡ (ltb (q / w) N && H (q / w) (lo + q % w))
    one q = either (lt? (q / w) N) (λ a. rw a.0 (same (q / w) (q % w) a.1 (mod-lt q pw))) (λ a. rw a.0)

module _ (u : ℕ) (ix : Index) where
  -- one round more is on the other side
  side_other : (c : ℕ) → (side_block u ix c + 4 * u ≤ side_block u ix (c + 1)) ⊎ (side_block u ix (c + 1) + 4 * u ≤ side_block u ix c)
  side_other c =
      either (eq? (c % 2) 1)
      (λ a. either (eq? ((c + 1) % 2) 1) (λ b. absurd (omega arith)) (λ b. rw (a.0, b.0) (inl (omega arith))))
      (λ a. either (eq? ((c + 1) % 2) 1) (λ b. rw (a.0, b.0) (inr (omega arith))) (λ b. absurd (omega arith)))

  -- the next set's place is behind L1, and apart from the set before it
  pub next_after : (z c : ℕ) → ix.first + 1 ≤ set_block u ix z c
  next_after z c = either (eq? (c + 1) (4 * u)) (λ a. rw a.0 (omega arith)) (λ a. rw a.0 (side_range u ix (c + 1)).0)

  pub next_apart : (z c : ℕ) → (side_block u ix c + 4 * u ≤ set_block u ix z c) ⊎ (set_block u ix z c + 4 * u ≤ side_block u ix c)
  next_apart z c = either (eq? (c + 1) (4 * u)) (λ a. rw a.0 (inl (omega (arith, (side_range u ix c).1)))) (λ a. rw a.0 (side_other c))

module _ (u e : ℕ) (pow : u ≡ 2 ^ e) (ix : Index) where
  -- the byte of a bit of the set before lies in that set's blocks
  old_range : (c g x : ℕ) → c < 4 * u → g < 128 * c → x < 64 * u
      → x / set_width u c * (64 * u) + (g * set_width u c + x % set_width u c) / 8 < 4 * u * (1024 * u)
  old_range c g x hc hg hx =
      let w : ℕ = set_width u c in
      let E = euclid x (set_width u c) (width_pos u e pow c (omega arith)) in
      let y_lt : (g * set_width u c + x % set_width u c) / 8 < 64 * u
      = omega (arith, mul-le-mul_right (set_width u c) hg, filters_fit u e pow c (omega arith)) in
      let p_lt : x / set_width u c < set_pages c
      = div_lt x (set_width u c) (set_pages c) (width_pos u e pow c (omega arith)) (omega (arith, set_whole u e pow c (omega arith))) in
      omega (arith, mul-le-mul_right (64 * u) p_lt, mul-le-mul_right (1024 * u) (blocks_fit u e pow c (omega arith)))

  -- that of a bit of L1 in L1's
  l1_range : (f x : ℕ) → f < 128 → x < 64 * u
      → (4 * (x / (16 * u)) + f / 8 / 4) * (64 * u) + f / 8 % 4 * (16 * u) + (f % 8 * (16 * u) + x % (16 * u)) / 8 < 1024 * u
  l1_range f x hf hx =
      let pu = unit_pos u e pow in
      let E = euclid x (16 * u) (omega arith) in
      let i4 : x / (16 * u) ≤ 3 = omega (arith, div_lt x (16 * u) 4 (omega arith) (omega arith)) in
      let f4 : f / 8 / 4 ≤ 3 = omega arith in
      let s4 : f / 8 % 4 ≤ 3 = omega arith in
      let f8 : f % 8 ≤ 7 = omega arith in
      omega (arith, mul-le-mul_right u i4, mul-le-mul_right u f4, mul-le-mul_right u s4, mul-le-mul_right u f8)

  module _ (z c : ℕ) (hc : c < 4 * u) (main main' : List ℕ)
      (same : (x : ℕ) → (x < set_block u ix z c * block u) ⊎ (set_block u ix z c * block u + set_pages (c + 1) * page u ≤ x)
      → get_or main x 0 ≡ get_or main' x 0) where
    bit_same : (g x : ℕ) → g < 128 * (c + 1) → x < 64 * u
        → bit_at main [] (flash_place u ix z c (z * full_filters u + g) x) ≡ bit_at main' [] (flash_place u ix z c (z * full_filters u + g) x)
    unfolding bit_at
    bit_same g x hg hx =
        either (lt? g (128 * c))
        (λ a.
        let m = old_range c g x hc a.1 hx in
        let at : ℕ = side_block u ix c * (1024 * u) + x / set_width u c * (64 * u) + (g * set_width u c + x % set_width u c) / 8 in
        let fit = mul-le-mul_right (1024 * u) (blocks_fit u e pow (c + 1) (omega arith)) in
        let out : (at < set_block u ix z c * (1024 * u)) ⊎ (set_block u ix z c * (1024 * u) + 16 * 2 ^ log2up (c + 1) * (64 * u) ≤ at)
        = either (next_apart u ix z c) (λ d. inl (omega (arith, mul-le-mul_right (1024 * u) d)))
        (λ d. inr (omega (arith, mul-le-mul_right (1024 * u) d))) in
        rw (place_old u ix z c g x a.1) (ap (λ (v : ℕ). bit v ((g * set_width u c + x % set_width u c) % 8)) (same at out)))
        (λ a.
        let f : ℕ = g - 128 * c in
        let m = l1_range f x (omega arith) hx in
        let at : ℕ = ix.first * (1024 * u) + ((4 * (x / (16 * u)) + f / 8 / 4) * (64 * u) + f / 8 % 4 * (16 * u))
        + (f % 8 * (16 * u) + x % (16 * u)) / 8 in
        rw (place_new u ix z c g x a.1)
        (ap (λ (v : ℕ). bit v ((f % 8 * (16 * u) + x % (16 * u)) % 8))
        (same at (inl (omega (arith, mul-le-mul_right (1024 * u) (next_after u ix z c)))))))

    -- main areas that agree outside the next set's place give the same set
    pub set_byte_same : (j y : ℕ) → j < set_pages (c + 1) * 4 → y < sector u → set_byte u ix main z c j y ≡ set_byte u ix main' z c j y
    unfolding set_byte
    set_byte_same j y hj hy =
        let w_pos = width_pos u e pow (c + 1) (omega arith) in
        let p_lt : j / 4 < set_pages (c + 1) = omega arith in
        row_ext (λ g x. bit_at main [] (flash_place u ix z c (z * full_filters u + g) x))
        (λ g x. bit_at main' [] (flash_place u ix z c (z * full_filters u + g) x))
        (128 * (c + 1)) (set_width u (c + 1)) (j / 4 * set_width u (c + 1)) (j % 4 * sector u + y) w_pos
        (λ g r hg hr. bit_same g (j / 4 * set_width u (c + 1) + r) hg
        (omega (arith, mul-le-mul_right (set_width u (c + 1)) p_lt, set_whole u e pow (c + 1) (omega arith))))
