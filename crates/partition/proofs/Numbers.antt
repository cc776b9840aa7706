-- Numbers that the code computes: pages, widths and places of sets.
use mathlib.Core.Path.{◌≡◌, refl, ◌∙◌}
use Prim.Native.Nat.{ℕ, zero, suc, ◌+◌, ◌-◌, ◌*◌, ◌/◌, ◌≤◌, ◌<◌, max}
use native.Mathlib.Nat.{mul-le-mul_left, le-div_iff_mul-le}
use native.Mathlib.Omega.{arith}
use lib.Pow.{pow_mono}
use borrow.Author.Tests.{lt-ltb, le-ltb}
use Rattle.memory.specs.Cases.{either, lt?}
use Rattle.memory.specs.Power.{log2up}
use Rattle.memory.specs.Numbers.{euclid}
use Rattle.layout.specs.Index.{set_pages, set_width}
use Rattle.laws.specs.SetLaws.{unit_pos, width_is, width_pos, blocks_fit}
use Rattle.laws.specs.Units.{UnitSound}
use Rattle.partition.specs.Shared.{together}
use Rattle.partition.specs.Widths.{old_whole, sector_whole}

-- a set's width and its bounds
pub width_of : (u c r : ℕ) → UnitSound u → c ≤ 4 * u → r ≡ set_width u c → (r ≡ set_width u c) × (0 < r) × (r ≤ 128)
width_of u c r U h e =
    let w = width_is u U.0 U.1.power c h in
    let l : U.0 + 2 - log2up c ≤ 7 = omega (arith, U.1.small) in
    rw e (refl, width_pos u U.0 U.1.power c h, rw w (omega (arith, pow_mono l)))

-- so many fields in a byte
few_pages : (w : ℕ) → 0 < w → w < 8 → (0 < 8 / w) × (8 / w ≤ 8)
few_pages w p h =
    let E = euclid 8 w p in
    ((le-div_iff_mul-le p).1 (omega arith), omega (arith, E.whole, mul-le-mul_left (8 / w) p))

-- and one, if not a whole one
pub pages_of : (w : ℕ) → 0 < w → (max (8 / w) 1 ≡ together w) × (max (8 / w) 1 ≤ 8)
pages_of w p =
    either (lt? w 8)
    (λ t.
    let F = few_pages w p t.1 in
    let e : max (8 / w) 1 ≡ 8 / w = omega (arith, F.0) in
    (e ∙ rw (lt-ltb w 8 t.1) refl, omega (arith, F.1)))
    (λ t.
    let E = euclid 8 w p in
    let l : 8 / w ≤ 1 = omega (arith, E.whole, mul-le-mul_left (8 / w) t.1) in
    let e : max (8 / w) 1 ≡ 1 = omega (arith, l) in
    (e ∙ rw (le-ltb w 8 t.1) refl, omega (arith, l)))

-- a width that divides another is not above it
part_le : (m w v : ℕ) → m * w ≡ v → 0 < v → w ≤ v
part_le zero w v e h = absurd (omega arith)
part_le (suc m) w v e h = omega arith

-- the next set's width is not above the width of the set before it, nor above a sector
pub next_le : (u c : ℕ) → UnitSound u → c < 4 * u → set_width u (c + 1) ≤ set_width u c
next_le u c U h =
    part_le (set_width u c / set_width u (c + 1)) (set_width u (c + 1)) (set_width u c) (old_whole u U.0 U.1.power c h) (width_pos u U.0 U.1.power c (omega arith))

pub sector_le : (u c : ℕ) → UnitSound u → c ≤ 4 * u → set_width u c ≤ 16 * u
sector_le u c U h =
    part_le (16 * u / set_width u c) (set_width u c) (16 * u) (sector_whole u U.0 U.1.power c h) (omega (arith, unit_pos u U.0 U.1.power))

pub pages_le : (u c : ℕ) → UnitSound u → c ≤ 4 * u → set_pages c ≤ 2048
pages_le u c U h = omega (arith, U.1.most, blocks_fit u U.0 U.1.power c h)
