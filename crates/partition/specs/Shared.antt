-- Bytes of L1 that pages share; and sectors of a page of the next set, one after another.
use Rattle.std.specs.Prelude.{◌≡◌, refl, cond, List, ℕ, ◌+◌, ◌*◌, ◌/◌, ◌%◌, ◌≤◌, ◌<◌, ltb, length}
use Rattle.std.proofs.Common.{ap, inl, inr, mul-le-mul_right, arith}
use Rattle.memory.specs.Numbers.{euclid, div_of, mod_of}
use Rattle.layout.specs.Geometry.{sector}
use Rattle.layout.specs.Index.{Index, set_byte}
use Rattle.fields.specs.Halves.{Narrow}
use Rattle.fields.specs.Lanes.{column_of}
use Rattle.fields.specs.Sources.{Whole}
use Rattle.partition.specs.declared.PageSource.{PageSource}

-- pages that share a byte of each filter, where they take w bits of each
abbrev pub together : ℕ → ℕ
together w = cond (ltb w 8) (8 / w) 1

-- the bytes that a page shares; where it shares none, what is there stays
abbrev pub shared_bytes : List ℕ → PageSource → List ℕ → List ℕ
shared_bytes main r old = cond (ltb r.w 8) (column_of main r.l1 r.w) old

-- `bytes` are those that a page shares, if any
pub record Shares (main : List ℕ) (r : PageSource) (bytes : List ℕ) : Type 0 where
  pub size : length bytes ≡ 128
  pub column : r.w < 8 → bytes ≡ column_of main r.l1 r.w

-- byte i of the next set's sectors from sector j on
abbrev pub set_bytes : ℕ → Index → List ℕ → ℕ → ℕ → ℕ → ℕ → ℕ
set_bytes u ix main z c j i = set_byte u ix main z c (j + i / sector u) (i % sector u)

-- n bytes are sectors of one page, from sector j on
pub record InPage (size j n : ℕ) : Type 0 where
  pub whole : Whole size n
  pub room : j % 4 * size + n ≤ 4 * size

-- ---- pages that share their bytes, and main areas with the same L1

-- page p's byte of each filter: byte B of it, in the fourth that B lies in
pub column_at : (u w p : ℕ) (base gap : ℕ) → 0 < u → Narrow w
    → base + p / (16 * u / w) * gap + p % (16 * u / w) * w / 8 ≡ base + p / (8 / w) / (2 * u) * gap + p / (8 / w) % (2 * u)
column_at u w p base gap pos N = go N
  where
    part : (k v : ℕ) → 0 < k → 0 < v → k * v ≡ 8 → (p / (k * (2 * u)) ≡ p / k / (2 * u)) × (p % (k * (2 * u)) * v / 8 ≡ p / k % (2 * u))
    part k v pk pv e =
        let E = euclid p k pk in
        let D = euclid (p / k) (2 * u) (omega arith) in
        let s : p ≡ p / k / (2 * u) * (k * (2 * u)) + (p / k % (2 * u) * k + p % k) = omega (arith, ap (λ (n : ℕ). n * k) D.whole) in
        let l : p / k % (2 * u) * k + p % k < k * (2 * u) = omega (arith, mul-le-mul_right k D.small) in (
          div_of p (k * (2 * u)) (p / k / (2 * u)) (p / k % (2 * u) * k + p % k) s l,
          rw (mod_of p (k * (2 * u)) (p / k / (2 * u)) (p / k % (2 * u) * k + p % k) s l) (eighth (p / k % (2 * u)) (p % k) k v pv e E.small),
        )
      where
        eighth : (q r k v : ℕ) → 0 < v → k * v ≡ 8 → r < k → (q * k + r) * v / 8 ≡ q
        eighth q r k v pv e h =
            div_of ((q * k + r) * v) 8 q (r * v) (omega (arith, ap (λ (n : ℕ). q * n) e)) (omega (arith, e, mul-le-mul_right v h))

    go : Narrow w → base + p / (16 * u / w) * gap + p % (16 * u / w) * w / 8 ≡ base + p / (8 / w) / (2 * u) * gap + p / (8 / w) % (2 * u)
    go (inl e) = let d : 16 * u / 1 ≡ 8 * (2 * u) = omega arith in let P = part 8 1 (omega arith) (omega arith) refl in rw (e, d, P.0, P.1)
    go (inr (inl e)) = let d : 16 * u / 2 ≡ 4 * (2 * u) = omega arith in let P = part 4 2 (omega arith) (omega arith) refl in rw (e, d, P.0, P.1)
    go (inr (inr e)) = let d : 16 * u / 4 ≡ 2 * (2 * u) = omega arith in let P = part 2 4 (omega arith) (omega arith) refl in rw (e, d, P.0, P.1)
