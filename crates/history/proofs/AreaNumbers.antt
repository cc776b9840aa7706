-- Numbers of an area that grows at its end: items of w bytes, q of them to a page, laid one after another.
use Rattle.std.specs.Prelude.{◌≡◌, ℕ, ◌+◌, ◌-◌, ◌*◌, ◌/◌, ◌%◌, ◌≤◌, ◌<◌}
use Rattle.std.proofs.Common.{ap, ap₂, mul-le-mul_right, arith}
use Rattle.memory.specs.Numbers.{euclid, div_of, mod_of, div_lt}
use Rattle.history.specs.AreaNumbers.{flat}

module _ (n q w : ℕ) (pq : 0 < q) where
  -- item n starts n % q items after the full pages
  pub start : n / q * (q * w) + n % q * w ≡ n * w
  start = omega (arith, ap (λ (x : ℕ). x * w) (euclid n q pq).whole)

  -- a page that is not full has room for one more item
  pub room_left : n % q * w + w ≤ q * w
  room_left = omega (arith, mul-le-mul_right w (euclid n q pq).small)

-- an item after the full pages has its place in the page by the remainder
pub in_page : (n q j : ℕ) → 0 < q → n / q * q ≤ j → j < n → (j % q ≡ j - n / q * q) × (j - n / q * q < n % q)
in_page n q j pq lo hi =
    let E = euclid n q pq in
    let r : j - n / q * q < n % q = omega arith in
    let s : j ≡ n / q * q + (j - n / q * q) = omega arith in
    (mod_of j q (n / q) (j - n / q * q) s (omega arith), r)

pub flat_at : (f : ℕ → ℕ → ℕ) (w j b : ℕ) → b < w → flat f w (j * w + b) ≡ f j b
flat_at f w j b h =
    let s : j * w + b ≡ j * w + b = omega arith in
    ap₂ f (div_of (j * w + b) w j b s h) (mod_of (j * w + b) w j b s h)

-- the bytes of the first n items are those of the items
pub flat_ext : (f g : ℕ → ℕ → ℕ) (n w : ℕ) → 0 < w → ((j b : ℕ) → j < n → b < w → f j b ≡ g j b) → (i : ℕ) → i < n * w
    → flat f w i ≡ flat g w i
flat_ext f g n w pw same i h = same (i / w) (i % w) (div_lt i w n pw h) (euclid i w pw).small

-- the bytes of item n
pub flat_new : (f : ℕ → ℕ → ℕ) (n w i : ℕ) → n * w ≤ i → i < n * w + w → flat f w i ≡ f n (i - n * w)
flat_new f n w i h k =
    let s : i ≡ n * w + (i - n * w) = omega arith in
    let b : i - n * w < w = omega arith in
    ap₂ f (div_of i w n (i - n * w) s b) (mod_of i w n (i - n * w) s b)
