-- Addresses with a symbolic width.
use Rattle.std.specs.Prelude.{◌≡◌, ◌⊎◌, ◌≢◌, ℕ, ◌+◌, ◌*◌, ◌/◌, ◌%◌, ◌<◌}
use Rattle.std.proofs.Common.{inl, inr, div-add-mod', mod-lt, div-lt_iff_lt-mul, arith}
use Rattle.std.proofs.Math.Arith.{digits_div, digits_mod}
use Rattle.memory.specs.Cases.{either, eq?}

-- quotient and remainder, with all that omega needs of them
pub record Euclid (x w : ℕ) : Type 0 where
  pub whole : x / w * w + x % w ≡ x
  pub small : x % w < w

pub euclid : (x w : ℕ) → 0 < w → Euclid x w
euclid x w h = record { whole = div-add-mod' x w; small = mod-lt x h }

-- and back: a number that is written q * w + r has that quotient and remainder
pub div_of : (x w q r : ℕ) → x ≡ q * w + r → r < w → x / w ≡ q
div_of x w q r e h = rw e (digits_div q h)

pub mod_of : (x w q r : ℕ) → x ≡ q * w + r → r < w → x % w ≡ r
mod_of x w q r e h = rw e (digits_mod q h)

pub div_lt : (x w n : ℕ) → 0 < w → x < n * w → x / w < n
div_lt x w n h k = (div-lt_iff_lt-mul h).1 k

-- ---- one more: a digit goes up, or carries

pub carry : (n q : ℕ) → 0 < q
    → ((n % q + 1 ≡ q) × ((n + 1) / q ≡ n / q + 1) × ((n + 1) % q ≡ 0))
    ⊎ ((n % q + 1 ≢ q) × ((n + 1) / q ≡ n / q) × ((n + 1) % q ≡ n % q + 1))
carry n q pq =
    let E = euclid n q pq in
    either (eq? (n % q + 1) q)
    (λ c.
    let s : n + 1 ≡ (n / q + 1) * q + 0 = omega arith in
    inl (c.1, div_of (n + 1) q (n / q + 1) 0 s pq, mod_of (n + 1) q (n / q + 1) 0 s pq))
    (λ c.
    let s : n + 1 ≡ n / q * q + (n % q + 1) = omega arith in
    let k : n % q + 1 < q = omega arith in
    inr (c.1, div_of (n + 1) q (n / q) (n % q + 1) s k, mod_of (n + 1) q (n / q) (n % q + 1) s k))
