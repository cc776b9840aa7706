-- Runs of n bytes at a stride: a turn that copies one of them.
use mathlib.Core.Path.{◌≡◌, sym, ap, ◌∙◌}
use mathlib.Core.List.{List}
use Prim.Native.Nat.{ℕ, ◌+◌, ◌-◌, ◌*◌, ◌/◌, ◌%◌, ◌≤◌, ◌<◌}
use native.Mathlib.Nat.{mul-le-mul_right}
use native.Mathlib.Omega.{arith}
use lib.ListN.{length, get_or, take, drop}
use Rattle.memory.specs.Cases.{lt?, either}
use Rattle.memory.specs.Numbers.{div_of, mod_of}
use Rattle.fields.specs.Sources.{run_byte, Whole, Runs}
use Rattle.fields.specs.Lists.{part_at}

-- byte x of the runs begins run k, which lies at a
record At (at stride n x a : ℕ) : Type 0 where
  pub k : ℕ
  pub byte : x ≡ k * n
  pub run : a ≡ at + k * stride

-- run k, counted from byte y on
at_turn : (at stride n y k : ℕ) → 0 < n → Whole n y → At at stride n (y + k * n) (at + y / n * stride + k * stride)
at_turn at stride n y k pn W =
    let e : y ≡ W.0 * n + 0 = omega (arith, W.1) in
    record { k = y / n + k; byte = rw (div_of y n W.0 0 e pn) (omega (arith, W.1)); run = omega arith }

-- so many runs
order : (a b n : ℕ) → a * n < b * n → a + 1 ≤ b
order a b n h = either (lt? a b) (λ l. omega (arith, l.1)) (λ l. absurd (omega (arith, mul-le-mul_right n l.1)))

-- a run of the `len` bytes wanted
module _ (bytes : List ℕ) (at stride n y len i a : ℕ) (pn : 0 < n) (R : Runs (length bytes) at stride n y len) (Y : Whole n y) (L : Whole n len)
    (h : i < len) (T : At at stride n (y + i) a) where
  turn_fits : i + n ≤ len
  turn_fits =
      let e : (Y.0 + L.0) * n ≡ y + len = omega (arith, Y.1, L.1) in
      let o = order T.k (Y.0 + L.0) n (omega (arith, T.byte)) in
      omega (arith, mul-le-mul_right n o, T.byte)

  place : (j : ℕ) → j < n → at + ((y + (i + j)) / n * stride + (y + (i + j)) % n) ≡ a + j
  place j l =
      let e : y + (i + j) ≡ T.k * n + j = omega (arith, T.byte) in
      rw (div_of (y + (i + j)) n T.k j e l, mod_of (y + (i + j)) n T.k j e l) (omega (arith, T.run))

  turn_inside : a + n ≤ length bytes
  turn_inside =
      let l = R (i + (n - 1)) (omega (arith, turn_fits)) in
      let e = place (n - 1) (omega arith) in
      omega arith

  turn_bytes : (j : ℕ) → j < n → get_or (take (a + n - a) (drop a bytes)) j 0 ≡ run_byte bytes at stride n (y + (i + j))
  turn_bytes j l = part_at bytes a n j l ∙ ap (λ (x : ℕ). get_or bytes x 0) (sym (place j l))

-- ---- turn k copies run k of those wanted

pub record Turn (bytes : List ℕ) (at stride n y len k : ℕ) : Type 0 where
  pub fits : k * n + n ≤ len
  pub inside : at + y / n * stride + k * stride + n ≤ length bytes
  pub copied : (j : ℕ) → j < n
      → get_or (take (at + y / n * stride + k * stride + n - (at + y / n * stride + k * stride)) (drop (at + y / n * stride + k * stride) bytes)) j 0 ≡ run_byte bytes at stride n (y + (k * n + j))

-- so many runs are wanted
runs_of : (n len : ℕ) → 0 < n → Whole n len → len / n * n ≡ len
runs_of n len pn L =
    let e : len ≡ L.0 * n + 0 = omega (arith, L.1) in
    rw (div_of len n L.0 0 e pn) (sym L.1)

pub turn : (bytes : List ℕ) (at stride n y len k : ℕ) → 0 < n → Runs (length bytes) at stride n y len → Whole n y → Whole n len → k < len / n → Turn bytes at stride n y len k
turn bytes at stride n y len k pn R Y L h =
    let T = at_turn at stride n y k pn Y in
    let a = at + y / n * stride + k * stride in
    let l : k + 1 ≤ len / n = omega arith in
    let lt : k * n < len = omega (arith, mul-le-mul_right n l, runs_of n len pn L) in
    record {
      fits = turn_fits bytes at stride n y len (k * n) a pn R Y L lt T;
      inside = turn_inside bytes at stride n y len (k * n) a pn R Y L lt T;
      copied = turn_bytes bytes at stride n y len (k * n) a pn R Y L lt T;
    }

-- and so all of the bytes
pub all_runs : (n len k : ℕ) → 0 < n → Whole n len → len / n ≤ k → len ≤ k * n
all_runs n len k pn L h = omega (arith, mul-le-mul_right n h, runs_of n len pn L)
