-- Filters that are not shut.
use mathlib.Core.Path.{◌≡◌, sym, ap, ◌∙◌}
use mathlib.Core.Bool.{Bool, ◌&&◌, not, not-not}
use Prim.Native.Nat.{ℕ, ◌+◌, ◌*◌, ◌-◌, ◌/◌, ◌%◌, ◌^◌, ◌≤◌, ◌<◌}
use native.Mathlib.Omega.{arith}
use lib.Dec.{ltb}
use borrow.Author.Tests.{le-ltb}
use Rattle.memory.specs.Bits.{bit, bit_shr}
use Rattle.memory.specs.Cases.{either, lt?}
use Rattle.kernels.specs.Blocks.{Open}
use Rattle.kernels.specs.Masks.{Shut}
use Rattle.kernels.proofs.Flips.{flip}

module _ (gate : ℕ → Bool) (n x r v : ℕ) (most : n ≤ 64) (fits : r < 2 ^ 64) (S : Shut gate ((n + 3) / 4) x)
    (R : (i j : ℕ) → i < 4 → j < 16 → bit r (4 * j + i) ≡ bit (x / 2 ^ (16 - (n + 3) / 4)) (16 * i + j))
    (C : (i : ℕ) → i < 64 → bit v i ≡ (ltb i n && bit (18446744073709551615 - r) i)) where
  shut_at : (i j : ℕ) → i < 4 → 4 * j + i < n → bit r (4 * j + i) ≡ not (gate (4 * j + i))
  unfolding Shut
  shut_at i j h l =
      let q = (n + 3) / 4 in
      let e : 16 - q + (16 * i + j) ≡ 16 * i + (16 - q + j) = omega arith in
      let f : 4 * (16 - q + j + q - 16) + i ≡ 4 * j + i = omega arith in
      R i j h (omega arith)
      ∙ (bit_shr x (16 - q) (16 * i + j)
      ∙ (ap (bit x) e
      ∙ (S i (16 - q + j) h (omega arith)
      ∙ (ap (λ (t : Bool). not t && not (gate (4 * (16 - q + j + q - 16) + i))) (le-ltb (16 - q + j) (16 - q) (omega arith))
      ∙ ap (λ (k : ℕ). not (gate k)) f))))

  pub not_shut : Open gate 0 n v
  unfolding Open
  not_shut i h =
      C i h ∙ either (lt? i n)
      (λ t.
      let e : 4 * (i / 4) + i % 4 ≡ i = omega arith in
      let f : i ≡ 0 + i = omega arith in
      let b : bit r i ≡ not (gate i) = rw e at (shut_at (i % 4) (i / 4) (omega arith) (omega (arith, t.1))) in
      ap (λ (z : Bool). ltb i n && z) (flip 64 r i fits h ∙ (ap not b ∙ (not-not (gate i) ∙ ap gate f))))
      (λ t. ap (λ (z : Bool). z && bit (18446744073709551615 - r) i) (le-ltb i n t.1) ∙ sym (ap (λ (z : Bool). z && gate (0 + i)) (le-ltb i n t.1)))
