use mathlib.Core.Bool.{Bool}
use native.Mathlib.Omega.{arith}
use mathlib.Core.Path.{◌≡◌, ap, ◌∙◌}
use Prim.Native.Nat.{ℕ, ◌+◌, ◌-◌, ◌*◌, ◌%◌, ◌<◌}
use lib.ListN.{get_or, length}
use Rattle.memory.specs.Bits.{bit}
use Rattle.kernels.proofs.Gather.{eight_more, above_eight}
use Rattle.kernels.proofs.row_bits.Goals as goal

-- Eight bits more each turn.

-- each of the eight
inside : (at step j n len : ℕ) → j < n → ((i : ℕ) → i < n * 8 → at + i * step < len) → (i : ℕ) → i < 8 → at + j * 8 * step + i * step < len
inside at step j n len h p i l = let e : (j * 8 + i) * step ≡ j * 8 * step + i * step = omega arith in omega (arith, p (j * 8 + i) (omega arith), e)

pub byte_bits-b-requires : goal.byte_bits-b-requires
byte_bits-b-requires c =
    let x = c.args in
    (omega arith, inside x.at x.step (c.loop-j.j - 1) x.n (length x.bytes.now) (omega arith) c.requires.1)

pub loop-j-preserved : goal.loop-j-preserved
loop-j-preserved c =
    let l = c.loop-j in
    let x = c.args in
    let f : ℕ → Bool = λ k. bit (get_or x.bytes.now (x.at + k * x.step) 0) (x.low % 8) in
    let e : (l.j - 1) * 8 + 8 ≡ l.j * 8 = omega arith in (
      λ i h. eight_more f ((l.j - 1) * 8) ((x.n - l.j) * 8) l.r c.byte_bits-b.result (omega (arith, c.requires.0)) c.byte_bits-b.ensures.0
          (λ k t.
          let d : x.at + (l.j - 1) * 8 * x.step + k * x.step ≡ x.at + ((l.j - 1) * 8 + k) * x.step = omega arith in
          c.byte_bits-b.ensures.1 k t ∙ ap (λ (z : ℕ). bit (get_or x.bytes.now z 0) (x.low % 8)) d)
          (λ k t. rw e (l.invariant.0 k t)) i (omega arith),
      λ i h.
          let d : (x.n - (l.j - 1)) * 8 + i ≡ 8 + ((x.n - l.j) * 8 + i) = omega arith in
          rw d (above_eight l.r c.byte_bits-b.result ((x.n - l.j) * 8 + i) (omega (arith, d, h)) c.byte_bits-b.ensures.0 ∙ l.invariant.1 i (omega (arith, d, h))),
    )
