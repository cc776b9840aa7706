use Rattle.kernels.proofs.Eights.{nought}
use native.Mathlib.Nat.{mul-le-mul_left}
use native.Mathlib.Omega.{arith}
use mathlib.Core.Path.{◌≡◌, refl, ap, ◌∙◌}
use mathlib.Core.Bool.{Bool, ◌&&◌}
use Prim.Native.Nat.{ℕ, ◌+◌, ◌-◌, ◌*◌, ◌^◌, ◌<◌, min}
use lib.Dec.{ltb}
use lib.ListN.{length, length-set}
use Rattle.memory.specs.Bits.{bit}
use Rattle.kernels.specs.Rows.{all_in}
use Rattle.kernels.specs.Blocks.{Open}
use Rattle.kernels.proofs.Uptos.{upto_more, upto_none, group_fewer}
use Rattle.kernels.proofs.wide_block.Goals as goal

-- A word more each turn.

small : (len first n w : ℕ) → 7 < w → (first + n) * w < 2 ^ 60 → first + n < 2 ^ 60
small len first n w h l = omega (arith, mul-le-mul_left (first + n) h)

of_open : (gate : ℕ → Bool) (first j m k y : ℕ) → m ≡ k → Open gate (first + j * 64) m y → (i : ℕ) → i < 64 → bit y i ≡ (ltb i k && gate (first + (j * 64 + i)))
unfolding Open
of_open gate first j m k y e R i h =
    let z : first + j * 64 + i ≡ first + (j * 64 + i) = omega arith in
    R i h ∙ (ap (λ (t : ℕ). ltb i t && gate (first + j * 64 + i)) e ∙ ap (λ (t : ℕ). ltb i k && gate t) z)

pub loop-j-init : goal.loop-j-init
loop-j-init c = (refl, upto_none _ _ _ (omega arith) nought)

pub passed-requires : goal.passed-requires
passed-requires c =
    let x = c.args in
    let l = c.loop-j in (
      c.requires.0,
      omega (arith, c.min.ensures),
      omega (arith, c.min.ensures),
      omega (arith, c.requires.2),
      group_fewer x.rows.now x.w (x.first + x.n) (x.first + l.j * 64 + c.min.result) (length x.bytes.now) (omega (arith, c.min.ensures)) c.requires.3,
    )

pub loop-j-preserved : goal.loop-j-preserved
loop-j-preserved c =
    let l = c.loop-j in
    let x = c.args in
    let m = c.min in (
      length-set l.r l.j c.passed.result ∙ l.invariant.0,
      upto_more (λ k i. all_in x.bytes.now x.rows.now x.w (x.first + (k * 64 + i))) x.n l.j c.passed.result l.r (omega arith) (omega (arith, c.requires.1)) l.invariant.0 l.invariant.1
          (λ i h. of_open (all_in x.bytes.now x.rows.now x.w) x.first l.j m.result (min (x.n - l.j * 64) 64) c.passed.result m.ensures c.passed.ensures i h),
    )
