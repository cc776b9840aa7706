use Rattle.kernels.proofs.Eights.{nought}
use native.Mathlib.Omega.{arith}
use mathlib.Core.Path.{refl, ap, ◌∙◌}
use mathlib.Core.Bool.{◌&&◌}
use Prim.Native.Nat.{ℕ}
use lib.Dec.{ltb}
use lib.ListN.{get_or, length-set}
use Rattle.memory.specs.Bits.{bit}
use Rattle.kernels.proofs.Uptos.{upto_more, upto_none}
use Rattle.kernels.proofs.part.Goals as goal

-- A word more each turn.

pub loop-j-init : goal.loop-j-init
loop-j-init c = (refl, upto_none _ _ _ (omega arith) nought)

pub loop-j-preserved : goal.loop-j-preserved
loop-j-preserved c =
    let l = c.loop-j in
    let x = c.args in (
      length-set l.r l.j c.lowest.result ∙ l.invariant.0,
      upto_more (λ k i. bit (get_or x.f k 0) i) x.n l.j c.lowest.result l.r (omega arith) (omega (arith, c.requires)) l.invariant.0 l.invariant.1
          (λ i h. c.lowest.ensures i h ∙ ap (λ (z : ℕ). ltb i z && bit (get_or x.f l.j 0) i) c.min.ensures),
    )
