use native.Mathlib.Omega.{arith}
use mathlib.Core.Path.{◌≡◌, refl, ap, ◌∙◌}
use mathlib.Core.Bool.{and_comm}
use Prim.Native.Nat.{ℕ}
use lib.ListN.{get_or, length-set}
use lib.Seq.{get_or-set_same, get_or-set_other}
use Rattle.memory.specs.Bits.{bit, bit_and_lem}
use Rattle.memory.specs.Cases.{either, eq?}
use Rattle.kernels.proofs.and_row.Goals as goal

-- A word more each turn.

pub loop-j-preserved : goal.loop-j-preserved
loop-j-preserved c =
    let x = c.args in
    let l = c.loop-j in
    let I = l.invariant in
    let y = c.word.result in
    record {
      eight = length-set l.r l.j _ ∙ I.eight;
      left = λ k h. get_or-set_other l.r l.j k _ 0 (λ e. omega (arith, e, h)) ∙ I.left k (omega (arith, h));
      done = λ k h i t.
          either (eq? k l.j)
          (λ s.
          let e : k ≡ l.j = s.1 in
          rw (e, get_or-set_same l.r l.j _ 0 (omega (arith, I.eight)))
          (bit_and_lem (get_or l.r l.j 0) y i ∙ (and_comm (bit (get_or l.r l.j 0) i) (bit y i) ∙ rw (c.word.ensures i t, I.left l.j (omega arith)) refl)))
          (λ s.
          let ne = s.1 in
          ap (λ (z : ℕ). bit z i) (get_or-set_other l.r l.j k _ 0 ne) ∙ I.done k (omega (arith, h, ne)) i t);
    }
