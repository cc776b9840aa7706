use native.Mathlib.Omega.{arith}
use mathlib.Core.Path.{◌≡◌, sym, ap, ◌∙◌}
use mathlib.Core.Bool.{not}
use Prim.Native.Nat.{◌+◌, ◌*◌, ◌/◌}
use lib.Bits.{or_lt}
use Rattle.kernels.proofs.Masks.{lacks, shut_more}
use Rattle.kernels.proofs.lacking.Goals as goal

-- A word more each turn.

pub loop-j-preserved : goal.loop-j-preserved
loop-j-preserved c =
    let z = c.nonzero-z in
    let d = c.missing-d in
    let w = c.get64 in
    let l = c.loop-j in
    let f = c.four_times-mask in
    let x = c.args in (
      or_lt 64 (l.r / 2) z.result (omega (arith, l.invariant.0)) (omega arith),
      λ gate q h S G.
          let e : q + l.j + 1 ≡ q + (l.j + 1) = omega arith in
          rw e at (shut_more gate (q + l.j) l.r z.result l.invariant.0 (omega arith) (l.invariant.1 gate q h S G)
          (λ i t.
          let g : 4 * (q + l.j) + i ≡ 4 * q + (4 * l.j + i) = omega arith in
          lacks x.bytes.now x.at x.m f.result w.result d.result z.result l.j
          f.ensures w.ensures d.ensures z.ensures.0 i t
          ∙ ap not (sym (ap gate g ∙ G (4 * l.j + i) (omega arith))))
          z.ensures.1),
    )
