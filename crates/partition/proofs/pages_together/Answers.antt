use native.Mathlib.Omega.{arith}
use Prim.Native.Nat.{◌+◌}
use mathlib.Core.Path.{ap, ◌∙◌}
use Rattle.partition.specs.Shared.{together}
use Rattle.partition.proofs.Numbers.{width_of, pages_of}
use Rattle.partition.proofs.pages_together.Goals as goal

pub nonzero_div-w : goal.nonzero_div-w
nonzero_div-w c = (width_of c.args.chip.unit (c.args.set.rounds + 1) c.set_width-w.result c.requires.0 (omega (arith, c.requires.1)) c.set_width-w.ensures).1

pub returns : goal.returns
returns c =
    let v = c.set_width-w.result in
    let w = width_of c.args.chip.unit (c.args.set.rounds + 1) v c.requires.0 (omega (arith, c.requires.1)) c.set_width-w.ensures in
    let P = pages_of v w.1 in
    (c.max.ensures ∙ (P.0 ∙ ap together w.0), omega (arith, c.max.ensures), omega (arith, c.max.ensures, P.1))
