use native.Mathlib.Omega.{arith}
use Prim.Native.Nat.{ℕ, ◌<◌}
use mathlib.Core.Path.{◌∙◌}
use lib.ListN.{length, get_or}
use Rattle.fields.proofs.Copies.{copy_inside, copies}
use Rattle.fields.proofs.copy_run.Goals as goal

pub slice_bounds-copy-end : goal.slice_bounds-copy-end
slice_bounds-copy-end c =
    omega (arith, copy_inside c.args.bytes.now c.args.s c.args.w c.args.y (length c.args.out.now) c.requires.0 c.requires.1 c.requires.3 c.requires.2)

pub returns : goal.returns
returns c =
    let small : (i : ℕ) → get_or c.args.bytes.now i 0 < 256 = λ i. omega (arith, c.type_inv.bytes i) in
    c.copy.ensures
    ∙ copies c.args.bytes.now c.args.s c.args.w c.args.y (length c.args.out.now) c.requires.0 c.requires.1 c.requires.3 c.requires.2 small
