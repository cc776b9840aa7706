use native.Mathlib.Omega.{arith}
use mathlib.Core.Path.{◌≡◌}
use Rattle.fields.proofs.Halving.{half1, half2, half4}
use Rattle.fields.proofs.Lanes.{not_others}
use Rattle.fields.proofs.even_fields.Goals as goal

pub returns-in-1 : goal.returns-in-1
returns-in-1 c = rw c.in-1.is (half1 c.args.x (omega arith))

pub returns-in-2 : goal.returns-in-2
returns-in-2 c = rw c.in-2.is (half2 c.args.x (omega arith))

pub returns-in_default : goal.returns-in_default
returns-in_default c =
    let a : c.args.w ≡ 1 → ⊥ = omega arith in
    let b : c.args.w ≡ 2 → ⊥ = omega arith in
    rw (not_others c.args.w c.requires a b) (half4 c.args.x (omega arith))
