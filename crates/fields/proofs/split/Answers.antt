use native.Mathlib.Omega.{arith}
use mathlib.Core.Path.{◌≡◌}
use Rattle.fields.proofs.Masks.{apart_7, apart_14, apart_28, apart_12, apart_6, apart_16, apart_8, apart_4, split_1, split_2, split_4}
use Rattle.fields.proofs.Lanes.{not_others}
use Rattle.fields.proofs.split.Goals as goal

pub exchanged-a-requires : goal.exchanged-a-requires
exchanged-a-requires c = (omega arith, apart_7)

pub exchanged-b-requires : goal.exchanged-b-requires
exchanged-b-requires c = (omega arith, apart_14)

pub exchanged-requires : goal.exchanged-requires
exchanged-requires c = (omega arith, apart_28)

pub returns-in-1 : goal.returns-in-1
returns-in-1 c =
    rw c.in-1.is
    (split_1 c.args.x c.exchanged-a.result c.exchanged-b.result c.exchanged.result c.exchanged-a.ensures c.exchanged-b.ensures c.exchanged.ensures)

pub exchanged-a-requires-in-2 : goal.exchanged-a-requires-in-2
exchanged-a-requires-in-2 c = (omega arith, apart_12)

pub exchanged-b-requires-in-2 : goal.exchanged-b-requires-in-2
exchanged-b-requires-in-2 c = (omega arith, apart_6)

pub exchanged-c-requires : goal.exchanged-c-requires
exchanged-c-requires c = (omega arith, apart_16)

pub exchanged-requires-in-2 : goal.exchanged-requires-in-2
exchanged-requires-in-2 c = (omega arith, apart_8)

pub returns-in-2 : goal.returns-in-2
returns-in-2 c =
    rw c.in-2.is
    (split_2 c.args.x c.exchanged-a-in-2.result c.exchanged-b-in-2.result c.exchanged-c.result c.exchanged-in-2.result
    c.exchanged-a-in-2.ensures c.exchanged-b-in-2.ensures c.exchanged-c.ensures c.exchanged-in-2.ensures)

pub exchanged-a-requires-in_default : goal.exchanged-a-requires-in_default
exchanged-a-requires-in_default c = (omega arith, apart_4)

pub exchanged-b-requires-in_default : goal.exchanged-b-requires-in_default
exchanged-b-requires-in_default c = (omega arith, apart_8)

pub exchanged-requires-in_default : goal.exchanged-requires-in_default
exchanged-requires-in_default c = (omega arith, apart_16)

pub returns-in_default : goal.returns-in_default
returns-in_default c =
    let a : c.args.w ≡ 1 → ⊥ = omega arith in
    let b : c.args.w ≡ 2 → ⊥ = omega arith in
    let four = not_others c.args.w c.requires a b in
    rw four
    (split_4 c.args.x c.exchanged-a-in_default.result c.exchanged-b-in_default.result c.exchanged-in_default.result c.exchanged-a-in_default.ensures c.exchanged-b-in_default.ensures c.exchanged-in_default.ensures)
