use native.Mathlib.Omega.{arith}
use Rattle.kernels.proofs.Exchanges.{apart_30, apart_15, apart_24, apart_12, parting}
use Rattle.kernels.proofs.by_fours.Goals as goal

-- The same four exchanges, the last first.

pub exchanged-a-requires : goal.exchanged-a-requires
exchanged-a-requires c = (omega arith, apart_12)

pub exchanged-b-requires : goal.exchanged-b-requires
exchanged-b-requires c = (omega arith, apart_24)

pub exchanged-c-requires : goal.exchanged-c-requires
exchanged-c-requires c = (omega arith, apart_15)

pub exchanged-requires : goal.exchanged-requires
exchanged-requires c = (omega arith, apart_30)

pub returns : goal.returns
returns c =
    parting c.args.x c.exchanged-a.result c.exchanged-b.result c.exchanged-c.result c.exchanged.result
    c.exchanged-a.ensures c.exchanged-b.ensures c.exchanged-c.ensures c.exchanged.ensures
