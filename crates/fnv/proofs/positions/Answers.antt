use Rattle.std.proofs.Common.{◌+◌, ◌*◌, ◌%◌, ap, ◌∙◌, arith}
use Rattle.layout.specs.Hash.{fnv_family}
use Rattle.fnv.specs.Hashed.{bytes_of}
use Rattle.fnv.proofs.Laws.{filled}
use Rattle.fnv.proofs.positions.Goals as goal

-- Position after position.

pub returns-clause-equal : goal.returns-clause-equal
returns-clause-equal c =
    let l = c.loop-i in
    let x = c.args in
    filled fnv_family x.count x.chip.unit (bytes_of x.x) l.ps (omega arith) l.invariant.long
    (λ j h. (l.invariant.front j (omega arith)).0
    ∙ ap (λ z. z + fnv_family (j + 1) (bytes_of x.x) % (16 * x.chip.unit)) c.fourth_of-start.ensures.0)
    (λ j h k. l.invariant.rest j (omega arith) k)
