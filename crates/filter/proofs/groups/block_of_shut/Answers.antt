use mathlib.Core.Path.{refl}
use Rattle.filter.proofs.RecentShut.{shut_two, shut_one}
use Rattle.filter.proofs.groups.block_of_shut.Goals as goal

-- Two words, or one.

pub returns-then-n-gt64 : goal.returns-then-n-gt64
returns-then-n-gt64 c =
    let x = c.args in
    let two = c.having-then-n-gt64 in
    (refl, shut_two x.n x.a x.b c.having.result two.result c.if-n-gt64.true c.requires.1 c.having.ensures two.ensures)

pub returns : goal.returns
returns c =
    let x = c.args in
    (refl, shut_one x.n x.a x.b c.having-2.result c.if-n-gt64.false c.having-2.ensures)
