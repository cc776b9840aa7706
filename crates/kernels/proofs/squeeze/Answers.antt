use native.Mathlib.Omega.{arith}
use mathlib.Core.Path.{◌≡◌}
use Rattle.kernels.proofs.Joins.{squeezed_2, squeezed_8, squeezed_16, squeezed_32, squeezed_64}
use Rattle.kernels.proofs.Widths.{sixty_four}
use Rattle.kernels.proofs.squeeze.Goals as goal

-- Two fields make one, until one is left.

pub returns-in-2 : goal.returns-in-2
returns-in-2 c =
    rw c.in-2.is
    (squeezed_2 c.args.x c.join-a.result c.join-b.result c.join-c.result c.join-d.result c.join.result (omega arith)
    c.join-a.ensures c.join-b.ensures c.join-c.ensures c.join-d.ensures c.join.ensures)

pub returns-in-8 : goal.returns-in-8
returns-in-8 c =
    rw c.in-8.is
    (squeezed_8 c.args.x c.join-a-in-8.result c.join-b-in-8.result c.join-in-8.result (omega arith)
    c.join-a-in-8.ensures c.join-b-in-8.ensures c.join-in-8.ensures)

pub returns-in-16 : goal.returns-in-16
returns-in-16 c =
    rw c.in-16.is
    (squeezed_16 c.args.x c.join-a-in-16.result c.join-in-16.result (omega arith)
    c.join-a-in-16.ensures c.join-in-16.ensures)

pub returns-in-32 : goal.returns-in-32
returns-in-32 c =
    rw c.in-32.is
    (squeezed_32 c.args.x c.join-in-32.result (omega arith)
    c.join-in-32.ensures)

pub returns-in_default : goal.returns-in_default
returns-in_default c =
    let p = c.requires.0 in
    let w = c.args.w in
    let a : w ≡ 2 → ⊥ = omega arith in
    let b : w ≡ 8 → ⊥ = omega arith in
    let d : w ≡ 16 → ⊥ = omega arith in
    let e : w ≡ 32 → ⊥ = omega arith in
    rw (sixty_four p.0 w p.1 p.2 p.3 a c.requires.1 b d e)
    (squeezed_64 c.args.x)
