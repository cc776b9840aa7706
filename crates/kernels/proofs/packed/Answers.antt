use native.Mathlib.Omega.{arith}
use mathlib.Core.Path.{◌≡◌}
use Prim.Native.Nat.{◌+◌, ◌-◌, ◌*◌, ◌/◌, ◌%◌}
use Rattle.memory.specs.Cases.{either, lt?}
use Rattle.kernels.proofs.Fews.{four}
use Rattle.kernels.proofs.packed.Goals as goal

-- A half or a quarter of the word after the other.

pub returns-then-this-eq2 : goal.returns-then-this-eq2
returns-then-this-eq2 g c i h =
    let k = c.args.k in
    let E = c.halves.ensures in
    rw c.if-this-eq2.true
    (either (lt? i 32)
    (λ t.
    let e : k + i * 2 / 64 ≡ k = omega (arith, t.1) in
    let d : i * 2 % 64 ≡ i * 2 = omega (arith, t.1) in
    rw (e, d) (E i t.1).0)
    (λ t.
    let s : 32 + (i - 32) ≡ i = omega (arith, t.1) in
    let e : k + i * 2 / 64 ≡ k + 1 = omega (arith, t.1) in
    let d : i * 2 % 64 ≡ (i - 32) * 2 = omega (arith, t.1) in
    rw (e, d) (rw s at (E (i - 32) (omega arith)).1)))

pub returns : goal.returns
returns g c i h =
    let k = c.args.k in
    let E = c.quarters.ensures in
    rw (four g.row.W c.requires.0 c.if-this-eq2.false)
    (either (lt? i 16)
    (λ t.
    let e : k + i * 4 / 64 ≡ k = omega (arith, t.1) in
    let d : i * 4 % 64 ≡ i * 4 = omega (arith, t.1) in
    rw (e, d) (E i t.1).0)
    (λ t.
    either (lt? i 32)
    (λ u.
    let s : 16 + (i - 16) ≡ i = omega (arith, t.1) in
    let e : k + i * 4 / 64 ≡ k + 1 = omega (arith, t.1, u.1) in
    let d : i * 4 % 64 ≡ (i - 16) * 4 = omega (arith, t.1, u.1) in
    rw (e, d) (rw s at (E (i - 16) (omega (arith, t.1, u.1))).1))
    (λ u.
    either (lt? i 48)
    (λ v.
    let s : 32 + (i - 32) ≡ i = omega (arith, u.1) in
    let e : k + i * 4 / 64 ≡ k + 2 = omega (arith, u.1, v.1) in
    let d : i * 4 % 64 ≡ (i - 32) * 4 = omega (arith, u.1, v.1) in
    rw (e, d) (rw s at (E (i - 32) (omega (arith, u.1, v.1))).2))
    (λ v.
    let s : 48 + (i - 48) ≡ i = omega (arith, v.1) in
    let e : k + i * 4 / 64 ≡ k + 3 = omega (arith, v.1) in
    let d : i * 4 % 64 ≡ (i - 48) * 4 = omega (arith, v.1) in
    rw (e, d) (rw s at (E (i - 48) (omega arith)).3)))))
