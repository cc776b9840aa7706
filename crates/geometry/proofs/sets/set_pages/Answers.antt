use native.Mathlib.Omega.{arith}
use Prim.Native.Nat.{ℕ, ◌*◌, ◌%◌, ◌^◌, ◌≤◌}
use mathlib.Core.Path.{◌≡◌, refl, ap, ◌∙◌}
use lib.Pow.{pow_mono, pow_pos}
use Rattle.memory.specs.Power.{log2up, log2up_least}
use Rattle.geometry.proofs.sets.set_pages.Goals as goal

-- A shift is a product, and stays small.

pub returns-then-c-eq0 : goal.returns-then-c-eq0
unfolding log2up
returns-then-c-eq0 c = rw c.if-c-eq0.true (refl, omega arith, omega arith)

-- the exponent of at most 128 rounds
small : (c r : ℕ) → r ≡ log2up c → c ≤ 128 → r ≤ 7
small c r e h = omega (arith, log2up_least c 7 (omega arith))

pub overflow_shl-power : goal.overflow_shl-power
overflow_shl-power c =
    omega (arith, small c.before.before.args.c c.partition_exponent.result c.partition_exponent.ensures c.before.before.requires)

pub overflow_mul-result : goal.overflow_mul-result
overflow_mul-result c =
    let l = small c.before.before.args.c c.partition_exponent.result c.partition_exponent.ensures c.before.before.requires in
    let e : 1 * 2 ^ c.partition_exponent.result % 2 ^ 64 ≡ 2 ^ c.partition_exponent.result = omega (arith, pow_mono l) in
    omega (arith, pow_mono l)

pub returns : goal.returns
returns c =
    let r = c.partition_exponent.result in
    let l = small c.before.before.args.c r c.partition_exponent.ensures c.before.before.requires in
    let p = pow_mono l in
    let e : 16 * (1 * 2 ^ r % 2 ^ 64) ≡ 16 * 2 ^ r = omega arith in
    (e ∙ ap (λ (k : ℕ). 16 * 2 ^ k) c.partition_exponent.ensures, omega (arith, pow_pos r), omega arith)
