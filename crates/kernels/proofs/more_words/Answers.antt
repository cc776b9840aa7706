use native.Mathlib.Nat.{mul-le-mul_right}
use Rattle.kernels.proofs.Folds.{eight_le}
use native.Mathlib.Omega.{arith}
use mathlib.Core.Path.{◌≡◌, ap, ◌∙◌}
use Prim.Native.Nat.{ℕ, ◌+◌, ◌-◌, ◌*◌, ◌/◌, ◌≤◌}
use lib.ListN.{get_or}
use Rattle.kernels.specs.Rows.{all_in}
use Rattle.kernels.proofs.Folds.{word_more, shows_none}
use Rattle.kernels.proofs.more_words.Goals as goal

-- A word more each turn, a block after another.

most : (n b j : ℕ) → (n - b) * 8 - j ≤ n * 8
most n b j = omega arith

pub loop-b-init : goal.loop-b-init
loop-b-init c =
    let x = c.args in
    let z : (x.n - x.n) * 8 ≡ 0 = omega arith in
    shows_none (all_in x.bytes.now x.rows.now x.w) _ _ 0 (ap (λ (y : ℕ). y * (64 / x.w)) z ∙ omega arith)

pub loop-j-preserved : goal.loop-j-preserved
loop-j-preserved c =
    let k = c.loop-j in
    let l = c.loop-b in
    let x = c.args in
    let p = c.requires.sizes in
    let j = k.j - 1 in
    let Q = x.q + (l.b - 1) * 8 + j in
    let N = (x.n - (l.b - 1)) * 8 - k.j in
    word_more x.bytes.now x.rows.now x.w ((64 / x.w)) Q N k.r (get_or c.field_block-f.result j 0) c.squeeze-s.result
    (omega (arith, eight_le p.0.0 x.w p.0.1 p.0.3)) p.1 c.requires.rows.1 (c.field_block-f.ensures j (omega arith)) c.squeeze-s.ensures
    (x.q + (l.b - 1) * 8 + k.j) ((x.n - (l.b - 1)) * 8 - j) (omega arith) (omega arith)
    (omega (arith, mul-le-mul_right ((64 / x.w)) (most x.n (l.b - 1) j), p.2)) k.invariant
