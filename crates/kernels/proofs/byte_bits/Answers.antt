use native.Mathlib.Omega.{arith}
use mathlib.Core.Path.{◌≡◌, refl}
use Prim.Native.Nat.{ℕ, ◌+◌, ◌-◌, ◌*◌, ◌%◌, ◌^◌, ◌≤◌}
use lib.ListN.{get_or}
use lib.Pow.{pow-add}
use Rattle.kernels.proofs.Gather.{one_of, pack_more, pack_all, unpack}
use Rattle.kernels.proofs.byte_bits.Invariants.{has}
use Rattle.kernels.proofs.byte_bits.Goals as goal

-- A digit more each turn, below those of later bytes.

twice : (n k : ℕ) → 1 ≤ k → k ≤ n → 2 ^ (n - (k - 1)) ≡ 2 * 2 ^ (n - k)
twice n k h l = let e : n - (k - 1) ≡ 1 + (n - k) = omega arith in rw e (pow-add 2 1 (n - k))

pub loop-k-preserved : goal.loop-k-preserved
loop-k-preserved c =
    let x = c.args in
    let l = c.loop-k in
    let s = x.low % 8 in
    let k = l.k - 1 in
    let f = has x.at x.low x.step x.bytes.now in
    pack_more f s k (get_or x.bytes.now (x.at + k * x.step) 0) ((1 * 2 ^ s) % 2 ^ 64) c.masked-b.result (one_of s (omega arith)) (rw c.byte_at.ensures at c.masked-b.ensures.0) refl
    (x.n - l.k) (2 ^ (x.n - l.k)) l.k (x.n - k) (2 ^ (x.n - k)) l.r (omega arith) (omega arith) (twice x.n l.k (omega arith) (omega arith)) l.invariant

pub returns : goal.returns
returns c =
    let l = c.loop-k in
    let x = c.args in
    let f = has x.at x.low x.step x.bytes.now in
    unpack f (x.low % 8) x.n (2 ^ x.n) l.r _ refl (pack_all f (x.low % 8) x.n l.k l.r (omega arith) l.invariant)
