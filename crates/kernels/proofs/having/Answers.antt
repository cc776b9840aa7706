use native.Mathlib.Omega.{arith}
use mathlib.Core.Path.{◌≡◌}
use Prim.Native.Nat.{◌+◌, ◌/◌}
use Rattle.kernels.proofs.Shuts.{not_shut}
use Rattle.kernels.proofs.having.Goals as goal

-- What is not shut.

pub returns : goal.returns
returns c gate S =
    let e : c.div_ceil.result ≡ (c.args.n + 3) / 4 = omega (arith, c.div_ceil.ensures) in
    not_shut gate c.args.n c.args.x c.interleaved-r.result c.lowest.result c.requires.1 (omega arith) S (rw e at c.interleaved-r.ensures) c.lowest.ensures
