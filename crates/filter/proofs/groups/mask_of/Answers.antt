use native.Mathlib.Nat.{mod-lt}
use native.Mathlib.Omega.{arith}
use Prim.Native.Nat.{ℕ, ◌%◌, ◌^◌, ◌≤◌, ◌<◌}
use lib.Bits.{or_lt}
use lib.ListN.{get_or}
use lib.Pow.{pow_pos, pow-lt, pow_mono}
use Rattle.filter.proofs.Masks.{mask_none, mask_more, row_more}
use Rattle.filter.proofs.groups.mask_of.Goals as goal

-- A bit more each turn, and what differs from the first.

-- a word has so many bits
top : (e : ℕ) → e ≤ 6 → 2 ^ e ≤ 64
top e h = pow_mono h

pub loop-p-init : goal.loop-p-init
loop-p-init c = let x = c.args in (pow_pos (2 ^ x.e), mask_none x.ps.now (2 ^ x.e), λ z j h. absurd (omega arith))

pub single-bits-requires : goal.single-bits-requires
single-bits-requires c =
    let P = c.power-w in
    omega (arith, P.ensures.0, mod-lt (get_or c.args.ps.now c.loop-p.p-index 0) P.ensures.1, top c.args.e c.requires.0)

pub loop-p-preserved : goal.loop-p-preserved
loop-p-preserved c =
    let x = c.args in
    let P = c.power-w in
    let l = c.loop-p in
    let p : ℕ = get_or x.ps.now l.p-index 0 in
    let k : p % P.result < 2 ^ x.e = rw (← P.ensures.0) (mod-lt p P.ensures.1) in (
      or_lt (2 ^ x.e) l.bits c.single-bits.result l.invariant.0 (rw c.single-bits.ensures.0 (pow-lt k)),
      mask_more x.ps.now l.p-index (2 ^ x.e) l.bits c.single-bits.result l.invariant.1 (rw P.ensures.0 at c.single-bits.ensures.1),
      row_more x.ps.now l.p-index x.e l.differ l.invariant.2,
    )
