use native.Mathlib.Omega.{arith}
use Prim.Native.Nat.{ℕ, ◌+◌, ◌*◌, ◌/◌, ◌^◌, ◌<◌}
use mathlib.Core.Path.{ap}
use lib.ListN.{length, get_or}
use Rattle.fields.proofs.Halving.{narrow, both_inside, pair_low, pair_high, halved_is}
use Rattle.fields.proofs.halved_byte.Goals as goal

pub bounds-bytes-a : goal.bounds-bytes-a
bounds-bytes-a c =
    omega (arith, both_inside c.args.bytes.now c.args.s c.args.w c.args.y c.requires.0 c.requires.2 c.requires.3 (length c.args.bytes.now) c.requires.1)

pub bounds-bytes-a-2 : goal.bounds-bytes-a-2
bounds-bytes-a-2 c =
    both_inside c.args.bytes.now c.args.s c.args.w c.args.y c.requires.0 c.requires.2 c.requires.3 (length c.args.bytes.now) c.requires.1

pub even_fields-lo-requires : goal.even_fields-lo-requires
even_fields-lo-requires c =
    narrow c.args.bytes.now c.args.s c.args.w c.args.y c.requires.0 c.requires.2 c.requires.3

pub even_fields-hi-requires : goal.even_fields-hi-requires
even_fields-hi-requires c =
    narrow c.args.bytes.now c.args.s c.args.w c.args.y c.requires.0 c.requires.2 c.requires.3

pub returns : goal.returns
returns c =
    let x = c.args in
    let at = x.s.at + 2 * x.y in
    let p = get_or x.bytes.now at 0 in
    let q = get_or x.bytes.now (at + 1) 0 in
    let e = ap (λ (z : ℕ). z / 2 ^ x.s.low) c.from_le_bytes.ensures in
    let lt : p < 256 = omega (arith, c.type_inv.bytes at) in
    halved_is x.bytes.now x.s x.w x.y c.requires.0 c.requires.2 c.requires.3 c.even_fields-lo.result c.even_fields-hi.result
    (pair_low x.bytes.now x.s x.w x.y c.requires.0 c.requires.2 c.requires.3 p q _ c.even_fields-lo.result lt e c.even_fields-lo.ensures)
    (pair_high x.bytes.now x.s x.w x.y c.requires.0 c.requires.2 c.requires.3 p q _ c.even_fields-hi.result lt e c.even_fields-hi.ensures)
