use Rattle.std.proofs.Common.{◌≡◌, ◌≢◌, ℕ, zero, suc, ◌^◌, arith}
use lib.Pow.{pow_pos}
use Rattle.items.proofs.page_has.Goals as goal

-- a power of two is not 3
not_three : (e u : ℕ) → u ≡ 2 ^ e → u ≢ 3
not_three zero u p = omega arith
not_three (suc e) u p = omega (arith, pow_pos e)

pub small_has-requires : goal.small_has-requires
small_has-requires c =
    let U = c.requires.0 in
    (U.1.some, c.if-chip-lt5.true, not_three U.0 c.args.chip.unit U.1.power, c.requires.1)
