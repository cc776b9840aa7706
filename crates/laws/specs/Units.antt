-- The unit of an allowed chip, S/16: a power of two up to 32.
use Rattle.std.specs.Prelude.{◌≡◌, ℕ, ◌*◌, ◌^◌, ◌<◌, ◌≤◌}
use Rattle.std.proofs.Common.{arith, pow_pos, pow_mono}
use Rattle.memory.specs.Power.{PowerOfTwo, power_times}

-- the unit is 2 ^ e; its bounds follow
pub record UnitIs (u e : ℕ) : Type 0 where
  pub small : e < 6
  pub power : u ≡ 2 ^ e
  pub some : 0 < u
  pub most : u ≤ 32

pub unit_is : (u e : ℕ) → e < 6 → u ≡ 2 ^ e → UnitIs u e
unit_is u e small power =
    let l : e ≤ 5 = omega arith in
    let p : 2 ^ e ≤ 2 ^ 5 = pow_mono l in
    record { small = small; power = power; some = omega (arith, pow_pos e); most = omega arith }

-- the unit is one of the six allowed
abbrev pub UnitSound : ℕ → Type 0
UnitSound u = (e : ℕ) × UnitIs u e

-- sizes that are a power of two of units are powers of two
pub unit_times : (k u : ℕ) → UnitSound u → PowerOfTwo (2 ^ k * u)
unit_times k u (e, s) = power_times k u (e, s.power)
