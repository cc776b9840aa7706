-- Powers of two by the least exponent that reaches them.
use Rattle.std.specs.Prelude.{◌≡◌, ℕ, ◌+◌, ◌*◌, ◌^◌, ◌≤◌}
use Rattle.std.proofs.Common.{arith, ap, sym, ◌∙◌, ⊎_elim, pow_pos, pow_mono, pow-add}
use Rattle.memory.specs.Cases.{lt?}
use Rattle.memory.specs.Power.{PowerOfTwo, log2up, log2up_enough, log2up_least}
use Rattle.laws.specs.Units.{UnitIs, UnitSound}

pub log2up_power : (e : ℕ) → log2up (2 ^ e) ≡ e
log2up_power e =
    let k = log2up (2 ^ e) in
    let h : 2 ^ e ≤ 2 ^ k = log2up_enough (2 ^ e) in
    let l : k ≤ e = log2up_least (2 ^ e) e (omega arith) in
    let lower : k + 1 ≤ e → ⊥ =
    λ s.
    let m : 2 ^ (k + 1) ≤ 2 ^ e = pow_mono s in
    let q : 2 ^ (k + 1) ≡ 2 ^ k * 2 = pow-add 2 k 1 in
    omega (arith, h, m, q, pow_pos k) in
    ⊎_elim (λ p. absurd (lower (omega (arith, p.1)))) (λ p. omega (arith, p.1)) (lt? k e)

pub power_is : (n : ℕ) → PowerOfTwo n → n ≡ 2 ^ log2up n
power_is n (e, p) = rw p (ap (λ k. 2 ^ k) (sym (log2up_power e)))

-- the unit of an allowed chip
pub unit_power : (u : ℕ) → UnitSound u → UnitIs u (log2up u)
unit_power u (e, s) =
    let k : log2up u ≡ e = ap log2up s.power ∙ log2up_power e in
    rw k s
