-- Pages and widths of partition sets, all powers of two.
use Rattle.std.specs.Prelude.{◌≡◌, ◌⊎◌, ℕ, suc, ◌+◌, ◌-◌, ◌*◌, ◌/◌, ◌^◌, ◌≤◌, ◌<◌}
use Rattle.std.proofs.Common.{sym, ap, ◌∙◌, inl, inr, arith, pow-add, pow_pos}
use Rattle.memory.specs.Cases.{eq?, either}
use Rattle.memory.specs.Power.{log2up, log2up_enough, log2up_least}
use Rattle.layout.specs.Index.{set_width}
use Rattle.laws.specs.SetLaws.{width_is}
use Rattle.fields.specs.Laws.{pow_whole}

-- more rounds want no smaller power of two
pub log2up_next : (c : ℕ) → log2up c ≤ log2up (c + 1)
log2up_next c = log2up_least c (log2up (c + 1)) (omega (arith, log2up_enough (c + 1)))

-- nor one that is more than twice as large
pub log2up_step : (c : ℕ) → log2up (c + 1) ≤ log2up c + 1
log2up_step c = log2up_least (c + 1) (log2up c + 1) (omega (arith, log2up_enough c, pow_pos (log2up c), pow-add 2 (log2up c) 1))

module _ (u e : ℕ) (pow : u ≡ 2 ^ e) where
  -- the width of the next set divides that of the set before it, and a sector
  pub old_whole : (c : ℕ) → c < 4 * u → set_width u c / set_width u (c + 1) * set_width u (c + 1) ≡ set_width u c
  old_whole c h =
      rw (width_is u e pow c (omega arith), width_is u e pow (c + 1) (omega arith))
      (pow_whole (e + 2 - log2up c) (e + 2 - log2up (c + 1)) (omega (arith, log2up_next c)))

  pub sector_whole : (c : ℕ) → c ≤ 4 * u → 16 * u / set_width u c * set_width u c ≡ 16 * u
  sector_whole c h =
      let s : 16 * u ≡ 2 ^ (e + 4) = sym (pow-add 2 e 4 ∙ omega arith) in
      rw (width_is u e pow c h, s) (pow_whole (e + 4) (e + 2 - log2up c) (omega arith))

  -- it is that width or half of it
  pub next_width : (c : ℕ) → c < 4 * u → (set_width u c ≡ set_width u (c + 1)) ⊎ (set_width u c ≡ 2 * set_width u (c + 1))
  next_width c h =
      let s = log2up_next c in
      let t = log2up_step c in
      let m = log2up_least (c + 1) (e + 2) (omega (arith, pow-add 2 e 2)) in
      rw (width_is u e pow c (omega arith), width_is u e pow (c + 1) (omega arith))
      (either (eq? (log2up (c + 1)) (log2up c))
      (λ a. inl (ap (λ (n : ℕ). 2 ^ (e + 2 - n)) (sym a.1)))
      (λ a.
      let k : e + 2 - log2up c ≡ suc (e + 2 - log2up (c + 1)) = omega (arith, s, t, a.1, m) in
      inr (rw k (omega arith))))
