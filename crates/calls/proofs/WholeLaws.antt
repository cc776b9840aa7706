-- A call that has enough: what it leaves is what it leaves with any budget that is enough.
use mathlib.Core.Path.{◌≡◌, refl, ap, ◌∙◌}
use mathlib.Core.List.{List}
use Prim.Native.Nat.{ℕ, ◌+◌, ◌≤◌}
use native.Mathlib.Omega.{arith}
use lib.ListN.{length}
use Rattle.layout.specs.Geometry.{unit_of}
use Rattle.layout.specs.Hash.{fnv_family}
use Rattle.layout.specs.Calls.{Volume, Outcome, accepted, hit, miss, refused, Result}
use Rattle.layout.specs.Header.{intended}
use Rattle.layout.specs.Budgets.{Step, call_steps, taken_by, taken, result_of, call_for, call_cut, call_whole}
use Rattle.laws.specs.StepLaws.{last_length, taken_enough}
use Rattle.std.specs.Prelude.{Ok, Err}
use Rattle.state.specs.Contract.{call_of, volume, effect_of, change_effect, cut_of, cut_by}
use Rattle.state.specs.declared.State.{State}
use Rattle.state.specs.declared.Cut.{Cut}
use Rattle.state.specs.declared.Refusal.{Refusal}
use Rattle.state.proofs.RunLaws.{uncut_ok, uncut_err}
use Rattle.state.specs.declared.Request.{Request}
use Rattle.calls.specs.Few.{few_ops, none_counted}

-- the budget of a call that is not cut
abbrev pub enough : ℕ
enough = 18446744073709551615

taken_count : (b u : ℕ) (v : Volume) (ss : List Step) (r : Result) → r.count ≡ 0 → (taken b u v ss r).count ≡ 0
taken_count b u v ss r e = by r.outcome
  where
    by : (o : Outcome) → (taken_by o b u v ss r).count ≡ 0
    by accepted = refl
    by (hit place bytes) = e
    by miss = e
    by (refused i) = refl

module _ (v : Volume) (q : Request) where
  abbrev result : Result
  result = result_of fnv_family v (call_of q)

  for_count : (b : ℕ) → (call_for fnv_family b v (call_of q)).count ≡ 0
  unfolding call_for
  for_count b = taken_count b (unit_of v.state.sizes) v (call_steps (intended v (call_of q)) result) result (none_counted v q)

  pub any_enough : (b : ℕ) → length result.ops + 2 ≤ b → call_for fnv_family b v (call_of q) ≡ call_whole fnv_family v (call_of q)
  unfolding call_for
  any_enough b h =
      let n = last_length result in
      taken_enough b (length result.ops + 2) (unit_of v.state.sizes) v (call_steps (intended v (call_of q)) result) result
      (omega (arith, n, h)) (omega (arith, n))

-- what the caller of a call that is not cut is told, by the answer of one with a budget that is enough
module _ (s : State) (q : Request) (main spare ram m' s' r' : List ℕ) where
  abbrev handed : Volume
  handed = volume s main spare ram

  pub whole_ok : (c : Cut) → cut_by s (Ok c) m' s' r' ≡ cut_of (call_cut fnv_family enough handed (call_of q))
      → change_effect s (Ok c.state) m' s' r' ≡ effect_of (call_whole fnv_family handed (call_of q))
  whole_ok c e =
      uncut_ok s c m' s' r' enough _ (call_for fnv_family enough handed (call_of q)) e (for_count handed q enough)
      ∙ ap effect_of (any_enough handed q enough (few_ops handed q))

  pub whole_err : (i : Refusal) → cut_by s (Err i) m' s' r' ≡ cut_of (call_cut fnv_family enough handed (call_of q))
      → change_effect s (Err i) m' s' r' ≡ effect_of (call_whole fnv_family handed (call_of q))
  whole_err i e =
      uncut_err s i m' s' r' enough _ (call_for fnv_family enough handed (call_of q)) e (for_count handed q enough)
      ∙ ap effect_of (any_enough handed q enough (few_ops handed q))
