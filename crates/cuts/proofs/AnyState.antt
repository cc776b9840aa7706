-- A restart "is handed a state too but goes by the header's": whatever state it is handed, on any bytes, it answers the same and leaves the
-- same bytes.
use Rattle.std.specs.Prelude.{Bool, true, false, cond, List, ℕ, length, ltb}
use Rattle.std.proofs.Math.Path.{refl}
use Rattle.layout.specs.Geometry.{State, geometry, unit_of}
use Rattle.layout.specs.Hash.{Family}
use Rattle.layout.specs.Calls.{Volume, Outcome, accepted, hit, miss, refused, Result, bad_state, too_short, format}
use Rattle.layout.specs.Later.{call_again}
use Rattle.layout.specs.Header.{pages, state_in, Pending, nothing, changing, formatting, unknown, pending_in}
use Rattle.layout.specs.Budgets.{Step, last_steps, taken_by, taken, pending_on, resumed, restart_for}
use Rattle.cuts.specs.AnyState.{with_state, SameAnswer}

same_either : (t : Bool) (r s r' s' : Result) → SameAnswer r r' → SameAnswer s s' → SameAnswer (cond t r s) (cond t r' s')
same_either true r s r' s' p q = p
same_either false r s r' s' p q = q

module _ (h : Family) (b : ℕ) (v : Volume) (s : State) where
  taken_same : (u : ℕ) (ss : List Step) (r : Result) → SameAnswer (taken b u v ss r) (taken b u (with_state s v) ss r)
  taken_same u ss r = by r.outcome
    where
      by : (o : Outcome) → SameAnswer (taken_by o b u v ss r) (taken_by o b u (with_state s v) ss r)
      by accepted = record { outcome = refl; flash = refl; ram = refl; ops = refl }
      by (hit place bytes) = record { outcome = refl; flash = refl; ram = refl; ops = refl }
      by miss = record { outcome = refl; flash = refl; ram = refl; ops = refl }
      by (refused i) = record { outcome = refl; flash = refl; ram = refl; ops = refl }

  resumed_same : (p : Pending) → SameAnswer (resumed h b v p) (resumed h b (with_state s v) p)
  resumed_same nothing =
      same_either (bad_state (state_in v.ram)) _ _ _ _ (record { outcome = refl; flash = refl; ram = refl; ops = refl })
      (same_either (too_short (geometry (state_in v.ram).sizes) v.flash (pages v.ram)) _ _ _ _
      (record { outcome = refl; flash = refl; ram = refl; ops = refl }) (record { outcome = refl; flash = refl; ram = refl; ops = refl }))
  resumed_same (changing c) =
      taken_same (unit_of (state_in v.ram).sizes) (last_steps (call_again h (pending_on v) c)) (call_again h (pending_on v) c)
  resumed_same (formatting sizes) = taken_same (unit_of sizes) (last_steps (format (pending_on v) sizes)) (format (pending_on v) sizes)
  resumed_same unknown = record { outcome = refl; flash = refl; ram = refl; ops = refl }

  pub any_state : SameAnswer (restart_for h b v) (restart_for h b (with_state s v))
  unfolding restart_for
  any_state =
      same_either (ltb (length v.ram) 64) _ _ _ _ (record { outcome = refl; flash = refl; ram = refl; ops = refl })
      (resumed_same (pending_in v.ram))
