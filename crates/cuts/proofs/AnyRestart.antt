-- A restart with enough that is not refused answers and leaves the same, state and all, whatever state it is handed.
use Rattle.std.specs.Prelude.{◌≡◌, refl, true, ℕ, ◌≤◌, length, ltb}
use Rattle.std.proofs.Common.{sym, ap, ◌∙◌, arith}
use Rattle.memory.specs.Booleans.{cond_pos}
use Rattle.memory.specs.Cases.{either, bool?, lt?}
use Rattle.layout.specs.Geometry.{State, geometry, unit_of}
use Rattle.layout.specs.Hash.{Family}
use Rattle.layout.specs.Calls.{Volume, accepted, refused, Result, refuse, bad_state, too_short, format}
use Rattle.layout.specs.Later.{call_again}
use Rattle.layout.specs.Header.{pages, state_in, Pending, nothing, changing, formatting, unknown, pending_in}
use Rattle.layout.specs.Budgets.{last_steps, pending_on, found_none, restart_for, restart_whole}
use Rattle.cuts.proofs.RestartLaws.{restart_is, restart_none, unknown_kind, restart_format, taken_outcome}
use Rattle.cuts.specs.AnyState.{with_state}
use Rattle.cuts.proofs.Whole.{restart_whole_is, restart_format_is}

refused_not : (i : ℕ) (r : Result) (v : Volume) → r ≡ refuse v i → r.outcome ≡ accepted → ⊥
refused_not i r v e a =
    let z : refused i ≡ accepted = ap (λ (x : Result). x.outcome) (sym e) ∙ a in
    let y : ◌≡◌ {A = ℕ} 0 1 = cc in
    omega arith

module _ (h : Family) (v : Volume) (s : State) (acc : (restart_whole h v).outcome ≡ accepted) where
  none_same : (found_none h v).outcome ≡ accepted → found_none h (with_state s v) ≡ found_none h v
  none_same a =
      either (bool? (bad_state (state_in v.ram)))
      (λ p. absurd (refused_not 1 (found_none h v) v (cond_pos (bad_state (state_in v.ram)) _ _ p) a))
      (λ p. either (bool? (too_short (geometry (state_in v.ram).sizes) v.flash (pages v.ram)))
      (λ q. absurd (refused_not 2 (found_none h v) v (rw (p, q)) a))
      (λ q. rw (p, q)))

  module _ (long : 64 ≤ length v.ram) where
    by_pending : (p : Pending) → pending_in v.ram ≡ p → restart_whole h (with_state s v) ≡ restart_whole h v
    by_pending nothing q =
        let e = restart_none h _ v long q in
        restart_none h _ (with_state s v) long q ∙ none_same (ap (λ (r : Result). r.outcome) (sym e) ∙ acc) ∙ sym e
    by_pending (changing c) q =
        let r : Result = call_again h (pending_on v) c in
        let done : (call_again h (pending_on v) c).outcome ≡ accepted
        = sym (ap (λ (x : Result). x.outcome) (restart_is h _ v long) ∙ rw q
        (taken_outcome _ (unit_of (state_in v.ram).sizes) v (last_steps (call_again h (pending_on v) c)) (call_again h (pending_on v) c)))
        ∙ acc in
        restart_whole_is h (with_state s v) long c q done ∙ sym (restart_whole_is h v long c q done)
    by_pending (formatting sizes) q =
        let done : (format (pending_on v) sizes).outcome ≡ accepted = sym (restart_format h _ v long sizes q) ∙ acc in
        restart_format_is h (with_state s v) long sizes q done ∙ sym (restart_format_is h v long sizes q done)
    by_pending unknown q = absurd (refused_not 1 _ v (unknown_kind h _ v long q) acc)

  too_short_lem : ltb (length v.ram) 64 ≡ true → restart_whole h v ≡ refuse v 2
  unfolding restart_for
  too_short_lem q = cond_pos (ltb (length v.ram) 64) _ _ q

  pub whole_state : restart_whole h (with_state s v) ≡ restart_whole h v
  whole_state =
      either (lt? (length v.ram) 64) (λ l. absurd (refused_not 2 _ v (too_short_lem l.0) acc))
      (λ l. by_pending l.1 (pending_in v.ram) refl)
