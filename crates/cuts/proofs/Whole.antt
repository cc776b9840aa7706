-- Calls on any volume, whatever its bytes: with enough steps each is its result, in one equation; with none it does nothing; refusals.
use Rattle.std.specs.Prelude.{◌≡◌, refl, ◌⊎◌, List, [], ℕ, suc, ◌+◌, ◌≤◌, ◌<◌, length, leb}
use Rattle.std.proofs.Math.Path.{ap}
use Rattle.std.proofs.Common.{◌∙◌, inl, inr, arith, take_all}
use Rattle.std.proofs.Math.Bool.{true, false}
use Rattle.std.proofs.Math.Dec.{eqb}
use Rattle.memory.specs.Booleans.{cond_pos, cond_neg}
use Rattle.memory.specs.Cases.{either, le?, bool?}
use Rattle.layout.specs.Geometry.{geometry, Sizes, unit_of}
use Rattle.layout.specs.Flash.{apply_all}
use Rattle.layout.specs.Hash.{Family}
use Rattle.layout.specs.Refusals as refusal
use Rattle.layout.specs.Calls.{Volume, Call, Outcome, accepted, hit, miss, refused, Result, refuse, bad_state, too_short, judge_first, format}
use Rattle.layout.specs.Later.{call_again}
use Rattle.layout.specs.Header.{pages, on_pages, intended, format_intended, finished, kind_in, state_in, changing, formatting}
use Rattle.layout.specs.Header.{pending_in}
use Rattle.layout.specs.Budgets.{last_steps, call_steps, taken_by, taken, pending_on, result_of}
use Rattle.layout.specs.Budgets.{call_for, call_whole, format_for, format_whole, restart_whole}
use Rattle.cuts.proofs.Finish.{steps_all, steps_length, ops_cut}
use Rattle.cuts.proofs.RestartLaws.{restart_is}

-- ---- with enough steps

module _ (u : ℕ) (v : Volume) (r : Result) (done : r.outcome ≡ accepted) where
  -- the new state, the operations done, the finished RAM
  abbrev pub ended : Result
  ended = record {
    outcome = accepted;
    count = 0;
    da_pages = 0;
    volume = record { state = r.volume.state; flash = apply_all u r.ops v.flash; ram = finished r.volume };
    ops = r.ops;
  }

  pub last_enough : (b : ℕ) → length r.ops < b → taken b u v (last_steps r) r ≡ ended
  last_enough b l =
      let n = steps_length u (finished r.volume) r.ops in
      let q : leb (length (last_steps r)) b ≡ true
      = either (le? (length (last_steps r)) b) (λ a. a.0) (λ a. absurd (omega (arith, a.1, n, l))) in
      ap (λ (o : Outcome). taken_by o b u v (last_steps r) r) done
      ∙ rw (
        q,
        steps_all u (finished r.volume) r.ops b v.flash v.ram l,
        ops_cut u (finished r.volume) r.ops b,
        take_all b r.ops (omega (arith, l)),
      )

  pub call_enough : (intent : List ℕ) (b : ℕ) → length r.ops < b → taken (suc b) u v (call_steps intent r) r ≡ ended
  call_enough intent b l =
      let n = steps_length u (finished r.volume) r.ops in
      let q : leb (length (call_steps intent r)) (suc b) ≡ true
      = either (le? (length (call_steps intent r)) (suc b)) (λ a. a.0) (λ a. absurd (omega (arith, a.1, n, l))) in
      ap (λ (o : Outcome). taken_by o (suc b) u v (call_steps intent r) r) done
      ∙ rw (
        q,
        steps_all u (finished r.volume) r.ops b v.flash intent l,
        ops_cut u (finished r.volume) r.ops b,
        take_all b r.ops (omega (arith, l)),
      )

-- "the call itself having enough"
pub whole_is : (h : Family) (v : Volume) (c : Call) (done : (result_of h v c).outcome ≡ accepted)
    → call_whole h v c ≡ ended (unit_of v.state.sizes) v (result_of h v c) done
unfolding call_for
whole_is h v c done =
    let b : length (result_of h v c).ops + 2 ≡ suc (length (result_of h v c).ops + 1) = omega arith in
    rw b (call_enough (unit_of v.state.sizes) v (result_of h v c) done (intended v c) (length (result_of h v c).ops + 1) (omega arith))

pub format_whole_is : (v : Volume) (sizes : Sizes) (done : (format (on_pages v) sizes).outcome ≡ accepted)
    → format_whole v sizes ≡ ended (unit_of sizes) v (format (on_pages v) sizes) done
unfolding format_for
format_whole_is v sizes done =
    let b : length (format (on_pages v) sizes).ops + 2 ≡ suc (length (format (on_pages v) sizes).ops + 1) = omega arith in
    rw b (call_enough (unit_of sizes) v (format (on_pages v) sizes) done (format_intended v sizes) (length (format (on_pages v) sizes).ops + 1)
    (omega arith))

module _ (h : Family) (v : Volume) (long : 64 ≤ length v.ram) where
  pub restart_whole_is : (c : Call) → pending_in v.ram ≡ changing c → (done : (call_again h (pending_on v) c).outcome ≡ accepted)
      → restart_whole h v ≡ ended (unit_of (state_in v.ram).sizes) v (call_again h (pending_on v) c) done
  restart_whole_is c q done =
      restart_is h _ v long ∙ rw q
      (last_enough (unit_of (state_in v.ram).sizes) v (call_again h (pending_on v) c) done (length (call_again h (pending_on v) c).ops + 1)
      (omega arith))

  pub restart_format_is : (sizes : Sizes) → pending_in v.ram ≡ formatting sizes → (done : (format (pending_on v) sizes).outcome ≡ accepted)
      → restart_whole h v ≡ ended (unit_of sizes) v (format (pending_on v) sizes) done
  restart_format_is sizes q done =
      restart_is h _ v long ∙ rw q
      (last_enough (unit_of sizes) v (format (pending_on v) sizes) done (length (format (pending_on v) sizes).ops + 1) (omega arith))

-- ---- with none: "a cut before the intent leaves what was there"

none_taken : (u : ℕ) (v : Volume) (intent : List ℕ) (r : Result) → ((taken 0 u v (call_steps intent r) r).volume ≡ v)
    × ((taken 0 u v (call_steps intent r) r).ops ≡ [])
none_taken u v intent r = by r.outcome
  where
    by : (o : Outcome) → ((taken_by o 0 u v (call_steps intent r) r).volume ≡ v) × ((taken_by o 0 u v (call_steps intent r) r).ops ≡ [])
    by accepted =
        let q : leb (length (call_steps intent r)) 0 ≡ false
        = either (le? (length (call_steps intent r)) 0) (λ a. absurd (omega (arith, a.1))) (λ a. a.0) in
        (rw q, refl)
    by (hit place bytes) = (refl, refl)
    by miss = (refl, refl)
    by (refused i) = (refl, refl)

pub call_none : (h : Family) (v : Volume) (c : Call) → ((call_for h 0 v c).volume ≡ v) × ((call_for h 0 v c).ops ≡ [])
unfolding call_for
call_none h v c = none_taken (unit_of v.state.sizes) v (intended v c) (result_of h v c)

pub format_none : (v : Volume) (sizes : Sizes) → ((format_for 0 v sizes).volume ≡ v) × ((format_for 0 v sizes).ops ≡ [])
unfolding format_for
format_none v sizes = none_taken (unit_of sizes) v (format_intended v sizes) (format (on_pages v) sizes)

-- ---- refusals 1, 2 and 10, in that order, on any volume: nothing is stored, whatever the budget

module _ (h : Family) (b : ℕ) (v : Volume) (c : Call) where
  refused_by : (i : ℕ) → result_of h v c ≡ refuse (on_pages v) i → call_for h b v c ≡ refuse v i
  unfolding call_for
  refused_by i e =
      ap (λ (r : Result). taken b (unit_of v.state.sizes) v (call_steps (intended v c) r) r) e

  pub one : bad_state v.state ≡ true → call_for h b v c ≡ refuse v 1
  unfolding judge_first
  one bad = refused_by 1 (first bad)
    where
      first : bad_state v.state ≡ true → result_of h v c ≡ refuse (on_pages v) 1
      first bad = cond_pos (bad_state v.state) _ _ bad

  pub two : bad_state v.state ≡ false → too_short (geometry v.state.sizes) v.flash (pages v.ram) ≡ true → call_for h b v c
      ≡ refuse v 2
  unfolding judge_first
  two good short = refused_by 2 (second good short)
    where
      second : bad_state v.state ≡ false → too_short (geometry v.state.sizes) v.flash (pages v.ram) ≡ true → result_of h v c
          ≡ refuse (on_pages v) 2
      second good short =
          cond_neg (bad_state v.state) _ _ good ∙ cond_pos (too_short (geometry v.state.sizes) v.flash (pages v.ram)) _ _ short

  pub ten : bad_state v.state ≡ false → too_short (geometry v.state.sizes) v.flash (pages v.ram) ≡ false
      → eqb (kind_in v.ram) 0 ≡ false → call_for h b v c ≡ refuse v 10
  unfolding judge_first
  ten good long kind = refused_by 10 (third good long kind)
    where
      third : bad_state v.state ≡ false → too_short (geometry v.state.sizes) v.flash (pages v.ram) ≡ false
          → eqb (kind_in v.ram) 0 ≡ false → result_of h v c ≡ refuse (on_pages v) 10
      third good long kind =
          cond_neg (bad_state v.state) _ _ good ∙ cond_neg (too_short (geometry v.state.sizes) v.flash (pages v.ram)) _ _ long
          ∙ cond_neg (eqb (kind_in v.ram) 0) _ _ kind

  -- while a call is pending no other is done: 1, 2 or 10
  pub pending_refuses : eqb (kind_in v.ram) 0 ≡ false → (call_for h b v c ≡ refuse v refusal.bad_state)
      ⊎ (call_for h b v c ≡ refuse v refusal.too_short) ⊎ (call_for h b v c ≡ refuse v refusal.pending)
  pending_refuses kind =
      either (bool? (bad_state v.state))
      (λ p. inl (one p))
      (λ p. either (bool? (too_short (geometry v.state.sizes) v.flash (pages v.ram)))
      (λ q. inr (inl (two p q)))
      (λ q. inr (inr (ten p q kind))))

  pub pending_stops : eqb (kind_in v.ram) 0 ≡ false → ((call_for h b v c).volume ≡ v) × ((call_for h b v c).ops ≡ [])
  pending_stops kind = either (pending_refuses kind) (by refusal.bad_state) (λ e. either e (by refusal.too_short) (by refusal.pending))
    where
      by : (i : ℕ) → call_for h b v c ≡ refuse v i → ((call_for h b v c).volume ≡ v) × ((call_for h b v c).ops ≡ [])
      by i e = (ap (λ (r : Result). r.volume) e, ap (λ (r : Result). r.ops) e)
