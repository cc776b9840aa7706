-- A call that was cut behind its intent and before its finish stops every other by 10, and nothing changes, whatever the volume; so calls
-- that are asked between a cut and the restarts leave what the cut left. Document 02, request 8.
use Rattle.std.specs.Prelude.{◌≡◌, refl, true, false, List, [], ◌∷◌, ◌++◌, ℕ, zero, suc, ◌+◌, ◌-◌, ◌≤◌, ◌<◌, length, take, eqb, leb}
use Rattle.std.proofs.Common.{sym, ◌∙◌, true≢false, not-suc-le-zero, arith}
use Rattle.std.proofs.Math.Path.{ap}
use Rattle.memory.specs.Cases.{either, bool?, lt?, le?}
use Rattle.memory.specs.Booleans.{cond_pos, cond_neg}
use Rattle.layout.specs.Geometry.{Geometry, geometry, unit_of}
use Rattle.layout.specs.Flash.{Op, Flash, apply}
use Rattle.layout.specs.Hash.{Family}
use Rattle.layout.specs.Refusals as refusal
use Rattle.layout.specs.Calls.{Volume, Call, accepted, Result, refuse, bad_state, too_short, judge_first}
use Rattle.layout.specs.Header.{pages, on_pages, intended, finished, kind_in, nothing, pending_in}
use Rattle.layout.specs.Budgets.{store, memory, steps, chips, call_steps, result_of, call_for, restart_for}
use Rattle.laws.specs.HeaderLaws.{length_pages}
use Rattle.cuts.specs.Headers.{Words}
use Rattle.cuts.proofs.Headers.{kind_stored, idle_kind}
use Rattle.cuts.proofs.Finish.{steps_length}
use Rattle.cuts.proofs.RestartLaws.{call_outcome}
use Rattle.cuts.proofs.Whole as whole
use Rattle.cuts.specs.EveryCut.{CutBeyond}
use Rattle.cuts.proofs.EveryCut.{cut_beyond, restart_idle_keeps}
use Rattle.cuts.proofs.EveryRestart.{restart_beyond}
use Rattle.cuts.specs.Waiting.{is_accepted, SameLengths}

ram_waits : (u : ℕ) (os : List Op) (d : List ℕ) (b : ℕ) (x : Flash) (ram : List ℕ) → b ≤ length os
    → (steps u (take b (chips os ++ (store d ∷ []))) (memory x ram)).ram ≡ ram
ram_waits u os d zero x ram l = refl
ram_waits u [] d (suc b) x ram l = absurd (not-suc-le-zero l)
ram_waits u (o ∷ os) d (suc b) x ram l = ram_waits u os d b (apply u o x) ram (omega arith)

module _ (h : Family) (v : Volume) (c : Call) (acc : (result_of h v c).outcome ≡ accepted) where
  not_refused : (i : ℕ) → result_of h v c ≡ refuse (on_pages v) i → ⊥
  not_refused i e =
      let t : is_accepted (result_of h v c).outcome ≡ true = ap is_accepted acc in
      let f : is_accepted (result_of h v c).outcome ≡ false = ap (λ (r : Result). is_accepted r.outcome) e in
      true≢false (sym t ∙ f)

  good : bad_state v.state ≡ false
  unfolding judge_first
  good =
      either (bool? (bad_state v.state)) (λ p. absurd (not_refused 1 (cond_pos (bad_state v.state) _ _ p))) (λ p. p)

  long : too_short (geometry v.state.sizes) v.flash (pages v.ram) ≡ false
  unfolding judge_first
  long =
      either (bool? (too_short (geometry v.state.sizes) v.flash (pages v.ram)))
      (λ q. absurd (not_refused 2 (cond_neg (bad_state v.state) _ _ good
      ∙ cond_pos (too_short (geometry v.state.sizes) v.flash (pages v.ram)) _ _ q)))
      (λ q. q)

  -- a call that did all of its steps leaves nothing pending
  pub done_idle : (b : ℕ) → length (result_of h v c).ops < b → kind_in (call_for h (suc b) v c).volume.ram ≡ 0
  unfolding call_for
  done_idle b l =
      ap (λ (x : Result). kind_in x.volume.ram) (whole.call_enough (unit_of v.state.sizes) v (result_of h v c) acc (intended v c) b l)
      ∙ idle_kind (result_of h v c).volume.ram (result_of h v c).volume.state

  module _ (b : ℕ) (few : b ≤ length (result_of h v c).ops) where
    abbrev r : Result
    r = result_of h v c

    more : leb (length (call_steps (intended v c) r)) (suc b) ≡ false
    more =
        let n = steps_length (unit_of v.state.sizes) (finished r.volume) r.ops in
        either (le? (length (call_steps (intended v c) r)) (suc b)) (λ a. absurd (omega (arith, a.1, n, few))) (λ a. a.0)

    -- the intent waits, and the state is the one handed in
    pub waits : ((call_for h (suc b) v c).volume.ram ≡ intended v c) × ((call_for h (suc b) v c).volume.state ≡ v.state)
    unfolding call_for
    waits =
        let ram = ram_waits (unit_of v.state.sizes) r.ops _ b v.flash (intended v c) few in
        rw (acc, more) (ram, refl)

pub lengths_then : (v w x : Volume) → SameLengths v w → SameLengths w x → SameLengths v x
lengths_then v w x S T = (T.0 ∙ S.0, T.1 ∙ S.1, T.2 ∙ S.2)

beyond_lengths : (g : Geometry) (v w : Volume) → CutBeyond g v w → SameLengths v w
beyond_lengths g v w B = (B.main_length, B.spare_length, B.ram.long)

short_as : (g : Geometry) (v w : Volume) → SameLengths v w
    → too_short g w.flash (pages w.ram) ≡ too_short g v.flash (pages v.ram)
unfolding too_short
short_as g v w S =
    let p : length (pages w.ram) ≡ length (pages v.ram)
    = length_pages w.ram ∙ ap (λ (n : ℕ). n - 64) S.2 ∙ sym (length_pages v.ram) in
    rw (S.0, S.1, p)

pub restart_lengths : (h : Family) (b : ℕ) (v : Volume) → SameLengths v (restart_for h b v).volume
restart_lengths h b v = beyond_lengths _ v (restart_for h b v).volume (restart_beyond h b v)

idle_pending : (ram : List ℕ) → eqb (kind_in ram) 0 ≡ true → pending_in ram ≡ nothing
unfolding pending_in
idle_pending ram k = cond_pos (eqb (kind_in ram) 0) _ _ k

-- where no call is pending a restart begins none
pub restart_idle : (h : Family) (b : ℕ) (v : Volume) → eqb (kind_in v.ram) 0 ≡ true → (restart_for h b v).volume.ram ≡ v.ram
restart_idle h b v k = (restart_idle_keeps h b v (idle_pending v.ram k)).1

module _ (h : Family) (v : Volume) (c : Call) where
  left_state : (b : ℕ) → (result_of h v c).outcome ≡ accepted → eqb (kind_in (call_for h b v c).volume.ram) 0 ≡ false
      → (call_for h b v c).volume.state ≡ v.state
  left_state zero acc kind = ap (λ (w : Volume). w.state) (whole.call_none h v c).0
  left_state (suc b) acc kind =
      either (lt? (length (result_of h v c).ops) b)
      (λ l. absurd (true≢false (sym (ap (λ (n : ℕ). eqb n 0) (done_idle h v c acc b l.1)) ∙ kind)))
      (λ l. (waits h v c acc b l.1).1)

  -- a call is accepted and cut and left pending; every call that is handed the state that it left is refused by 10 until it is finished
  pub asked_ten : (b : ℕ) → (call_for h b v c).outcome ≡ accepted → eqb (kind_in (call_for h b v c).volume.ram) 0 ≡ false
      → (w : Volume) → SameLengths (call_for h b v c).volume w → w.state ≡ (call_for h b v c).volume.state
      → eqb (kind_in w.ram) 0 ≡ false → (e : ℕ) (d : Call) → call_for h e w d ≡ refuse w refusal.pending
  asked_ten b acc kind w S same pending e d =
      let done : (result_of h v c).outcome ≡ accepted = sym (call_outcome h b v c) ∙ acc in
      let st : w.state ≡ v.state = same ∙ left_state b done kind in
      let T : SameLengths v w
      = lengths_then v (call_for h b v c).volume w (beyond_lengths _ v (call_for h b v c).volume (cut_beyond h b v c)) S in
      whole.ten h e w d (rw st (good h v c done)) (rw st (short_as (geometry v.state.sizes) v w T ∙ long h v c done)) pending

-- at once: "10, a call other than format and restart while the kind is not 0"
pub cut_then_ten : (h : Family) (v : Volume) (c : Call) → (result_of h v c).outcome ≡ accepted → (b : ℕ) → b ≤ length (result_of h v c).ops
    → Words c → (e : ℕ) (d : Call) → call_for h e (call_for h (suc b) v c).volume d ≡ refuse (call_for h (suc b) v c).volume refusal.pending
cut_then_ten h v c acc b few words e d =
    let kind : eqb (kind_in (call_for h (suc b) v c).volume.ram) 0 ≡ false
    = rw (waits h v c acc b few).0 (kind_stored (pages v.ram) v.state c words) in
    asked_ten h v c (suc b) (call_outcome h (suc b) v c ∙ acc) kind (call_for h (suc b) v c).volume
    (refl, refl, refl) refl kind e d
