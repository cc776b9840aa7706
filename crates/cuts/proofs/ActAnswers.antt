-- What calls, formats and restarts in any order, each with any budget, are told from a format on: a call is told what the map says after
-- the calls begun, or 10 while another call is pending (1, 2 or 10 while a format is), a format what document 01's is told; no restart is
-- refused.
use Rattle.std.specs.Prelude.{◌≡◌, refl, Bool, true, false, List, [], ◌∷◌, ℕ, suc}
use Rattle.std.proofs.Common.{ap}
use Rattle.layout.specs.Geometry.{geometry, allowed, Sizes}
use Rattle.layout.specs.Hash.{Family}
use Rattle.layout.specs.Calls.{Volume, accepted, Result, too_short, format}
use Rattle.layout.specs.Header.{pages, on_pages, pending_in}
use Rattle.layout.specs.Budgets.{format_for}
use Rattle.history.proofs.Volumes as volumes
use Rattle.history.specs.Volumes.{volume_of}
use Rattle.cuts.specs.Told.{after_ops}
use Rattle.cuts.proofs.Headers.{pages_stored, idle_stored, intent_length, intent_stored, kind_stored}
use Rattle.cuts.proofs.RestartLaws.{format_outcome}
use Rattle.cuts.proofs.Recover as recover
use Rattle.cuts.proofs.Formats as formats
use Rattle.cuts.proofs.EventLaws.{idle_one}
use Rattle.cuts.proofs.Whole.{ten, pending_refuses}
use Rattle.cuts.proofs.CutMap.{lifted_outcome, call_agrees}
use Rattle.cuts.specs.Acts.{Act, ask, shape, again, ActNumbers, ActsNumbers, UncutRun, step_run, run_map}
use Rattle.cuts.proofs.Acts.{act_result, Met, idle, calling}
use Rattle.cuts.proofs.Acts.{forming, next_is, format_begins}
use Rattle.cuts.specs.ActAnswers.{CallAgrees}

module _ (h : Family) where
  abbrev pub ActAgrees : UncutRun → Volume → Act → Type 0
  ActAgrees t v (ask b c) = CallAgrees (pending_in v.ram) t v c (act_result h v (ask b c))
  ActAgrees t v (shape b sizes) = (format_for b v sizes).outcome ≡ (format (on_pages v) sizes).outcome
  ActAgrees t v (again b) = (act_result h v (again b)).outcome ≡ accepted

  -- of each act of a list, on what the one before it left
  abbrev pub ActsAgree : UncutRun → Volume → List Act → Type 0
  ActsAgree t v [] = Unit {0}
  ActsAgree t v (a ∷ rest) = ActAgrees t v a × ActsAgree (step_run t v a) (act_result h v a).volume rest

  act_agrees : (t : UncutRun) (P : ℕ → Bool) (v : Volume) (a : Act) → ActNumbers a → Met h t P v → ActAgrees t v a
  act_agrees t P v (shape b sizes) n G = format_outcome b v sizes
  act_agrees t P v (ask b c) n (idle t₀ ok can H C ram P₀ I L is m) =
      let A = call_agrees h t₀.sizes (volume_of t₀.sizes H C ram) (run_map t₀) c
      (record { can = can; H = H; is = refl; holds = I; live = L }) n in
      rw (idle_stored ram (volume_of t₀.sizes H C ram).state, lifted_outcome h b (volume_of t₀.sizes H C ram) c) (A.says, A.possible)
  act_agrees t P v (ask b c) n (calling t₀ ok can H C ram I L is c₀ words acc next did N P₀ X cut m) =
      let s = (volume_of t₀.sizes H C ram).state in
      rw (intent_stored ram s c₀ words)
      (ten h b v c (volumes.state_good h t₀.sizes ok H C ram I can)
      (rw (pages_stored ram s _ (intent_length ram s c₀)) (recover.still_long h t₀.sizes ok can H C ram I c₀ words acc next did X cut))
      (kind_stored ram s c₀ words))
  act_agrees t P v (ask b c) n (forming v₀ sizes can long P₀ st X cut) =
      rw (formats.pending_is_lem h v₀ sizes can long) (pending_refuses h b v c (formats.format_kind h v₀ sizes can long))
  act_agrees t P v (again b) n (idle t₀ ok can H C ram P₀ I L is m) =
      ap (λ (r : Result). r.outcome) (idle_one h t₀.sizes ok can H C ram I b)
  act_agrees t P v (again b) n (calling t₀ ok can H C ram I L is c₀ words acc next did N P₀ X cut m) =
      ap (λ (r : Result). r.outcome)
      (recover.restarted h t₀.sizes ok can H C ram I c₀ words acc next did (volume_of t₀.sizes H C ram).state X cut b)
  act_agrees t P v (again b) n (forming v₀ sizes can long P₀ st X cut) =
      ap (λ (r : Result). r.outcome) (formats.again h v₀ sizes can long st X cut b)

  all_agree : (t : UncutRun) (P : ℕ → Bool) (v : Volume) (rest : List Act) → ActsNumbers rest → Met h t P v → ActsAgree t v rest
  all_agree t P v [] n G = tt
  all_agree t P v (a ∷ rest) n G = (
    act_agrees t P v a n.0 G,
    all_agree (step_run t v a) (after_ops (act_result h v a).ops P) (act_result h v a).volume rest n.1 (next_is h t P v a n.0 G).1,
  )

  -- from a format of which a step was done, on any volume, whatever run was there before
  pub acts_agree : (v : Volume) (sizes : Sizes) → allowed sizes ≡ true → too_short (geometry sizes) v.flash (pages v.ram) ≡ false
      → (b : ℕ) (rest : List Act) → ActsNumbers rest → (t : UncutRun) → ActsAgree t v (shape (suc b) sizes ∷ rest)
  acts_agree v sizes can long b rest n t = (
    format_outcome (suc b) v sizes,
    all_agree (step_run t v (shape (suc b) sizes)) (after_ops (format_for (suc b) v sizes).ops (λ x. false))
        (format_for (suc b) v sizes).volume rest n (format_begins h v sizes can long t (λ x. false) b).1,
  )
