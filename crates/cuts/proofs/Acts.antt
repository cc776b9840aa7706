-- Calls, formats and restarts in any order, each with any budget, from a format on: a format over a pending call or over a cut format,
-- calls while one is pending, restarts that find nothing. The operations of all of them, as one list, keep the chip's program order, and a
-- restart with enough leaves what document 01's format and calls leave: the last format begun, and the calls begun since.
use Rattle.std.specs.Prelude.{◌≡◌, Bool, true, false, List, [], ◌∷◌, ◌++◌, ℕ, zero, suc, ◌≤◌, length, eqb}
use Rattle.std.proofs.Common.{sym, ◌∙◌}
use Rattle.std.proofs.Math.Path.{ap}
use Rattle.memory.specs.Booleans.{cond_pos, cond_neg}
use Rattle.memory.specs.Cases.{either, bool?}
use Rattle.layout.specs.Geometry.{State, Geometry, geometry, allowed, blocks, record_capacity, deletion_capacity, spare_size, Sizes, unit_of}
use Rattle.layout.specs.Flash.{Op, Flash, apply_all, erases}
use Rattle.layout.specs.Hash.{Family}
use Rattle.layout.specs.Calls.{Volume, Call, accepted, Result, refuse, too_short, format, call}
use Rattle.layout.specs.FiniteMap.{empty_map}
use Rattle.laws.specs.Sound.{SizesSound, sound}
use Rattle.history.proofs.Every.{can_accepted}
use Rattle.history.specs.Image.{History}
use Rattle.history.specs.Live.{Live, empty_history, HistoryStep, step_history}
use Rattle.history.proofs.Live.{live_start}
use Rattle.history.proofs.MapLaws.{step_same}
use Rattle.history.specs.Runs.{after, ProgramOrder}
use Rattle.history.specs.ProgramOrder.{Says}
use Rattle.history.proofs.Reached.{map_append}
use Rattle.history.specs.Volumes.{Holds, volume_of}
use Rattle.history.specs.Steps.{CallDone}
use Rattle.history.proofs.Steps.{call_done}
use Rattle.history.proofs.RunLaws.{less, start_holds, start_spare}
use Rattle.layout.specs.Header.{pages, on_pages, format_intended, kind_in}
use Rattle.layout.specs.Budgets.{call_steps, taken, call_for, format_for, restart_for, restart_whole}
use Rattle.cuts.specs.Events.{lift, Numbers}
use Rattle.cuts.specs.Headers.{Words}
use Rattle.cuts.proofs.Headers.{idle_kind, kind_stored}
use Rattle.cuts.specs.Resume.{CutAt}
use Rattle.cuts.specs.Told.{after_ops}
use Rattle.cuts.proofs.Told.{order_append}
use Rattle.cuts.proofs.Recover as recover
use Rattle.cuts.proofs.Formats as formats
use Rattle.cuts.specs.EventLaws.{Quiet}
use Rattle.cuts.proofs.EventLaws.{quiet?, quiet_handed, key_word, words_of, call_quiet, idle_one}
use Rattle.cuts.proofs.PowerCut.{after_append}
use Rattle.cuts.proofs.Whole.{call_none, format_none, pending_stops}
use Rattle.cuts.specs.Acts.{Act, ask, shape, again, ActNumbers, ActsNumbers, UncutRun, format_run, call_run, step_run, run_map}

module _ (h : Family) where
  -- what document 01's format and calls leave
  abbrev pub run_end : UncutRun → Volume
  run_end t = after h (format (on_pages t.handed) t.sizes).volume t.calls

  abbrev pub act_result : Volume → Act → Result
  act_result v (ask b c) = call_for h b v c
  act_result v (shape b sizes) = format_for b v sizes
  act_result v (again b) = restart_for h b v

  abbrev pub acts_after : Volume → List Act → Volume
  acts_after v [] = v
  acts_after v (a ∷ rest) = acts_after (act_result v a).volume rest

  abbrev pub acts_ops : Volume → List Act → List Op
  acts_ops v [] = []
  acts_ops v (a ∷ rest) = (act_result v a).ops ++ acts_ops (act_result v a).volume rest

  abbrev pub run_after : UncutRun → Volume → List Act → UncutRun
  run_after t v [] = t
  run_after t v (a ∷ rest) = run_after (step_run t v a) (act_result v a).volume rest

  -- the volumes that are met; the spare bytes tell what the operations say was programmed, unless a format waits
  pub data Met : UncutRun → (ℕ → Bool) → Volume → Type 0 where
    idle : (t : UncutRun) (ok : SizesSound t.sizes) (can : allowed t.sizes ≡ true) (H : History) (C : Flash) (ram : List ℕ)
        (P : ℕ → Bool) → Holds h t.sizes H C ram → Live H (run_map t) → volume_of t.sizes H C ram ≡ run_end t
        → (spare_size (geometry t.sizes) ≤ length C.spare) × Says (spare_size (geometry t.sizes)) C P
        → Met t P (lift (volume_of t.sizes H C ram))
    calling : (t : UncutRun) (ok : SizesSound t.sizes) (can : allowed t.sizes ≡ true) (H : History) (C : Flash) (ram : List ℕ)
        (I : Holds h t.sizes H C ram) → Live H (run_map t) → volume_of t.sizes H C ram ≡ run_end t
        → (c : Call) (words : Words c) (acc : (call h (volume_of t.sizes H C ram) c).outcome ≡ accepted) (next : HistoryStep)
        (did : CallDone h t.sizes H C ram (call h (volume_of t.sizes H C ram) c) next) → Live next.next (run_map (call_run t c))
        → (P : ℕ → Bool) (X : Flash)
        → CutAt (unit_of t.sizes) (recover.ops h t.sizes ok can H C ram I c words acc next did) C X
        → (spare_size (geometry t.sizes) ≤ length X.spare) × Says (spare_size (geometry t.sizes)) X P
        → Met (call_run t c) P (record {
          state = (volume_of t.sizes H C ram).state;
          flash = X;
          ram = recover.intended h t.sizes ok can H C ram I c words acc next did;
        })
    forming : (v : Volume) (sizes : Sizes) (can : allowed sizes ≡ true)
        (long : too_short (geometry sizes) v.flash (pages v.ram) ≡ false)
        (P : ℕ → Bool) (st : State) (X : Flash) → CutAt (unit_of sizes) (erases 0 (blocks (geometry sizes))) v.flash X
        → Met (format_run v sizes) P (record { state = st; flash = X; ram = formats.intended h v sizes can long })

  moved : (t : UncutRun) (P : ℕ → Bool) (v w : Volume) → v ≡ w → Met t P w → Met t P v
  moved t P v w e G = rw e G

  abbrev Next : UncutRun → (ℕ → Bool) → Result → Type 0
  Next t P r = ProgramOrder r.ops P × Met t (after_ops r.ops P) r.volume

  -- nothing done
  stays : (t : UncutRun) (P : ℕ → Bool) (v : Volume) (r : Result) → r.volume ≡ v → r.ops ≡ [] → Met t P v → Next t P r
  stays t P v r e o G = rw (o, e) (tt, G)

  -- ---- a format, on any volume

  module _ (v : Volume) (sizes : Sizes) where
    refused_by : (b i : ℕ) → format (on_pages v) sizes ≡ refuse (on_pages v) i → format_for b v sizes ≡ refuse v i
    unfolding format_for
    refused_by b i e = ap (λ (r : Result). taken b (unit_of sizes) v (call_steps (format_intended v sizes) r) r) e

    not_allowed : allowed sizes ≡ false → format (on_pages v) sizes ≡ refuse (on_pages v) 1
    unfolding format
    not_allowed q = cond_neg (allowed sizes) _ _ q

    too_short_lem : allowed sizes ≡ true → too_short (geometry sizes) v.flash (pages v.ram) ≡ true → format (on_pages v) sizes
        ≡ refuse (on_pages v) 2
    unfolding format
    too_short_lem q l = cond_pos (allowed sizes) _ _ q ∙ cond_pos (too_short (geometry sizes) v.flash (pages v.ram)) _ _ l

    module _ (can : allowed sizes ≡ true) (long : too_short (geometry sizes) v.flash (pages v.ram) ≡ false) where
      waits : (P : ℕ → Bool) (st : State) (X : Flash) → CutAt (unit_of sizes) (erases 0 (blocks (geometry sizes))) v.flash X
          → Met (format_run v sizes) P (record { state = st; flash = X; ram = formats.intended h v sizes can long })
      waits P st X cut = forming v sizes can long P st X cut

      ends : (P : ℕ → Bool) → Says (spare_size (geometry sizes)) (apply_all (unit_of sizes) (erases 0 (blocks (geometry sizes))) v.flash) P
          → Met (format_run v sizes) P (record {
            state = formats.s' h v sizes can long;
            flash = apply_all (unit_of sizes) (erases 0 (blocks (geometry sizes)))
                v.flash;
            ram = formats.finished h v sizes can long;
          })
      ends P m =
          idle (format_run v sizes) (sound sizes can) can empty_history
          (apply_all (unit_of sizes) (erases 0 (blocks (geometry sizes))) v.flash) (formats.pages' h v sizes can long) P
          (start_holds h sizes (sound sizes can) can (on_pages v) long) live_start (sym (formats.formatted_is h v sizes can long))
          ((start_spare h sizes (sound sizes can) can (on_pages v) long).0, m)

      format_first : (P : ℕ → Bool) (b : ℕ) → Next (format_run v sizes) P (format_for (suc b) v sizes)
      format_first P b = formats.first_good h v sizes can long (Met (format_run v sizes)) waits ends P b

      format_again : (P : ℕ → Bool) (st : State) (X : Flash) → CutAt (unit_of sizes) (erases 0 (blocks (geometry sizes))) v.flash X
          → (b : ℕ)
          → Next (format_run v sizes) P (restart_for h b (record { state = st; flash = X; ram = formats.intended h v sizes can long }))
      format_again P st X cut b = formats.again_good h v sizes can long (Met (format_run v sizes)) waits ends P st X cut b

      -- whatever was there before
      pub format_begins : (t : UncutRun) (P : ℕ → Bool) (b : ℕ)
          → Next (step_run t v (shape (suc b) sizes)) P (format_for (suc b) v sizes)
      format_begins t P b = rw (can_accepted (on_pages v) sizes can long) (format_first P b)

    module _ (t : UncutRun) (P : ℕ → Bool) (G : Met t P v) where
      format_refused : (b i : ℕ) → format (on_pages v) sizes ≡ refuse (on_pages v) i
          → Next (step_run t v (shape (suc b) sizes)) P (format_for (suc b) v sizes)
      format_refused b i e =
          let f = refused_by (suc b) i e in
          rw e (stays t P v (format_for (suc b) v sizes) (ap (λ (r : Result). r.volume) f) (ap (λ (r : Result). r.ops) f) G)

      format_next : (b : ℕ) → Next (step_run t v (shape b sizes)) P (format_for b v sizes)
      format_next zero = stays t P v (format_for 0 v sizes) (format_none v sizes).0 (format_none v sizes).1 G
      format_next (suc b) =
          either (bool? (allowed sizes))
          (λ can. either (bool? (too_short (geometry sizes) v.flash (pages v.ram)))
          (λ l. format_refused b 2 (too_short_lem can l))
          (λ l. format_begins can l t P b))
          (λ no. format_refused b 1 (not_allowed no))

  -- ---- a call, and its restart

  module _ (t : UncutRun) (ok : SizesSound t.sizes) (can : allowed t.sizes ≡ true) (H : History) (C : Flash) (ram : List ℕ)
      (I : Holds h t.sizes H C ram) (L : Live H (run_map t)) (is : volume_of t.sizes H C ram ≡ run_end t) where
    abbrev g : Geometry
    g = geometry t.sizes

    abbrev w : Volume
    w = volume_of t.sizes H C ram

    -- what the call leaves is the end of the run with it
    end_is : (c : Call) → (call h w c).volume ≡ run_end (call_run t c)
    end_is c =
        ap (λ (x : Volume). (call h x c).volume) is
        ∙ after_append h (format (on_pages t.handed) t.sizes).volume t.calls (c ∷ [])

    module _ (c : Call) (next : HistoryStep) (did : CallDone h t.sizes H C ram (call h (volume_of t.sizes H C ram) c) next)
        (N : Live next.next (run_map (call_run t c))) where
      call_over : (P : ℕ → Bool)
          → (spare_size g ≤ length (call h w c).volume.flash.spare) × Says (spare_size g) (call h w c).volume.flash P
          → Met (call_run t c) P (lift (call h w c).volume)
      call_over P m =
          moved (call_run t c) P (lift (call h w c).volume) _ (ap lift did.volume_is)
          (idle (call_run t c) ok can next.next (call h w c).volume.flash (call h w c).volume.ram P did.holds N
          (sym did.volume_is ∙ end_is c) m)

      -- a lookup or a refusal
      call_still : (P : ℕ → Bool) → Quiet (call h w c).outcome → (spare_size g ≤ length C.spare) × Says (spare_size g) C P
          → Met (call_run t c) P (lift w)
      call_still P q m =
          let same : (call h w c).volume ≡ w = quiet_handed (call h w c).outcome q w (call h w c).volume did.handed_on in
          moved (call_run t c) P (lift w) _ (ap lift (sym same)) (call_over P (rw same m))

      module _ (words : Words c) (acc : (call h (volume_of t.sizes H C ram) c).outcome ≡ accepted) where
        abbrev ops : List Op
        ops = recover.ops h t.sizes ok can H C ram I c words acc next did

        abbrev waiting : Flash → Volume
        waiting X = record {
          state = (volume_of t.sizes H C ram).state;
          flash = X;
          ram = recover.intended h t.sizes ok can H C ram I c words acc next did;
        }

        call_waits : (P : ℕ → Bool) (X : Flash) → CutAt (unit_of t.sizes) ops C X
            → (spare_size g ≤ length X.spare) × Says (spare_size g) X P → Met (call_run t c) P (waiting X)
        call_waits P X cut m = calling t ok can H C ram I L is c words acc next did N P X cut m

        call_ends : (P : ℕ → Bool)
            → (spare_size g ≤ length (apply_all (unit_of t.sizes) ops C).spare) × Says (spare_size g) (apply_all (unit_of t.sizes) ops C) P
            → Met (call_run t c) P (recover.final h t.sizes ok can H C ram I c words acc next did)
        call_ends P m =
            let e = recover.called h t.sizes ok can H C ram I c words acc next did in
            rw e at (call_over P (rw e m))

        call_first : (P : ℕ → Bool) → (spare_size g ≤ length C.spare) × Says (spare_size g) C P → (b : ℕ)
            → Next (call_run t c) P (call_for h (suc b) (lift w) c)
        call_first = recover.first_good h t.sizes ok can H C ram I c words acc next did (Met (call_run t c)) call_waits call_ends

        call_again_lem : (P : ℕ → Bool) (X : Flash) → CutAt (unit_of t.sizes) ops C X
            → (spare_size g ≤ length X.spare) × Says (spare_size g) X P → (b : ℕ) → Next (call_run t c) P (restart_for h b (waiting X))
        call_again_lem = recover.again_good h t.sizes ok can H C ram I c words acc next did (Met (call_run t c)) call_waits call_ends

    module _ (P : ℕ → Bool) (m : (spare_size (geometry t.sizes) ≤ length C.spare) × Says (spare_size (geometry t.sizes)) C P) where
      call_begins : (b : ℕ) (c : Call) → Numbers c → Next (call_run t c) P (call_for h (suc b) (lift w) c)
      call_begins b c n =
          let next : HistoryStep = step_history (record_capacity g) (deletion_capacity g) H c in
          let did = call_done h t.sizes ok can H C ram I c (key_word c n) (less H (run_map t) L) in
          let N = rw (sym (map_append g empty_map t.calls (c ∷ []))) at
          (step_same (record_capacity g) (deletion_capacity g) H (run_map t) c L).1 in
          either (quiet? (call h w c).outcome)
          (λ a. call_first c next did N (words_of h t.sizes ok can H C ram I c n (less H (run_map t) L) a) a P m b)
          (λ q.
          let e = call_quiet h t.sizes ok can H C ram I c n (less H (run_map t) L) q (suc b) in
          stays (call_run t c) P (lift w) (call_for h (suc b) (lift w) c) e.0 e.1 (call_still c next did N P q m))

      call_next : (b : ℕ) (c : Call) → Numbers c → Next (step_run t (lift w) (ask b c)) P (call_for h b (lift w) c)
      call_next zero c n =
          stays t P (lift w) (call_for h 0 (lift w) c) (call_none h (lift w) c).0 (call_none h (lift w) c).1
          (idle t ok can H C ram P I L is m)
      call_next (suc b) c n = rw (idle_kind ram w.state) (call_begins b c n)

  -- ---- every act

  -- a call that is asked while another or a format is pending
  pending_next : (t : UncutRun) (P : ℕ → Bool) (v : Volume) (b : ℕ) (c : Call) → eqb (kind_in v.ram) 0 ≡ false → Met t P v
      → Next (step_run t v (ask b c)) P (call_for h b v c)
  pending_next t P v zero c k G = let e = pending_stops h 0 v c k in stays t P v (call_for h 0 v c) e.0 e.1 G
  pending_next t P v (suc b) c k G = let e = pending_stops h (suc b) v c k in rw k (stays t P v (call_for h (suc b) v c) e.0 e.1 G)

  pub next_is : (t : UncutRun) (P : ℕ → Bool) (v : Volume) (a : Act) → ActNumbers a → Met t P v → Next (step_run t v a) P (act_result v a)
  next_is t P v (shape b sizes) n G = format_next v sizes t P G b
  next_is t P v (ask b c) n (idle t₀ ok can H C ram P₀ I L is m) = call_next t₀ ok can H C ram I L is P₀ m b c n
  next_is t P v (ask b c) n (calling t₀ ok can H C ram I L is c₀ words acc next did N P₀ X cut m) =
      pending_next t P₀ v b c (kind_stored ram (volume_of t₀.sizes H C ram).state c₀ words)
      (calling t₀ ok can H C ram I L is c₀ words acc next did N P₀ X cut m)
  next_is t P v (ask b c) n (forming v₀ sizes can long P₀ st X cut) =
      pending_next t P₀ v b c (formats.format_kind h v₀ sizes can long) (forming v₀ sizes can long P₀ st X cut)
  next_is t P v (again b) n (idle t₀ ok can H C ram P₀ I L is m) =
      let e = idle_one h t₀.sizes ok can H C ram I b in
      stays t₀ P₀ v (restart_for h b v) (ap (λ (r : Result). r.volume) e) (ap (λ (r : Result). r.ops) e)
      (idle t₀ ok can H C ram P₀ I L is m)
  next_is t P v (again b) n (calling t₀ ok can H C ram I L is c₀ words acc next did N P₀ X cut m) =
      call_again_lem t₀ ok can H C ram I L is c₀ next did N words acc P₀ X cut m b
  next_is t P v (again b) n (forming v₀ sizes can long P₀ st X cut) = format_again v₀ sizes can long P₀ st X cut b

  acts_in_order : (t : UncutRun) (P : ℕ → Bool) (v : Volume) (rest : List Act) → ActsNumbers rest → Met t P v
      → ProgramOrder (acts_ops v rest) P
  acts_in_order t P v [] n G = tt
  acts_in_order t P v (a ∷ rest) n G =
      let N = next_is t P v a n.0 G in
      order_append (act_result v a).ops (acts_ops (act_result v a).volume rest) P N.0
      (acts_in_order (step_run t v a) (after_ops (act_result v a).ops P) (act_result v a).volume rest n.1 N.1)

  -- from a format of which a step was done, on any volume, whatever was programmed before
  pub any_runs : (v : Volume) (sizes : Sizes) → allowed sizes ≡ true → too_short (geometry sizes) v.flash (pages v.ram) ≡ false
      → (b : ℕ) (rest : List Act) → ActsNumbers rest → (P : ℕ → Bool) → ProgramOrder (acts_ops v (shape (suc b) sizes ∷ rest)) P
  any_runs v sizes can long b rest n P =
      let N = format_first v sizes can long P b in
      order_append (format_for (suc b) v sizes).ops (acts_ops (format_for (suc b) v sizes).volume rest) P N.0
      (acts_in_order (format_run v sizes) (after_ops (format_for (suc b) v sizes).ops P) (format_for (suc b) v sizes).volume rest n N.1)

  -- ---- a restart with enough, after any of them, leaves the end of the run, with a header that has the state and no intent

  end_so : (t : UncutRun) (P : ℕ → Bool) (v : Volume) → Met t P v → (restart_whole h v).volume ≡ lift (run_end t)
  end_so t P v (idle t₀ ok can H C ram P₀ I L is m) =
      ap (λ (r : Result). r.volume) (idle_one h t₀.sizes ok can H C ram I _) ∙ ap lift is
  end_so t P v (calling t₀ ok can H C ram I L is c words acc next did N P₀ X cut m) =
      recover.whole_ends h t₀.sizes ok can H C ram I c words acc next did (volume_of t₀.sizes H C ram).state X cut
      ∙ ap (λ (r : Result). lift r.volume) (sym (recover.called h t₀.sizes ok can H C ram I c words acc next did))
      ∙ ap lift (end_is t₀ ok can H C ram I L is c)
  end_so t P v (forming v₀ sizes can long P₀ st X cut) =
      formats.whole_ends h v₀ sizes can long st X cut ∙ ap lift (sym (formats.formatted_is h v₀ sizes can long))

  acts_end : (t : UncutRun) (P : ℕ → Bool) (v : Volume) (rest : List Act) → ActsNumbers rest → Met t P v
      → (restart_whole h (acts_after v rest)).volume ≡ lift (run_end (run_after t v rest))
  acts_end t P v [] n G = end_so t P v G
  acts_end t P v (a ∷ rest) n G =
      acts_end (step_run t v a) (after_ops (act_result v a).ops P) (act_result v a).volume rest n.1 (next_is t P v a n.0 G).1

  -- whatever run was there before the format
  pub any_end : (v : Volume) (sizes : Sizes) → allowed sizes ≡ true → too_short (geometry sizes) v.flash (pages v.ram) ≡ false
      → (b : ℕ) (rest : List Act) → ActsNumbers rest → (t : UncutRun)
      → (restart_whole h (acts_after v (shape (suc b) sizes ∷ rest))).volume ≡ lift (run_end (run_after t v (shape (suc b) sizes ∷ rest)))
  any_end v sizes can long b rest n t =
      acts_end (step_run t v (shape (suc b) sizes)) (after_ops (format_for (suc b) v sizes).ops (λ x. false))
      (format_for (suc b) v sizes).volume rest n (format_begins v sizes can long t (λ x. false) b).1
