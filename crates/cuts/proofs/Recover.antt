-- Insert, update and delete on a volume that holds the image of a history: cut, restarted, cut again, and finished.
use Rattle.std.specs.Prelude.{◌≡◌, Bool, true, false, ℕ, suc, ◌+◌, ◌≤◌, ◌<◌, length, eqb}
use Rattle.std.proofs.Math.Path.{refl, ap}
use Rattle.std.proofs.Common.{sym, ◌∙◌, arith}
use Rattle.std.proofs.Math.Option.{map}
use mathlib.Core.List.{List, [], ◌∷◌, ◌++◌}
use Rattle.memory.specs.Cases.{either, bool?}
use Rattle.memory.specs.Booleans.{cond_pos, cond_neg}
use Rattle.layout.specs.Geometry.{State, state_of, Geometry, geometry, allowed, index_block, blocks, spare_size, work_ram, Sizes, unit_of}
use Rattle.layout.specs.Flash.{Op, Flash, apply_all, plan_ops, all_fresh}
use Rattle.layout.specs.Hash.{Family}
use Rattle.layout.specs.Items.{zero_page}
use Rattle.layout.specs.Search.{found}
use Rattle.layout.specs.Calls.{Volume, Call, accepted, refused, Result, refuse, judge_first, bad_state, too_short, search, commit, answer}
use Rattle.layout.specs.Calls.{key_of, call}
use Rattle.laws.specs.Sound.{SizesSound}
use Rattle.history.specs.FlashLaws.{AllAllowed}
use Rattle.history.proofs.FlashLaws.{apply_main_length, apply_spare_length}
use Rattle.history.specs.Runs.{ProgramOrder}
use Rattle.history.specs.ProgramOrder.{Below, Says}
use Rattle.history.specs.Image.{History}
use Rattle.history.specs.Live.{find_live, HistoryStep}
use Rattle.history.proofs.Volumes as volumes
use Rattle.history.specs.Volumes.{Holds, volume_of}
use Rattle.history.specs.Steps.{CallDone}
use Rattle.cuts.specs.Told.{after_ops}
use Rattle.layout.specs.Later.{later_plan}
use Rattle.cuts.specs.Later.{later}
use Rattle.layout.specs.Calls.{answer_by}
use Rattle.layout.specs.Later.{commit_later, call_again}
use Rattle.cuts.proofs.CutLaws.{allowed_start}
use Rattle.cuts.proofs.Kept.{sized_start, erases_in_start, apart_start}
use Rattle.cuts.specs.Resume.{CutAt, Fit}
use Rattle.cuts.proofs.Plans.{plan_resumes}
use Rattle.cuts.proofs.PlanShapes.{shaped_fit}
use Rattle.cuts.proofs.CutVolume.{cut_search}
use Rattle.layout.specs.Header.{pages, on_pages, intent_words, no_intent, header_bytes, kind_in, state_in, pending_in, changing}
use Rattle.layout.specs.Budgets.{Step, store, chips, last_steps, call_steps, taken, pending_on, result_of, call_for, restart_for}
use Rattle.layout.specs.Budgets.{restarts, restarts_ops, pending_ops, restart_whole}
use Rattle.cuts.specs.Headers.{StateFits, Words}
use Rattle.cuts.proofs.Headers.{long_ram, header_size_lem, pages_stored, state_stored, idle_kind, intent_length}
use Rattle.cuts.proofs.Headers.{intent_stored}
use Rattle.cuts.proofs.Idle.{fits_of, idle_restart, restart_resumes}
use Rattle.cuts.specs.Finish.{ran, rest_of, all_of}
use Rattle.cuts.proofs.Finish.{short_same, call_none, call_whole_lem, recovers, runs_allowed, runs_inside, runs_flash}
use Rattle.cuts.proofs.Finish.{restart_accepts}
use Rattle.cuts.proofs.Finish.{ends_by, run_cut, restart_whole_lem, spare_tells, spare_ends, restart_good, call_good}
use Rattle.cuts.proofs.Work.{Work, work, judged_is, call_is, refused_not}

module _ (h : Family) (sizes : Sizes) (ok : SizesSound sizes) (can : allowed sizes ≡ true) (H : History) (C : Flash) (ram : List ℕ)
    (I : Holds h sizes H C ram)
    (c : Call) (words : Words c) (acc : (call h (volume_of sizes H C ram) c).outcome ≡ accepted)
    (next : HistoryStep) (did : CallDone h sizes H C ram (call h (volume_of sizes H C ram) c) next) where
  abbrev g : Geometry
  g = geometry sizes

  abbrev u : ℕ
  u = unit_of sizes

  abbrev s : State
  s = (volume_of sizes H C ram).state

  pub W : Work h sizes ok H C ram I c
  W = work h sizes ok H C ram I can c acc

  -- the call's operations, its finished pages and its new state
  abbrev pub ops : List Op
  ops = plan_ops (unit_of sizes) W.plan C

  abbrev pages' : List ℕ
  pages' = zero_page (unit_of sizes) (work_ram (unit_of sizes)) W.ram'

  abbrev s' : State
  s' = state_of sizes W.n' W.d'

  abbrev result : Flash → List Op → Result
  result X os =
      record {
        outcome = accepted;
        count = 0;
        da_pages = 0;
        volume = record
            { state = s'; flash = apply_all (unit_of sizes) os X; ram = pages' };
        ops = os;
      }

  -- a commit whose sectors are fresh, one whose are not, and one that is gone on with
  commit_is : all_fresh C.spare ops ≡ true → commit g (volume_of sizes H C ram) W.n' W.d' W.plan W.ram' ≡ result C ops
  unfolding commit
  commit_is q = cond_pos (all_fresh C.spare ops) _ _ q

  commit_no : all_fresh C.spare ops ≡ false → (commit g (volume_of sizes H C ram) W.n' W.d' W.plan W.ram').outcome ≡ refused 7
  unfolding commit
  commit_no q = ap (λ (r : Result). r.outcome) (cond_neg (all_fresh C.spare ops) _ _ q)

  commit_again : (X : Flash) → commit_later g (volume_of sizes H X ram) W.n' W.d' W.plan W.ram'
      ≡ result X (plan_ops (unit_of sizes) (later_plan X.spare W.plan) X)
  unfolding commit_later
  commit_again X = refl

  answered : call h (volume_of sizes H C ram) c ≡ commit g (volume_of sizes H C ram) W.n' W.d' W.plan W.ram'
  answered = call_is h sizes ok H C ram I can c ∙ W.answers commit C (volumes.search_is h sizes ok H C ram I (key_of c))

  is_fresh : all_fresh C.spare ops ≡ true
  is_fresh =
      either (bool? (all_fresh C.spare ops))
      (λ q. q)
      (λ q. absurd (refused_not 7 (sym (commit_no q) ∙ ap (λ (r : Result). r.outcome) (sym answered) ∙ acc)))

  pub called : call h (volume_of sizes H C ram) c ≡ result C ops
  called = answered ∙ commit_is is_fresh

  called_ops : (call h (volume_of sizes H C ram) c).ops ≡ ops
  called_ops = ap (λ (r : Result). r.ops) called

  allowed_ops : AllAllowed (unit_of sizes) ops C
  allowed_ops = rw called_ops at did.ops_allowed

  inside_ops : Below (spare_size g) ops
  inside_ops = rw called_ops at did.inside

  fit : Fit (unit_of sizes) ops C
  fit = shaped_fit (unit_of sizes) (index_block g) (blocks g) ops C W.shaped allowed_ops

  -- ---- on a chip that the call left when it was cut

  module _ (X : Flash) (cut : CutAt (unit_of sizes) ops C X) where
    search_cut : (search h g (volume_of sizes H X ram) (key_of c)).stop ≡ map found (find_live H (key_of c))
    search_cut =
        rw cut.is
        (cut_search h sizes ok H C ram I cut.done (blocks g)
        (allowed_start (unit_of sizes) cut.done cut.left C (rw cut.whole at allowed_ops))
        (apart_start cut.done cut.left (rw cut.whole at fit.apart))
        (sized_start (unit_of sizes) cut.done cut.left (rw cut.whole at W.shaped.sized))
        (erases_in_start (index_block g) (blocks g) cut.done cut.left (rw cut.whole at W.shaped.erasing))
        (key_of c))

    main_length : length X.main ≡ length C.main
    main_length = rw cut.is (apply_main_length (unit_of sizes) cut.done C)

    spare_length : length X.spare ≡ length C.spare
    spare_length = rw cut.is (apply_spare_length (unit_of sizes) cut.done C)

    pub still_long : too_short g X ram ≡ false
    still_long = short_same g X C ram main_length spare_length ∙ volumes.long_enough h sizes ok H C ram I

    -- what is later of the plan on this chip are the operations of the call that are left
    later_same : plan_ops (unit_of sizes) (later_plan X.spare W.plan) X ≡ later X.spare ops
    later_same = plan_resumes (unit_of sizes) W.plan C X fit cut

    -- the pending call as a restart makes it
    pub called_again : call_again h (volume_of sizes H X ram) c ≡ result X (later X.spare ops)
    unfolding call_again
    called_again =
        judged_is (volume_of sizes H X ram) (answer_by commit_later h g (volume_of sizes H X ram) c)
        (volumes.state_good h sizes ok H C ram I can) still_long
        ∙ W.answers commit_later X search_cut
        ∙ commit_again X
        ∙ ap (result X) later_same

  -- ---- headers

  old_fits : StateFits s
  old_fits = fits_of h sizes ok H C ram I

  state_is_lem : s' ≡ (volume_of sizes next.next C ram).state
  state_is_lem = ap (λ (r : Result). r.volume.state) (sym called) ∙ ap (λ (w : Volume). w.state) did.volume_is

  new_fits : StateFits s'
  new_fits =
      rw state_is_lem (fits_of h sizes ok next.next (call h (volume_of sizes H C ram) c).volume.flash
      (call h (volume_of sizes H C ram) c).volume.ram did.holds)

  -- the RAM with the intent, and finished
  abbrev pub intended : List ℕ
  intended = ram ++ header_bytes s (intent_words c)

  abbrev finished : List ℕ
  finished = pages' ++ header_bytes s' no_intent

  -- what the call leaves
  abbrev pub final : Volume
  final = record { state = s'; flash = apply_all (unit_of sizes) ops C; ram = finished }

  -- ---- a restart that finds the intent

  module _ (st : State) (X : Flash) (cut : CutAt (unit_of sizes) ops C X) where
    abbrev m : Volume
    m = record { state = st; flash = X; ram = intended }

    abbrev rest : List Op
    rest = later X.spare ops

    pending_is_lem : pending_on m ≡ volume_of sizes H X ram
    pending_is_lem =
        rw (pages_stored ram s (intent_words c) (intent_length ram s c), state_stored ram s (intent_words c) (intent_length ram s c) old_fits)

    result_is : call_again h (pending_on m) c ≡ result X rest
    result_is = ap (λ (w : Volume). call_again h w c) pending_is_lem ∙ called_again X cut

    pub restarted : (b : ℕ) → restart_for h b m ≡ ran (unit_of sizes) b st s' X intended (rest_of X ops finished)
    restarted b =
        let long : 64 ≤ length intended = long_ram ram (header_bytes s (intent_words c))
        (header_size_lem ram s (intent_words c) (intent_length ram s c)) in
        let unit : unit_of (state_in intended).sizes ≡ unit_of sizes
        = ap (λ (t : State). unit_of t.sizes) (state_stored ram s (intent_words c) (intent_length ram s c) old_fits) in
        restart_resumes h b m (changing c) long (intent_stored ram s c words)
        ∙ ap (λ (r : Result). taken b (unit_of (state_in intended).sizes) m (last_steps r) r) result_is
        ∙ ap (λ (k : ℕ). taken b k m (last_steps (result X rest)) (result X rest)) unit

  -- ---- a restart that finds none

  module _ (st : State) where
    new_good : bad_state s' ≡ false
    new_good =
        rw state_is_lem
        (volumes.state_good h sizes ok next.next (call h (volume_of sizes H C ram) c).volume.flash
        (call h (volume_of sizes H C ram) c).volume.ram did.holds can)

    new_long : too_short g (apply_all (unit_of sizes) ops C) pages' ≡ false
    new_long =
        ap (λ (r : Result). too_short g r.volume.flash r.volume.ram) (sym called)
        ∙ volumes.long_enough h sizes ok next.next (call h (volume_of sizes H C ram) c).volume.flash
        (call h (volume_of sizes H C ram) c).volume.ram did.holds

    pub idle : (b : ℕ) → restart_for h b (record { state = st; flash = apply_all (unit_of sizes) ops C; ram = finished })
        ≡ record { outcome = accepted; count = 0; da_pages = 0; volume = final; ops = [] }
    idle b = idle_restart h st s' (apply_all (unit_of sizes) ops C) pages' new_fits new_good new_long b

  -- ---- the call

  abbrev pub start : Volume
  start = record { state = s; flash = C; ram = ram ++ header_bytes s no_intent }

  on_pages_lem : on_pages start ≡ volume_of sizes H C ram
  on_pages_lem = ap (λ (p : List ℕ). record { state = s; flash = C; ram = p }) (pages_stored ram s no_intent refl)

  not_pending : eqb (kind_in (ram ++ header_bytes s no_intent)) 0 ≡ true
  not_pending = rw (idle_kind ram s)

  result_first : result_of h start c ≡ result C ops
  unfolding call
  result_first =
      ap (judge_first (on_pages start)) (cond_pos (eqb (kind_in (ram ++ header_bytes s no_intent)) 0) (answer h g (on_pages start) c)
      (refuse (on_pages start) 10) not_pending)
      ∙ ap (λ (w : Volume). judge_first w (answer h g w c)) on_pages_lem ∙ called

  first_steps : call_steps (pages start.ram ++ header_bytes s (intent_words c)) (result C ops) ≡ all_of intended ops finished
  first_steps =
      ap (λ (p : List ℕ). store (p ++ header_bytes s (intent_words c)) ∷ (chips ops ++ (store finished ∷ [])))
      (pages_stored ram s no_intent refl)

  pub called_for : (b : ℕ) → call_for h b start c ≡ ran (unit_of sizes) b s s' C start.ram (all_of intended ops finished)
  unfolding call_for
  called_for b =
      ap (λ (r : Result). taken b (unit_of sizes) start (call_steps (pages start.ram ++ header_bytes s (intent_words c)) r) r) result_first
      ∙ ap (λ (ss : List Step). taken b (unit_of sizes) start ss (result C ops)) first_steps

  -- ---- the claims, of the call on `start`: a volume that holds the image of a history, with no call pending

  -- "a cut before the intent leaves what was there"
  pub cut_before : (call_for h 0 start c).volume ≡ start
  cut_before =
      call_none h (unit_of sizes) (spare_size g) ops C fit inside_ops s s' start.ram intended finished restarted idle
      (λ b. call_for h b start c) called_for

  pub cut_before_ops : (call_for h 0 start c).ops ≡ []
  cut_before_ops = ap (λ (r : Result). r.ops) (called_for 0)

  -- the call with enough: its operations done, the new state, its finished pages with no intent
  pub uncut : (b : ℕ) → length ops < b → (call_for h (suc b) start c).volume ≡ final
  uncut =
      call_whole_lem h (unit_of sizes) (spare_size g) ops C fit inside_ops s s' start.ram intended finished restarted idle
      (λ b. call_for h b start c) called_for

  -- "for a cut between any two steps, and for further cuts during restart, the desk, cells, marks and state in the end equal those of the
  -- call uncut"
  pub recovered : (b : ℕ) (bs : List ℕ) (enough : ℕ) → length ops < enough
      → (restart_for h enough (restarts h bs (call_for h (suc b) start c).volume)).volume ≡ (call_for h (suc enough) start c).volume
  recovered =
      recovers h (unit_of sizes) (spare_size g) ops C fit inside_ops s s' start.ram intended finished restarted idle
      (λ b. call_for h b start c) called_for

  -- "The rule against programming twice counts both runs as one history"
  pub one_history : (b : ℕ) (bs : List ℕ) (enough : ℕ)
      → AllAllowed (unit_of sizes) ((call_for h (suc b) start c).ops
      ++ (restarts_ops h bs (call_for h (suc b) start c).volume
      ++ (restart_for h enough (restarts h bs (call_for h (suc b) start c).volume)).ops)) C
  one_history =
      runs_allowed h (unit_of sizes) (spare_size g) ops C fit inside_ops s s' start.ram intended finished restarted idle
      (λ b. call_for h b start c) called_for

  pub all_inside : (b : ℕ) (bs : List ℕ) (enough : ℕ)
      → Below (spare_size g) ((call_for h (suc b) start c).ops
      ++ (restarts_ops h bs (call_for h (suc b) start c).volume
      ++ (restart_for h enough (restarts h bs (call_for h (suc b) start c).volume)).ops))
  all_inside =
      runs_inside h (unit_of sizes) (spare_size g) ops C fit inside_ops s s' start.ram intended finished restarted idle
      (λ b. call_for h b start c) called_for

  -- the same with budgets that the definitions count
  whole_enough : (st : State) (X : Flash) (cut : CutAt (unit_of sizes) ops C X)
      → length (later X.spare ops) < length (pending_ops h (record { state = st; flash = X; ram = intended }) (pending_in intended)) + 1
  whole_enough st X cut =
      let e : pending_ops h (record { state = st; flash = X; ram = intended }) (pending_in intended) ≡ later X.spare ops
      = ap (pending_ops h (record { state = st; flash = X; ram = intended })) (intent_stored ram s c words)
      ∙ ap (λ (r : Result). r.ops) (result_is st X cut) in
      omega (arith, ap length e)

  pub recovered_whole : (b : ℕ) (bs : List ℕ) → (restart_whole h (restarts h bs (call_for h (suc b) start c).volume)).volume ≡ final
  recovered_whole b bs =
      ends_by h (unit_of sizes) (spare_size g) ops C fit inside_ops s s' start.ram intended finished restarted idle
      (λ b. call_for h b start c) called_for
      (length (pending_ops h (restarts h bs (call_for h (suc b) start c).volume)
      (pending_in (restarts h bs (call_for h (suc b) start c).volume).ram)) + 1)
      (restarts h bs (call_for h (suc b) start c).volume)
      (run_cut h (unit_of sizes) (spare_size g) ops C fit inside_ops s s' start.ram intended finished restarted idle
      (λ b. call_for h b start c) called_for b bs)
      (λ st X cut e. rw e (whole_enough st X cut))

  -- no restart is refused
  pub recovered_accepts : (b : ℕ) (bs : List ℕ) (e : ℕ)
      → (restart_for h e (restarts h bs (call_for h (suc b) start c).volume)).outcome ≡ accepted
  recovered_accepts =
      restart_accepts h (unit_of sizes) (spare_size g) ops C fit inside_ops s s' start.ram intended finished restarted idle
      (λ b. call_for h b start c) called_for

  pub final_flash : (b : ℕ) (bs : List ℕ) (enough : ℕ)
      → apply_all (unit_of sizes) ((call_for h (suc b) start c).ops
      ++ (restarts_ops h bs (call_for h (suc b) start c).volume
      ++ (restart_for h enough (restarts h bs (call_for h (suc b) start c).volume)).ops)) C
      ≡ (restart_for h enough (restarts h bs (call_for h (suc b) start c).volume)).volume.flash
  final_flash =
      runs_flash h (unit_of sizes) (spare_size g) ops C fit inside_ops s s' start.ram intended finished restarted idle
      (λ b. call_for h b start c) called_for

  -- a restart with enough, whenever it comes
  pub whole_ends : (st : State) (X : Flash) → CutAt (unit_of sizes) ops C X
      → (restart_whole h (record { state = st; flash = X; ram = intended })).volume ≡ final
  whole_ends st X cut =
      restart_whole_lem h (unit_of sizes) (spare_size g) ops C fit inside_ops s s' start.ram intended finished restarted idle
      (λ b. call_for h b start c) called_for st X cut _ (whole_enough st X cut)

  -- ---- one run, for a claim that holds while the call waits and when it is finished

  abbrev pub Told : (ℕ → Bool) → Flash → Type 0
  Told P X = (spare_size g ≤ length X.spare) × Says (spare_size g) X P

  module _ (Q : (ℕ → Bool) → Volume → Type 0)
      (waits : (P : ℕ → Bool) (X : Flash) → CutAt (unit_of sizes) ops C X → Told P X
      → Q P (record { state = s; flash = X; ram = intended }))
      (ends : (P : ℕ → Bool) → Told P (apply_all (unit_of sizes) ops C) → Q P final) where
    pub again_good : (P : ℕ → Bool) (X : Flash) → CutAt (unit_of sizes) ops C X → Told P X → (b : ℕ)
        → ProgramOrder (restart_for h b (record { state = s; flash = X; ram = intended })).ops P
        × Q (after_ops (restart_for h b (record { state = s; flash = X; ram = intended })).ops P)
        (restart_for h b (record { state = s; flash = X; ram = intended })).volume
    again_good =
        restart_good h (unit_of sizes) (spare_size g) ops C fit inside_ops s s' start.ram intended finished restarted idle
        (λ b. call_for h b start c) called_for Told Q
        (spare_tells h (unit_of sizes) (spare_size g) ops C fit inside_ops s s' start.ram intended finished restarted idle
        (λ b. call_for h b start c) called_for)
        (λ P X cut t. ends (after_ops (later X.spare ops) P)
        (spare_ends h (unit_of sizes) (spare_size g) ops C fit inside_ops s s' start.ram intended finished restarted idle
        (λ b. call_for h b start c) called_for P X cut t)) s waits

    pub first_good : (P : ℕ → Bool) → Told P C → (b : ℕ)
        → ProgramOrder (call_for h (suc b) start c).ops P
        × Q (after_ops (call_for h (suc b) start c).ops P) (call_for h (suc b) start c).volume
    first_good =
        call_good h (unit_of sizes) (spare_size g) ops C fit inside_ops s s' start.ram intended finished restarted idle
        (λ b. call_for h b start c) called_for Told Q
        (spare_tells h (unit_of sizes) (spare_size g) ops C fit inside_ops s s' start.ram intended finished restarted idle
        (λ b. call_for h b start c) called_for)
        (λ P X cut t. ends (after_ops (later X.spare ops) P)
        (spare_ends h (unit_of sizes) (spare_size g) ops C fit inside_ops s s' start.ram intended finished restarted idle
        (λ b. call_for h b start c) called_for P X cut t)) waits
