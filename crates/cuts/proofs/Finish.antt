-- A call as steps, cut after any number of them, then restarts cut after any numbers of steps, then one with enough: all is as after the
-- call uncut. Of any call whose restart makes the same end of its list; `Recover` has the changing calls and `Formats` the format.
use Rattle.std.specs.Prelude.{◌≡◌, refl, Bool, true, false, List, [], ◌∷◌, ◌++◌, ℕ, zero, suc, ◌+◌, ◌≤◌, ◌<◌, length, take, drop, leb}
use Rattle.std.proofs.Common.{sym, ap, ◌∙◌, inl, inr, append_assoc, append-nil, not-suc-le-zero, arith, take-append-drop, take_all}
use Rattle.memory.specs.Cases.{either, bool?, lt?, le?}
use Rattle.layout.specs.Geometry.{State, Geometry}
use Rattle.layout.specs.Flash.{Op, program, erase, Flash, apply, apply_all, all_fresh}
use Rattle.layout.specs.Hash.{Family}
use Rattle.layout.specs.Calls.{Volume, accepted, Result, too_short}
use Rattle.history.specs.FlashLaws.{AllAllowed}
use Rattle.history.proofs.FlashLaws.{apply_spare_length, apply_append, allowed_append}
use Rattle.history.specs.Runs.{ProgramOrder}
use Rattle.history.specs.ProgramOrder.{Below, Says}
use Rattle.history.proofs.ProgramOrder.{below_append, in_order}
use Rattle.cuts.specs.Told.{Has, after_ops}
use Rattle.cuts.proofs.Told.{says_after}
use Rattle.cuts.specs.Later.{later}
use Rattle.cuts.proofs.Shape.{erases_append}
use Rattle.cuts.specs.CutLaws.{OnlyErases}
use Rattle.cuts.proofs.CutLaws.{later_none, allowed_start}
use Rattle.cuts.specs.Resume.{CutAt, Fit}
use Rattle.cuts.proofs.Resume.{left_fresh_lem, only_fresh, fresh_nil, cut_after, resume_all, resume_cut, resume_part_allowed}
use Rattle.layout.specs.Budgets.{Step, store, Memory, memory, steps, chips, ops_in, restart_for, restarts, restarts_ops}
use Rattle.cuts.specs.Finish.{ran, rest_of, all_of}

-- ---- steps by their number

module _ (u : ℕ) (d : List ℕ) where
  pub steps_cut : (os : List Op) (b : ℕ) (x : Flash) (ram : List ℕ) → b ≤ length os
      → steps u (take b (chips os ++ (store d ∷ []))) (memory x ram) ≡ memory (apply_all u (take b os) x) ram
  steps_cut os zero x ram l = refl
  steps_cut [] (suc b) x ram l = absurd (not-suc-le-zero l)
  steps_cut (o ∷ os) (suc b) x ram l = steps_cut os b (apply u o x) ram (omega arith)

  pub steps_all : (os : List Op) (b : ℕ) (x : Flash) (ram : List ℕ) → length os < b
      → steps u (take b (chips os ++ (store d ∷ []))) (memory x ram) ≡ memory (apply_all u os x) d
  steps_all os zero x ram l = absurd (not-suc-le-zero l)
  steps_all [] (suc b) x ram l = none b
    where
      none : (b : ℕ) → steps u (take b []) (memory x d) ≡ memory x d
      none zero = refl
      none (suc b) = refl
  steps_all (o ∷ os) (suc b) x ram l = steps_all os b (apply u o x) ram (omega arith)

  pub ops_cut : (os : List Op) (b : ℕ) → ops_in (take b (chips os ++ (store d ∷ []))) ≡ take b os
  ops_cut os zero = refl
  ops_cut [] (suc b) = none b
    where
      none : (b : ℕ) → ops_in (take b []) ≡ []
      none zero = refl
      none (suc b) = refl
  ops_cut (o ∷ os) (suc b) = ap (λ (l : List Op). o ∷ l) (ops_cut os b)

  pub steps_length : (os : List Op) → length (chips os ++ (store d ∷ [])) ≡ length os + 1
  steps_length [] = refl
  steps_length (o ∷ os) = omega (arith, steps_length os)

-- a restart has no more operations than the call
pub later_length : (spare : List ℕ) (os : List Op) → length (later spare os) ≤ length os
unfolding later
later_length spare [] = omega arith
later_length spare (o ∷ os) =
    either (bool? (all_fresh spare (o ∷ os))) (λ q. rw q (omega arith)) (λ q. rw q (omega (arith, later_length spare os)))

later_below : (N : ℕ) (spare : List ℕ) (os : List Op) → Below N os → Below N (later spare os)
unfolding later
later_below N spare [] q = tt
later_below N spare (program s b ∷ os) q =
    either (bool? (all_fresh spare (program s b ∷ os))) (λ t. rw t q) (λ t. rw t (later_below N spare os q.1))
later_below N spare (erase b ∷ os) q = either (bool? (all_fresh spare (erase b ∷ os))) (λ t. rw t q) (λ t. rw t (later_below N spare os q))

-- lengths alone decide refusal 2
pub short_same : (g : Geometry) (x y : Flash) (ram : List ℕ) → length x.main ≡ length y.main → length x.spare ≡ length y.spare
    → too_short g x ram ≡ too_short g y ram
unfolding too_short
short_same g x y ram p q = rw (p, q)

has_left : (b : ℕ) (xs ys : List Op) → Has b xs → Has b (xs ++ ys)
has_left b [] ys q = absurd q
has_left b (program s x ∷ os) ys q = has_left b os ys q
has_left b (erase k ∷ os) ys q = either q (λ e. inl e) (λ r. inr (has_left b os ys r))

has_right : (b : ℕ) (xs ys : List Op) → Has b ys → Has b (xs ++ ys)
has_right b [] ys q = q
has_right b (program s x ∷ os) ys q = has_right b os ys q
has_right b (erase k ∷ os) ys q = inr (has_right b os ys q)

pub take_only : (n : ℕ) (os : List Op) → OnlyErases os → OnlyErases (take n os)
take_only zero os o = tt
take_only (suc n) [] o = tt
take_only (suc n) (program s b ∷ os) o = absurd o
take_only (suc n) (erase b ∷ os) o = take_only n os o

-- of erases all is later
pub later_only : (spare : List ℕ) (os : List Op) → OnlyErases os → later spare os ≡ os
later_only spare os o = later_none spare os (rw append-nil at (only_fresh spare os [] o (fresh_nil spare)))

module _ (h : Family) (u N : ℕ) (ops : List Op) (C : Flash) (fit : Fit u ops C) (inside_ops : Below N ops) (s s' : State)
    (before intended finished : List ℕ)
    -- a restart that finds the intent does what is later; one that finds none leaves all as it is
    (again : (st : State) (X : Flash) → CutAt u ops C X → (b : ℕ) → restart_for h b (record { state = st; flash = X; ram = intended })
    ≡ ran u b st s' X intended (rest_of X ops finished))
    (idle : (st : State) (b : ℕ) → restart_for h b (record { state = st; flash = apply_all u ops C; ram = finished })
    ≡ record {
      outcome = accepted;
      count = 0;
      da_pages = 0;
      volume = record { state = s'; flash = apply_all u ops C; ram = finished };
      ops = [];
    })
    -- the call with a budget
    (runs : ℕ → Result) (first : (b : ℕ) → runs b ≡ ran u b s s' C before (all_of intended ops finished)) where
  -- what the call leaves
  abbrev pub final : Volume
  final = record { state = s'; flash = apply_all u ops C; ram = finished }

  abbrev all : List Step
  all = all_of intended ops finished

  -- ---- a restart that finds the intent

  module _ (st : State) (X : Flash) (K : CutAt u ops C X) where
    abbrev m : Volume
    m = record { state = st; flash = X; ram = intended }

    abbrev rest : List Op
    rest = later X.spare ops

    abbrev todo : List Step
    todo = rest_of X ops finished

    count_is : length todo ≡ length rest + 1
    count_is = steps_length u finished rest

    pub restart_part : (b : ℕ) → b ≤ length rest → (restart_for h b m).volume
        ≡ record { state = st; flash = apply_all u (take b rest) X; ram = intended }
    restart_part b l =
        let q : leb (length todo) b ≡ false = either (le? (length todo) b) (λ a. absurd (omega (arith, a.1, l, count_is))) (λ a. a.0) in
        ap (λ (r : Result). r.volume) (again st X K b)
        ∙ rw q (ap (λ (n : Memory). record { state = st; flash = n.flash; ram = n.ram }) (steps_cut u finished rest b X intended l))

    pub restart_whole_lem : (b : ℕ) → length rest < b → (restart_for h b m).volume ≡ final
    restart_whole_lem b l =
        let q : leb (length todo) b ≡ true = either (le? (length todo) b) (λ a. a.0) (λ a. absurd (omega (arith, a.1, l, count_is))) in
        ap (λ (r : Result). r.volume) (again st X K b)
        ∙ rw q
        (ap (λ (n : Memory). record { state = s'; flash = n.flash; ram = n.ram }) (steps_all u finished rest b X intended l)
        ∙ ap (λ (x : Flash). record { state = s'; flash = x; ram = finished }) (resume_all u ops C X fit K))

    pub restart_ops : (b : ℕ) → (restart_for h b m).ops ≡ take b rest
    restart_ops b = ap (λ (r : Result). r.ops) (again st X K b) ∙ ops_cut u finished rest b

  -- ---- a restart that finds none

  module _ (st : State) where
    abbrev idle_on : Volume
    idle_on = record { state = st; flash = apply_all u ops C; ram = finished }

    pub restart_over : (b : ℕ) → (restart_for h b idle_on).volume ≡ final
    restart_over b = ap (λ (r : Result). r.volume) (idle st b)

    pub restart_over_ops : (b : ℕ) → (restart_for h b idle_on).ops ≡ []
    restart_over_ops b = ap (λ (r : Result). r.ops) (idle st b)

  -- ---- any number of restarts

  -- the call waits to be finished, or is
  pub data Cut : Volume → Type 0 where
    waiting : (st : State) (X : Flash) → CutAt u ops C X → Cut (record { state = st; flash = X; ram = intended })
    over : (st : State) → Cut (record { state = st; flash = apply_all u ops C; ram = finished })

  restart_cut_lem : (b : ℕ) (v : Volume) → Cut v → Cut (restart_for h b v).volume
  restart_cut_lem b v (waiting st X K) =
      either (lt? (length (later X.spare ops)) b)
      (λ l. rw (restart_whole_lem st X K b l.1) (over s'))
      (λ l. rw (restart_part st X K b l.1) (waiting st (apply_all u (take b (later X.spare ops)) X) (resume_cut u ops C X fit K b)))
  restart_cut_lem b v (over st) = rw (restart_over st b) (over s')

  pub restarts_cut : (bs : List ℕ) (v : Volume) → Cut v → Cut (restarts h bs v)
  restarts_cut [] v k = k
  restarts_cut (b ∷ bs) v k = restarts_cut bs (restart_for h b v).volume (restart_cut_lem b v k)

  pub restart_ends : (b : ℕ) (v : Volume) → length ops < b → Cut v → (restart_for h b v).volume ≡ final
  restart_ends b v l (waiting st X K) = restart_whole_lem st X K b (omega (arith, l, later_length X.spare ops))
  restart_ends b v l (over st) = restart_over st b

  -- ---- the call

  all_length : length all ≡ length ops + 2
  all_length = omega (arith, steps_length u finished ops)

  -- "a cut before the intent leaves what was there"
  pub call_none : (runs 0).volume ≡ record { state = s; flash = C; ram = before }
  call_none =
      let q : leb (length all) 0 ≡ false = either (le? (length all) 0) (λ a. absurd (omega (arith, a.1, all_length))) (λ a. a.0) in
      ap (λ (r : Result). r.volume) (first 0) ∙ rw q

  call_part : (b : ℕ) → b ≤ length ops → (runs (suc b)).volume ≡ record { state = s; flash = apply_all u (take b ops) C; ram = intended }
  call_part b l =
      let q : leb (length all) (suc b) ≡ false = either (le? (length all) (suc b)) (λ a. absurd (omega (arith, a.1, l, all_length)))
      (λ a. a.0) in
      ap (λ (r : Result). r.volume) (first (suc b))
      ∙ rw q (ap (λ (n : Memory). record { state = s; flash = n.flash; ram = n.ram }) (steps_cut u finished ops b C intended l))

  -- a call with enough
  pub call_whole_lem : (b : ℕ) → length ops < b → (runs (suc b)).volume ≡ final
  call_whole_lem b l =
      let q : leb (length all) (suc b) ≡ true = either (le? (length all) (suc b)) (λ a. a.0)
      (λ a. absurd (omega (arith, a.1, l, all_length))) in
      ap (λ (r : Result). r.volume) (first (suc b))
      ∙ rw q (ap (λ (n : Memory). record { state = s'; flash = n.flash; ram = n.ram }) (steps_all u finished ops b C intended l))

  call_cut_lem : (b : ℕ) → Cut (runs (suc b)).volume
  call_cut_lem b =
      either (lt? (length ops) b)
      (λ l. rw (call_whole_lem b l.1) (over s'))
      (λ l. rw (call_part b l.1) (waiting s (apply_all u (take b ops) C) (cut_after u b ops C)))

  -- THE CLAIM: a cut after the intent, further cuts, and a restart with enough
  pub recovers : (b : ℕ) (bs : List ℕ) (enough : ℕ) → length ops < enough
      → (restart_for h enough (restarts h bs (runs (suc b)).volume)).volume ≡ (runs (suc enough)).volume
  recovers b bs enough l =
      restart_ends enough (restarts h bs (runs (suc b)).volume) l (restarts_cut bs (runs (suc b)).volume (call_cut_lem b))
      ∙ sym (call_whole_lem enough l)

  -- ---- "The rule against programming twice counts both runs as one history"

  take_below : (N n : ℕ) (os : List Op) → Below N os → Below N (take n os)
  take_below N zero os q = tt
  take_below N (suc n) [] q = tt
  take_below N (suc n) (program x b ∷ os) q = (q.0, take_below N n os q.1)
  take_below N (suc n) (erase b ∷ os) q = take_below N n os q

  -- what a restart does to the chip is its operations; they are allowed, and inside the volume
  pub record Kept (v : Volume) (r : Result) : Type 0 where
    pub flash_is : apply_all u r.ops v.flash ≡ r.volume.flash
    pub ops_allowed : AllAllowed u r.ops v.flash
    pub inside : Below N r.ops

  restart_flash : (st : State) (X : Flash) (K : CutAt u ops C X) (b : ℕ)
      → apply_all u (take b (later X.spare ops)) X ≡ (restart_for h b (record { state = st; flash = X; ram = intended })).volume.flash
  restart_flash st X K b =
      either (lt? (length (later X.spare ops)) b)
      (λ l.
      ap (λ (os : List Op). apply_all u os X) (take_all b (later X.spare ops) (omega (arith, l.1)))
      ∙ resume_all u ops C X fit K ∙ ap (λ (w : Volume). w.flash) (sym (restart_whole_lem st X K b l.1)))
      (λ l. ap (λ (w : Volume). w.flash) (sym (restart_part st X K b l.1)))

  restart_kept : (b : ℕ) (v : Volume) → Cut v → Kept v (restart_for h b v)
  restart_kept b v (waiting st X K) = record {
    flash_is = rw (restart_ops st X K b) (restart_flash st X K b);
    ops_allowed = rw (restart_ops st X K b) (resume_part_allowed u ops C X fit K b);
    inside = rw (restart_ops st X K b) (take_below N b (later X.spare ops) (later_below N X.spare ops inside_ops));
  }
  restart_kept b v (over st) = record {
    flash_is = rw (restart_over_ops st b) (ap (λ (w : Volume). w.flash) (sym (restart_over st b)));
    ops_allowed = rw (restart_over_ops st b) tt;
    inside = rw (restart_over_ops st b) tt;
  }

  restarts_kept : (bs : List ℕ) (v : Volume) → Cut v → (e : ℕ)
      → AllAllowed u (restarts_ops h bs v ++ (restart_for h e (restarts h bs v)).ops) v.flash
      × Below N (restarts_ops h bs v ++ (restart_for h e (restarts h bs v)).ops)
  restarts_kept [] v k e = let T = restart_kept e v k in (T.ops_allowed, T.inside)
  restarts_kept (b ∷ bs) v k e =
      let T = restart_kept b v k in
      let w : Volume = (restart_for h b v).volume in
      let U = restarts_kept bs (restart_for h b v).volume (restart_cut_lem b v k) e in
      let a = append_assoc (restart_for h b v).ops (restarts_ops h bs (restart_for h b v).volume)
      (restart_for h e (restarts h bs (restart_for h b v).volume)).ops in (
        rw a (allowed_append u (restart_for h b v).ops
            (restarts_ops h bs (restart_for h b v).volume ++ (restart_for h e (restarts h bs (restart_for h b v).volume)).ops) v.flash
            T.ops_allowed (rw T.flash_is U.0)),
        rw a (below_append N (restart_for h b v).ops
            (restarts_ops h bs (restart_for h b v).volume ++ (restart_for h e (restarts h bs (restart_for h b v).volume)).ops) T.inside
            U.1),
      )

  call_ops : (b : ℕ) → (runs (suc b)).ops ≡ take b ops
  call_ops b = ap (λ (r : Result). r.ops) (first (suc b)) ∙ ops_cut u finished ops b

  call_flash : (b : ℕ) → apply_all u (take b ops) C ≡ (runs (suc b)).volume.flash
  call_flash b =
      either (lt? (length ops) b)
      (λ l. ap (λ (os : List Op). apply_all u os C) (take_all b ops (omega (arith, l.1)))
      ∙ ap (λ (w : Volume). w.flash) (sym (call_whole_lem b l.1)))
      (λ l. ap (λ (w : Volume). w.flash) (sym (call_part b l.1)))

  -- the operations of all runs, as one list, are allowed on the chip that the call was handed
  pub runs_allowed : (b : ℕ) (bs : List ℕ) (e : ℕ)
      → AllAllowed u ((runs (suc b)).ops ++ (restarts_ops h bs (runs (suc b)).volume
      ++ (restart_for h e (restarts h bs (runs (suc b)).volume)).ops)) C
  runs_allowed b bs e =
      let U = restarts_kept bs (runs (suc b)).volume (call_cut_lem b) e in
      rw (call_ops b)
      (allowed_append u (take b ops) (restarts_ops h bs (runs (suc b)).volume ++ (restart_for h e (restarts h bs (runs (suc b)).volume)).ops)
      C
      (allowed_start u (take b ops) (drop b ops) C (rw (take-append-drop b ops) fit.allowed))
      (rw (call_flash b) U.0))

  pub runs_inside : (b : ℕ) (bs : List ℕ) (e : ℕ)
      → Below N ((runs (suc b)).ops ++ (restarts_ops h bs (runs (suc b)).volume
      ++ (restart_for h e (restarts h bs (runs (suc b)).volume)).ops))
  runs_inside b bs e =
      let U = restarts_kept bs (runs (suc b)).volume (call_cut_lem b) e in
      rw (call_ops b) (below_append N (take b ops)
      (restarts_ops h bs (runs (suc b)).volume ++ (restart_for h e (restarts h bs (runs (suc b)).volume)).ops)
      (take_below N b ops inside_ops) U.1)

  restarts_flash : (bs : List ℕ) (v : Volume) → Cut v → (e : ℕ)
      → apply_all u (restarts_ops h bs v ++ (restart_for h e (restarts h bs v)).ops) v.flash
      ≡ (restart_for h e (restarts h bs v)).volume.flash
  restarts_flash [] v k e = (restart_kept e v k).flash_is
  restarts_flash (b ∷ bs) v k e =
      ap (λ (os : List Op). apply_all u os v.flash)
      (append_assoc (restart_for h b v).ops (restarts_ops h bs (restart_for h b v).volume)
      (restart_for h e (restarts h bs (restart_for h b v).volume)).ops)
      ∙ apply_append u (restart_for h b v).ops
      (restarts_ops h bs (restart_for h b v).volume ++ (restart_for h e (restarts h bs (restart_for h b v).volume)).ops) v.flash
      ∙ ap (apply_all u (restarts_ops h bs (restart_for h b v).volume ++ (restart_for h e (restarts h bs (restart_for h b v).volume)).ops))
      (restart_kept b v k).flash_is
      ∙ restarts_flash bs (restart_for h b v).volume (restart_cut_lem b v k) e

  -- and done in that order they give the chip that the last run leaves
  pub runs_flash : (b : ℕ) (bs : List ℕ) (e : ℕ)
      → apply_all u ((runs (suc b)).ops ++ (restarts_ops h bs (runs (suc b)).volume
      ++ (restart_for h e (restarts h bs (runs (suc b)).volume)).ops)) C
      ≡ (restart_for h e (restarts h bs (runs (suc b)).volume)).volume.flash
  runs_flash b bs e =
      apply_append u (runs (suc b)).ops (restarts_ops h bs (runs (suc b)).volume
      ++ (restart_for h e (restarts h bs (runs (suc b)).volume)).ops) C
      ∙ ap (apply_all u (restarts_ops h bs (runs (suc b)).volume ++ (restart_for h e (restarts h bs (runs (suc b)).volume)).ops))
      (ap (λ (os : List Op). apply_all u os C) (call_ops b) ∙ call_flash b)
      ∙ restarts_flash bs (runs (suc b)).volume (call_cut_lem b) e

  -- a restart with as many steps as it finds, or more
  pub ends_by : (b : ℕ) (v : Volume) → Cut v
      → ((st : State) (X : Flash) → CutAt u ops C X → v ≡ record { state = st; flash = X; ram = intended }
      → length (later X.spare ops) < b) → (restart_for h b v).volume ≡ final
  ends_by b v (waiting st X K) l = restart_whole_lem st X K b (l st X K refl)
  ends_by b v (over st) l = restart_over st b

  pub run_cut : (b : ℕ) (bs : List ℕ) → Cut (restarts h bs (runs (suc b)).volume)
  run_cut b bs = restarts_cut bs (runs (suc b)).volume (call_cut_lem b)

  -- no restart is refused
  accepts_so : (b : ℕ) (v : Volume) → Cut v → (restart_for h b v).outcome ≡ accepted
  accepts_so b v (waiting st X K) = ap (λ (r : Result). r.outcome) (again st X K b)
  accepts_so b v (over st) = ap (λ (r : Result). r.outcome) (idle st b)

  pub restart_accepts : (b : ℕ) (bs : List ℕ) (e : ℕ) → (restart_for h e (restarts h bs (runs (suc b)).volume)).outcome ≡ accepted
  restart_accepts b bs e = accepts_so e (restarts h bs (runs (suc b)).volume) (run_cut b bs)

  -- ---- a list of erases, as a format's: all runs together are erases, and each block is among them

  module _ (only : OnlyErases ops) where
    rest_is : (X : Flash) → later X.spare ops ≡ ops
    rest_is X = later_only X.spare ops only

    one_only : (b : ℕ) (v : Volume) → Cut v → OnlyErases (restart_for h b v).ops
    one_only b v (waiting st X K) = rw (restart_ops st X K b, rest_is X) (take_only b ops only)
    one_only b v (over st) = rw (restart_over_ops st b) tt

    restarts_only : (bs : List ℕ) (v : Volume) → Cut v → (e : ℕ) → OnlyErases (restarts_ops h bs v ++ (restart_for h e (restarts h bs v)).ops)
    restarts_only [] v k e = one_only e v k
    restarts_only (b ∷ bs) v k e =
        rw (append_assoc (restart_for h b v).ops (restarts_ops h bs (restart_for h b v).volume)
        (restart_for h e (restarts h bs (restart_for h b v).volume)).ops)
        (erases_append (restart_for h b v).ops (restarts_ops h bs (restart_for h b v).volume
        ++ (restart_for h e (restarts h bs (restart_for h b v).volume)).ops) (one_only b v k)
        (restarts_only bs (restart_for h b v).volume (restart_cut_lem b v k) e))

    pub runs_only : (b : ℕ) (bs : List ℕ) (e : ℕ)
        → OnlyErases ((runs (suc b)).ops ++ (restarts_ops h bs (runs (suc b)).volume
        ++ (restart_for h e (restarts h bs (runs (suc b)).volume)).ops))
    runs_only b bs e =
        erases_append (runs (suc b)).ops (restarts_ops h bs (runs (suc b)).volume
        ++ (restart_for h e (restarts h bs (runs (suc b)).volume)).ops)
        (rw (call_ops b) (take_only b ops only)) (restarts_only bs (runs (suc b)).volume (call_cut_lem b) e)

    module _ (k : ℕ) (has : Has k ops) where
      restarts_has : (bs : List ℕ) (st : State) (X : Flash) (K : CutAt u ops C X) (e : ℕ)
          → ((t : State) (Y : Flash) → CutAt u ops C Y → restarts h bs (record { state = st; flash = X; ram = intended })
          ≡ record { state = t; flash = Y; ram = intended } → length ops < e)
          → Has k (restarts_ops h bs (record { state = st; flash = X; ram = intended })
          ++ (restart_for h e (restarts h bs (record { state = st; flash = X; ram = intended }))).ops)
      restarts_has [] st X K e enough = rw (restart_ops st X K e, rest_is X, take_all e ops (omega (arith, enough st X K refl))) has
      restarts_has (b ∷ bs) st X K e enough =
          let m : Volume = record { state = st; flash = X; ram = intended } in
          let w : Volume = (restart_for h b (record { state = st; flash = X; ram = intended })).volume in
          rw (append_assoc (restart_for h b (record { state = st; flash = X; ram = intended })).ops
          (restarts_ops h bs (restart_for h b (record { state = st; flash = X; ram = intended })).volume)
          (restart_for h e (restarts h bs (restart_for h b (record { state = st; flash = X; ram = intended })).volume)).ops)
          (either (lt? (length ops) b)
          (λ l.
          has_left k (restart_for h b (record { state = st; flash = X; ram = intended })).ops _
          (rw (restart_ops st X K b, rest_is X, take_all b ops (omega (arith, l.1))) has))
          (λ l.
          let part = restart_part st X K b (rw (rest_is X) l.1) in
          has_right k (restart_for h b (record { state = st; flash = X; ram = intended })).ops _
          (rw part
          (restarts_has bs st (apply_all u (take b (later X.spare ops)) X) (resume_cut u ops C X fit K b) e
          (λ t Y L q. enough t Y L (ap (restarts h bs) part ∙ q))))))

      pub runs_has : (b : ℕ) (bs : List ℕ) (e : ℕ)
          → ((t : State) (Y : Flash) → CutAt u ops C Y → restarts h bs (runs (suc b)).volume
          ≡ record { state = t; flash = Y; ram = intended } → length ops < e)
          → Has k ((runs (suc b)).ops ++ (restarts_ops h bs (runs (suc b)).volume
          ++ (restart_for h e (restarts h bs (runs (suc b)).volume)).ops))
      runs_has b bs e enough =
          either (lt? (length ops) b)
          (λ l. has_left k (runs (suc b)).ops _ (rw (call_ops b, take_all b ops (omega (arith, l.1))) has))
          (λ l.
          let part = call_part b l.1 in
          has_right k (runs (suc b)).ops _
          (rw part (restarts_has bs s (apply_all u (take b ops) C) (cut_after u b ops C) e
          (λ t Y L q. enough t Y L (ap (restarts h bs) part ∙ q)))))

  -- ---- one run more, for what the spare bytes tell and a claim that holds while the call waits and when it is finished

  abbrev pub Tells : (ℕ → Bool) → Flash → Type 0
  Tells P X = (N ≤ length X.spare) × Says N X P

  pub spare_tells : (P : ℕ → Bool) (X : Flash) → CutAt u ops C X → Tells P X → (n : ℕ)
      → ProgramOrder (take n (later X.spare ops)) P
      × Tells (after_ops (take n (later X.spare ops)) P) (apply_all u (take n (later X.spare ops)) X)
  spare_tells P X K t n = (
    in_order u N (take n (later X.spare ops)) X P t.0 t.1 (resume_part_allowed u ops C X fit K n)
        (take_below N n (later X.spare ops) (later_below N X.spare ops inside_ops)),
    (rw (apply_spare_length u (take n (later X.spare ops)) X) t.0, says_after u N (take n (later X.spare ops)) X P t.0 t.1),
  )

  pub spare_ends : (P : ℕ → Bool) (X : Flash) → CutAt u ops C X → Tells P X → Tells (after_ops (later X.spare ops) P) (apply_all u ops C)
  spare_ends P X K t =
      let a : take (length (later X.spare ops)) (later X.spare ops) ≡ later X.spare ops
      = take_all (length (later X.spare ops)) (later X.spare ops) (omega arith) in
      rw (resume_all u ops C X fit K) at (rw a at (spare_tells P X K t (length (later X.spare ops))).1)

  module _ (T : (ℕ → Bool) → Flash → Type 0) (Q : (ℕ → Bool) → Volume → Type 0)
      (tells : (P : ℕ → Bool) (X : Flash) → CutAt u ops C X → T P X → (n : ℕ)
      → ProgramOrder (take n (later X.spare ops)) P
      × T (after_ops (take n (later X.spare ops)) P) (apply_all u (take n (later X.spare ops)) X))
      (ends : (P : ℕ → Bool) (X : Flash) → CutAt u ops C X → T P X → Q (after_ops (later X.spare ops) P) final) where
    -- while the call waits, a run that leaves it waiting hands on the state that it was handed
    abbrev pub Waits : State → Type 0
    Waits st = (P : ℕ → Bool) (X : Flash) → CutAt u ops C X → T P X → Q P (record { state = st; flash = X; ram = intended })

    pub restart_good : (st : State) → Waits st → (P : ℕ → Bool) (X : Flash) → CutAt u ops C X → T P X → (b : ℕ)
        → ProgramOrder (restart_for h b (record { state = st; flash = X; ram = intended })).ops P
        × Q (after_ops (restart_for h b (record { state = st; flash = X; ram = intended })).ops P)
        (restart_for h b (record { state = st; flash = X; ram = intended })).volume
    restart_good st waits P X K t b =
        either (lt? (length (later X.spare ops)) b)
        (λ l. rw (restart_ops st X K b, restart_whole_lem st X K b l.1)
        ((tells P X K t b).0, rw (take_all b (later X.spare ops) (omega (arith, l.1))) (ends P X K t)))
        (λ l. rw (restart_ops st X K b, restart_part st X K b l.1) (
          (tells P X K t b).0,
          waits (after_ops (take b (later X.spare ops)) P) (apply_all u (take b (later X.spare ops)) X)
              (resume_cut u ops C X fit K b) (tells P X K t b).1,
        ))

    all_later : later C.spare ops ≡ ops
    all_later = later_none C.spare ops (left_fresh_lem u [] ops C fit)

    pub call_good : Waits s → (P : ℕ → Bool) → T P C → (b : ℕ) → ProgramOrder (runs (suc b)).ops P
        × Q (after_ops (runs (suc b)).ops P) (runs (suc b)).volume
    call_good waits P t b =
        let K : CutAt u ops C C = cut_after u 0 ops C in
        let D = rw all_later at (tells P C (cut_after u 0 ops C) t b) in
        either (lt? (length ops) b)
        (λ l. rw (call_ops b, call_whole_lem b l.1)
        (D.0, rw (take_all b ops (omega (arith, l.1))) (rw all_later at (ends P C (cut_after u 0 ops C) t))))
        (λ l. rw (call_ops b, call_part b l.1)
        (D.0, waits (after_ops (take b ops) P) (apply_all u (take b ops) C) (cut_after u b ops C) D.1))
