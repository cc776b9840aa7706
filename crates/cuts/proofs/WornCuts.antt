-- Worn spare bytes change no answer and no byte but themselves, whatever calls, cuts and restarts come, and though they wear further
-- between any two runs: on every volume whose spare bytes are 00 and FF, and so in every list of events from a format on, whose own cut is
-- included. The words are those of `WornEvents`. Document 02, §3 and §8.
use Rattle.std.specs.Prelude.{◌≡◌, refl, true, false, List, [], ◌∷◌, ◌++◌, ℕ, suc, length}
use Rattle.std.proofs.Common.{ap, ◌∙◌, append_assoc, append-nil, arith}
use Rattle.memory.specs.Cases.{either}
use Rattle.layout.specs.Geometry.{geometry, allowed, spare_size, Sizes}
use Rattle.layout.specs.Flash.{Op}
use Rattle.layout.specs.Hash.{Family}
use Rattle.layout.specs.Calls.{Volume, Call, too_short, format}
use Rattle.layout.specs.FiniteMap.{Map}
use Rattle.layout.specs.Header.{pages, on_pages}
use Rattle.layout.specs.Budgets.{call_for, call_whole, format_for, format_whole, restart_for, restarts, restarts_ops, restart_whole}
use Rattle.history.specs.Reached.{Reached}
use Rattle.history.specs.Runs.{after}
use Rattle.history.specs.Worn.{Worn, with_spare, SameResult, WornResult}
use Rattle.history.proofs.WornRuns.{reached_written}
use Rattle.cuts.specs.Events.{lift, Event, whole, cut, idle, finish, finish_ops, event_volume, event_ops, events_after, events_ops}
use Rattle.cuts.specs.Events.{made, AllNumbers, Format, whole_format, cut_format, format_end, format_ops}
use Rattle.cuts.proofs.PowerCut.{power_cuts}
use Rattle.cuts.specs.WornEvents.{Run, runs_after, runs_ops, finish_runs, event_runs, events_runs, format_runs, used_on, RunSame}
use Rattle.cuts.specs.WornEvents.{EachRunSame, SameRuns}
use Rattle.cuts.specs.WornSteady.{Steady}
use Rattle.cuts.proofs.WornSteady.{none_names, names_as, call_steady, call_whole_steady, restart_steady}
use Rattle.cuts.proofs.WornSteady.{restart_whole_steady}
use Rattle.cuts.specs.WornForming.{Forming}
use Rattle.cuts.proofs.WornForming.{used_steady, used_forming, restart_forming, restart_whole_forming, format_forming}
use Rattle.cuts.proofs.WornForming.{format_whole_forming}
use Rattle.cuts.specs.WornCuts.{AllSteady, Goes, WornEvent}

-- ---- runs of events

module _ (h : Family) where
  after_append : (v : Volume) (xs ys : List Run) → runs_after v (xs ++ ys) ≡ runs_after (runs_after v xs) ys
  after_append v [] ys = refl
  after_append v (r ∷ xs) ys = after_append (r v).volume xs ys

  ops_append : (v : Volume) (xs ys : List Run) → runs_ops v (xs ++ ys) ≡ runs_ops v xs ++ runs_ops (runs_after v xs) ys
  ops_append v [] ys = refl
  ops_append v (r ∷ xs) ys =
      ap (λ (os : List Op). (r v).ops ++ os) (ops_append (r v).volume xs ys)
      ∙ rw (append_assoc (r v).ops (runs_ops (r v).volume xs) (runs_ops (runs_after (r v).volume xs) ys))

  finish_runs_lem : (bs : List ℕ) (v : Volume)
      → (runs_after v (finish_runs h bs) ≡ (finish h bs v).volume) × (runs_ops v (finish_runs h bs) ≡ finish_ops h bs v)
  finish_runs_lem [] v = (refl, append-nil (restart_whole h v).ops)
  finish_runs_lem (b ∷ bs) v =
      let w : Volume = (restart_for h b v).volume in
      let F = finish_runs_lem bs (restart_for h b v).volume in (
        F.0,
        rw (append_assoc (restart_for h b v).ops (restarts_ops h bs w) (restart_whole h (restarts h bs w)).ops)
            (ap (λ (os : List Op). (restart_for h b v).ops ++ os) F.1),
      )

  event_runs_lem : (e : Event) (v : Volume)
      → (runs_after v (event_runs h e) ≡ event_volume h v e) × (runs_ops v (event_runs h e) ≡ event_ops h v e)
  event_runs_lem (whole c) v = (refl, append-nil _)
  event_runs_lem (cut c b bs) v =
      let F = finish_runs_lem bs (call_for h b v c).volume in (F.0, ap (λ (os : List Op). (call_for h b v c).ops ++ os) F.1)
  event_runs_lem (idle bs) v = finish_runs_lem bs v

  -- these runs in turn are the events
  pub events_runs_lem : (es : List Event) (v : Volume)
      → (runs_after v (events_runs h es) ≡ events_after h v es) × (runs_ops v (events_runs h es) ≡ events_ops h v es)
  events_runs_lem [] v = (refl, refl)
  events_runs_lem (e ∷ es) v =
      let E = event_runs_lem e v in
      let T = events_runs_lem es (event_volume h v e) in (
        after_append v (event_runs h e) (events_runs h es) ∙ ap (λ (x : Volume). runs_after x (events_runs h es)) E.0 ∙ T.0,
        ops_append v (event_runs h e) (events_runs h es)
            ∙ ap (λ (os : List Op). os ++ runs_ops (runs_after v (event_runs h e)) (events_runs h es)) E.1
            ∙ ap (λ (x : Volume). event_ops h v e ++ runs_ops x (events_runs h es)) E.0
            ∙ ap (λ (os : List Op). event_ops h v e ++ os) T.1,
      )

  pub format_runs_lem : (sizes : Sizes) (f : Format) (v : Volume)
      → (runs_after v (format_runs h sizes f) ≡ format_end h v sizes f) × (runs_ops v (format_runs h sizes f) ≡ format_ops h v sizes f)
  format_runs_lem sizes whole_format v = (refl, append-nil (format_whole v sizes).ops)
  format_runs_lem sizes (cut_format b bs) v =
      let F = finish_runs_lem bs (format_for (suc b) v sizes).volume in
      (F.0, ap (λ (os : List Op). (format_for (suc b) v sizes).ops ++ os) F.1)

steady_append : (sizes : Sizes) (xs ys : List Run) → AllSteady sizes xs → AllSteady sizes ys → AllSteady sizes (xs ++ ys)
steady_append sizes [] ys a b = b
steady_append sizes (r ∷ xs) ys a b = (a.0, steady_append sizes xs ys a.1 b)

steady_goes : (sizes : Sizes) (v : Volume) (rs : List Run) → Steady sizes v → AllSteady sizes rs → Goes sizes (used_on sizes v) v rs
steady_goes sizes v [] S A = (tt, S)
steady_goes sizes v (r ∷ rs) S A =
    let X = A.0 v S in
    let T = steady_goes sizes (r v).volume rs X.next A.1 in
    let same : RunSame sizes (used_on sizes v) v r
    = rw (used_steady sizes v S, used_steady sizes (r v).volume X.next) (λ spare W. ((X.same spare W).same, (X.same spare W).worn)) in
    ((same, T.0), T.1)

module _ (h : Family) (sizes : Sizes) where
  finish_steady : (bs : List ℕ) → AllSteady sizes (finish_runs h bs)
  finish_steady [] = ((λ v S. restart_whole_steady h sizes v S), tt)
  finish_steady (b ∷ bs) = ((λ v S. restart_steady h sizes v S b), finish_steady bs)

  event_steady : (e : Event) → AllSteady sizes (event_runs h e)
  event_steady (whole c) = ((λ v S. call_whole_steady h sizes v S c), tt)
  event_steady (cut c b bs) = ((λ v S. call_steady h sizes v S c b), finish_steady bs)
  event_steady (idle bs) = finish_steady bs

  events_steady : (es : List Event) → AllSteady sizes (events_runs h es)
  events_steady [] = tt
  events_steady (e ∷ es) = steady_append sizes (event_runs h e) (events_runs h es) (event_steady e) (events_steady es)

  -- a format, and runs after it
  module _ (can : allowed sizes ≡ true) (rest : List Run) (A : AllSteady sizes rest) where
    finished_goes : (v : Volume) (bs : List ℕ) → Steady sizes v → Goes sizes (used_on sizes v) v (finish_runs h bs ++ rest)
    finished_goes v bs S =
        steady_goes sizes v (finish_runs h bs ++ rest) S (steady_append sizes (finish_runs h bs) rest (finish_steady bs) A)

    forming_goes : (v : Volume) (bs : List ℕ) → Forming sizes v → Goes sizes 0 v (finish_runs h bs ++ rest)
    forming_goes v [] F =
        let X = restart_whole_forming h sizes can v F in
        let T = steady_goes sizes (restart_whole h v).volume rest X.1 A in
        ((X.0.same, T.0), T.1)
    forming_goes v (b ∷ bs) F =
        let X = restart_forming h sizes can v F b in
        let w : Volume = (restart_for h b v).volume in
        let T : Goes sizes (used_on sizes w) w (finish_runs h bs ++ rest)
        = either X.next (λ F'. rw (used_forming sizes w F') (forming_goes w bs F')) (λ S. finished_goes w bs S) in
        ((X.same, T.0), T.1)

    -- on any volume, whatever its bytes and its spare bytes
    format_goes : (v : Volume) → too_short (geometry sizes) v.flash (pages v.ram) ≡ false → (f : Format)
        → Goes sizes 0 v (format_runs h sizes f ++ rest)
    format_goes v long whole_format =
        let X = format_whole_forming h sizes can v long in
        let T = steady_goes sizes (format_whole v sizes).volume rest X.1 A in
        ((X.0.same, T.0), T.1)
    format_goes v long (cut_format b bs) =
        let X = format_forming h sizes can v long b in
        let w : Volume = (format_for (suc b) v sizes).volume in
        let T : Goes sizes (used_on sizes w) w (finish_runs h bs ++ rest)
        = either X.next (λ F. rw (used_forming sizes w F) (forming_goes w bs F)) (λ S. finished_goes w bs S) in
        ((X.same, T.0), T.1)

-- ---- runs in turn, with no further wear between them

module _ (sizes : Sizes) where
  run_more : (n : ℕ) (v w : Volume) (r : Run) (rs : List Run) → SameResult sizes v w (r v) (r w)
      → SameRuns n (r v).volume (r w).volume rs → SameRuns n v w (r ∷ rs)
  run_more n v w r rs F G = record {
    answers = (F.outcome, F.count, F.da_pages, ap (λ (x : Volume). x.state) F.volume_is, G.answers);
    volume_is = G.volume_is;
    ops = rw (F.ops, G.ops);
    worn = G.worn;
  }

  runs_moved : (n : ℕ) (v w w' : Volume) (rs : List Run) → w ≡ w' → SameRuns n v w' rs → SameRuns n v w rs
  runs_moved n v w w' rs p X = rw p X

  -- n bytes count at first, and k in the end
  abbrev Last : ℕ → ℕ → Volume → List Run → Type 0
  Last n k v [] = n ≡ k
  Last n k v (r ∷ rs) = Last (used_on sizes (r v).volume) k (r v).volume rs

  last_used : (v : Volume) (rs : List Run) → Last (used_on sizes v) (used_on sizes (runs_after v rs)) v rs
  last_used v [] = refl
  last_used v (r ∷ rs) = last_used (r v).volume rs

  runs_same : (n k : ℕ) (v : Volume) (spare : List ℕ) (rs : List Run) → Last n k v rs → EachRunSame sizes n v rs
      → Worn n v.flash.spare spare → SameRuns k v (with_spare spare v) rs
  runs_same n k v spare [] e E W = record { answers = tt; volume_is = refl; ops = refl; worn = rw e at W }
  runs_same n k v spare (r ∷ rs) e E W =
      let F = E.0 spare W in
      run_more k v (with_spare spare v) r rs F.0
      (runs_moved k (r v).volume (r (with_spare spare v)).volume _ rs F.0.volume_is
      (runs_same (used_on sizes (r v).volume) k (r v).volume (r (with_spare spare v)).volume.flash.spare rs e E.1 F.1))

  abbrev N : ℕ
  N = spare_size (geometry sizes)

  steady_runs : (v : Volume) (spare : List ℕ) (rs : List Run) → Steady sizes v → AllSteady sizes rs → Worn N v.flash.spare spare
      → SameRuns N v (with_spare spare v) rs
  steady_runs v spare rs S A W =
      let G = steady_goes sizes v rs S A in
      rw (used_steady sizes (runs_after v rs) G.1)
      at (runs_same (used_on sizes v) (used_on sizes (runs_after v rs)) v spare rs (last_used v rs) G.0 (rw (used_steady sizes v S) W))

-- ---- the theorems

-- a volume that calls reach, with its header, is steady
reached_steady : (h : Family) (sizes : Sizes) (w : Volume) (m : Map) → Reached h sizes w m → Steady sizes (lift w)
reached_steady h sizes w m X =
    let is : w.state.sizes ≡ sizes = ap (λ (x : Volume). x.state.sizes) X.is in
    record {
      state_is_lem = is;
      names = names_as w.state.sizes sizes (lift w).ram is (none_names w.ram w.state (rw is X.can));
      written = reached_written h sizes w m X;
    }

-- every run of every list of events on a steady volume, whatever its bytes but the spare ones
pub worn_any : (h : Family) (sizes : Sizes) (v : Volume) (es : List Event) → Steady sizes v
    → EachRunSame sizes (spare_size (geometry sizes)) v (events_runs h es)
worn_any h sizes v es S =
    rw (used_steady sizes v S) at (steady_goes sizes v (events_runs h es) S (events_steady h sizes es)).0

-- a call with enough on a volume that calls reach
pub worn_whole : (h : Family) (sizes : Sizes) (w : Volume) (m : Map) (c : Call) (spare : List ℕ) → Reached h sizes w m
    → Worn (spare_size (geometry sizes)) w.flash.spare spare
    → WornResult sizes (lift w) (with_spare spare (lift w)) (call_whole h (lift w) c) (call_whole h (with_spare spare (lift w)) c)
worn_whole h sizes w m c spare X W = (call_whole_steady h sizes (lift w) (reached_steady h sizes w m X) c).same spare W

-- every run of every list of events there
pub worn_reached : (h : Family) (sizes : Sizes) (w : Volume) (m : Map) (es : List Event) → Reached h sizes w m
    → EachRunSame sizes (spare_size (geometry sizes)) (lift w) (events_runs h es)
worn_reached h sizes w m es X = worn_any h sizes (lift w) es (reached_steady h sizes w m X)

pub worn_event : (h : Family) (sizes : Sizes) (w : Volume) (m : Map) (e : Event) (spare : List ℕ) → Reached h sizes w m
    → Worn (spare_size (geometry sizes)) w.flash.spare spare → WornEvent h sizes (lift w) (with_spare spare (lift w)) e
worn_event h sizes w m e spare X W =
    let R = steady_runs sizes (lift w) spare (event_runs h e) (reached_steady h sizes w m X) (event_steady h sizes e) W in
    let E = event_runs_lem h e (lift w) in
    let E' = event_runs_lem h e (with_spare spare (lift w)) in
    record {
      answers = R.answers;
      volume_is = rw (← E.0, ← E'.0) R.volume_is;
      ops = rw (← E.1, ← E'.1) R.ops;
      worn = rw (← E.0, ← E'.0) R.worn;
    }

module _ (h : Family) (v : Volume) (sizes : Sizes) (can : allowed sizes ≡ true)
    (long : too_short (geometry sizes) v.flash (pages v.ram) ≡ false) (f : Format) (es : List Event) where
  -- THE CLAIM, from a format on: every run of the format, on any spare bytes while it is pending, and every run of the events after it
  pub worn_events : EachRunSame sizes 0 v (format_runs h sizes f ++ events_runs h es)
  worn_events = (format_goes h sizes can (events_runs h es) (events_steady h sizes es) v long f).0

  abbrev rs : List Run
  rs = format_runs h sizes f ++ events_runs h es

  last_run : Last sizes 0 (used_on sizes (runs_after v rs)) v rs
  last_run = by f
    where
      by : (f : Format) → Last sizes 0 (used_on sizes (runs_after v (format_runs h sizes f ++ events_runs h es))) v
          (format_runs h sizes f ++ events_runs h es)
      by whole_format = last_used sizes (format_whole v sizes).volume (events_runs h es)
      by (cut_format b bs) = last_used sizes (format_for (suc b) v sizes).volume (finish_runs h bs ++ events_runs h es)

  -- all of them with no further wear, whatever spare bytes the format is handed
  pub worn_runs : (spare : List ℕ) → length spare ≡ length v.flash.spare
      → SameRuns (spare_size (geometry sizes)) v (with_spare spare v) (format_runs h sizes f ++ events_runs h es)
  worn_runs spare e =
      let G = format_goes h sizes can (events_runs h es) (events_steady h sizes es) v long f in
      rw (used_steady sizes (runs_after v rs) G.1)
      at (runs_same sizes 0 (used_on sizes (runs_after v rs)) v spare rs last_run G.0
      (record { long = e; wrong = λ x l. absurd (omega arith) }))

  runs_are : (x : Volume) → runs_after x rs ≡ events_after h (format_end h x sizes f) es
  runs_are x =
      after_append h x (format_runs h sizes f) (events_runs h es)
      ∙ ap (λ (y : Volume). runs_after y (events_runs h es)) (format_runs_lem h sizes f x).0
      ∙ (events_runs_lem h es (format_end h x sizes f)).0

  -- in the end the spare bytes alone differ from what document 01's format and calls leave on a sound chip
  pub worn_power_cuts : AllNumbers es → (spare : List ℕ) → length spare ≡ length v.flash.spare
      → events_after h (format_end h (with_spare spare v) sizes f) es
      ≡ with_spare (events_after h (format_end h (with_spare spare v) sizes f) es).flash.spare
      (lift (after h (format (on_pages v) sizes).volume (made es)))
  worn_power_cuts numbers spare e =
      let end : Volume = events_after h (format_end h (with_spare spare v) sizes f) es in
      let same : end ≡ with_spare end.flash.spare (events_after h (format_end h v sizes f) es)
      = rw (← runs_are v, ← runs_are (with_spare spare v)) (worn_runs spare e).volume_is in
      same ∙ ap (with_spare end.flash.spare) (power_cuts h v sizes can long f es numbers)
