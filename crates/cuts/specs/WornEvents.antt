-- Runs of the store in turn on worn spare bytes, which may wear further between any two of them, and what is the same there: the words of
-- `WornCuts`. Document 02, §3 and §8.
use Rattle.std.specs.Prelude.{◌≡◌, List, [], ◌∷◌, ◌++◌, ℕ, suc}
use Rattle.layout.specs.Geometry.{geometry, spare_size, Sizes}
use Rattle.layout.specs.Flash.{Op}
use Rattle.layout.specs.Hash.{Family}
use Rattle.layout.specs.Calls.{Volume, Result}
use Rattle.layout.specs.Header.{Pending, nothing, changing, formatting, unknown, pending_in}
use Rattle.layout.specs.Budgets.{call_for, call_whole, format_for, format_whole, restart_for, restart_whole}
use Rattle.history.specs.Worn.{Worn, with_spare, SameResult}
use Rattle.cuts.specs.Events.{Event, whole, cut, idle, Format, whole_format, cut_format}

-- a call, a format or a restart with its budget of steps, or with enough: what it gives on a volume
abbrev pub Run : Type 0
Run = Volume → Result

-- the volume after runs in turn, and their operations
abbrev pub runs_after : Volume → List Run → Volume
runs_after v [] = v
runs_after v (r ∷ rs) = runs_after (r v).volume rs

abbrev pub runs_ops : Volume → List Run → List Op
runs_ops v [] = []
runs_ops v (r ∷ rs) = (r v).ops ++ runs_ops (r v).volume rs

module _ (h : Family) where
  -- restarts with these budgets, then one with enough
  abbrev pub finish_runs : List ℕ → List Run
  finish_runs [] = restart_whole h ∷ []
  finish_runs (b ∷ bs) = restart_for h b ∷ finish_runs bs

  -- the runs of an event, of events and of a format
  abbrev pub event_runs : Event → List Run
  event_runs (whole c) = (λ v. call_whole h v c) ∷ []
  event_runs (cut c b bs) = (λ v. call_for h b v c) ∷ finish_runs bs
  event_runs (idle bs) = finish_runs bs

  abbrev pub events_runs : List Event → List Run
  events_runs [] = []
  events_runs (e ∷ es) = event_runs e ++ events_runs es

  abbrev pub format_runs : Sizes → Format → List Run
  format_runs sizes whole_format = (λ v. format_whole v sizes) ∷ []
  format_runs sizes (cut_format b bs) = (λ v. format_for (suc b) v sizes) ∷ finish_runs bs

-- how many spare bytes count on a volume of these sizes: all, but none while a format is pending, which reads none and erases all
abbrev pub spare_used : Sizes → Pending → ℕ
spare_used sizes nothing = spare_size (geometry sizes)
spare_used sizes (changing c) = spare_size (geometry sizes)
spare_used sizes (formatting new) = 0
spare_used sizes unknown = spare_size (geometry sizes)

abbrev pub used_on : Sizes → Volume → ℕ
used_on sizes v = spare_used sizes (pending_in v.ram)

-- the run r on the volume v, on which n spare bytes count: these may show any wrong bits, at most three in each, and the others be any. It
-- is the same run, and those that count after it have at most three wrong bits each again
abbrev pub RunSame : Sizes → ℕ → Volume → Run → Type 0
RunSame sizes n v r =
    (spare : List ℕ) → Worn n v.flash.spare spare
    → SameResult sizes v (with_spare spare v) (r v) (r (with_spare spare v))
    × Worn (used_on sizes (r v).volume) (r v).volume.flash.spare (r (with_spare spare v)).volume.flash.spare

-- each run of a list from the volume v on, on which n spare bytes count: before each, those that count may have worn further
abbrev pub EachRunSame : Sizes → ℕ → Volume → List Run → Type 0
EachRunSame sizes n v [] = Unit {0}
EachRunSame sizes n v (r ∷ rs) = RunSame sizes n v r × EachRunSame sizes (used_on sizes (r v).volume) (r v).volume rs

-- the same answers from the volumes v and w on: outcome, both counts and state of each run
abbrev pub SameAnswers : Volume → Volume → List Run → Type 0
SameAnswers v w [] = Unit {0}
SameAnswers v w (r ∷ rs) =
    ((r w).outcome ≡ (r v).outcome) × ((r w).count ≡ (r v).count) × ((r w).da_pages ≡ (r v).da_pages)
    × ((r w).volume.state ≡ (r v).volume.state) × SameAnswers (r v).volume (r w).volume rs

-- runs in turn on the volume v, and on the worn volume w, which wears no further between them; n spare bytes count in the end
pub record SameRuns (n : ℕ) (v w : Volume) (rs : List Run) : Type 0 where
  pub answers : SameAnswers v w rs
  pub volume_is : runs_after w rs ≡ with_spare (runs_after w rs).flash.spare (runs_after v rs)
  pub ops : runs_ops w rs ≡ runs_ops v rs
  pub worn : Worn n (runs_after v rs).flash.spare (runs_after w rs).flash.spare
