-- Steps and budgets: calls, format and restart, each with a budget of steps. Document 02, request 8, over the layout's calls.
use Rattle.std.specs.Prelude.{Bool, false, cond, List, [], ◌∷◌, ◌++◌, ℕ, ◌+◌, length, take, eqb, leb, ltb}
use Rattle.layout.specs.Geometry.{geometry, Sizes, unit_of}
use Rattle.layout.specs.Flash.{Flash, Op, apply}
use Rattle.layout.specs.Hash.{Family}
use Rattle.layout.specs.Refusals as refusal
use Rattle.layout.specs.Calls.{Volume, Call, Outcome, accepted, hit, miss, refused, Result, refuse, bad_state, too_short, judge_first, answer}
use Rattle.layout.specs.Calls.{format}
use Rattle.layout.specs.Later.{call_again}
use Rattle.layout.specs.Header.{header_size, pages, on_pages, intended, format_intended, finished, kind_in, state_in}
use Rattle.layout.specs.Header.{Pending, nothing, changing, formatting, unknown, pending_in}

-- ---- steps

-- "each of these steps, a desk store, a sector program or a block erase"
pub data Step : Type 0 where
  store : List ℕ → Step
  chip : Op → Step

-- what survives a cut: the chip and the RAM
pub record Memory : Type 0 where
  pub flash : Flash
  pub ram : List ℕ

abbrev pub memory : Flash → List ℕ → Memory
memory c ram = record { flash = c; ram = ram }

-- a step "happens wholly or not at all"
abbrev pub step : ℕ → Step → Memory → Memory
step u (store ram) m = memory m.flash ram
step u (chip o) m = memory (apply u o m.flash) m.ram

abbrev pub steps : ℕ → List Step → Memory → Memory
steps u [] m = m
steps u (s ∷ ss) m = steps u ss (step u s m)

abbrev pub chips : List Op → List Step
chips [] = []
chips (o ∷ os) = chip o ∷ chips os

-- the chip operations among steps
abbrev pub ops_in : List Step → List Op
ops_in [] = []
ops_in (store ram ∷ ss) = ops_in ss
ops_in (chip o ∷ ss) = o ∷ ops_in ss

-- "then does its chip operations, then stores the finished desk with the new state and the intent cleared"
abbrev pub last_steps : Result → List Step
last_steps r = chips r.ops ++ (store (finished r.volume) ∷ [])

-- "An accepted changing call first stores its intent"
abbrev pub call_steps : List ℕ → Result → List Step
call_steps intent r = store intent ∷ last_steps r

-- how many steps a result has: the intent, its operations and the finished RAM; a refusal, as a lookup, has none
abbrev pub steps_of : Outcome → Result → ℕ
steps_of accepted r = length r.ops + 2
steps_of (hit place bytes) r = 0
steps_of miss r = 0
steps_of (refused i) r = 0

abbrev pub step_count : Result → ℕ
step_count r = steps_of r.outcome r

-- ---- a budget

-- "a cut is a budget of steps: each changing call and restart runs one step function until its budget is used up": b of the steps that an
-- accepted result has; the state is new once all are done. A refusal, as a lookup, has no steps
abbrev pub taken_by : Outcome → ℕ → ℕ → Volume → List Step → Result → Result
taken_by accepted b u v ss r =
    let m : Memory = steps u (take b ss) (memory v.flash v.ram) in
    record {
      outcome = accepted;
      count = 0;
      da_pages = 0;
      volume = record { state = cond (leb (length ss) b) r.volume.state v.state; flash = m.flash; ram = m.ram };
      ops = ops_in (take b ss);
    }
taken_by (hit place bytes) b u v ss r =
    record { outcome = hit place bytes; count = r.count; da_pages = r.da_pages; volume = v; ops = [] }
taken_by miss b u v ss r = record { outcome = miss; count = r.count; da_pages = r.da_pages; volume = v; ops = [] }
taken_by (refused i) b u v ss r = refuse v i

abbrev pub taken : ℕ → ℕ → Volume → List Step → Result → Result
taken b u v ss r = taken_by r.outcome b u v ss r

-- what a caller is told beside: whether all steps were done, and how many were
pub record Cut : Type 0 where
  pub result : Result
  pub complete : Bool
  pub steps : ℕ

-- of a result with a budget and its steps; a refusal, as a lookup, has no steps
abbrev pub cut_by : Outcome → ℕ → List Step → Result → Cut
cut_by accepted b ss r = record { result = r; complete = leb (length ss) b; steps = length (take b ss) }
cut_by (hit place bytes) b ss r = record { result = r; complete = false; steps = 0 }
cut_by miss b ss r = record { result = r; complete = false; steps = 0 }
cut_by (refused i) b ss r = record { result = r; complete = false; steps = 0 }

abbrev pub cut_of : ℕ → List Step → Result → Cut
cut_of b ss r = cut_by r.outcome b ss r

-- ---- format, with a budget

unfoldable pub format_for : ℕ → Volume → Sizes → Result
format_for b v sizes =
    let r : Result = format (on_pages v) sizes in
    taken b (unit_of sizes) v (call_steps (format_intended v sizes) r) r

abbrev pub format_cut : ℕ → Volume → Sizes → Cut
format_cut b v sizes = cut_of b (call_steps (format_intended v sizes) (format (on_pages v) sizes)) (format_for b v sizes)

-- ---- the other calls, and restart

-- "is handed a state too but goes by the header's"
abbrev pub pending_on : Volume → Volume
pending_on v = record { state = state_in v.ram; flash = v.flash; ram = pages v.ram }

module _ (h : Family) where
  -- "Refusal 2 asks for the longer desk"; 10 "tested straight after 2"
  abbrev pub result_of : Volume → Call → Result
  result_of v c =
      judge_first (on_pages v)
      (cond (eqb (kind_in v.ram) 0) (answer h (geometry v.state.sizes) (on_pages v) c) (refuse (on_pages v) refusal.pending))

  -- a call with a budget
  unfoldable pub call_for : ℕ → Volume → Call → Result
  call_for b v c = taken b (unit_of v.state.sizes) v (call_steps (intended v c) (result_of v c)) (result_of v c)

  abbrev pub call_cut : ℕ → Volume → Call → Cut
  call_cut b v c = cut_of b (call_steps (intended v c) (result_of v c)) (call_for b v c)

  -- "with none, by 1 and 2", else it "finds none and returns the state"
  abbrev pub found_none : Volume → Result
  found_none v =
      cond (bad_state (state_in v.ram)) (refuse v refusal.bad_state)
      (cond (too_short (geometry (state_in v.ram).sizes) v.flash (pages v.ram)) (refuse v refusal.too_short)
      (record {
        outcome = accepted;
        count = 0;
        da_pages = 0;
        volume = record { state = state_in v.ram; flash = v.flash; ram = v.ram };
        ops = [];
      }))

  -- "finishes a pending call"; a format programs no sector, so that all its erases are later ones; "an unknown kind by 1"
  abbrev pub resumed : ℕ → Volume → Pending → Result
  resumed b v nothing = found_none v
  resumed b v (changing c) =
      taken b (unit_of (state_in v.ram).sizes) v (last_steps (call_again h (pending_on v) c)) (call_again h (pending_on v) c)
  resumed b v (formatting sizes) = taken b (unit_of sizes) v (last_steps (format (pending_on v) sizes)) (format (pending_on v) sizes)
  resumed b v unknown = refuse v refusal.bad_state

  -- restart with a budget: "a desk under 64 bytes by 2 first"
  unfoldable pub restart_for : ℕ → Volume → Result
  restart_for b v = cond (ltb (length v.ram) header_size) (refuse v refusal.too_short) (resumed b v (pending_in v.ram))

  -- the steps that it has; none where it finds no call
  abbrev pub restart_steps : Volume → Pending → List Step
  restart_steps v nothing = []
  restart_steps v (changing c) = last_steps (call_again h (pending_on v) c)
  restart_steps v (formatting sizes) = last_steps (format (pending_on v) sizes)
  restart_steps v unknown = []

  abbrev pub restart_cut : ℕ → Volume → Cut
  restart_cut b v = cut_of b (restart_steps v (pending_in v.ram)) (restart_for b v)

  -- restarts with these budgets, each on what the one before it left, and the operations of all
  abbrev pub restarts : List ℕ → Volume → Volume
  restarts [] v = v
  restarts (b ∷ bs) v = restarts bs (restart_for b v).volume

  abbrev pub restarts_ops : List ℕ → Volume → List Op
  restarts_ops [] v = []
  restarts_ops (b ∷ bs) v = (restart_for b v).ops ++ restarts_ops bs (restart_for b v).volume

  -- ---- budgets that are enough

  -- the operations that a restart has to do
  abbrev pub pending_ops : Volume → Pending → List Op
  pending_ops v nothing = []
  pending_ops v (changing c) = (call_again h (pending_on v) c).ops
  pending_ops v (formatting sizes) = (format (pending_on v) sizes).ops
  pending_ops v unknown = []

  -- "the call itself having enough": the intent, the operations and the finished RAM
  abbrev pub call_whole : Volume → Call → Result
  call_whole v c = call_for (length (result_of v c).ops + 2) v c

  abbrev pub restart_whole : Volume → Result
  restart_whole v = restart_for (length (pending_ops v (pending_in v.ram)) + 1) v

-- and a format
abbrev pub format_whole : Volume → Sizes → Result
format_whole v sizes = format_for (length (format (on_pages v) sizes).ops + 2) v sizes
