-- What the calls' contracts compare: the code's state, records and answers as the layout's.
use Rattle.std.specs.Prelude.{◌≡◌, false, List, ℕ, length, take, leb, Result, Ok, Err}
use Rattle.memory.specs.Bits.{num}
use Rattle.layout.specs.Geometry as layout
use Rattle.layout.specs.Flash.{flash_of}
use Rattle.layout.specs.Items as items
use Rattle.layout.specs.Calls as calls
use Rattle.layout.specs.Calls.{Volume, Call, insert, update, delete, Outcome, accepted, refused}
use Rattle.layout.specs.Refusals as refusal
use Rattle.layout.specs.Budgets as budgets
use Rattle.layout.specs.Budgets.{Step, Memory, memory}
use Rattle.geometry.specs.Shape.{sizes_is}
use Rattle.keys.specs.Key.{key_is}
use Rattle.state.specs.declared.State.{State}
use Rattle.state.specs.declared.Record.{Record}
use Rattle.state.specs.declared.Request.{Request}
use Rattle.state.specs.declared.Request.TheVariants.{Insert, Update, Delete}
use Rattle.state.specs.declared.Refusal.{Refusal}
use Rattle.state.specs.declared.Refusal.TheVariants.{BadState, TooShort, Present, Absent, Full, DeletionsFull, NotFresh, CorruptEntry, Malformed, Pending}
use Rattle.state.specs.declared.Cut.{Cut}
use Rattle.state.specs.declared.Progress.{Progress}

abbrev pub state_is : State → layout.State
state_is s = layout.state_of (sizes_is s.sizes) s.records s.deletions

abbrev pub record_is : Record → items.Record
record_is r = items.record_of (key_is r.key) r.moves r.goal r.free

-- the layout's call
abbrev pub call_of : Request → Call
call_of (Insert r) = insert (record_is r)
call_of (Update r) = update (record_is r)
call_of (Delete key) = delete (key_is key)

-- the volume that is handed in: state, main area, spare area and RAM
abbrev pub volume : State → List ℕ → List ℕ → List ℕ → Volume
volume s main spare ram = record { state = state_is s; flash = flash_of main spare; ram = ram }

-- ---- refusals

-- a refusal's number
abbrev pub number_of : Refusal → ℕ
number_of BadState = refusal.bad_state
number_of TooShort = refusal.too_short
number_of Present = refusal.present
number_of Absent = refusal.absent
number_of Full = refusal.full
number_of DeletionsFull = refusal.deletions_full
number_of NotFresh = refusal.not_fresh
number_of CorruptEntry = refusal.corrupt_entry
number_of Malformed = refusal.malformed
number_of Pending = refusal.pending

-- what an answer says of a changing call: it is accepted, or refused by a number
abbrev pub outcome_of : {A : Type 0} → Result A Refusal → Outcome
outcome_of (Ok x) = accepted
outcome_of (Err i) = refused (number_of i)

-- ---- calls

-- all that a caller sees of a call: a layout's result but for its operations
pub record Effect : Type 0 where
  pub outcome : Outcome
  pub count : ℕ
  pub left : Volume

abbrev pub effect_of : calls.Result → Effect
effect_of r = record { outcome = r.outcome; count = r.count; left = r.volume }

-- the state that an answer leaves: that handed in, where the call is refused
abbrev pub state_after : State → Result State Refusal → State
state_after handed (Ok s) = s
state_after handed (Err i) = handed

-- what a changing call that was handed a state answers and leaves
abbrev pub change_effect : State → Result State Refusal → List ℕ → List ℕ → List ℕ → Effect
change_effect handed answer main spare ram =
    record { outcome = outcome_of answer; count = 0; left = volume (state_after handed answer) main spare ram }

-- ---- with a budget of steps

-- all that a caller sees of a call that may be cut; `complete` is 1 if it did all steps
pub record CutEffect : Type 0 where
  pub outcome : Outcome
  pub complete : ℕ
  pub steps : ℕ
  pub left : Volume

abbrev pub cut_of : budgets.Cut → CutEffect
cut_of c = record { outcome = c.result.outcome; complete = num c.complete; steps = c.steps; left = c.result.volume }

-- how far an answer says that a call got, and its state: a refused call does no steps, and leaves the state handed in
abbrev pub cut_or : State → Result Cut Refusal → Cut
cut_or handed (Ok c) = c
cut_or handed (Err i) = record { progress = record { steps = 0; finished = false }; state = handed }

abbrev pub cut_by : State → Result Cut Refusal → List ℕ → List ℕ → List ℕ → CutEffect
cut_by handed answer main spare ram =
    record {
      outcome = outcome_of answer;
      complete = num (cut_or handed answer).progress.finished;
      steps = (cut_or handed answer).progress.steps;
      left = volume (cut_or handed answer).state main spare ram;
    }

-- the chip and the RAM, lent to a run of steps
abbrev pub memory_of : List ℕ → List ℕ → List ℕ → Memory
memory_of main spare ram = memory (flash_of main spare) ram

-- a run of b of these steps
pub record Ran (u : ℕ) (ss : List Step) (b : ℕ) (m m' : Memory) (p : Progress) : Type 0 where
  pub memory_is : m' ≡ budgets.steps u (take b ss) m
  pub steps_is : p.steps ≡ length (take b ss)
  pub finished_is : p.finished ≡ leb (length ss) b
