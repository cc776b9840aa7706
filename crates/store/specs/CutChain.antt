-- Power cuts of the code: every chain of calls, cut or not, and restarts whose results satisfy the contracts, from a format on, ends with
-- what document 01's calls leave, and answers as the map does; calls that are asked before a restart has finished the one that was cut are
-- refused. Document 02, request 8, with demands 2 and 3, at FNV-1a.
use Rattle.std.specs.Prelude.{◌≡◌, ◌⊎◌, Bool, false, List, [], ◌∷◌, ◌++◌, ℕ, suc, eqb}
use Rattle.layout.specs.Geometry.{State, geometry, Sizes, unit_of, state_of}
use Rattle.layout.specs.Flash.{Op, apply_all}
use Rattle.layout.specs.Hash.{fnv_family}
use Rattle.layout.specs.Refusals as refusal
use Rattle.layout.specs.Calls.{Volume, Call, Outcome, accepted, refused, too_short, format}
use Rattle.layout.specs.FiniteMap.{Map, empty_map, map_of}
use Rattle.layout.specs.Header.{on_pages, kind_in}
use Rattle.layout.specs.Budgets.{call_for, call_cut, call_whole, format_for, format_cut, format_whole, restart_for, restart_cut}
use Rattle.layout.specs.Budgets.{restart_whole}
use Rattle.history.specs.Live.{empty_history}
use Rattle.history.specs.Reached.{map_after}
use Rattle.history.specs.Runs.{after, ProgramOrder, Agrees, history_of, ImageOf}
use Rattle.cuts.specs.AnyState.{with_state}
use Rattle.cuts.specs.Events as events
use Rattle.cuts.specs.Events.{lift, Event, calls_of, made, finish, event_result, event_ops}
use Rattle.cuts.specs.Events.{events_after, events_ops, Format, format_result, format_ops}
use Rattle.cuts.specs.CutMap.{CutAgrees, EventsAgree}
use Rattle.state.specs.Contract.{Effect, effect_of, CutEffect, cut_of}

-- ---- what the code does

-- what comes between a cut and the restart that finishes it, with the state that it is handed and what it leaves: a restart with its budget
-- of steps; a call that is asked while the other is pending, whole or with a budget
pub data Between : Type 0 where
  restart : State → ℕ → CutEffect → Between
  ask : State → Call → Effect → Between
  ask_cut : State → ℕ → Call → CutEffect → Between

-- what follows a cut: some of these, the state handed to a restart with enough, and what that leaves
pub record Finish : Type 0 where
  pub between : List Between
  pub handed : State
  pub last : Effect

-- a call that is not cut, and what it leaves; a call with its budget, what it leaves, and what follows; restarts at a power-up without a
-- pending call
pub data CodeEvent : Type 0 where
  whole : Call → Effect → CodeEvent
  cut : Call → ℕ → CutEffect → Finish → CodeEvent
  idle : Finish → CodeEvent

-- a format that is not cut, and what it leaves; one of which a step is done, its budget being one more, and what follows
pub data CodeFormat : Type 0 where
  whole_format : Effect → CodeFormat
  cut_format : ℕ → CutEffect → Finish → CodeFormat

-- ---- as the events of the definitions

-- the budgets of the restarts; calls that are asked change nothing
abbrev pub budgets_of : List Between → List ℕ
budgets_of [] = []
budgets_of (restart s b l ∷ rest) = b ∷ budgets_of rest
budgets_of (ask s c l ∷ rest) = budgets_of rest
budgets_of (ask_cut s b c l ∷ rest) = budgets_of rest

abbrev pub event_of : CodeEvent → Event
event_of (whole c l) = events.whole c
event_of (cut c b l f) = events.cut c b (budgets_of f.between)
event_of (idle f) = events.idle (budgets_of f.between)

abbrev pub events_of : List CodeEvent → List Event
events_of [] = []
events_of (e ∷ es) = event_of e ∷ events_of es

abbrev pub format_of : CodeFormat → Format
format_of (whole_format l) = events.whole_format
format_of (cut_format b l f) = events.cut_format b (budgets_of f.between)

-- ---- what the contracts say of it

abbrev pub left_by : Between → Volume
left_by (restart s b l) = l.left
left_by (ask s c l) = l.left
left_by (ask_cut s b c l) = l.left

abbrev pub last_left : Volume → List Between → Volume
last_left v [] = v
last_left v (a ∷ rest) = last_left (left_by a) rest

-- a call is pending: the kind is not 0
abbrev pub Waits : Volume → Type 0
Waits v = eqb (kind_in v.ram) 0 ≡ false

-- each on the bytes that the one before it left: what it leaves is what its contract says
abbrev pub Follows : Volume → List Between → Type 0
Follows v [] = Unit {0}
Follows v (restart s b l ∷ rest) = (l ≡ cut_of (restart_cut fnv_family b (with_state s v))) × Follows l.left rest
Follows v (ask s c l ∷ rest) = Waits v × (l ≡ effect_of (call_whole fnv_family (with_state s v) c)) × Follows l.left rest
Follows v (ask_cut s b c l ∷ rest) = Waits v × (l ≡ cut_of (call_cut fnv_family b (with_state s v) c)) × Follows l.left rest

abbrev pub Finishes : Volume → Finish → Type 0
Finishes v f =
    Follows v f.between × (f.last ≡ effect_of (restart_whole fnv_family (with_state f.handed (last_left v f.between))))

-- what the last run leaves
abbrev pub end_of : CodeEvent → Effect
end_of (whole c l) = l
end_of (cut c b l f) = f.last
end_of (idle f) = f.last

-- what an event leaves is what its contracts say; those of lookups give the first equation as in `Chain`
abbrev pub Done : Volume → CodeEvent → Type 0
Done v (whole c l) = l ≡ effect_of (call_whole fnv_family v c)
Done v (cut c b l f) = (l ≡ cut_of (call_cut fnv_family b v c)) × Finishes l.left f
Done v (idle f) = Finishes v f

-- each event is handed what the last run of the one before it left
abbrev pub CutChain : Volume → List CodeEvent → Type 0
CutChain v [] = Unit {0}
CutChain v (e ∷ es) = Done v e × CutChain (end_of e).left es

-- the same of a format
abbrev pub format_end_of : CodeFormat → Effect
format_end_of (whole_format l) = l
format_end_of (cut_format b l f) = f.last

abbrev pub FormatDone : Volume → Sizes → CodeFormat → Type 0
FormatDone v sizes (whole_format l) = l ≡ effect_of (format_whole v sizes)
FormatDone v sizes (cut_format b l f) = (l ≡ cut_of (format_cut (suc b) v sizes)) × Finishes l.left f

-- what its caller was told
abbrev pub format_says : CodeFormat → Outcome
format_says (whole_format l) = l.outcome
format_says (cut_format b l f) = l.outcome

-- the volume in the end
abbrev pub end_volume : Volume → List CodeEvent → Volume
end_volume v [] = v
end_volume v (e ∷ es) = end_volume (end_of e).left es

-- a restart with enough is not refused
abbrev pub Accepted : CodeEvent → Type 0
Accepted (whole c l) = Unit {0}
Accepted (cut c b l f) = f.last.outcome ≡ accepted
Accepted (idle f) = f.last.outcome ≡ accepted

abbrev pub AllAccepted : List CodeEvent → Type 0
AllAccepted [] = Unit {0}
AllAccepted (e ∷ es) = Accepted e × AllAccepted es

-- each call answers as the map does, and after its last run the volume has the map's state; restarts without a call change nothing
abbrev pub CodeAgrees : Sizes → Volume → Map → CodeEvent → Type 0
CodeAgrees sizes v m (whole c l) = Agrees sizes v l.outcome l.count l.left (map_of (geometry sizes) m c)
CodeAgrees sizes v m (cut c b l f) = CutAgrees sizes v m b c l.outcome f.last.left
CodeAgrees sizes v m (idle f) = (f.last.outcome ≡ accepted) × (f.last.left ≡ v)

-- of a list. A call without a step is answered too, but the map makes no step for it
abbrev pub CutsAgree : Sizes → Volume → Map → List CodeEvent → Type 0
CutsAgree sizes v m [] = Unit {0}
CutsAgree sizes v m (e ∷ es) =
    CodeAgrees sizes v m e × CutsAgree sizes (end_of e).left (map_after (geometry sizes) m (calls_of (event_of e))) es

-- ---- calls that are asked in between

-- refused by i, and nothing is changed
abbrev pub RefusedBy : ℕ → Volume → Outcome → Volume → Type 0
RefusedBy i v o w = (o ≡ refused i) × (w ≡ v)

-- by 1, 2 or 10, as the state that is handed over may be any
abbrev pub Stopped : Volume → Outcome → Volume → Type 0
Stopped v o w = RefusedBy refusal.bad_state v o w ⊎ RefusedBy refusal.too_short v o w ⊎ RefusedBy refusal.pending v o w

abbrev pub AsksStopped : Volume → List Between → Type 0
AsksStopped v [] = Unit {0}
AsksStopped v (restart s b l ∷ rest) = AsksStopped l.left rest
AsksStopped v (ask s c l ∷ rest) = Stopped (with_state s v) l.outcome l.left × AsksStopped l.left rest
AsksStopped v (ask_cut s b c l ∷ rest) = Stopped (with_state s v) l.outcome l.left × AsksStopped l.left rest

-- "10, a call other than format and restart while the kind is not 0": by 10, if it is handed the state t
abbrev pub AsksTen : State → List Between → Type 0
AsksTen t [] = Unit {0}
AsksTen t (restart s b l ∷ rest) = AsksTen t rest
AsksTen t (ask s c l ∷ rest) = (s ≡ t → l.outcome ≡ refused refusal.pending) × AsksTen t rest
AsksTen t (ask_cut s b c l ∷ rest) = (s ≡ t → l.outcome ≡ refused refusal.pending) × AsksTen t rest

-- of a call that is cut: by 10 with the state that it left, if it is accepted
abbrev pub EventAsks : Volume → CodeEvent → Type 0
EventAsks v (whole c l) = Unit {0}
EventAsks v (cut c b l f) = AsksStopped l.left f.between × (l.outcome ≡ accepted → AsksTen l.left.state f.between)
EventAsks v (idle f) = AsksStopped v f.between

abbrev pub AllAsks : Volume → List CodeEvent → Type 0
AllAsks v [] = Unit {0}
AllAsks v (e ∷ es) = EventAsks v e × AllAsks (end_of e).left es

-- of a format that is cut the state is the one that its caller had
abbrev pub FormatAsks : CodeFormat → Type 0
FormatAsks (whole_format l) = Unit {0}
FormatAsks (cut_format b l f) = AsksStopped l.left f.between

-- ---- its chip operations, those of all runs in order

-- of restarts, and of calls that are asked in between
abbrev pub between_ops : Volume → List Between → List Op
between_ops v [] = []
between_ops v (restart s b l ∷ rest) = (restart_for fnv_family b (with_state s v)).ops ++ between_ops l.left rest
between_ops v (ask s c l ∷ rest) = (call_whole fnv_family (with_state s v) c).ops ++ between_ops l.left rest
between_ops v (ask_cut s b c l ∷ rest) = (call_for fnv_family b (with_state s v) c).ops ++ between_ops l.left rest

abbrev pub finish_ops : Volume → Finish → List Op
finish_ops v f = between_ops v f.between ++ (restart_whole fnv_family (with_state f.handed (last_left v f.between))).ops

-- of an event
abbrev pub run_ops : Volume → CodeEvent → List Op
run_ops v (whole c l) = (call_whole fnv_family v c).ops
run_ops v (cut c b l f) = (call_for fnv_family b v c).ops ++ finish_ops l.left f
run_ops v (idle f) = finish_ops v f

abbrev pub code_ops : Volume → List CodeEvent → List Op
code_ops v [] = []
code_ops v (e ∷ es) = run_ops v e ++ code_ops (end_of e).left es

abbrev pub code_format_ops : Volume → Sizes → CodeFormat → List Op
code_format_ops v sizes (whole_format l) = (format_whole v sizes).ops
code_format_ops v sizes (cut_format b l f) = (format_for (suc b) v sizes).ops ++ finish_ops l.left f

-- ---- restarts with other states

-- the same chip and RAM, whatever the states
abbrev pub SameMemory : Volume → Volume → Type 0
SameMemory x v = (v.flash ≡ x.flash) × (v.ram ≡ x.ram)

-- ---- the restart with enough

-- the restart with enough ends as one that is handed what the cut left
pub record Ended (x v : Volume) (f : Finish) : Type 0 where
  pub last : f.last ≡ effect_of (finish fnv_family (budgets_of f.between) x)
  pub ops : finish_ops v f ≡ events.finish_ops fnv_family (budgets_of f.between) x

-- ---- events

-- an event of the code is one of the definitions
pub record Same (v : Volume) (e : CodeEvent) : Type 0 where
  pub end : end_of e ≡ effect_of (event_result fnv_family v (event_of e))
  pub ops : run_ops v e ≡ event_ops fnv_family v (event_of e)

-- ---- lists of events

pub record AllSame (v : Volume) (es : List CodeEvent) : Type 0 where
  pub volume : end_volume v es ≡ events_after fnv_family v (events_of es)
  pub ops : code_ops v es ≡ events_ops fnv_family v (events_of es)
  pub accepts : AllAccepted es
  pub agrees : (sizes : Sizes) (m : Map) → EventsAgree fnv_family sizes v m (events_of es) → CutsAgree sizes v m es

-- ---- from a format on

-- a format of the code is one of the definitions
pub record FormatSame (v : Volume) (sizes : Sizes) (f : CodeFormat) : Type 0 where
  pub end : format_end_of f ≡ effect_of (format_result fnv_family v sizes (format_of f))
  pub ops : code_format_ops v sizes f ≡ format_ops fnv_family v sizes (format_of f)
  pub says : format_says f ≡ (format (on_pages v) sizes).outcome

-- what request 8 claims, of the code, and demands 2 and 3 with it
pub record CutRun (v : Volume) (sizes : Sizes) (f : CodeFormat) (es : List CodeEvent) : Type 0 where
  -- no restart with enough is refused
  pub formatted : (format_end_of f).outcome ≡ accepted
  pub each : AllAccepted es
  -- "the desk, cells, marks and state in the end equal those of the call uncut"
  pub end_is : end_volume (format_end_of f).left es ≡ lift (after fnv_family (format (on_pages v) sizes).volume (made (events_of es)))
  -- the operations of all runs, done in order on the chip handed to the format, give the flash that the last one leaves
  pub flash_is : apply_all (unit_of sizes) (code_format_ops v sizes f ++ code_ops (format_end_of f).left es) v.flash
      ≡ (end_volume (format_end_of f).left es).flash
  -- "The rule against programming twice counts both runs as one history"
  pub in_order : (P : ℕ → Bool) → ProgramOrder (code_format_ops v sizes f ++ code_ops (format_end_of f).left es) P
  -- demand 2: the pages, the flash and the state in the end are the image of the history of the calls made
  pub image : ImageOf fnv_family (geometry sizes)
      (history_of fnv_family (format (on_pages v) sizes).volume empty_history (made (events_of es))) (on_pages v)
      (on_pages (end_volume (format_end_of f).left es))
  -- demand 3, of the format and of each call
  pub format_answer : format_says f ≡ accepted
  pub started : (format_end_of f).left.state ≡ state_of sizes 0 0
  pub agrees : CutsAgree sizes (format_end_of f).left empty_map es
  -- a call that is asked before the restart with enough is refused and changes nothing; "10, .. while the kind is not 0"
  pub format_asked : FormatAsks f
  pub asked : AllAsks (format_end_of f).left es
