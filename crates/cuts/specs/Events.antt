-- Lists of calls that may each be cut, restarted, cut again and finished, with restarts between them that find no call: what request 8's
-- claim speaks of.
use Rattle.std.specs.Prelude.{◌≡◌, List, [], ◌∷◌, ◌++◌, ℕ, zero, suc, ◌^◌, ◌<◌}
use Rattle.layout.specs.Geometry.{Sizes}
use Rattle.layout.specs.Flash.{Op}
use Rattle.layout.specs.Hash.{Family}
use Rattle.layout.specs.Keys.{KeyOk}
use Rattle.layout.specs.Items.{Record}
use Rattle.layout.specs.Calls.{Volume, Call, insert, update, delete, lookup, accepted, Result}
use Rattle.layout.specs.Header.{on_pages, finished}
use Rattle.layout.specs.Budgets.{call_for, call_whole, format_for, format_whole, restarts, restarts_ops, restart_whole}

-- a volume of document 01 with a header that has its state and no intent
abbrev pub lift : Volume → Volume
lift w = record { state = w.state; flash = w.flash; ram = finished w }

-- the RAM is its pages and a header of the state without an intent
abbrev pub Finished : Volume → Type 0
Finished v = v.ram ≡ finished (on_pages v)

-- a call with enough; a call with its budget of steps, and the budgets of the restarts after it; restarts with no call pending. After the
-- restarts of the last two one with enough follows
pub data Event : Type 0 where
  whole : Call → Event
  cut : Call → ℕ → List ℕ → Event
  idle : List ℕ → Event

-- the calls of which a step was done; "a cut before the intent leaves what was there"
abbrev pub made_by : ℕ → Call → List Call
made_by zero c = []
made_by (suc b) c = c ∷ []

abbrev pub calls_of : Event → List Call
calls_of (whole c) = c ∷ []
calls_of (cut c b bs) = made_by b c
calls_of (idle bs) = []

abbrev pub made : List Event → List Call
made [] = []
made (e ∷ es) = calls_of e ++ made es

-- all numbers of a record are 32-bit numbers
abbrev pub RecordFits : Record → Type 0
RecordFits r = KeyOk r.key × (r.moves < 2 ^ 32) × (r.goal < 2 ^ 32) × (r.free < 2 ^ 32)

-- and of a call
abbrev pub Numbers : Call → Type 0
Numbers (insert r) = RecordFits r
Numbers (update r) = RecordFits r
Numbers (delete key) = KeyOk key
Numbers (lookup key) = KeyOk key

abbrev pub EventNumbers : Event → Type 0
EventNumbers (whole c) = Numbers c
EventNumbers (cut c b bs) = Numbers c
EventNumbers (idle bs) = Unit {0}

abbrev pub AllNumbers : List Event → Type 0
AllNumbers [] = Unit {0}
AllNumbers (e ∷ es) = EventNumbers e × AllNumbers es

-- a format with enough; one with a budget of one step more, and the budgets of the restarts after it, which one with enough follows
pub data Format : Type 0 where
  whole_format : Format
  cut_format : ℕ → List ℕ → Format

module _ (h : Family) where
  -- restarts with these budgets, then one with enough: its result, and the operations of all of them
  abbrev pub finish : List ℕ → Volume → Result
  finish bs v = restart_whole h (restarts h bs v)

  abbrev pub finish_ops : List ℕ → Volume → List Op
  finish_ops bs v = restarts_ops h bs v ++ (restart_whole h (restarts h bs v)).ops

  -- the result of an event's last run
  abbrev pub event_result : Volume → Event → Result
  event_result v (whole c) = call_whole h v c
  event_result v (cut c b bs) = finish bs (call_for h b v c).volume
  event_result v (idle bs) = finish bs v

  abbrev pub event_volume : Volume → Event → Volume
  event_volume v e = (event_result v e).volume

  abbrev pub event_ops : Volume → Event → List Op
  event_ops v (whole c) = (call_whole h v c).ops
  event_ops v (cut c b bs) = (call_for h b v c).ops ++ finish_ops bs (call_for h b v c).volume
  event_ops v (idle bs) = finish_ops bs v

  -- its last restart is not refused
  abbrev pub EventAccepts : Volume → Event → Type 0
  EventAccepts v (whole c) = Unit {0}
  EventAccepts v (cut c b bs) = (event_result v (cut c b bs)).outcome ≡ accepted
  EventAccepts v (idle bs) = (event_result v (idle bs)).outcome ≡ accepted

  abbrev pub events_after : Volume → List Event → Volume
  events_after v [] = v
  events_after v (e ∷ es) = events_after (event_volume v e) es

  abbrev pub EventsAccept : Volume → List Event → Type 0
  EventsAccept v [] = Unit {0}
  EventsAccept v (e ∷ es) = EventAccepts v e × EventsAccept (event_volume v e) es

  abbrev pub events_ops : Volume → List Event → List Op
  events_ops v [] = []
  events_ops v (e ∷ es) = event_ops v e ++ events_ops (event_volume v e) es

  -- the same of a format
  abbrev pub format_result : Volume → Sizes → Format → Result
  format_result v sizes whole_format = format_whole v sizes
  format_result v sizes (cut_format b bs) = finish bs (format_for (suc b) v sizes).volume

  abbrev pub format_end : Volume → Sizes → Format → Volume
  format_end v sizes f = (format_result v sizes f).volume

  abbrev pub format_ops : Volume → Sizes → Format → List Op
  format_ops v sizes whole_format = (format_whole v sizes).ops
  format_ops v sizes (cut_format b bs) = (format_for (suc b) v sizes).ops ++ finish_ops bs (format_for (suc b) v sizes).volume
