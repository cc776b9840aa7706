-- The code's edit as the layout's: its parts, the places that it takes, and whether there is room for it.
use Rattle.std.specs.Prelude.{cond, ◌&&◌, Option, Some, None, Result, Ok, Err, ℕ, leb}
use Rattle.std.proofs.Math.Option.{none, some}
use Rattle.layout.specs.Geometry.{Geometry, record_capacity, deletion_capacity}
use Rattle.layout.specs.Calls as calls
use Rattle.state.specs.declared.Record.{Record}
use Rattle.state.specs.declared.State.{State}
use Rattle.state.specs.declared.Refusal.{Refusal}
use Rattle.state.specs.declared.Refusal.TheVariants.{Full, DeletionsFull}
use Rattle.state.specs.Contract.{record_is}
use Rattle.planning.specs.declared.Slots.{Slots}
use Rattle.planning.specs.declared.Slots.TheVariants as slots
use Rattle.changes.specs.declared.Edit.{Edit}
use Rattle.changes.specs.declared.Edit.TheVariants.{Insert, Delete, Replace}

abbrev pub edit_is : Edit → calls.Edit
edit_is (Insert r) = record { deletes = none; inserts = some (record_is r) }
edit_is (Delete j) = record { deletes = some j; inserts = none }
edit_is (Replace j r) = record { deletes = some j; inserts = some (record_is r) }

-- ---- its parts

-- the number of the record that it deletes, and the record that it inserts, as the code's options
abbrev pub deleted : Edit → Option ℕ
deleted (Insert r) = None
deleted (Delete j) = Some j
deleted (Replace j r) = Some j

abbrev pub inserted : Edit → Option Record
inserted (Insert r) = Some r
inserted (Delete j) = None
inserted (Replace j r) = Some r

-- the number of the record that it deletes; 0 where it deletes none
abbrev pub old_number : Edit → ℕ
old_number (Insert r) = 0
old_number (Delete j) = j
old_number (Replace j r) = j

-- the record that it inserts; one of zeros where it inserts none
abbrev pub new_record : Edit → Record
new_record (Insert r) = r
new_record (Delete j) = record { key = record { level = 0 }; moves = 0; goal = 0; free = 0 }
new_record (Replace j r) = r

-- the places that it takes after n records and d deletions
abbrev pub slots_of : ℕ → ℕ → Edit → Slots
slots_of n d (Insert r) = slots.Insert n
slots_of n d (Delete j) = slots.Delete d
slots_of n d (Replace j r) = slots.Update d n

-- the number of the record that takes a place; 0 where none does
abbrev pub record_number : Slots → ℕ
record_number (slots.Delete d) = 0
record_number (slots.Insert n) = n
record_number (slots.Update d n) = n

-- the state after it
abbrev pub counted_state : State → Edit → State
counted_state s e =
    record {
      sizes = s.sizes;
      records = calls.more s.records (edit_is e).inserts;
      deletions = calls.more s.deletions (edit_is e).deletes;
    }

-- ---- 5, then 6, of what it adds; accepted where there is room for it

abbrev pub room_refusal : Geometry → ℕ → ℕ → calls.Edit → Result Unit Refusal
room_refusal g n d e =
    cond (calls.one e.inserts && leb (record_capacity g) n) (Err Full)
    (cond (calls.one e.deletes && leb (deletion_capacity g) d) (Err DeletionsFull) (Ok tt))
