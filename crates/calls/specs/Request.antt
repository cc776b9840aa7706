-- The changing calls: what is decided by whether the key that they name is live.
use Rattle.std.specs.Prelude.{◌≡◌, false, ℕ, Option, Some, None, Result, Ok, Err}
use Rattle.layout.specs.Hash.{fnv_family}
use Rattle.layout.specs.Calls.{Volume, commit, change_by}
use Rattle.layout.specs.Header.{on_pages}
use Rattle.layout.specs.Budgets.{result_of}
use Rattle.geometry.specs.Shape.{shape}
use Rattle.state.specs.Contract.{call_of}
use Rattle.state.specs.Judge.{VolumeFits}
use Rattle.state.specs.declared.Cut.{Cut}
use Rattle.state.specs.declared.State.{State}
use Rattle.state.specs.declared.Refusal.{Refusal}
use Rattle.state.specs.declared.Refusal.TheVariants.{Present, Absent}
use Rattle.state.specs.declared.Request.{Request}
use Rattle.state.specs.declared.Request.TheVariants.{Insert, Update, Delete}
use Rattle.changes.specs.Edits.{edit_is}
use Rattle.changes.specs.declared.Edit.{Edit}
use Rattle.changes.specs.declared.Task.{Task}
use Rattle.changes.specs.declared.Edit.TheVariants as edits

-- 3 of an insert, 4 of a delete; the number is that of the key's live record
abbrev pub decision_of : Request → Option ℕ → Result Edit Refusal
decision_of (Insert r) None = Ok (edits.Insert r)
decision_of (Insert r) (Some j) = Err Present
decision_of (Update r) None = Ok (edits.Insert r)
decision_of (Update r) (Some j) = Ok (edits.Replace j r)
decision_of (Delete key) None = Err Absent
decision_of (Delete key) (Some j) = Ok (edits.Delete j)

-- the call is this change of the volume, whose geometry is the task's
abbrev pub Decided : Task → Request → Volume → Type 0
Decided t q v =
    VolumeFits (on_pages v) t.g
    × (result_of fnv_family v (call_of q) ≡ change_by commit fnv_family (shape t.g) (on_pages v) (edit_is t.edit))

-- what a call that is cut after so many steps leaves: the state that it was handed
abbrev pub cut_at : ℕ → State → Cut
cut_at steps handed = record { progress = record { steps = steps; finished = false }; state = handed }
