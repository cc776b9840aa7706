-- Which refusals a call may give, whatever volume it is handed; an update of a key that is not live is an insert.
use Rattle.std.specs.Prelude.{◌≡◌, true, List, [], ◌∷◌, ℕ}
use Rattle.memory.specs.Ranges.{memb}
use Rattle.layout.specs.Refusals as refusal
use Rattle.layout.specs.Calls.{Call, insert, update, delete, lookup, Outcome, accepted, hit, miss, refused}
use Rattle.layout.specs.Calls.{bad_state, too_short}

-- in the order in which they are checked; "Refusal 4 remains for delete only"
abbrev pub refusals_of : Call → List ℕ
refusals_of (insert r) =
    refusal.bad_state ∷ refusal.too_short ∷ refusal.corrupt_entry ∷ refusal.present ∷ refusal.full ∷ refusal.not_fresh ∷ []
refusals_of (update r) =
    refusal.bad_state ∷ refusal.too_short ∷ refusal.corrupt_entry ∷ refusal.full ∷ refusal.deletions_full ∷ refusal.not_fresh ∷ []
refusals_of (delete key) =
    refusal.bad_state ∷ refusal.too_short ∷ refusal.corrupt_entry ∷ refusal.absent ∷ refusal.deletions_full ∷ refusal.not_fresh ∷ []
refusals_of (lookup key) = refusal.bad_state ∷ refusal.too_short ∷ refusal.corrupt_entry ∷ []

-- not refused, or by one of these
abbrev pub Among : List ℕ → Outcome → Type 0
Among is accepted = Unit {0}
Among is (hit place bytes) = Unit {0}
Among is miss = Unit {0}
Among is (refused i) = memb i is ≡ true
