-- Which refusals a load may give, whatever volume it is handed: neither 3 nor 4, since a row does what an update does.
use Rattle.std.specs.Prelude.{◌≡◌, true, ℕ}
use mathlib.Core.List.{List, [], ◌∷◌}
use Rattle.memory.specs.Ranges.{memb}
use Rattle.layout.specs.Refusals as refusal
use Rattle.layout.specs.Calls.{Outcome, accepted, hit, miss, refused}

-- "found after 1 and 2 and before the store sees that row"
abbrev pub load_refusals : List ℕ
load_refusals =
    refusal.bad_state ∷ refusal.too_short ∷ refusal.malformed ∷ refusal.corrupt_entry ∷ refusal.full ∷ refusal.deletions_full ∷ refusal.not_fresh ∷ []

-- with a header
abbrev pub load_whole_refusals : List ℕ
load_whole_refusals = refusal.pending ∷ load_refusals

-- not refused, or by one of these
abbrev pub OutcomeIn : List ℕ → Outcome → Type 0
OutcomeIn is accepted = Unit {0}
OutcomeIn is (hit place bytes) = Unit {0}
OutcomeIn is miss = Unit {0}
OutcomeIn is (refused i) = memb i is ≡ true

abbrev pub LoadOutcome : Outcome → Type 0
LoadOutcome o = OutcomeIn load_refusals o

abbrev pub LoadWholeOutcome : Outcome → Type 0
LoadWholeOutcome o = OutcomeIn load_whole_refusals o
