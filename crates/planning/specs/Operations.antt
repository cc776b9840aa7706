-- The lists that the code's plans stand for are the layout's.
use Rattle.std.specs.Prelude.{◌≡◌, refl, Bool, true, false, cond, List, [], ◌++◌, ℕ, ◌+◌, ◌-◌, ◌≤◌, ◌<◌, eqb, length}
use Rattle.std.proofs.Common.{ap, ◌∙◌}
use Rattle.layout.specs.Keys.{Key}
use Rattle.layout.specs.Geometry.{sector, ram_size}
use Rattle.layout.specs.Flash.{Planned}
use Rattle.layout.specs.Hash.{Family}
use Rattle.layout.specs.Items.{KA, DA, fills, entry_bytes, deletion_bytes}
use Rattle.layout.specs.Index.{in_ska, filter_plan}
use Rattle.layout.specs.Calls.{new_filter, new_half, insertion_plan, deletion_plan}
use Rattle.geometry.specs.declared.index.Index.{Index}
use Rattle.geometry.specs.declared.volume.Geometry.{Geometry}
use Rattle.geometry.specs.Shape.{shape}
use Rattle.geometry.specs.Indexes.{index_of}
use Rattle.filter.specs.Fourths.{FourthsOf, with_fourths}
use Rattle.plan.specs.declared.Summary.{Summary}
use Rattle.plan.specs.Numbers.{SummaryNumbers, PlanNumbers}
use Rattle.plan.specs.Plans.{deletion_in, record_in, entry_in, deletion_fourths, entry_fourths}
use Rattle.plan.specs.Plans.{summary_of, summary_by, planned, planned_by}
use Rattle.planning.specs.Numbers.{summary_at, summary_numbers_are}
use Rattle.planning.specs.Numbers.{deletion_numbers, insertion_numbers, update_numbers}
use Rattle.planning.specs.Numbers.{deletion_numbers_are, insertion_numbers_are, update_numbers_are}
use Rattle.planning.specs.LayoutOperations as layout

-- what filter F, the last of the new ones, adds; `new` is the RAM with them
module _ (u piece : ℕ) (ix : Index) (F : ℕ) (fourths ram new : List ℕ) where
  summary_planned : (eqb (in_ska F + 1) 8 ≡ true → with_fourths u piece (ix.ska + (sector u - piece)) fourths ram ≡ new)
      → summary_of u (summary_at u piece ix F) fourths ram ≡ filter_plan u (index_of ix) F new
  summary_planned joined =
      ap (λ (s : SummaryNumbers). summary_by u s fourths ram) (summary_numbers_are u piece ix F)
      ∙ layout.summary_planned u piece (index_of ix) F fourths ram new joined

-- a page that is not full adds nothing
by_page : (u : ℕ) (b : Bool) (s none : Summary) (fourths ram : List ℕ) (plan : List Planned) → summary_of u none fourths ram ≡ []
    → (b ≡ true → summary_of u s fourths ram ≡ plan) → summary_of u (cond b s none) fourths ram ≡ cond b plan []
by_page u true s none fourths ram plan e f = f refl
by_page u false s none fourths ram plan e f = e

-- a deletion
module _ (h : Family) (c : Geometry) (d j : ℕ) (new filters ram : List ℕ) (pos : 0 < c.chip.unit) (long : ram_size (shape c) ≤ length ram)
    (number_is : deletion_in new ≡ deletion_bytes j)
    (filters_are : fills (DA (shape c)) d ≡ true
    → FourthsOf c.chip.unit 2 (λ i. new_half h (shape c) d j i ram) (deletion_fourths filters)) where
  pub deletion_planned : planned (deletion_numbers c d) new filters ram ≡ deletion_plan h (shape c) d j ram
  deletion_planned =
      ap (λ (p : PlanNumbers). planned_by p new filters ram) (deletion_numbers_are c d)
      ∙ layout.deletion_planned h (shape c) d j new filters ram pos long number_is filters_are

-- a record and its entry
module _ (h : Family) (c : Geometry) (n : ℕ) (key : Key) (bytes new filters ram : List ℕ) (size : length bytes ≡ 16)
    (record_is_lem : record_in new ≡ bytes) (entry_is : entry_in new ≡ entry_bytes key n)
    (filter_is : fills (KA (shape c)) n ≡ true
    → FourthsOf c.chip.unit 1 (λ i. new_filter h (shape c) n key ram) (entry_fourths filters)) where
  pub insertion_planned : planned (insertion_numbers c n) new filters ram ≡ insertion_plan h (shape c) n key bytes ram
  insertion_planned =
      ap (λ (p : PlanNumbers). planned_by p new filters ram) (insertion_numbers_are c n)
      ∙ layout.insertion_planned h (shape c) n key bytes new filters ram size record_is_lem entry_is filter_is

  -- "An update is a deletion followed by an insertion, in one call"
  pub update_planned : (d j : ℕ) → 0 < c.chip.unit → ram_size (shape c) ≤ length ram → deletion_in new ≡ deletion_bytes j
      → (fills (DA (shape c)) d ≡ true → FourthsOf c.chip.unit 2 (λ i. new_half h (shape c) d j i ram) (deletion_fourths filters))
      → planned (update_numbers c d n) new filters ram ≡ deletion_plan h (shape c) d j ram ++ insertion_plan h (shape c) n key bytes ram
  update_planned d j pos long number_is filters_are =
      ap (λ (p : PlanNumbers). planned_by p new filters ram) (update_numbers_are c d n)
      ∙ layout.update_planned h (shape c) n key bytes new filters ram size record_is_lem entry_is filter_is
      d j pos long number_is filters_are
