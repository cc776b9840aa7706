-- How many operations of a plan count as done: by its numbers alone. Document 02, request 8.
use mathlib.Core.List.{List}
use Prim.Native.Nat.{ℕ, zero, suc, ◌+◌}
use Rattle.layout.specs.Index.{flushes_per_round}
use Rattle.flash.specs.Fresh.{last_programmed}
use Rattle.plan.specs.declared.Summary.{Summary}
use Rattle.plan.specs.declared.Plan.{Plan}
use Rattle.plan.specs.Numbers.{SummaryNumbers, PlanNumbers, summary_numbers, plan_numbers}
use Rattle.plan.specs.Plans.{deletion_count_by}

-- of two parts, n operations in the first, of which a count as done, and b of the second: the second decides, unless none of it counts
abbrev pub done_of : ℕ → ℕ → ℕ → ℕ
done_of n a zero = a
done_of n a (suc b) = n + suc b

-- of an index: its erases never count
abbrev pub index_done_by : SummaryNumbers → List ℕ → ℕ
index_done_by s spare =
    done_of s.flush.count (last_programmed spare flushes_per_round s.flush.first s.flush.count)
    (last_programmed spare 1 s.set.first s.set.count)

-- of the deletion, of the record and its entry, of both
module _ (spare : List ℕ) (p : PlanNumbers) where
  abbrev pub deletion_done_by : ℕ
  deletion_done_by = done_of p.da.count (last_programmed spare 1 p.da.first p.da.count) (index_done_by p.da_index spare)

  abbrev pub record_done_by : ℕ
  record_done_by =
      done_of p.ra.count (last_programmed spare 1 p.ra.first p.ra.count)
      (done_of p.ka.count (last_programmed spare 1 p.ka.first p.ka.count) (index_done_by p.ka_index spare))

  abbrev pub plan_done_by : ℕ
  plan_done_by = done_of (deletion_count_by p) deletion_done_by record_done_by

-- those of the code's
abbrev pub index_done : Summary → List ℕ → ℕ
index_done s spare = index_done_by (summary_numbers s) spare

module _ (spare : List ℕ) (p : Plan) where
  abbrev pub deletion_done : ℕ
  deletion_done = deletion_done_by spare (plan_numbers p)

  abbrev pub record_done : ℕ
  record_done = record_done_by spare (plan_numbers p)

  unfoldable pub plan_done : ℕ
  plan_done = plan_done_by spare (plan_numbers p)
