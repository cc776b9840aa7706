-- The operations of any change are few, and the spare area has their sectors.
use Rattle.std.specs.Prelude.{◌≡◌, List, ℕ, ◌+◌, ◌*◌, ◌^◌, ◌≤◌, ◌<◌, length, replicate}
use Rattle.std.proofs.Common.{sym, ap, ◌∙◌, le_refl, arith}
use Rattle.std.proofs.lemmas.List.{length-replicate}
use Rattle.layout.specs.Geometry.{main_size, spare_size, ram_size}
use Rattle.layout.specs.Flash.{Planned}
use Rattle.layout.specs.Hash.{fnv_family}
use Rattle.layout.specs.Calls.{Volume, change_plan}
use Rattle.geometry.specs.declared.volume.Geometry.{Geometry as CodeGeometry}
use Rattle.geometry.specs.Shape.{shape}
use Rattle.geometry.specs.Bounds.{blocks_le}
use Rattle.state.specs.Contract.{record_is}
use Rattle.plan.specs.declared.Plan.{Plan}
use Rattle.plan.specs.declared.Summary.{Summary}
use Rattle.plan.specs.Plans.{summary_count, planned_count, SummaryFits, PlanFits, SpareFits, spare_fits}
use Rattle.planning.specs.declared.Slots.{Slots}
use Rattle.planning.specs.Edits.{Room, numbers_of, edit_fits}
use Rattle.changes.specs.declared.Edit.{Edit}
use Rattle.changes.specs.Edits.{edit_is, old_number, new_record, slots_of}
use Rattle.changes.specs.Places.{plan_of_lem}
use Rattle.planning.specs.AnyRam.{edit_length}

-- each takes some of the spare area
summary_few : (u : ℕ) (s : Summary) (fourths main spare ram : ℕ) → SummaryFits u s fourths main spare ram
    → summary_count s ≤ 4 + 3 * spare
summary_few u s fourths main spare ram F =
    omega (arith, F.flush_count, F.build.set.in_spare, F.build.l1.in_spare, F.build.old.in_spare)

plan_few : (p : Plan) (main spare ram : ℕ) → PlanFits p main spare ram → planned_count p ≤ 20 + 6 * spare
plan_few p main spare ram F =
    let d = summary_few _ _ _ _ _ _ F.da_index in
    let k = summary_few _ _ _ _ _ _ F.ka_index in
    omega (arith, d, k, F.da_count, F.ra_count, F.ka_count)

module _ (g : CodeGeometry) where
  abbrev zeros : ℕ → List ℕ
  zeros n = replicate n 0

  enough : (n : ℕ) → n ≤ length (zeros n)
  enough n = rw (length-replicate {A = ℕ} n 0) (le_refl n)

  -- with a main area and RAM that are just long enough
  fits_spare : (spare : List ℕ) → spare_size (shape g) ≤ length spare → (e : Slots) → Room (shape g) e
      → PlanFits (numbers_of g e) (length (zeros (main_size (shape g)))) (length spare) (length (zeros (ram_size (shape g))))
  fits_spare spare long e R =
      edit_fits g (zeros (main_size (shape g))) spare (zeros (ram_size (shape g)))
      (record { read = record { main_fits = enough (main_size (shape g)); ram_fits = enough (ram_size (shape g)) }; spare_fits = long }) e R

  -- the spare area alone is long enough for the sectors that a change programs
  pub edit_spare_fits : (spare : List ℕ) → spare_size (shape g) ≤ length spare → (e : Slots) → Room (shape g) e
      → SpareFits (numbers_of g e) (length spare)
  edit_spare_fits spare long e R = spare_fits _ _ _ _ (fits_spare spare long e R)

  pub count_few : (e : Slots) → Room (shape g) e → planned_count (numbers_of g e) < 2 ^ 32
  count_few e R =
      let f = plan_few _ _ _ _ (fits_spare (zeros (spare_size (shape g))) (enough (spare_size (shape g))) e R) in
      omega (arith, f, length-replicate {A = ℕ} (spare_size (shape g)) 0, blocks_le g)

  pub few_changes : (v : Volume) (e : Edit) → ram_size (shape g) ≤ length v.ram
      → Room (shape g) (slots_of v.state.records v.state.deletions e)
      → length (change_plan fnv_family (shape g) v (edit_is e)) < 2 ^ 32
  few_changes v e long R =
      let s : Slots = slots_of v.state.records v.state.deletions e in
      let l : length (change_plan fnv_family (shape g) v (edit_is e)) ≡ planned_count (numbers_of g s)
      = ap (λ (ps : List Planned). length ps) (sym (plan_of_lem (shape g) v e))
      ∙ edit_length fnv_family g (old_number e) (record_is (new_record e)) v.ram long s in
      rw l (count_few s R)
