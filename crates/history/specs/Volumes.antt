-- A volume that holds the image of a history: its search finds the history's live records, by bounds those of an earlier one.
use Rattle.std.specs.Prelude.{◌≡◌, List, ℕ, ◌+◌, ◌≤◌, ◌<◌}
use Rattle.std.proofs.Math.ListN.{get_or}
use Rattle.layout.specs.Keys.{KeyOk}
use Rattle.layout.specs.Geometry.{geometry, page, record_capacity}
use Rattle.layout.specs.Geometry.{deletion_capacity, work_ram, Sizes, unit_of, state_of}
use Rattle.layout.specs.Flash.{Flash}
use Rattle.layout.specs.Hash.{Family}
use Rattle.layout.specs.Calls.{Volume}
use Rattle.history.specs.Image.{History, records_in, deletions_in, filters_in, record_at}
use Rattle.history.specs.Image.{deletion_filters_in}
use Rattle.history.specs.Parts.{Parts}

-- ---- the image of a history, as an invariant

pub record Holds (h : Family) (sizes : Sizes) (H : History) (C : Flash) (ram : List ℕ) : Type 0 where
  pub parts : Parts h (geometry sizes) H (records_in H) (records_in H) (deletions_in H) (filters_in (geometry sizes) H)
      (deletion_filters_in (geometry sizes) H) C ram
  pub work : (i : ℕ) → i < page (unit_of sizes) → get_or ram (work_ram (unit_of sizes) + i) 0 ≡ 0
  pub n_cap : records_in H ≤ record_capacity (geometry sizes)
  pub d_cap : deletions_in H ≤ deletion_capacity (geometry sizes)
  pub d_le : deletions_in H ≤ records_in H
  -- keys are allowed, and a deletion names a record
  pub keys : (j : ℕ) → j < records_in H → KeyOk (record_at H j).key
  pub gone : (i : ℕ) → i < deletions_in H → get_or H.deleted i 0 < records_in H

-- the volume with the history's counts
abbrev pub volume_of : Sizes → History → Flash → List ℕ → Volume
volume_of sizes H C ram = record { state = state_of sizes (records_in H) (deletions_in H); flash = C; ram = ram }
