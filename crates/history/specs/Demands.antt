-- Demands 2 and 3 of document 01, for every hash family and every list of calls after an accepted format.
-- Their words (runs, program order, agreement, history, image) are defined in Runs and Image; the calls and the map in `layout`.
use Rattle.std.specs.Prelude.{◌≡◌, Bool, List, ◌++◌, ℕ}
use Rattle.layout.specs.Geometry.{Sizes, unit_of, state_of}
use Rattle.layout.specs.Flash.{apply_all}
use Rattle.layout.specs.Hash.{Family}
use Rattle.layout.specs.Calls.{Volume, Call, accepted, format}
use Rattle.layout.specs.FiniteMap.{empty_map}
use Rattle.history.specs.Runs.{after, ops_of, ProgramOrder, EachAgrees}

-- a format of `v` and the calls after it
pub record Run (h : Family) (v : Volume) (sizes : Sizes) (calls : List Call) : Type 0 where
  -- "That a format to which neither 1 nor 2 applies is accepted is part of the claim"
  pub formatted_ok : (format v sizes).outcome ≡ accepted
  pub started : (format v sizes).volume.state ≡ state_of sizes 0 0
  -- each call answers as the map does, with the same state, n - d live levels, never by 1, 2, 7, 8 or 10
  pub agrees : EachAgrees h sizes (format v sizes).volume empty_map calls
  -- "Done in that order on the chip handed to the format, they give the cells and marks that the last call leaves"
  pub flash_is : apply_all (unit_of sizes) ((format v sizes).ops ++ ops_of h (format v sizes).volume calls) v.flash
      ≡ (after h (format v sizes).volume calls).flash
  -- whatever sectors were programmed before the format
  pub in_order : (P : ℕ → Bool) → ProgramOrder ((format v sizes).ops ++ ops_of h (format v sizes).volume calls) P
