-- Demand 3 of the code: every chain of calls whose results satisfy the contracts, from an accepted format on, agrees with the map
-- at FNV-1a.
use Rattle.std.specs.Prelude.{◌≡◌, Bool, List, [], ◌∷◌, ◌++◌, ℕ}
use Rattle.layout.specs.Geometry.{geometry, Sizes, unit_of, state_of}
use Rattle.layout.specs.Flash.{apply_all}
use Rattle.layout.specs.Hash.{fnv_family}
use Rattle.layout.specs.Calls.{Volume, Call, accepted, format}
use Rattle.layout.specs.FiniteMap.{Map, empty_map, map_of}
use Rattle.layout.specs.Header.{on_pages}
use Rattle.layout.specs.Budgets.{call_whole, format_whole}
use Rattle.history.specs.Live.{empty_history}
use Rattle.history.specs.Runs.{ops_of, ProgramOrder, Agrees, history_of, ImageOf}
use Rattle.cuts.specs.Events.{Finished}
use Rattle.cuts.specs.Uncut.{whole_ops}
use Rattle.state.specs.Contract.{Effect, effect_of}

-- a chain of calls, each on what the one before it left: what each leaves is what its contract says. The contracts of insert, update and
-- delete are this equation; those of `lookup` and `find` give it by `lookup_effect_lem` and `find_effect_lem` (`lookup/specs/Effects.antt`)
abbrev pub Chain : Volume → List Call → List Effect → Type 0
Chain v [] [] = Unit {0}
Chain v [] (l ∷ ls) = ⊥
Chain v (c ∷ cs) [] = ⊥
Chain v (c ∷ cs) (l ∷ ls) = (l ≡ effect_of (call_whole fnv_family v c)) × Chain l.left cs ls

-- of each call of a list: what its caller sees agrees with the map's step. What a lookup or a refusal hands on has its header too
abbrev pub EffectsAgree : Sizes → Volume → Map → List Call → List Effect → Type 0
EffectsAgree sizes v m [] ls = Unit {0}
EffectsAgree sizes v m (c ∷ cs) [] = ⊥
EffectsAgree sizes v m (c ∷ cs) (l ∷ ls) =
    Agrees sizes v l.outcome l.count l.left (map_of (geometry sizes) m c)
    × EffectsAgree sizes l.left (map_of (geometry sizes) m c).next cs ls

abbrev pub AllFinished : List Effect → Type 0
AllFinished [] = Unit {0}
AllFinished (l ∷ ls) = Finished l.left × AllFinished ls

-- the volume that the last call left
abbrev pub last_volume : Volume → List Effect → Volume
last_volume v [] = v
last_volume v (l ∷ ls) = last_volume l.left ls

-- ---- from a format on

-- what demands 2 and 3 say of the code
pub record CodeRun (v : Volume) (sizes : Sizes) (first : Effect) (cs : List Call) (ls : List Effect) : Type 0 where
  pub formatted : first.outcome ≡ accepted
  pub started : first.left.state ≡ state_of sizes 0 0
  pub each : EffectsAgree sizes first.left empty_map cs ls
  -- every RAM that is left has a header of its state and no intent
  pub format_finished : Finished first.left
  pub each_finished : AllFinished ls
  -- the chip operations are document 01's, on the pages
  pub ops_are : (format_whole v sizes).ops ++ whole_ops fnv_family first.left cs
      ≡ (format (on_pages v) sizes).ops ++ ops_of fnv_family (on_pages first.left) cs
  -- done in order on the chip handed to the format, they give the flash that the last call leaves
  pub flash_is : apply_all (unit_of sizes) ((format_whole v sizes).ops ++ whole_ops fnv_family first.left cs) v.flash
      ≡ (last_volume first.left ls).flash
  -- and keep the chip's program order
  pub in_order : (P : ℕ → Bool) → ProgramOrder ((format_whole v sizes).ops ++ whole_ops fnv_family first.left cs) P
  pub image : ImageOf fnv_family (geometry sizes) (history_of fnv_family (on_pages first.left) empty_history cs) (on_pages v)
      (on_pages (last_volume first.left ls))
