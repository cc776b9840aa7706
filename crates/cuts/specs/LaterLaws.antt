-- What a restart finds is the end of the plan after its last programmed sector, on any chip; none of it is programmed yet.
use Rattle.std.specs.Prelude.{◌≡◌, ◌⊎◌, false, List, [], ◌∷◌, ◌++◌, ℕ}
use Rattle.layout.specs.Flash.{Planned}
use Rattle.layout.specs.Later.{fresh_plan, later_plan}

-- a plan that ends with a sector that is programmed
pub record LastProgrammed (spare : List ℕ) (ps : List Planned) : Type 0 where
  pub before : List Planned
  pub last : Planned
  pub is : ps ≡ before ++ (last ∷ [])
  pub programmed : fresh_plan spare (last ∷ []) ≡ false

-- "all up to the last programmed sector of the call's list count as done": what counts as done, and what is later
pub record DoneAndLater (spare : List ℕ) (ps : List Planned) : Type 0 where
  pub done : List Planned
  pub whole : ps ≡ done ++ later_plan spare ps
  pub last : (done ≡ []) ⊎ LastProgrammed spare done
