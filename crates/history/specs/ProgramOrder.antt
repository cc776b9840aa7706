-- From marks to the operations' own bookkeeping: what is allowed by the marks is in_order by the operations.
use Rattle.std.specs.Prelude.{◌≡◌, Bool, cond, List, [], ◌∷◌, ℕ, zero, suc, ◌<◌, get_or}
use Rattle.layout.specs.Flash.{Flash, Op, program, erase}
use Rattle.history.specs.Runs.{programmed}

-- every sector programmed is below N
abbrev pub Below : ℕ → List Op → Type 0
Below N [] = Unit {0}
Below N (program s bytes ∷ os) = (s < N) × Below N os
Below N (erase b ∷ os) = Below N os

-- the marks of the first N sectors say what the operations say
abbrev pub Says : ℕ → Flash → (ℕ → Bool) → Type 0
Says N c P = (x : ℕ) → x < N → get_or c.spare x 0 ≡ cond (P x) 0 255

-- erased blocks count as not programmed, whatever was before
abbrev pub erased : ℕ → ℕ → (ℕ → Bool) → ℕ → Bool
erased b zero P x = P x
erased b (suc k) P x = erased (suc b) k (programmed (erase b) P) x
