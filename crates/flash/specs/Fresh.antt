-- Runs of fresh sectors.
use Rattle.std.specs.Prelude.{Bool, true, ◌&&◌, cond, List, ℕ, zero, suc, ◌+◌, ◌*◌, get_or}
use Rattle.layout.specs.Flash.{fresh}

-- are k sectors fresh, from s on in steps of d
unfoldable pub fresh_run : List ℕ → ℕ → ℕ → ℕ → Bool
fresh_run spare d s zero = true
fresh_run spare d s (suc k) = fresh (get_or spare s 0) && fresh_run spare d (s + d) k

-- one more than the place of the last that is not fresh, of k sectors from s on in steps of d; 0 if all are fresh
unfoldable pub last_programmed : List ℕ → ℕ → ℕ → ℕ → ℕ
last_programmed spare d s zero = 0
last_programmed spare d s (suc k) = cond (fresh (get_or spare (s + k * d) 0)) (last_programmed spare d s k) (suc k)
