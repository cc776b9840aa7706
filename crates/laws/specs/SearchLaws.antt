-- A search opens no more pages than there are, and items looked at before them open none.
use Rattle.std.specs.Prelude.{Bool, ℕ, zero, suc, ◌*◌, ◌≤◌}
use Rattle.std.proofs.Math.Option.{Option, none, some}
use Rattle.std.proofs.Math.Nat.{le_step}
use Rattle.std.proofs.Common.{arith}
use Rattle.memory.specs.Cases.{bool?, either}
use Rattle.layout.specs.Search.{Stop, Found, scan, opening, search_pages, ram_first}

pub opened_le : (gate : ℕ → Bool) (try : ℕ → Option Stop) (q N : ℕ) → (search_pages gate try q N).opened ≤ N
unfolding search_pages
opened_le gate try q zero = omega arith
opened_le gate try q (suc p) =
    either (bool? (gate p))
    (λ c. rw c (more (scan try (p * q) q) (search_pages gate try q p) (opened_le gate try q p)))
    (λ c. rw c (le_step (opened_le gate try q p)))
  where
    more : (s : Option Stop) (rest : Found) → rest.opened ≤ p → (opening s rest).opened ≤ suc p
    more none rest h = omega arith
    more (some r) rest h = omega arith

pub ram_first_most : (s : Option Stop) (f : Found) → (ram_first s f).opened ≤ f.opened
ram_first_most none f = omega arith
ram_first_most (some r) f = omega arith
