-- A history and a later one: histories only grow at their ends.
use Rattle.std.specs.Prelude.{◌≡◌, List, ◌++◌, ℕ, take}
use Rattle.layout.specs.Items.{Record}
use Rattle.history.specs.Image.{History}

pub record Before (H₀ H : History) : Type 0 where
  pub records_more : List Record
  pub records_are : H.records ≡ H₀.records ++ records_more
  pub deleted_more : List ℕ
  pub deleted_are : H.deleted ≡ H₀.deleted ++ deleted_more

-- ---- a history's first deletions, with all its records

abbrev pub first_deletions : History → ℕ → History
first_deletions H d₀ = record { records = H.records; deleted = take d₀ H.deleted }
