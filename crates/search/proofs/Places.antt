-- Places as options: how many there are up to one, itself among them, and the newest of some that pass.
use mathlib.Core.Path.{◌≡◌, refl}
use mathlib.Core.Bool.{Bool, true}
use Prim.Native.Nat.{ℕ, zero, suc, ◌-◌, ◌≤◌, ◌<◌}
use native.Mathlib.Omega.{arith}
use Rattle.std.specs.Prelude.{Option, Some, None}
use Rattle.memory.specs.Candidate.{candidate, candidate_le, candidate_opens}
use Rattle.items.specs.Scans.{place_of, place_some}
use Rattle.search.specs.declared.Hit.{Hit}
use Rattle.search.specs.Tries.{hit_of}

abbrev pub Place : Type 0
Place = Option ℕ

-- none up to none
abbrev pub past : Place → ℕ
past None = 0
past (Some k) = suc k

pub past_of : (n : ℕ) → past (place_of n) ≡ n
past_of zero = refl
past_of (suc n) = refl

module _ (f : ℕ → Bool) (n : ℕ) (e : Place) (is : e ≡ place_of (candidate f n)) where
  pub past_newest : past e ≡ candidate f n
  past_newest = rw is (past_of (candidate f n))

  pub newest_few : past e ≤ n
  newest_few = omega (arith, past_newest, candidate_le f n)

  pub newest_passes : (k : ℕ) → e ≡ Some k → f k ≡ true
  newest_passes k s =
      let z : candidate f n ≡ suc k = place_some (candidate f n) k (rw s at is) in
      let h : candidate f n - 1 ≡ k = omega arith in
      rw h at (candidate_opens f n (omega arith))

-- ---- the newest entry of the newest of some pages

module _ (place entry : ℕ → ℕ) where
  pub hit_some : (n : ℕ) (h : Hit) → Some h ≡ hit_of place entry n
      → (0 < n) × (h.page ≡ place (n - 1)) × (h.entry ≡ entry (n - 1) - 1)
  hit_some zero h e = cc
  hit_some (suc i) h e =
      let s : suc i - 1 ≡ i = omega arith in
      let z : h ≡ record { page = place i; entry = entry i - 1 } = cc in
      rw (s, z) (omega arith, refl, refl)

  pub hit_none : (n : ℕ) → None ≡ hit_of place entry n → n ≡ 0
  hit_none zero e = refl
  hit_none (suc i) e = cc
