-- What is left of a run of blocks or marks at each turn of a loop, and the step from each to the next. Assumes nothing.
use mathlib.Core.Path.{◌≡◌, sym, ap, ◌∙◌}
use mathlib.Core.Bool.{Bool, true, false, not, ◌&&◌, and-true, and_assoc}
use mathlib.Core.List.{List}
use Prim.Native.Nat.{ℕ, zero, suc, ◌+◌, ◌-◌, ◌*◌, ◌/◌, ◌%◌, ◌^◌, ◌≤◌, ◌<◌}
use native.Mathlib.Omega.{arith}
use lib.Count.{ones, ones_in, ones_step}
use lib.ListN.{get_or}
use Rattle.layout.specs.Flash.{erase, Flash, apply, apply_all, erases, fresh}
use Rattle.flash.specs.Fresh.{fresh_run, last_programmed}

-- ---- erasing

module _ (u b : ℕ) where
  -- one of k blocks more is erased
  pub erase_more : (k i : ℕ) (c after : Flash) → i < k → after ≡ apply u (erase (b + i)) c
      → apply_all u (erases (b + i) (k - i)) c ≡ apply_all u (erases (b + (i + 1)) (k - (i + 1))) after
  erase_more k i c after h done =
      let e : k - i ≡ suc (k - (i + 1)) = omega arith in
      let f : b + (i + 1) ≡ suc (b + i) = omega arith in
      rw (e, f, done)

-- ---- freshness

-- the ones of a number below 2 ^ d are those of its d bits
pub ones_in_lem : (d n : ℕ) → n < 2 ^ d → ones n ≡ ones_in d n
unfolding ones ones_in
ones_in_lem zero n h = let z : n ≡ 0 = omega arith in rw z
ones_in_lem (suc d) n h = ones_step n ∙ ap (λ (x : ℕ). n % 2 + x) (ones_in_lem d (n / 2) (omega (arith, h)))

module _ (spare : List ℕ) (s d : ℕ) where
  -- when i marks are tested and `all` says whether they are fresh, the rest of k is left
  abbrev pub left_fresh : ℕ → Bool → ℕ → Bool
  left_fresh k all i = all && fresh_run spare d (s + i * d) (k - i)

  pub fresh_more : (k i : ℕ) (all is : Bool) → i < k → is ≡ fresh (get_or spare (s + i * d) 0)
      → left_fresh k all i ≡ left_fresh k (all && is) (i + 1)
  unfolding fresh_run
  fresh_more k i all is h tested =
      let e : k - i ≡ suc (k - (i + 1)) = omega arith in
      let f : s + (i + 1) * d ≡ s + i * d + d = omega arith in
      rw (e, f, tested) (sym (and_assoc all (fresh (get_or spare (s + i * d) 0)) (fresh_run spare d (s + i * d + d) (k - (i + 1)))))

  pub fresh_end : (k i : ℕ) (all : Bool) → k ≤ i → left_fresh k all i ≡ all
  unfolding fresh_run
  fresh_end k i all h =
      let e : k - i ≡ 0 = omega arith in
      rw e (and-true all)

  -- ---- the last programmed sector, from sector k down

  pub last_none : (k : ℕ) → k ≤ 0 → 0 ≡ last_programmed spare d s k
  unfolding last_programmed
  last_none k h = let e : k ≡ 0 = omega arith in rw e

  pub last_here : (k : ℕ) (is : Bool) → 0 < k → is ≡ fresh (get_or spare (s + (k - 1) * d) 0) → not is ≡ true → k ≡ last_programmed spare d s k
  unfolding last_programmed
  last_here zero is h tested t = absurd (omega arith)
  last_here (suc k) true h tested t = cc
  last_here (suc k) false h tested t = let e : suc k - 1 ≡ k = omega arith in rw (← (rw e at tested))

  pub last_below : (k : ℕ) (is : Bool) → 0 < k → is ≡ fresh (get_or spare (s + (k - 1) * d) 0) → not is ≡ false
      → last_programmed spare d s k ≡ last_programmed spare d s (k - 1)
  unfolding last_programmed
  last_below zero is h tested t = absurd (omega arith)
  last_below (suc k) true h tested t = let e : suc k - 1 ≡ k = omega arith in rw (e, ← (rw e at tested))
  last_below (suc k) false h tested t = cc
