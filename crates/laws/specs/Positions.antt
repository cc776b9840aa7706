-- A key's positions in an array of eight, zeros after them.
use Rattle.std.specs.Prelude.{◌≡◌, refl, List, [], ◌∷◌, ◌++◌, ℕ, ◌-◌, ◌<◌, length, get_or, take, replicate}
use Rattle.std.proofs.Common.{sym, ap, ◌∙◌}
use Rattle.std.proofs.Math.ListN.{get_or-append}
use Rattle.memory.specs.Lists.{length_tabulate}
use Rattle.layout.specs.Hash.{Family, positions}

module _ (h : Family) (k u : ℕ) (bytes : List ℕ) where
  -- exactly k of them
  pub length_positions : length (positions h k u bytes) ≡ k
  unfolding positions
  length_positions = length_tabulate k _

  abbrev pub position_array : List ℕ
  position_array = positions h k u bytes ++ replicate (8 - k) 0

  take_front : (xs ys : List ℕ) → take (length xs) (xs ++ ys) ≡ xs
  take_front [] ys = refl
  take_front (x ∷ xs) ys = ap (λ (l : List ℕ). x ∷ l) (take_front xs ys)

  -- the first k
  pub take_positions : take k position_array ≡ positions h k u bytes
  take_positions =
      ap (λ (n : ℕ). take n position_array) (sym length_positions) ∙ take_front (positions h k u bytes) (replicate (8 - k) 0)

  -- one of them
  pub position_at : (i : ℕ) → i < k → get_or position_array i 0 ≡ get_or (positions h k u bytes) i 0
  position_at i l = get_or-append (positions h k u bytes) (replicate (8 - k) 0) 0 i (rw length_positions l)
