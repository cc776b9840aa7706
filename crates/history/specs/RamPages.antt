-- RAMs that agree on a page: they plan the same out of it. An item and a filter leave the other pages as they are.
use Rattle.std.specs.Prelude.{◌≡◌, ℕ, ◌+◌, ◌≤◌, ◌<◌, length}
use mathlib.Core.List.{List}
use Rattle.std.proofs.Math.ListN.{get_or}
use Rattle.layout.specs.Geometry.{page}

-- two RAMs of one length that agree on the page from byte `at` on
pub record SamePage (u at : ℕ) (r r' : List ℕ) : Type 0 where
  pub bytes : (x : ℕ) → at ≤ x → x < at + page u → get_or r x 0 ≡ get_or r' x 0
  pub long : length r ≡ length r'
