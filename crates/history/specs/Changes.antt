-- What an accepted deletion and an accepted insertion leave: the parts of the longer history.
use Rattle.std.specs.Prelude.{◌≡◌, ◌⊎◌, true, ℕ, ◌+◌, ◌*◌, ◌≤◌, ◌<◌}
use mathlib.Core.List.{List}
use Rattle.std.proofs.Math.ListN.{get_or}
use Rattle.layout.specs.Geometry.{Geometry, spare_size}
use Rattle.layout.specs.Geometry.{deletion_index_block}
use Rattle.layout.specs.Flash.{Flash, Op, apply_all, all_fresh}
use Rattle.layout.specs.Hash.{Family}
use Rattle.layout.specs.Items.{DA}
use Rattle.layout.specs.Calls.{key_filters}
use Rattle.layout.specs.Calls.{deletion_filters}
use Rattle.history.specs.FlashLaws.{AllAllowed}
use Rattle.history.specs.Image.{History}
use Rattle.history.specs.Frames.{Beyond}
use Rattle.history.specs.Parts.{Parts}

-- sector x is neither of DA nor of the index over DA: an insertion programs no other, a deletion none of them
abbrev pub OffDeletions : Geometry → ℕ → Type 0
OffDeletions g x = (x < deletion_index_block g * 64) × ((x < (DA g).first * 64) ⊎ (((DA g).first + g.D) * 64 ≤ x))

-- what an insertion leaves behind: n records, d deletions
pub record Changed (h : Family) (g : Geometry) (H : History) (n d M : ℕ) (C : Flash) (ram : List ℕ) (ops : List Op)
    (ram' : List ℕ) : Type 0 where
  pub grown : Parts h g H n n d (key_filters g n) M (apply_all g.u ops C) ram'
  pub allowed : AllAllowed g.u ops C
  pub beyond : Beyond g C (apply_all g.u ops C) ram ram'
  -- by marks that agree with the chip's on its own blocks
  pub fresh : (spare : List ℕ) → ((x : ℕ) → OffDeletions g x → get_or spare x 0 ≡ get_or C.spare x 0) → all_fresh spare ops ≡ true

-- and a deletion
pub record Removed (h : Family) (g : Geometry) (H : History) (nr nk d N : ℕ) (C : Flash) (ram : List ℕ) (ops : List Op)
    (ram' : List ℕ) : Type 0 where
  pub grown : Parts h g H nr nk d N (deletion_filters g d) (apply_all g.u ops C) ram'
  pub allowed : AllAllowed g.u ops C
  pub beyond : Beyond g C (apply_all g.u ops C) ram ram'
  -- by the marks handed in, though erases stand among its operations
  pub fresh : (spare : List ℕ) → ((x : ℕ) → x < spare_size g → get_or spare x 0 ≡ get_or C.spare x 0) → all_fresh spare ops ≡ true
  -- and the marks of an insertion are as handed in after it
  pub outside : (x : ℕ) → OffDeletions g x → get_or (apply_all g.u ops C).spare x 0 ≡ get_or C.spare x 0
