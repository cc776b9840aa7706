-- The operations of the layout's plans have the shapes that a restart needs, those of an update, with erases in their middle, included.
use Rattle.std.specs.Prelude.{List}
use Prim.Native.Nat.{ℕ}
use Rattle.layout.specs.Flash.{Op}
use Rattle.cuts.specs.CutLaws.{Apart, Anchored}
use Rattle.cuts.specs.Kept.{Sized, ErasesIn}
use Rattle.cuts.specs.Shape.{Begins}

-- ---- what is asked of a list; its erases are of blocks from lo to hi

pub record Shaped (u lo hi : ℕ) (os : List Op) : Type 0 where
  pub apart : Apart os
  pub anchored : Anchored os
  pub begins : Begins os
  pub sized : Sized u os
  pub erasing : ErasesIn lo hi os
