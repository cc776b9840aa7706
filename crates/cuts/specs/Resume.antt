-- A list of operations that is cut, resumed, cut again and so on ends as the list itself, and all runs together keep the chip's program
-- order.
use Rattle.std.specs.Prelude.{◌≡◌, List, ◌++◌, ℕ}
use Rattle.layout.specs.Flash.{Op, Flash, apply_all}
use Rattle.history.specs.FlashLaws.{AllAllowed}
use Rattle.cuts.specs.Later.{later}
use Rattle.cuts.specs.CutLaws.{OnlyErases, Blanks, Apart}
use Rattle.cuts.specs.CutLaws.{Anchored}

-- the chip x is what a list leaves when it is cut on the chip c
pub record CutAt (u : ℕ) (ops : List Op) (c x : Flash) : Type 0 where
  pub done : List Op
  pub left : List Op
  pub whole : ops ≡ done ++ left
  pub is : x ≡ apply_all u done c

-- lists that can be resumed by the spare bytes
pub record Fit (u : ℕ) (ops : List Op) (c : Flash) : Type 0 where
  pub allowed : AllAllowed u ops c
  pub apart : Apart ops
  pub anchored : Anchored ops

-- what a restart finds: erases that were the last things done, once more, then what was left
pub record Resumes (u : ℕ) (ops left : List Op) (x : Flash) : Type 0 where
  pub again : List Op
  pub only : OnlyErases again
  pub blank : Blanks u again x
  pub is : later x.spare ops ≡ again ++ left
