-- What is later, of operations. Document 02, request 8.
use Rattle.std.specs.Prelude.{cond, List, [], ◌∷◌, ℕ}
use Rattle.layout.specs.Flash.{Op, all_fresh}

-- the longest end of a list in which no sector to be programmed is programmed yet: `later_plan` of operations
unfoldable pub later : List ℕ → List Op → List Op
later spare [] = []
later spare (o ∷ os) = cond (all_fresh spare (o ∷ os)) (o ∷ os) (later spare os)
