-- What a restart finds to do, by the spare bytes alone, and the pending call as it makes it. Document 02, request 8.
use Rattle.std.specs.Prelude.{Bool, true, ◌&&◌, cond, List, [], ◌∷◌, ℕ, get_or}
use Rattle.layout.specs.Geometry.{geometry}
use Rattle.layout.specs.Flash.{Planned, known, made, wipe, fresh}
use Rattle.layout.specs.Hash.{Family}
use Rattle.layout.specs.Calls.{Volume, Call, Result, judge_first, Commit, performed, answer_by}

-- are all sectors that a plan programs fresh, as refusal 7 asks it
unfoldable pub fresh_plan : List ℕ → List Planned → Bool
fresh_plan spare [] = true
fresh_plan spare (known s bytes ∷ ps) = fresh (get_or spare s 0) && fresh_plan spare ps
fresh_plan spare (made s bytes ∷ ps) = fresh (get_or spare s 0) && fresh_plan spare ps
fresh_plan spare (wipe b ∷ ps) = fresh_plan spare ps

-- "all up to the last programmed sector of the call's list count as done; of these a restart repeats none, and it does all the later ones,
-- erases perhaps again": the longest end of the list in which no sector to be programmed is programmed yet
unfoldable pub later_plan : List ℕ → List Planned → List Planned
later_plan spare [] = []
later_plan spare (p ∷ ps) = cond (fresh_plan spare (p ∷ ps)) (p ∷ ps) (later_plan spare ps)

-- how a restart ends a change: "it does all the later ones"
unfoldable pub commit_later : Commit
commit_later g v n d plan ram = performed g v n d (later_plan v.flash.spare plan) ram

-- "Restart refuses as the pending call would, 7 and 10 aside"
unfoldable pub call_again : Family → Volume → Call → Result
call_again h v c = judge_first v (answer_by commit_later h (geometry v.state.sizes) v c)
