-- Calls in turn, ended by the first that is refused, and the call of a row of a tab. Document 02, request 1.
use Rattle.std.specs.Prelude.{Bool, true, false, cond, ℕ, suc}
use Rattle.std.proofs.Math.Option.{Option, none, some}
use Rattle.layout.specs.Geometry.{geometry}
use Rattle.layout.specs.Hash.{Family}
use Rattle.layout.specs.Items.{Record}
use Rattle.layout.specs.Search.{Stop, found, corrupt}
use Rattle.layout.specs.Calls.{Volume, Call, insert, update, Outcome, accepted, hit, miss, refused, search}

-- how they ended, the calls done before that, and the volume then
pub record Several : Type 0 where
  pub outcome : Outcome
  pub done : ℕ
  pub volume : Volume

abbrev pub ended : Outcome → Volume → Several
ended o v = record { outcome = o; done = 0; volume = v }

-- one call more was done before
abbrev pub one_more : Several → Several
one_more s = record { outcome = s.outcome; done = suc s.done; volume = s.volume }

abbrev pub go_on : Outcome → Volume → Several → Several
go_on accepted v rest = one_more rest
go_on (hit place bytes) v rest = one_more rest
go_on miss v rest = one_more rest
go_on (refused i) v rest = ended (refused i) v

-- does a search end at a live level
abbrev pub is_live : Option Stop → Bool
is_live none = false
is_live (some corrupt) = false
is_live (some (found j)) = true

-- "an insert, or an update if the level is live"; where the search meets 8, either is refused by it. Since request 4 an update does the
-- same for any level, but which of the two a row is stays told
unfoldable pub put_call : Family → Volume → Record → Call
put_call h v r = cond (is_live (search h (geometry v.state.sizes) v r.key).stop) (update r) (insert r)
