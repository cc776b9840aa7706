-- A walk over full pages, newest first, part by part: what its parts come to, and the positions by which pages are opened.
use Rattle.std.proofs.Math.Option.{Option, none, some}
use Rattle.std.specs.Prelude.{List, ℕ, ◌+◌, ◌≤◌, ◌<◌, get_or}
use Rattle.layout.specs.Geometry.{filter_bits}
use Rattle.layout.specs.Search.{Stop, Found, reply}

-- what is found in all by a search that ended so after k pages, if it ended nowhere with what the search of older pages finds
abbrev pub onward : Option Stop → ℕ → Found → Found
onward none k older = reply older.stop (k + older.opened)
onward (some r) k older = reply (some r) k

-- there are 1 to 8 positions, and they lie within a filter
pub record Low (u count : ℕ) (ps : List ℕ) : Type 0 where
  pub some : 1 ≤ count
  pub few : count ≤ 8
  pub within : (i : ℕ) → i < count → get_or ps i 0 < filter_bits u
