-- A load of a volume that calls reach answers as the finite map does, row by row. Document 02, request 1.
use Rattle.std.specs.Prelude.{◌≡◌, ◌⊎◌, ℕ, suc}
use Rattle.std.proofs.Math.Option
use Rattle.std.proofs.Math.Option.{Option, none, some}
use mathlib.Core.List.{List, [], ◌∷◌}
use Rattle.layout.specs.Geometry.{Geometry}
use Rattle.layout.specs.Refusals as refusal
use Rattle.layout.specs.Items.{Record}
use Rattle.layout.specs.Calls.{Call, insert, update}
use Rattle.layout.specs.FiniteMap.{Level, Map, find, Reply, accepts, hits, misses, refuses, Step, map_of}
use Rattle.tab.specs.Grammar.{Row}
use Rattle.tab.specs.Reader.{body, rows_of}
use Rattle.load.specs.Load.{row_key, row_record}

-- ---- a load over the finite map alone

-- "Each row is an insert, or an update if the level is live": if its key is in the map
abbrev pub call_if : Option Level → Record → Call
call_if none r = insert r
call_if (some l) r = update r

abbrev pub map_call : Map → Row → Call
map_call m r = call_if (find m.levels (row_key r)) (row_record r)

-- how a load ends, "the answer gives their number and the refusal", and the map then
pub record MapLoaded : Type 0 where
  pub says : Reply
  pub done : ℕ
  pub map : Map

abbrev pub map_ended : Reply → Map → MapLoaded
map_ended r m = record { says = r; done = 0; map = m }

abbrev pub map_more : MapLoaded → MapLoaded
map_more t = record { says = t.says; done = suc t.done; map = t.map }

abbrev pub map_on : Reply → Map → MapLoaded → MapLoaded
map_on accepts m rest = map_more rest
map_on (hits bytes) m rest = map_more rest
map_on misses m rest = map_more rest
map_on (refuses i) m rest = map_ended (refuses i) m

-- a row is its call
unfoldable pub map_row : Geometry → Map → Row → Step
map_row g m r = map_of g m (map_call m r)

-- "Loading ends at the first row that is malformed or refused by the store"
unfoldable pub map_load : Geometry → Map → List Row → Reply → MapLoaded
map_load g m [] end = map_ended end m
map_load g m (r ∷ rs) end = map_on (map_row g m r).says (map_row g m r).next (map_load g (map_row g m r).next rs end)

-- accepted at the end of the tab, else 9
abbrev pub end_says : List ℕ → Reply
end_says [] = accepts
end_says (c ∷ cs) = refuses refusal.malformed

abbrev pub map_lines : Geometry → Map → Option (List ℕ) → MapLoaded
map_lines g m none = map_ended (refuses refusal.malformed) m
map_lines g m (some lines) = map_load g m (rows_of lines).rows (end_says (rows_of lines).rest)

abbrev pub map_tab : Geometry → Map → List ℕ → MapLoaded
map_tab g m text = map_lines g m (body text)

-- ---- what it may answer

-- accepted, or refused by 5, 6 or 9
abbrev pub LoadReply : Reply → Type 0
LoadReply accepts = Unit {0}
LoadReply (hits bytes) = ⊥
LoadReply misses = ⊥
LoadReply (refuses i) = (i ≡ refusal.full) ⊎ (i ≡ refusal.deletions_full) ⊎ (i ≡ refusal.malformed)
