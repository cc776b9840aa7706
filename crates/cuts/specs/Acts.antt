-- Calls, formats and restarts in any order, each with any budget, from a format on: a format over a pending call or over a cut format,
-- calls while one is pending, restarts that find nothing. The operations of all of them, as one list, keep the chip's program order, and a
-- restart with enough leaves what document 01's format and calls leave: the last format begun, and the calls begun since.
use Rattle.std.specs.Prelude.{cond, List, [], ◌∷◌, ◌++◌, ℕ, zero, suc, eqb}
use Rattle.layout.specs.Geometry.{geometry, Sizes}
use Rattle.layout.specs.Calls.{Volume, Call, Outcome, accepted, hit, miss, refused, format}
use Rattle.layout.specs.FiniteMap.{Map, empty_map}
use Rattle.history.specs.Reached.{map_after}
use Rattle.layout.specs.Header.{on_pages, kind_in}
use Rattle.cuts.specs.Events.{Numbers}

-- a call, a format or a restart, with its budget of steps
pub data Act : Type 0 where
  ask : ℕ → Call → Act
  shape : ℕ → Sizes → Act
  again : ℕ → Act

abbrev pub ActNumbers : Act → Type 0
ActNumbers (ask b c) = Numbers c
ActNumbers (shape b sizes) = Unit {0}
ActNumbers (again b) = Unit {0}

abbrev pub ActsNumbers : List Act → Type 0
ActsNumbers [] = Unit {0}
ActsNumbers (a ∷ rest) = ActNumbers a × ActsNumbers rest

-- ---- what acts come to, in document 01's words

-- the volume handed to the last format of which a step was done, header and all, the format's sizes, and the calls begun since
pub record UncutRun : Type 0 where
  pub handed : Volume
  pub sizes : Sizes
  pub calls : List Call

abbrev pub format_run : Volume → Sizes → UncutRun
format_run v sizes = record { handed = v; sizes = sizes; calls = [] }

abbrev pub call_run : UncutRun → Call → UncutRun
call_run t c = record { handed = t.handed; sizes = t.sizes; calls = t.calls ++ (c ∷ []) }

-- a format that is refused begins nothing
abbrev pub format_run_by : Outcome → UncutRun → Volume → Sizes → UncutRun
format_run_by accepted t v sizes = format_run v sizes
format_run_by (hit place bytes) t v sizes = t
format_run_by miss t v sizes = t
format_run_by (refused i) t v sizes = t

-- "a cut before the intent leaves what was there"; "10, a call other than format and restart while the kind is not 0"; a restart begins
-- nothing
abbrev pub step_run : UncutRun → Volume → Act → UncutRun
step_run t v (ask zero c) = t
step_run t v (ask (suc b) c) = cond (eqb (kind_in v.ram) 0) (call_run t c) t
step_run t v (shape zero sizes) = t
step_run t v (shape (suc b) sizes) = format_run_by (format (on_pages v) sizes).outcome t v sizes
step_run t v (again b) = t

-- the map that has made the calls
abbrev pub run_map : UncutRun → Map
run_map t = map_after (geometry t.sizes) empty_map t.calls
