-- What calls, formats and restarts in any order, each with any budget, are told from a format on: a call is told what the map says after
-- the calls begun, or 10 while another call is pending (1, 2 or 10 while a format is), a format what document 01's is told; no restart is
-- refused.
use Rattle.std.specs.Prelude.{◌≡◌, ◌⊎◌}
use Rattle.layout.specs.Geometry.{geometry}
use Rattle.layout.specs.Refusals as refusal
use Rattle.layout.specs.Calls.{Volume, Call, Result, refuse, too_short}
use Rattle.layout.specs.FiniteMap.{map_of}
use Rattle.layout.specs.Header.{Pending, nothing, changing, formatting, unknown}
use Rattle.history.specs.Runs.{reply_of, Possible}
use Rattle.cuts.specs.Acts.{UncutRun, run_map}

-- a call on the volume v, after the run t, and its result, by what is pending. With nothing pending it answers as the map that has made the
-- run's calls, never by 1, 2, 7, 8 or 10. While a format is pending, the state is the one that its caller had, good or not
abbrev pub CallAgrees : Pending → UncutRun → Volume → Call → Result → Type 0
CallAgrees nothing t v c r = (reply_of r.outcome ≡ (map_of (geometry t.sizes) (run_map t) c).says) × Possible r.outcome
CallAgrees (changing d) t v c r = r ≡ refuse v refusal.pending
CallAgrees (formatting sizes) t v c r = (r ≡ refuse v refusal.bad_state) ⊎ (r ≡ refuse v refusal.too_short) ⊎ (r ≡ refuse v refusal.pending)
CallAgrees unknown t v c r = ⊥
