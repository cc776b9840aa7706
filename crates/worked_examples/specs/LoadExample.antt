-- Loads computed by the definitions, from a tab's text to its answer and to what lookups show. Document 02, requests 1 and 6.
use Rattle.std.specs.Prelude.{◌≡◌, refl, ℕ}
use Prim.Native.String.{String}
use Rattle.layout.specs.Geometry.{State, sizes_of, state_of}
use Rattle.layout.specs.Hash.{fnv_family}
use Rattle.layout.specs.Items.{record_bytes, record_of}
use Rattle.layout.specs.FiniteMap.{hits}
use Rattle.layout.specs.Calls.{Volume, Outcome, accepted, refused, lookup}
use Rattle.layout.specs.Budgets.{call_whole, format_whole}
use Rattle.history.specs.Runs.{reply_of}
use Rattle.layout.specs.Several.{Several, put_call}
use Rattle.text.specs.Text.{ascii}
use Rattle.tab.specs.Reader.{digits, decimal, word, bare, quoted, line_end, field, line, rows_in}
use Rattle.load.specs.Load.{load_rows_by, load_whole}
use Rattle.worked_examples.specs.Computing.{calls}
use Rattle.worked_examples.specs.Example.{unformatted}

-- a volume of 64 records
abbrev start : Volume
start = (format_whole (unformatted 0 21504 1344 448) (sizes_of 16 1 1 3)).volume

abbrev loaded : String → Several
loaded text = load_whole fnv_family start (ascii text)

pub record Answer : Type 0 where
  pub outcome : Outcome
  pub rows : ℕ
  pub state : State

abbrev answer : Several → Answer
answer s = record { outcome = s.outcome; rows = s.done; state = s.volume.state }

-- two inserts, and an update of the first level
pub three_rows : answer (loaded "level,moves,goal\n7,40,1\n\"8\",041,2\r\n7,42,3")
    ≡ record { outcome = accepted; rows = 3; state = state_of (sizes_of 16 1 1 3) 3 1 }
unfolding calls digits decimal word bare quoted line_end field line rows_in put_call load_rows_by load_whole
three_rows = refl

pub three_rows_show : reply_of (call_whole fnv_family (loaded "level,moves,goal\n7,40,1\n\"8\",041,2\r\n7,42,3").volume (lookup 7)).outcome
    ≡ hits (record_bytes (record_of 7 42 3 0))
unfolding calls digits decimal word bare quoted line_end field line rows_in put_call load_rows_by load_whole
three_rows_show = refl

-- the third line is no row: the two before it remain
pub malformed_row : answer (loaded "level,moves,goal\n7,40,1\n8,41,2\n7,42\n9,0,0\n")
    ≡ record { outcome = refused 9; rows = 2; state = state_of (sizes_of 16 1 1 3) 2 0 }
unfolding calls digits decimal word bare quoted line_end field line rows_in put_call load_rows_by load_whole
malformed_row = refl

-- request 6: no bytes, no row
pub no_bytes : answer (loaded "") ≡ record { outcome = accepted; rows = 0; state = state_of (sizes_of 16 1 1 3) 0 0 }
unfolding calls rows_in load_rows_by load_whole
no_bytes = refl

-- only a line end
pub line_end_lem : answer (loaded "\n") ≡ record { outcome = refused 9; rows = 0; state = state_of (sizes_of 16 1 1 3) 0 0 }
unfolding calls digits decimal word bare quoted line_end field line rows_in put_call load_rows_by load_whole
line_end_lem = refl

-- no header, no row
pub no_header : answer (loaded "7,40,1\n") ≡ record { outcome = refused 9; rows = 0; state = state_of (sizes_of 16 1 1 3) 0 0 }
unfolding calls digits decimal word bare quoted line_end field line rows_in put_call load_rows_by load_whole
no_header = refl
