use mathlib.Core.Path.{◌≡◌}
use Prim.Native.Nat.{◌-◌, ◌≤◌}
use lib.ListN.{length, drop}
use Rattle.layout.specs.Hash.{fnv_family}
use Rattle.state.specs.Contract.{volume}
use Rattle.tab.specs.Reader.{rows_of}
use Rattle.load.specs.Load.{load_read_by, row_whole}
use Rattle.load.specs.Contract.{Judged}
use Rattle.load.proofs.Steps.{more_done}
use Rattle.load.proofs.load_rows.Given as goal

abbrev pub invariant-loop-place : goal.invariant-loop-place
invariant-loop-place l =
    (length l.main ≡ length l.initial.main) × (length l.spare ≡ length l.initial.spare) × (length l.ram ≡ length l.initial.ram) × (l.rows ≤ l.state.records)
    × (load_read_by (row_whole fnv_family) (volume l.initial.state l.initial.main l.initial.spare l.initial.ram) (rows_of (drop l.initial.place l.tab))
    ≡ more_done l.rows (load_read_by (row_whole fnv_family) (volume l.state l.main l.spare l.ram) (rows_of (drop l.place l.tab))))
    × Judged l.g (volume l.state l.main l.spare l.ram)

abbrev pub decreases-loop-place : goal.decreases-loop-place
decreases-loop-place l = length l.tab - l.place
