-- A load loads the rows of the grammar's reading of its tab.
use Rattle.std.specs.Prelude.{◌≡◌, false}
use Rattle.layout.specs.Geometry.{geometry}
use Rattle.layout.specs.Calls.{Volume, bad_state, too_short}
use Rattle.layout.specs.Header.{on_pages, kind_in}

-- neither 1 nor 2 applies
abbrev pub Judged : Volume → Type 0
Judged v = (bad_state v.state ≡ false) × (too_short (geometry v.state.sizes) v.flash v.ram ≡ false)

-- nor 10, on a volume with a header
abbrev pub Idle : Volume → Type 0
Idle v = Judged (on_pages v) × (kind_in v.ram ≡ 0)
