-- A RAM that was stored reads back: its pages, its state and its pending call.
use Rattle.std.specs.Prelude.{◌-◌, ◌^◌, ◌<◌}
use Rattle.layout.specs.Keys.{KeyOk}
use Rattle.layout.specs.Geometry.{State}
use Rattle.layout.specs.Calls.{Call, insert, update, delete, lookup}

-- every number of a header is a 32-bit number
pub record StateFits (s : State) : Type 0 where
  pub S-fits : s.sizes.sector_size < 2 ^ 32
  pub R-fits : s.sizes.ra_blocks < 2 ^ 32
  pub D-fits : s.sizes.da_blocks < 2 ^ 32
  pub K-fits : s.sizes.hash_count < 2 ^ 32
  pub n_fits : s.records < 2 ^ 32
  pub d_fits : s.deletions < 2 ^ 32

-- a changing call of an allowed key and 32-bit numbers
abbrev pub Words : Call → Type 0
Words (insert r) = KeyOk r.key × (r.moves < 2 ^ 32) × (r.goal < 2 ^ 32) × (r.free < 2 ^ 32)
Words (update r) = KeyOk r.key × (r.moves < 2 ^ 32) × (r.goal < 2 ^ 32) × (r.free < 2 ^ 32)
Words (delete key) = KeyOk key
Words (lookup key) = ⊥
