-- Calls, formats and restarts with any budget see spare bytes only as fresh or programmed, and only those of the volume: on another spare
-- area that decides alike there they are the same, whatever the bytes; a format, and a restart of one, on any other. So up to three wrong
-- bits in each mark change nothing (document 02, §3).
use Rattle.std.specs.Prelude.{ℕ}
use mathlib.Core.List.{List}
use Rattle.layout.specs.Geometry.{geometry, spare_size}
use Rattle.layout.specs.Header.{state_in, Pending, nothing, changing, formatting, unknown}

-- how many spare bytes a restart may read: a pending change those of its volume, for it programs; a pending format none, for it erases
abbrev pub spare_read : Pending → List ℕ → ℕ
spare_read nothing ram = 0
spare_read (changing c) ram = spare_size (geometry (state_in ram).sizes)
spare_read (formatting sizes) ram = 0
spare_read unknown ram = 0
