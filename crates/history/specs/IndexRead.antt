-- Every filter bit of an index is read where the image says that it lies, and only the filters that are there decide the image.
use Rattle.std.specs.Prelude.{◌≡◌, Bool, List, ℕ, ◌+◌, ◌*◌, ◌<◌, get_or}
use Rattle.layout.specs.Geometry.{page}
use Rattle.layout.specs.Index.{Index, full_filters}
use Rattle.history.specs.Image.{ska_byte}

-- the SKA page holds s filters after `flushes` flushes
abbrev pub SkaIs : ℕ → Index → (ℕ → ℕ → Bool) → ℕ → ℕ → List ℕ → Type 0
SkaIs u ix F flushes s ram = (i : ℕ) → i < page u → get_or ram (ix.ska + i) 0 ≡ ska_byte u F flushes s i

-- filters on flash with z full sets, c rounds in the current one, t flushes in L1
abbrev pub on_flash : ℕ → ℕ → ℕ → ℕ → ℕ
on_flash u z c t = z * full_filters u + 128 * c + 8 * t
