-- A filter's bits as an array, the filters of a page that a key or a number fills, and what is asked of an index in lent bytes.
use Rattle.std.specs.Prelude.{Bool, ◌||◌, List, ℕ, zero, suc, ◌+◌, ◌-◌, ◌*◌, ◌/◌, ◌%◌, ◌≤◌, length, get_or}
use Rattle.std.proofs.Common.{arith}
use Rattle.memory.specs.Bits.{bit}
use Rattle.memory.specs.Ranges.{any, memb}
use Rattle.memory.specs.Words.{word, bytes4}
use Rattle.layout.specs.Geometry.{page, block, entries_per_page, deletions_per_filter, full_sets}
use Rattle.layout.specs.Index.{Index, full_block}
use Rattle.layout.specs.Hash.{fnv_family, positions}
use Rattle.layout.specs.Items.{deletion_size}
use Rattle.layout.specs.Calls.{key_index}
use Rattle.laws.specs.Lengths.{Readable}
use Rattle.laws.specs.Units.{UnitSound}
use Rattle.geometry.specs.declared.volume.Geometry.{Geometry}
use Rattle.geometry.specs.Shape.{shape, unit_sound}
use Rattle.geometry.specs.Bounds.{index_le}

-- bit x of an array of bytes; bit 0 is the lowest bit of a byte
unfoldable pub array_bit : List ℕ → ℕ → Bool
array_bit a x = bit (get_or a (x / 8) 0) (x % 8)

-- is x one of the k positions of a key or a number with these bytes
abbrev pub key_bit : ℕ → ℕ → List ℕ → ℕ → Bool
key_bit u k bytes x = memb x (positions fnv_family k u bytes)

-- what is hashed of the item from byte `at` on, its first word: an entry's key or a deletion's number
abbrev pub item_bytes : List ℕ → ℕ → List ℕ
item_bytes ram at = bytes4 (word ram at)

-- bit x of the filter of S/2 items: of those from byte `at` on, `step` bytes apart, but the last, and of one with these bytes
abbrev pub with_key : ℕ → ℕ → ℕ → ℕ → List ℕ → List ℕ → ℕ → Bool
with_key u k at step bytes ram x = key_bit u k bytes x || any (λ i. key_bit u k (item_bytes ram (at + i * step)) x) (entries_per_page u - 1)

-- those of both halves of the page of deletions from byte `at` on, whose last number is not in RAM yet
abbrev pub half_bits : ℕ → ℕ → ℕ → ℕ → List ℕ → ℕ → ℕ → Bool
half_bits u k at number ram zero x = with_key u k at deletion_size (item_bytes ram (at + (deletions_per_filter u - 1) * deletion_size)) ram x
half_bits u k at number ram (suc f) x = with_key u k (at + deletions_per_filter u * deletion_size) deletion_size (bytes4 number) ram x

-- the unit is one of the six allowed; the index lies within the flash with Z full sets, its SKA page within the RAM
pub record IndexFits (u : ℕ) (ix : Index) (Z : ℕ) (main ram : List ℕ) : Type 0 where
  pub unit : UnitSound u
  pub near : ix.first ≤ 20000
  pub on_flash_lem : full_block u ix Z * block u ≤ length main
  pub in_ram_lem : ix.ska + page u ≤ length ram

-- the index over the entries, in lent bytes that hold the volume
pub index_fits : (g : Geometry) → (main ram : List ℕ) → Readable (shape g) main ram
    → IndexFits g.chip.unit (key_index (shape g)) (full_sets (shape g)) main ram
index_fits g main ram read = record {
  unit = unit_sound g;
  near = omega (arith, index_le g);
  on_flash_lem = omega (arith, read.main_fits);
  in_ram_lem = omega (arith, read.ram_fits);
}
