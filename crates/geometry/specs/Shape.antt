-- The code's sizes, geometry, areas and places as the layout's, and what makes a geometry sound.
use Rattle.std.specs.Prelude.{◌≤◌, ◌≡◌, refl, ℕ, Bool, true, false, ◌&&◌, cond, Option, Some, None}
use Rattle.std.proofs.Common.{arith, ap, sym, ◌∙◌}
use mathlib.Core.Bool.{false≢true, Bool-set}
use mathlib.Core.HLevel.{is_prop→PathP}
use Rattle.std.proofs.Props.{props}
use Rattle.memory.specs.Power.{PowerOfTwo, log2up}
use Rattle.memory.specs.Ranges.{memb}
use Rattle.layout.specs.Geometry as layout
use Rattle.layout.specs.Items as items
use Rattle.laws.specs.Units.{UnitIs, UnitSound}
use Rattle.laws.specs.Sound.{sound, unit}
use Rattle.geometry.specs.Powers.{unit_power}
use Rattle.geometry.specs.declared.Sizes.{Sizes}
use Rattle.geometry.specs.declared.chip.Chip.{Chip}
use Rattle.geometry.specs.declared.volume.Geometry.{Geometry}
use Rattle.geometry.specs.declared.table.SizeRow.{SizeRow}
use Rattle.geometry.specs.declared.area.Area.{Area}
use Rattle.geometry.specs.declared.areas.Place.{Place}
use Rattle.geometry.specs.declared.areas.Place.TheVariants.{Ram, Flash}
use Rattle.geometry.specs.Rows.{row_for}

abbrev pub sizes_is : Sizes → layout.Sizes
sizes_is s = layout.sizes_of s.sector_size s.ra_blocks s.da_blocks s.hash_count

abbrev pub shape : Geometry → layout.Geometry
shape g = record { u = g.chip.unit; R = g.ra; D = g.da; k = g.hashes }

-- the unit is a power of two up to 32, the row is the table's, areas of records and deletions have 1 to 4096 blocks, and k is 1 to 8
pub record Sound (g : Geometry) : Type 0 where
  pub unit : UnitSound g.chip.unit
  pub records : g.row.records ≡ layout.records_per_page g.chip.unit
  pub entries : g.row.entries ≡ layout.entries_per_page g.chip.unit
  pub bits : g.row.bits ≡ layout.filter_bits g.chip.unit
  pub ra_some : 1 ≤ g.ra
  pub ra_most : g.ra ≤ 4096
  pub da_some : 1 ≤ g.da
  pub da_most : g.da ≤ 4096
  pub k_some : 1 ≤ g.hashes
  pub k_most : g.hashes ≤ 8

pub unit_sound : (g : Geometry) → UnitSound g.chip.unit
unit_sound g = (log2up g.chip.unit, g.power)

-- every geometry is sound
pub sound_of : (g : Geometry) → Sound g
sound_of g =
    record {
      unit = unit_sound g;
      records = g.records;
      entries = g.entries;
      bits = g.bits;
      ra_some = g.ra_allowed.0;
      ra_most = g.ra_allowed.1;
      da_some = g.da_allowed.0;
      da_most = g.da_allowed.1;
      k_some = g.hashes_allowed.0;
      k_most = g.hashes_allowed.1;
    }

-- ---- values with the same fields are the same

pub unit_prop : (u e : ℕ) → IsProp (UnitIs u e)
unit_prop u e = Prim.hlevel props

pub small_prop : (u : ℕ) → IsProp (u ≤ 32)
small_prop u = Prim.hlevel props

abbrev pub chip_eq : (c d : Chip) → c.unit ≡ d.unit → c ≡ d
chip_eq c d p =
    λ i.
    record {
      unit = p i;
      small = is_prop→PathP (λ j. p j ≤ 32) (λ j. small_prop (p j)) c.small d.small i;
    }

-- what a geometry says besides its fields
abbrev facts : ℕ → SizeRow → ℕ → ℕ → ℕ → Type 0
facts u r a d k =
    UnitIs u (log2up u)
    × (r.records ≡ layout.records_per_page u)
    × (r.entries ≡ layout.entries_per_page u)
    × (r.bits ≡ layout.filter_bits u)
    × ((1 ≤ a) × (a ≤ 4096))
    × ((1 ≤ d) × (d ≤ 4096))
    × ((1 ≤ k) × (k ≤ 8))

facts_prop : (u : ℕ) (r : SizeRow) (a d k : ℕ) → IsProp (facts u r a d k)
facts_prop u r a d k = Prim.hlevel props

abbrev facts_of : (g : Geometry) → facts g.chip.unit g.row g.ra g.da g.hashes
facts_of g = (g.power, g.records, g.entries, g.bits, g.ra_allowed, g.da_allowed, g.hashes_allowed)

module _ (g h : Geometry) (u : g.chip.unit ≡ h.chip.unit) (r : g.row ≡ h.row) (a : g.ra ≡ h.ra) (d : g.da ≡ h.da) (k : g.hashes ≡ h.hashes) where
  pub geometry_eq : g ≡ h
  geometry_eq =
      λ i.
      let f = is_prop→PathP (λ j. facts (u j) (r j) (a j) (d j) (k j)) (λ j. facts_prop (u j) (r j) (a j) (d j) (k j)) (facts_of g) (facts_of h) i in
      record {
        chip = chip_eq g.chip h.chip u i;
        row = r i;
        ra = a i;
        da = d i;
        hashes = k i;
        power = f.0;
        records = f.1;
        entries = f.2;
        bits = f.3;
        ra_allowed = f.4;
        da_allowed = f.5;
        hashes_allowed = f.6;
      }

-- ---- from S, R, D and k

-- the geometry of sizes that are allowed
unfoldable pub known : (sizes : layout.Sizes) → layout.allowed sizes ≡ true → Geometry
known sizes e =
    let ok = sound sizes e in
    record {
      chip = record { unit = layout.unit_of sizes; small = (unit sizes ok).most };
      row = row_for sizes.sector_size;
      ra = sizes.ra_blocks;
      da = sizes.da_blocks;
      hashes = sizes.hash_count;
      power = unit_power (layout.unit_of sizes) (ok.e, unit sizes ok);
      records = omega (arith, ok.size);
      entries = omega (arith, ok.size);
      bits = omega (arith, ok.size);
      ra_allowed = (ok.R-pos, ok.R-le);
      da_allowed = (ok.D-pos, ok.D-le);
      hashes_allowed = (ok.k_pos, ok.k_le);
    }

-- the smallest volume: sectors of 16 bytes, a block of records and one of deletions, one hash function
abbrev pub smallest : layout.Sizes
smallest = layout.sizes_of 16 1 1 1

pub smallest_allowed : layout.allowed smallest ≡ true
unfolding layout.allowed memb
smallest_allowed = refl

-- by whether the sizes are allowed
abbrev pub geometry_by : (sizes : layout.Sizes) (t : Bool) → layout.allowed sizes ≡ t → Geometry
geometry_by sizes true e = known sizes e
geometry_by sizes false e = known smallest smallest_allowed

-- the geometry of sizes; of any that are not allowed, which no call goes by, that of the smallest volume
pub geometry_for : layout.Sizes → Geometry
geometry_for sizes = geometry_by sizes (layout.allowed sizes) refl

at_allowed : (sizes : layout.Sizes) (t : Bool) (q : layout.allowed sizes ≡ t) (e : layout.allowed sizes ≡ true) → geometry_by sizes t q ≡ known sizes e
at_allowed sizes true q e = ap (known sizes) (Bool-set _ _ q e)
at_allowed sizes false q e = absurd (false≢true (sym q ∙ e))

-- of allowed sizes it is theirs
pub geometry_is : (sizes : layout.Sizes) (e : layout.allowed sizes ≡ true) → geometry_for sizes ≡ known sizes e
unfolding geometry_for
geometry_is sizes e = at_allowed sizes (layout.allowed sizes) refl e

pub shape_is : (sizes : layout.Sizes) → layout.allowed sizes ≡ true → shape (geometry_for sizes) ≡ layout.geometry sizes
unfolding known
shape_is sizes e = ap shape (geometry_is sizes e)

-- are R, D and k allowed
abbrev pub rest_allowed : layout.Sizes → Bool
rest_allowed sizes =
    layout.blocks_allowed sizes.ra_blocks && (layout.blocks_allowed sizes.da_blocks && layout.hashes_allowed sizes.hash_count)

-- what is answered to sizes, of which a test says whether they are allowed
abbrev pub shaped_by : Bool → layout.Sizes → Option Geometry
shaped_by t sizes = cond t (Some (geometry_for sizes)) None

abbrev pub shaped_of : layout.Sizes → Option Geometry
shaped_of sizes = shaped_by (layout.allowed sizes) sizes

-- ---- areas and places

abbrev pub area : Area → items.Area
area a = record { size = a.size; per_page = a.per_page; first = a.first; ram = a.ram }

abbrev pub place : Place → items.Place
place (Ram at) = record { in_ram = true; at = at }
place (Flash at) = record { in_ram = false; at = at }

-- items of a page of an area are a power of two
pub per_page_power : (a : Area) → PowerOfTwo a.per_page
per_page_power a = (log2up a.per_page, a.power)
