use mathlib.Core.Path.{◌≡◌, refl}
use Prim.Native.Nat.{◌*◌, ◌-◌, ◌/◌, ◌<◌}
use Rattle.layout.specs.Geometry as layout
use Rattle.geometry.specs.Shape.{shape}
use Rattle.laws.specs.Units.{unit_times}
use Rattle.deletions.proofs.Volume.{open_in_flash, open_on_flash, open_on_ram}
use Rattle.geometry.specs.Shape.{unit_sound}
use Rattle.deletions.proofs.in_open.Goals as goal

-- The numbers past the last full page lie on flash or in RAM.

pub slot-count-requires : goal.slot-count-requires
slot-count-requires c =
    rw c.deletions_per_page-per_page.ensures (unit_times 4 c.args.t.g.chip.unit (unit_sound c.args.t.g))

pub in_full_pages-requires : goal.in_full_pages-requires
in_full_pages-requires c =
    rw c.deletions_per_page-per_page.ensures (unit_times 4 c.args.t.g.chip.unit (unit_sound c.args.t.g))

-- ---- on flash

pub has_word-requires : goal.has_word-requires
has_word-requires c =
    let t = c.args.t in
    let q = c.deletions_per_page-per_page in
    let start : c.block_address-start.result ≡ layout.da_block (shape t.g) * layout.block t.g.chip.unit
    = rw c.da_block.ensures at c.block_address-start.ensures in
    let filled : t.d0 - c.slot-count.result < t.d / q.result * q.result = rw c.in_full_pages.ensures at c.if-full-in_full_pages.true in
    open_in_flash c.requires q.result q.ensures c.slot-count.result (t.d0 - c.slot-count.result) c.slot-count.ensures.0 refl filled
    c.block_address-start.result start

pub returns-then-full-in_full_pages : goal.returns-then-full-in_full_pages
returns-then-full-in_full_pages c =
    let x = c.args in
    let t = x.t in
    let q = c.deletions_per_page-per_page in
    let start : c.block_address-start.result ≡ layout.da_block (shape t.g) * layout.block t.g.chip.unit
    = rw c.da_block.ensures at c.block_address-start.ensures in
    let filled : t.d0 - c.slot-count.result < t.d / q.result * q.result = rw c.in_full_pages.ensures at c.if-full-in_full_pages.true in
    open_on_flash c.requires q.result q.ensures c.slot-count.result (t.d0 - c.slot-count.result) c.slot-count.ensures.0 refl filled
    c.block_address-start.result start x.j c.has_word.result c.has_word.ensures

-- ---- in RAM

pub returns : goal.returns
returns c =
    let x = c.args in
    let q = c.deletions_per_page-per_page in
    open_on_ram c.requires q.result q.ensures c.slot-count.result (x.t.d0 - c.slot-count.result) c.slot-count.ensures.0 refl
    c.da_ram.result c.da_ram.ensures (rw c.in_full_pages.ensures at c.if-full-in_full_pages.false) x.j c.has_word-2.result
    c.has_word-2.ensures
