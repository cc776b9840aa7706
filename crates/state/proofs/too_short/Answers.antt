use borrow.Author.Tests.{lt-ltb, le-ltb}
use native.Mathlib.Omega.{arith}
use mathlib.Core.Path.{◌≡◌, refl, sym, ◌∙◌}
use mathlib.Core.Bool.{◌||◌, false≢true}
use mathlib.Core.List.{List}
use Prim.Native.Nat.{ℕ, ◌+◌, ◌<◌, ◌≤◌}
use lib.ListN.{length}
use lib.Dec.{ltb}
use Rattle.layout.specs.Geometry.{main_size, spare_size, ram_size}
use Rattle.layout.specs.Calls.{too_short}
use Rattle.layout.specs.Flash.{flash_of}
use Rattle.layout.specs.Header.{pages, header_size}
use Rattle.laws.specs.HeaderLaws.{longer_ram}
use Rattle.geometry.specs.Shape.{shape}
use Rattle.geometry.specs.declared.volume.Geometry.{Geometry}
use Rattle.state.proofs.too_short.Goals as goal
use Rattle.state.proofs.too_short.Goals.{then-main-main_size, else-main-main_size}

-- the three tests, of a geometry's sizes
module _ (g : Geometry) (main spare ram : List ℕ) where
  tests : too_short (shape g) (flash_of main spare) (pages ram)
      ≡ (ltb (length main) (main_size (shape g)) || (ltb (length spare) (spare_size (shape g)) || ltb (length ram) (ram_size (shape g) + header_size)))
  tests = longer_ram (shape g) (flash_of main spare) ram (omega (arith, g.power.most))

pub returns-then-spare-spare_size : goal.returns-then-spare-spare_size
returns-then-spare-spare_size c =
    let x = c.args in
    let t = c.if-spare-spare_size.true in
    let size = main_size (shape x.g) in
    rw (tests x.g x.main.now x.spare.now x.ram.now, t)
    (elim c.if-main-main_size.branch [
      | then-main-main_size w ↦ let a : length x.main.now < size = rw c.main_size.ensures at w.if-main-main_size.true in rw (lt-ltb _ _ a) refl
      | else-main-main_size w ↦
          let a : size ≤ length x.main.now = rw c.main_size.ensures at w.if-main-main_size.false in
          rw (le-ltb _ _ a, ← w.spare_size.ensures, ← w.value-is, t) refl
    ])

pub returns-else-spare-spare_size : goal.returns-else-spare-spare_size
returns-else-spare-spare_size c =
    let x = c.args in
    let f = c.if-spare-spare_size.false in
    let size = main_size (shape x.g) in
    rw (tests x.g x.main.now x.spare.now x.ram.now, c.ram_size.ensures)
    (elim c.if-main-main_size.branch [
      | then-main-main_size w ↦ absurd (false≢true (sym f ∙ w.value-is ∙ lt-ltb _ _ w.if-main-main_size.true))
      | else-main-main_size w ↦
          let a : size ≤ length x.main.now = rw c.main_size.ensures at w.if-main-main_size.false in
          rw (le-ltb _ _ a, ← w.spare_size.ensures, ← w.value-is, f) refl
    ])
