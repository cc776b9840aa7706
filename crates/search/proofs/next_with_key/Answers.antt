use native.Mathlib.Omega.{arith}
use mathlib.Core.Path.{◌≡◌}
use mathlib.Core.List.{List}
use Prim.Native.Nat.{ℕ, ◌<◌}
use Rattle.std.specs.Prelude.{Some}
use Rattle.memory.specs.Bits.{bit}
use Rattle.layout.specs.Keys.{Key}
use Rattle.geometry.specs.declared.volume.Geometry.{Geometry}
use Rattle.keys.specs.Key.{key_is}
use Rattle.search.specs.declared.Hit.{Hit}
use Rattle.search.specs.declared.Opened.{Opened}
use Rattle.search.specs.Tries.{entry_of, newest_in, HitAt}
use Rattle.search.proofs.Places.{hit_some}
use Rattle.search.proofs.Tries.{newest_le}
use Rattle.search.proofs.next_with_key.Goals as goal

-- The page's first byte by its number, which is below 64.

page_lt : (g : Geometry) (key : Key) (from bits : ℕ) (main : List ℕ) {r : Opened} → HitAt (λ i. i) g key from bits main r
    → {h : Hit} → r.hit ≡ Some h → h.page < 64
page_lt g key from bits main P {h} is =
    let e = hit_some (λ i. i) (entry_of g key from main) (newest_in g key from bits main) h (rw is at P.hit) in
    omega (arith, e.0, e.1, newest_le (bit bits) (entry_of g key from main) 64)

pub overflow_add-from : goal.overflow_add-from
overflow_add-from c =
    let x = c.args in
    omega (arith, c.requires.0, page_lt x.g (key_is x.key) x.from x.bits x.main.now c.next_page-p.ensures c.in-Some.is)

pub page_start-page-requires : goal.page_start-page-requires
page_start-page-requires c =
    let x = c.args in
    omega (arith, c.requires.0, page_lt x.g (key_is x.key) x.from x.bits x.main.now c.next_page-p.ensures c.in-Some.is)
