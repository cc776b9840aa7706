-- The lent bytes are long enough for a volume: exactly if refusal 2 does not apply.
use Rattle.std.specs.Prelude.{◌≡◌, false, List, ℕ, ◌≤◌, length, ltb}
use borrow.Author.Tests.{le-ltb, ltb-false}
use Rattle.memory.specs.Booleans.{or_eq_false_iff}
use Rattle.layout.specs.Geometry.{Geometry, main_size, spare_size, ram_size}
use Rattle.layout.specs.Flash.{Flash}
use Rattle.layout.specs.Calls.{too_short}

-- main area and RAM, all that a search reads
pub record Readable (g : Geometry) (main ram : List ℕ) : Type 0 where
  pub main_fits : main_size g ≤ length main
  pub ram_fits : ram_size g ≤ length ram

-- and the spare area
pub record Long (g : Geometry) (main spare ram : List ℕ) : Type 0 where
  pub read : Readable g main ram
  pub spare_fits : spare_size g ≤ length spare

module _ (g : Geometry) (flash : Flash) (ram : List ℕ) where
  pub long_of : too_short g flash ram ≡ false → Long g flash.main flash.spare ram
  unfolding too_short
  long_of q =
      let a = (or_eq_false_iff (ltb (length flash.main) (main_size g)) _).0 q in
      let b = (or_eq_false_iff (ltb (length flash.spare) (spare_size g)) _).0 a.1 in
      record {
        read = record { main_fits = ltb-false _ _ a.0; ram_fits = ltb-false _ _ b.1 };
        spare_fits = ltb-false _ _ b.0;
      }

  pub not_short : Long g flash.main flash.spare ram → too_short g flash ram ≡ false
  unfolding too_short
  not_short l =
      rw (
        le-ltb (length flash.main) _ l.read.main_fits,
        le-ltb (length flash.spare) _ l.spare_fits,
        le-ltb (length ram) _ l.read.ram_fits,
      )
