-- A volume's areas and its indexes, each with a count of its own: what a change passes through, step by step.
use Rattle.std.specs.Prelude.{List, ℕ}
use Rattle.layout.specs.Geometry.{Geometry, ka_blocks, full_sets}
use Rattle.layout.specs.Geometry.{deletion_sets}
use Rattle.layout.specs.Flash.{Flash}
use Rattle.layout.specs.Hash.{Family}
use Rattle.layout.specs.Items.{Ra, KA, DA}
use Rattle.layout.specs.Calls.{key_index, deletion_index}
use Rattle.history.specs.Image.{History, ra_item, ka_item, da_item, key_filter, deletion_filter, AreaIs, IndexIs}
use Rattle.laws.specs.Lengths.{Long}

module _ (h : Family) (g : Geometry) where
  -- nr records, nk entries, d deletions, N filters over KA and M over DA of the history
  pub record Parts (H : History) (nr nk d N M : ℕ) (C : Flash) (ram : List ℕ) : Type 0 where
    pub ra : AreaIs g.u (Ra g) g.R (ra_item H) nr C.main C.spare ram
    pub ka : AreaIs g.u (KA g) (ka_blocks g) (ka_item H) nk C.main C.spare ram
    pub da : AreaIs g.u (DA g) g.D (da_item H) d C.main C.spare ram
    pub filters : IndexIs g.u (key_index g) (full_sets g) (key_filter h g H) N C.main C.spare ram
    pub deletions : IndexIs g.u (deletion_index g) (deletion_sets g) (deletion_filter h g H) M C.main C.spare ram
    pub long : Long g C.main C.spare ram
