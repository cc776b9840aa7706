-- What a step of a change keeps, and what a step that adds an item or a filter does.
use Rattle.std.specs.Prelude.{◌≡◌, ◌⊎◌, Bool, true, List, ℕ, ◌+◌, ◌*◌, ◌≤◌, ◌<◌, length, get_or}
use Rattle.layout.specs.Geometry.{Geometry, page, block, blocks, main_size, spare_size, ram_size}
use Rattle.layout.specs.Flash.{Flash, Op, apply_all, all_fresh}
use Rattle.layout.specs.Items.{Area, item_ram}
use Rattle.layout.specs.Index.{Index, in_ska, full_block, with_filter, filter_ram}
use Rattle.history.specs.Operations.{item_ops, filter_ops}
use Rattle.history.specs.FlashLaws.{AllAllowed}
use Rattle.history.specs.Image.{AreaIs, IndexIs}

-- what lies past the volume, and the lengths, are kept
pub record Beyond (g : Geometry) (C C' : Flash) (r r' : List ℕ) : Type 0 where
  pub main : (x : ℕ) → main_size g ≤ x → get_or C'.main x 0 ≡ get_or C.main x 0
  pub spare : (x : ℕ) → spare_size g ≤ x → get_or C'.spare x 0 ≡ get_or C.spare x 0
  pub ram : (x : ℕ) → ram_size g ≤ x → get_or r' x 0 ≡ get_or r x 0
  pub main_length : length C'.main ≡ length C.main
  pub spare_length : length C'.spare ≡ length C.spare
  pub ram_length : length r' ≡ length r

-- what lies outside blocks lo to hi and outside the RAM page from byte p on is kept
pub record Frame (u lo hi p : ℕ) (C C' : Flash) (r r' : List ℕ) : Type 0 where
  pub main : (x : ℕ) → (x < lo * block u) ⊎ (hi * block u ≤ x) → get_or C'.main x 0 ≡ get_or C.main x 0
  pub spare : (x : ℕ) → (x < lo * 64) ⊎ (hi * 64 ≤ x) → get_or C'.spare x 0 ≡ get_or C.spare x 0
  pub ram : (x : ℕ) → (x < p) ⊎ (p + page u ≤ x) → get_or r' x 0 ≡ get_or r x 0
  pub main_length : length C'.main ≡ length C.main
  pub spare_length : length C'.spare ≡ length C.spare
  pub ram_length : length r' ≡ length r

-- what a step on blocks lo to hi and a RAM page does: its operations are allowed, fresh by any marks that agree on its blocks, and
-- keep the rest
pub record Did (u lo hi p : ℕ) (C : Flash) (r r' : List ℕ) (ops : List Op) : Type 0 where
  pub allowed : AllAllowed u ops C
  pub fresh : (spare : List ℕ) → ((x : ℕ) → lo * 64 ≤ x → x < hi * 64 → get_or spare x 0 ≡ get_or C.spare x 0)
      → all_fresh spare ops ≡ true
  pub frame : Frame u lo hi p C (apply_all u ops C) r r'

-- what an item put into an area of n items does, and the area with one item more
pub record AreaGrown (u : ℕ) (a : Area) (blocks : ℕ) (f : ℕ → ℕ → ℕ) (n : ℕ) (item : List ℕ) (C : Flash) (ram : List ℕ) : Type 0 where
  pub did : Did u a.first (a.first + blocks) a.ram C ram (item_ram u a n item ram) (item_ops u a n item ram)
  pub more : AreaIs u a blocks f (n + 1) (apply_all u (item_ops u a n item ram) C).main (apply_all u (item_ops u a n item ram) C).spare
      (item_ram u a n item ram)

-- the same of a filter `new` and an index of N filters
module _ (u : ℕ) (ix : Index) (Z : ℕ) (F : ℕ → ℕ → Bool) (N : ℕ) (new : ℕ → Bool) (C : Flash) (ram : List ℕ) where
  abbrev ram₁ : List ℕ
  ram₁ = with_filter u ix (in_ska N) new ram

  abbrev ops : List Op
  ops = filter_ops u ix C N ram₁

  pub record IndexGrown : Type 0 where
    pub did : Did u ix.first (full_block u ix Z) ix.ska C ram (filter_ram u ix N ram₁) ops
    pub more : IndexIs u ix Z F (N + 1) (apply_all u ops C).main (apply_all u ops C).spare (filter_ram u ix N ram₁)
