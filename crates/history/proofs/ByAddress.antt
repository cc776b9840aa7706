-- Every byte of a volume by its address, out of what is known of each area and of both indexes.
use Rattle.std.specs.Prelude.{◌≡◌, Bool, true, false, cond, List, ℕ, ◌+◌, ◌-◌, ◌*◌, ◌/◌, ◌%◌, ◌<◌, ltb, eqb}
use Rattle.std.proofs.Common.{ap, ◌∙◌, mul-le-mul_right, eq-eqb, ne_eqb}
use native.Mathlib.Omega.{arith}
use Rattle.std.proofs.Math.ListN.{get_or}
use Rattle.memory.specs.Cases.{either, lt?, eq?}
use Rattle.memory.specs.Numbers.{euclid, div_lt}
use Rattle.layout.specs.Geometry.{Geometry, sectors_per_block, page, block, side_blocks, ka_blocks, ka_block, da_block, index_block, full_sets}
use Rattle.layout.specs.Geometry.{blocks, index_blocks, deletion_index_block, deletion_sets, main_size, spare_size, ram_size, ka_ram, da_ram}
use Rattle.layout.specs.Geometry.{ska_ram, work_ram, deletion_ska_ram}
use Rattle.layout.specs.Flash.{Flash}
use Rattle.layout.specs.Hash.{Family}
use Rattle.layout.specs.Items.{Ra, KA, DA}
use Rattle.layout.specs.Index.{Index, flushes_per_round, filters_per_round, in_l1, in_set, in_full, set_blocks, full_filters, side_block, full_block}
use Rattle.layout.specs.Calls.{key_index, deletion_index}
use Rattle.history.specs.Image.{History, records_in, deletions_in, filters_in, ra_item, ka_item, da_item, key_filter}
use Rattle.history.specs.Image.{area_byte, area_spare_byte, l1_byte, side_byte, full_byte, index_byte, index_spare_byte, main_image, spare_image}
use Rattle.history.specs.Image.{ram_image, deletion_filters_in, deletion_filter, IndexIs}
use Rattle.history.specs.Parts.{Parts}
use Rattle.laws.specs.Units.{UnitIs}

-- ---- one cascade of tests for main area and spare area: a block has w bytes in the one, w marks in the other

-- the blocks of an index, from its first on: L1, side A, side B, the places for full sets
module _ (u w : ℕ) (some : 0 < u * w) (ix : Index) (Z c : ℕ) (l : List ℕ) (L1 side : ℕ → ℕ) (full : ℕ → ℕ → ℕ)
    (on_l1 : (i : ℕ) → i < w → get_or l (ix.first * w + i) 0 ≡ L1 i)
    (here : (i : ℕ) → i < side_blocks u * w → get_or l (side_block u ix c * w + i) 0 ≡ side i)
    (there : (i : ℕ) → i < side_blocks u * w → get_or l (side_block u ix (c + 1) * w + i) 0 ≡ 255)
    (on_full : (k i : ℕ) → k < Z → i < side_blocks u * w → get_or l (full_block u ix k * w + i) 0 ≡ full k i) where
  -- side A has the set of c rounds if c is odd
  side_a : (i : ℕ) → i < side_blocks u * w → get_or l ((ix.first + 1) * w + i) 0 ≡ cond (eqb (c % 2) 1) (side i) 255
  side_a i h =
      either (eq? (c % 2) 1)
      (λ q. rw q.0 (rw q.0 at here i h))
      (λ q.
      let o : eqb ((c + 1) % 2) 1 ≡ true = eq-eqb ((c + 1) % 2) 1 (omega arith) in
      rw q.0 (rw o at there i h))

  -- and side B if c is even
  side_b : (i : ℕ) → i < side_blocks u * w → get_or l ((ix.first + 1 + side_blocks u) * w + i) 0 ≡ cond (eqb (c % 2) 1) 255 (side i)
  side_b i h =
      either (eq? (c % 2) 1)
      (λ q.
      let o : eqb ((c + 1) % 2) 1 ≡ false = ne_eqb ((c + 1) % 2) 1 (λ r. omega arith) in
      rw q.0 (rw o at there i h))
      (λ q. rw q.0 (rw q.0 at here i h))

  -- byte i of the places, of which i / (bytes of a place) is the one that holds it
  places : (i : ℕ) → i < Z * (side_blocks u * w)
      → get_or l ((ix.first + 1 + 2 * side_blocks u) * w + i) 0 ≡ full (i / (side_blocks u * w)) (i % (side_blocks u * w))
  places i h =
      let pos : 0 < 4 * u * w = omega arith in
      let E = euclid i (4 * u * w) pos in
      let s : (ix.first + 1 + 2 * (4 * u)) * w + i ≡ full_block u ix (i / (4 * u * w)) * w + i % (4 * u * w) = omega arith in
      rw s (on_full (i / (4 * u * w)) (i % (4 * u * w)) (div_lt i (4 * u * w) Z pos h) E.small)

  -- every byte of the index's blocks
  pub in_index : (i : ℕ) → i < (1 + 2 * side_blocks u + Z * side_blocks u) * w
      → get_or l (ix.first * w + i) 0
      ≡ cond (ltb i w) (L1 i)
      (cond (ltb i ((1 + side_blocks u) * w)) (cond (eqb (c % 2) 1) (side (i - w)) 255)
      (cond (ltb i ((1 + 2 * side_blocks u) * w)) (cond (eqb (c % 2) 1) 255 (side (i - (1 + side_blocks u) * w)))
      (full ((i - (1 + 2 * side_blocks u) * w) / (side_blocks u * w)) ((i - (1 + 2 * side_blocks u) * w) % (side_blocks u * w)))))
  in_index i h =
      either (lt? i w) (λ a. rw a.0 (on_l1 i a.1))
      (λ a. either (lt? i ((1 + side_blocks u) * w))
      (λ b.
      let s : ix.first * w + i ≡ (ix.first + 1) * w + (i - w) = omega arith in
      rw (a.0, b.0) (ap (λ (x : ℕ). get_or l x 0) s ∙ side_a (i - w) (omega arith)))
      (λ b. either (lt? i ((1 + 2 * side_blocks u) * w))
      (λ d.
      let s : ix.first * w + i ≡ (ix.first + 1 + 4 * u) * w + (i - (1 + 4 * u) * w) = omega arith in
      rw (a.0, b.0, d.0) (ap (λ (x : ℕ). get_or l x 0) s ∙ side_b (i - (1 + 4 * u) * w) (omega arith)))
      (λ d.
      let s : ix.first * w + i ≡ (ix.first + 1 + 2 * (4 * u)) * w + (i - (1 + 2 * (4 * u)) * w) = omega arith in
      rw (a.0, b.0, d.0) (ap (λ (x : ℕ). get_or l x 0) s ∙ places (i - (1 + 2 * (4 * u)) * w) (omega arith)))))

-- the blocks of a volume: Ra, KA, DA and both indexes
module _ (g : Geometry) (w : ℕ) (l : List ℕ) (ra ka da index deletions : ℕ → ℕ)
    (on_ra : (i : ℕ) → i < g.R * w → get_or l ((Ra g).first * w + i) 0 ≡ ra i)
    (on_ka : (i : ℕ) → i < ka_blocks g * w → get_or l ((KA g).first * w + i) 0 ≡ ka i)
    (on_da : (i : ℕ) → i < g.D * w → get_or l ((DA g).first * w + i) 0 ≡ da i)
    (on_index : (i : ℕ) → i < index_blocks g.u (full_sets g) * w → get_or l (index_block g * w + i) 0 ≡ index i)
    (on_deletions : (i : ℕ) → i < index_blocks g.u (deletion_sets g) * w → get_or l (deletion_index_block g * w + i) 0 ≡ deletions i) where
  -- every byte of the volume's blocks
  pub in_volume : (a : ℕ) → a < blocks g * w
      → get_or l a 0
      ≡ cond (ltb a (ka_block g * w)) (ra a)
      (cond (ltb a (da_block g * w)) (ka (a - ka_block g * w))
      (cond (ltb a (index_block g * w)) (da (a - da_block g * w))
      (cond (ltb a (deletion_index_block g * w)) (index (a - index_block g * w))
      (deletions (a - deletion_index_block g * w)))))
  in_volume a h =
      either (lt? a (ka_block g * w))
      (λ p.
      let s : a ≡ (Ra g).first * w + a = omega arith in
      rw p.0 (ap (λ (x : ℕ). get_or l x 0) s ∙ on_ra a (omega arith)))
      (λ p. either (lt? a (da_block g * w))
      (λ q.
      let s : a ≡ ka_block g * w + (a - ka_block g * w) = omega arith in
      rw (p.0, q.0) (ap (λ (x : ℕ). get_or l x 0) s ∙ on_ka (a - ka_block g * w) (omega arith)))
      (λ q. either (lt? a (index_block g * w))
      (λ r.
      let s : a ≡ da_block g * w + (a - da_block g * w) = omega arith in
      rw (p.0, q.0, r.0) (ap (λ (x : ℕ). get_or l x 0) s ∙ on_da (a - da_block g * w) (omega arith)))
      (λ r. either (lt? a (deletion_index_block g * w))
      (λ t.
      let s : a ≡ index_block g * w + (a - index_block g * w) = omega arith in
      rw (p.0, q.0, r.0, t.0) (ap (λ (x : ℕ). get_or l x 0) s ∙ on_index (a - index_block g * w) (omega arith)))
      (λ t.
      let s : a ≡ deletion_index_block g * w + (a - deletion_index_block g * w) = omega arith in
      rw (p.0, q.0, r.0, t.0)
      (ap (λ (x : ℕ). get_or l x 0) s ∙ on_deletions (a - deletion_index_block g * w) (omega arith))))))

-- ---- an index of N filters: its blocks in the main area, and their sectors in the spare area

module _ (u : ℕ) (pu : 0 < u) (ix : Index) (Z : ℕ) (F : ℕ → ℕ → Bool) (N : ℕ) (main spare ram : List ℕ)
    (I : IndexIs u ix Z F N main spare ram) where
  index_main : (i : ℕ) → i < index_blocks u Z * block u → get_or main (ix.first * block u + i) 0 ≡ index_byte u F N i
  index_main =
      in_index u (block u) (omega (arith, pu, mul-le-mul_right u pu)) ix Z (in_set u N) main
      (l1_byte u F (in_full u N * full_filters u + filters_per_round * in_set u N) (in_l1 N))
      (side_byte u F (in_full u N * full_filters u) (in_set u N)) (full_byte u F (in_full u N))
      I.on_main_lem.l1 I.on_main_lem.here I.on_main_lem.there I.on_main_lem.full

  index_spare : (x : ℕ) → x < index_blocks u Z * sectors_per_block → get_or spare (ix.first * sectors_per_block + x) 0 ≡ index_spare_byte u N x
  index_spare =
      in_index u sectors_per_block (omega (arith, pu)) ix Z (in_set u N) spare
      (λ x. cond (ltb (x % flushes_per_round) (in_l1 N)) 0 255)
      (λ x. cond (ltb x (set_blocks (in_set u N) * sectors_per_block)) 0 255)
      (λ k x. cond (ltb k (in_full u N)) 0 255)
      I.on_spare.l1 I.on_spare.here I.on_spare.there I.on_spare.full

-- ---- the volume of a history

module _ (h : Family) (g : Geometry) (e : ℕ) (unit : UnitIs g.u e) (H : History) (C : Flash) (ram : List ℕ)
    (P : Parts h g H (records_in H) (records_in H) (deletions_in H) (filters_in g H) (deletion_filters_in g H) C ram)
    (work : (i : ℕ) → i < page g.u → get_or ram (work_ram g.u + i) 0 ≡ 0) where
  abbrev N : ℕ
  N = filters_in g H

  abbrev M : ℕ
  M = deletion_filters_in g H

  pub main_by_address : (a : ℕ) → a < main_size g → get_or C.main a 0 ≡ main_image h g H a
  unfolding main_image
  main_by_address =
      in_volume g (block g.u) C.main (area_byte (Ra g) (ra_item H) (records_in H)) (area_byte (KA g) (ka_item H) (records_in H))
      (area_byte (DA g) (da_item H) (deletions_in H)) (index_byte g.u (key_filter h g H) N) (index_byte g.u (deletion_filter h g H) M)
      P.ra.on_main_lem P.ka.on_main_lem P.da.on_main_lem
      (index_main g.u unit.some (key_index g) (full_sets g) (key_filter h g H) N C.main C.spare ram P.filters)
      (index_main g.u unit.some (deletion_index g) (deletion_sets g) (deletion_filter h g H) M C.main C.spare ram P.deletions)

  pub spare_by_address : (x : ℕ) → x < spare_size g → get_or C.spare x 0 ≡ spare_image g H x
  unfolding spare_image
  spare_by_address =
      in_volume g sectors_per_block C.spare (area_spare_byte (Ra g) (records_in H)) (area_spare_byte (KA g) (records_in H))
      (area_spare_byte (DA g) (deletions_in H)) (index_spare_byte g.u N) (index_spare_byte g.u M)
      P.ra.on_spare P.ka.on_spare P.da.on_spare
      (index_spare g.u unit.some (key_index g) (full_sets g) (key_filter h g H) N C.main C.spare ram P.filters)
      (index_spare g.u unit.some (deletion_index g) (deletion_sets g) (deletion_filter h g H) M C.main C.spare ram P.deletions)

  -- the RAM's pages: Ra, KA, DA, SKA, work and SKA of the index over DA
  pub ram_by_address : (a : ℕ) → a < ram_size g → get_or ram a 0 ≡ ram_image h g H a
  unfolding ram_image
  ram_by_address a b =
      either (lt? a (ka_ram g.u))
      (λ p.
      let s : a ≡ 0 + a = omega arith in
      rw p.0 (ap (λ (x : ℕ). get_or ram x 0) s ∙ P.ra.on_ram_lem a p.1))
      (λ p. either (lt? a (da_ram g.u))
      (λ q.
      let s : a ≡ ka_ram g.u + (a - ka_ram g.u) = omega arith in
      rw (p.0, q.0) (ap (λ (x : ℕ). get_or ram x 0) s ∙ P.ka.on_ram_lem (a - ka_ram g.u) (omega arith)))
      (λ q. either (lt? a (ska_ram g.u))
      (λ r.
      let s : a ≡ da_ram g.u + (a - da_ram g.u) = omega arith in
      rw (p.0, q.0, r.0) (ap (λ (x : ℕ). get_or ram x 0) s ∙ P.da.on_ram_lem (a - da_ram g.u) (omega arith)))
      (λ r. either (lt? a (work_ram g.u))
      (λ t.
      let s : a ≡ ska_ram g.u + (a - ska_ram g.u) = omega arith in
      rw (p.0, q.0, r.0, t.0) (ap (λ (x : ℕ). get_or ram x 0) s ∙ P.filters.on_ram_lem (a - ska_ram g.u) (omega arith)))
      (λ t. either (lt? a (deletion_ska_ram g.u))
      (λ w.
      let s : a ≡ work_ram g.u + (a - work_ram g.u) = omega arith in
      rw (p.0, q.0, r.0, t.0, w.0) (ap (λ (x : ℕ). get_or ram x 0) s ∙ work (a - work_ram g.u) (omega arith)))
      (λ w.
      let s : a ≡ deletion_ska_ram g.u + (a - deletion_ska_ram g.u) = omega arith in
      rw (p.0, q.0, r.0, t.0, w.0)
      (ap (λ (x : ℕ). get_or ram x 0) s ∙ P.deletions.on_ram_lem (a - deletion_ska_ram g.u) (omega arith)))))))
