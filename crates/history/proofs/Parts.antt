-- A volume's areas and its indexes, each with a count of its own: what a change passes through, step by step.
use Rattle.std.specs.Prelude.{◌≡◌, ◌⊎◌, Bool, List, ℕ, ◌+◌, ◌*◌, ◌/◌, ◌≤◌, ◌<◌, length, get_or}
use Rattle.std.proofs.Common.{inl, inr, mul-le-mul_right, arith}
use Rattle.memory.specs.Cases.{either}
use Rattle.memory.specs.Numbers.{div_lt}
use Rattle.layout.specs.Geometry.{Geometry, page, block, filter_bits, ka_blocks, blocks, index_block, full_sets, record_capacity}
use Rattle.layout.specs.Geometry.{deletion_capacity, deletion_index_block, deletion_sets}
use Rattle.layout.specs.Flash.{Flash, Op, apply_all}
use Rattle.layout.specs.Hash.{Family}
use Rattle.layout.specs.Items.{Area, Ra, KA, DA, item_ram}
use Rattle.layout.specs.Index.{Index, in_ska, in_full, full_block, with_filter, filter_ram}
use Rattle.layout.specs.Calls.{key_index, deletion_index}
use Rattle.history.specs.Operations.{item_ops, filter_ops}
use Rattle.history.specs.Image.{History, ra_item, ka_item, da_item, key_filter, deletion_filter, AreaIs, IndexIs}
use Rattle.history.specs.Frames.{Frame, Did, AreaGrown, IndexGrown}
use Rattle.history.proofs.AreaLaws as area
use Rattle.history.proofs.IndexLaws as index
use Rattle.laws.specs.Lengths.{Long}
use Rattle.laws.specs.Units.{UnitIs}
use Rattle.history.specs.Parts.{Parts}

module _ (u lo hi p : ℕ) (C C' : Flash) (r r' : List ℕ) (W : Frame u lo hi p C C' r r') where
  -- blocks below lo, or from hi on
  main_apart : (a b x : ℕ) → (b ≤ lo) ⊎ (hi ≤ a) → a * block u ≤ x → x < b * block u → (x < lo * block u) ⊎ (hi * block u ≤ x)
  main_apart a b x o l m =
      either o (λ q. inl (omega (arith, mul-le-mul_right (1024 * u) q))) (λ q. inr (omega (arith, mul-le-mul_right (1024 * u) q)))

  spare_apart : (a b x : ℕ) → (b ≤ lo) ⊎ (hi ≤ a) → a * 64 ≤ x → x < b * 64 → (x < lo * 64) ⊎ (hi * 64 ≤ x)
  spare_apart a b x o l m = either o (λ q. inl (omega arith)) (λ q. inr (omega arith))

  ram_apart : (a x : ℕ) → (a + page u ≤ p) ⊎ (p + page u ≤ a) → a ≤ x → x < a + page u → (x < p) ⊎ (p + page u ≤ x)
  ram_apart a x o l m = either o (λ q. inl (omega arith)) (λ q. inr (omega arith))

  pub frame_area : (a : Area) (blocks : ℕ) (f : ℕ → ℕ → ℕ) (n : ℕ) → 0 < u → a.per_page * a.size ≡ page u → 0 < a.per_page → 0 < a.size
      → (a.first + blocks ≤ lo) ⊎ (hi ≤ a.first) → (a.ram + page u ≤ p) ⊎ (p + page u ≤ a.ram)
      → AreaIs u a blocks f n C.main C.spare r → AreaIs u a blocks f n C'.main C'.spare r'
  frame_area a blocks f n pu whole pq ps o q A =
      area.area_kept u pu a blocks whole pq ps f n C.main C.spare r C'.main C'.spare r' A
      (λ x l m. W.main x (main_apart a.first (a.first + blocks) x o l m))
      (λ x l m. W.spare x (spare_apart a.first (a.first + blocks) x o l m))
      (λ x l m. W.ram x (ram_apart a.ram x q l m))

  pub frame_index : (e : ℕ) (unit : UnitIs u e) (ix : Index) (Z : ℕ) (F : ℕ → ℕ → Bool) (N : ℕ)
      → (full_block u ix Z ≤ lo) ⊎ (hi ≤ ix.first) → (ix.ska + page u ≤ p) ⊎ (p + page u ≤ ix.ska)
      → IndexIs u ix Z F N C.main C.spare r → IndexIs u ix Z F N C'.main C'.spare r'
  frame_index e unit ix Z F N o q I =
      index.index_kept u e unit ix Z F N C.main C.spare r C'.main C'.spare r' I
      (λ x l m. W.main x (main_apart ix.first (full_block u ix Z) x o l m))
      (λ x l m. W.spare x (spare_apart ix.first (full_block u ix Z) x o l m))
      (λ x l m. W.ram x (ram_apart ix.ska x q l m))

-- bytes of the same lengths are long enough too
pub long_kept : (g : Geometry) (C C' : Flash) (r r' : List ℕ)
    → length C'.main ≡ length C.main → length C'.spare ≡ length C.spare → length r' ≡ length r
    → Long g C.main C.spare r → Long g C'.main C'.spare r'
long_kept g C C' r r' main spare ram L = record {
  read = record { main_fits = rw main L.read.main_fits; ram_fits = rw ram L.read.ram_fits };
  spare_fits = rw spare L.spare_fits;
}

module _ (h : Family) (g : Geometry) (e : ℕ) (unit : UnitIs g.u e) where
  abbrev pu : 0 < g.u
  pu = unit.some

  -- ---- one more item, or filter, of the history: the part that grows, and the others that are kept

  module _ (H : History) (nr nk d N M : ℕ) (C : Flash) (ram : List ℕ) (P : Parts h g H nr nk d N M C ram) where
    -- the parts that a step on other blocks keeps
    module _ (lo hi p : ℕ) (r' : List ℕ) (ops : List Op) (W : Did g.u lo hi p C ram r' ops) where
      abbrev C' : Flash
      C' = apply_all g.u ops C

      keep_ra : ((Ra g).first + g.R ≤ lo) ⊎ (hi ≤ (Ra g).first) → ((Ra g).ram + page g.u ≤ p) ⊎ (p + page g.u ≤ (Ra g).ram)
          → AreaIs g.u (Ra g) g.R (ra_item H) nr C'.main C'.spare r'
      keep_ra o q =
          frame_area g.u lo hi p C C' ram r' W.frame (Ra g) g.R (ra_item H) nr pu (omega arith) (omega (arith, pu))
          (omega arith) o q P.ra

      keep_ka : ((KA g).first + ka_blocks g ≤ lo) ⊎ (hi ≤ (KA g).first) → ((KA g).ram + page g.u ≤ p) ⊎ (p + page g.u ≤ (KA g).ram)
          → AreaIs g.u (KA g) (ka_blocks g) (ka_item H) nk C'.main C'.spare r'
      keep_ka o q =
          frame_area g.u lo hi p C C' ram r' W.frame (KA g) (ka_blocks g) (ka_item H) nk pu (omega arith) (omega (arith, pu))
          (omega arith) o q P.ka

      keep_da : ((DA g).first + g.D ≤ lo) ⊎ (hi ≤ (DA g).first) → ((DA g).ram + page g.u ≤ p) ⊎ (p + page g.u ≤ (DA g).ram)
          → AreaIs g.u (DA g) g.D (da_item H) d C'.main C'.spare r'
      keep_da o q =
          frame_area g.u lo hi p C C' ram r' W.frame (DA g) g.D (da_item H) d pu (omega arith) (omega (arith, pu)) (omega arith) o q
          P.da

      keep_filters : (deletion_index_block g ≤ lo) ⊎ (hi ≤ index_block g)
          → ((key_index g).ska + page g.u ≤ p) ⊎ (p + page g.u ≤ (key_index g).ska)
          → IndexIs g.u (key_index g) (full_sets g) (key_filter h g H) N C'.main C'.spare r'
      keep_filters o q =
          frame_index g.u lo hi p C C' ram r' W.frame e unit (key_index g) (full_sets g) (key_filter h g H) N
          (either o (λ a. inl (omega arith)) (λ a. inr a)) q P.filters

      keep_deletions : hi ≤ deletion_index_block g → p + page g.u ≤ (deletion_index g).ska
          → IndexIs g.u (deletion_index g) (deletion_sets g) (deletion_filter h g H) M C'.main C'.spare r'
      keep_deletions o q =
          frame_index g.u lo hi p C C' ram r' W.frame e unit (deletion_index g) (deletion_sets g) (deletion_filter h g H) M
          (inr o) (inr q) P.deletions

      keep_long : Long g C'.main C'.spare r'
      keep_long = long_kept g C C' ram r' W.frame.main_length W.frame.spare_length W.frame.ram_length P.long

    -- Ra
    module _ (item : List ℕ) (size_is : length item ≡ 16) (new : (b : ℕ) → b < 16 → get_or item b 0 ≡ ra_item H nr b)
        (room : nr < record_capacity g) where
      ra_room : nr / (4 * g.u) < g.R * 16
      ra_room = div_lt nr (4 * g.u) (g.R * 16) (omega (arith, pu)) (omega arith)

      ra_grown : AreaGrown g.u (Ra g) g.R (ra_item H) nr item C ram
      ra_grown =
          area.area_grown g.u pu (Ra g) g.R (omega arith) (omega (arith, pu)) (omega arith) (ra_item H) nr item C ram P.ra
          size_is new ra_room (omega (arith, P.long.read.main_fits)) (omega (arith, P.long.spare_fits))
          (omega (arith, P.long.read.ram_fits))

      pub ra_did : Did g.u (Ra g).first ((Ra g).first + g.R) (Ra g).ram C ram (item_ram g.u (Ra g) nr item ram)
          (item_ops g.u (Ra g) nr item ram)
      ra_did = ra_grown.did

      pub ra_parts : Parts h g H (nr + 1) nk d N M
          (apply_all g.u (item_ops g.u (Ra g) nr item ram) C) (item_ram g.u (Ra g) nr item ram)
      ra_parts = record {
        ra = ra_grown.more;
        ka = keep_ka _ _ _ _ _ ra_did (inr (omega arith)) (inr (omega arith));
        da = keep_da _ _ _ _ _ ra_did (inr (omega arith)) (inr (omega arith));
        filters = keep_filters _ _ _ _ _ ra_did (inr (omega arith)) (inr (omega arith));
        deletions = keep_deletions _ _ _ _ _ ra_did (omega arith) (omega arith);
        long = keep_long _ _ _ _ _ ra_did;
      }

    -- KA
    module _ (item : List ℕ) (size_is : length item ≡ 8) (new : (b : ℕ) → b < 8 → get_or item b 0 ≡ ka_item H nk b)
        (room : nk < record_capacity g) where
      pub ka_room : nk / (8 * g.u) < ka_blocks g * 16
      ka_room = div_lt nk (8 * g.u) ((g.R + 1) / 2 * 16) (omega (arith, pu)) (omega (arith, mul-le-mul_right g.u half))
        where
          half : g.R ≤ (g.R + 1) / 2 * 2
          half = omega arith

      ka_grown : AreaGrown g.u (KA g) (ka_blocks g) (ka_item H) nk item C ram
      ka_grown =
          area.area_grown g.u pu (KA g) (ka_blocks g) (omega arith) (omega (arith, pu)) (omega arith) (ka_item H) nk item C ram P.ka
          size_is new ka_room (omega (arith, P.long.read.main_fits)) (omega (arith, P.long.spare_fits))
          (omega (arith, P.long.read.ram_fits))

      pub ka_did : Did g.u (KA g).first ((KA g).first + ka_blocks g) (KA g).ram C ram (item_ram g.u (KA g) nk item ram)
          (item_ops g.u (KA g) nk item ram)
      ka_did = ka_grown.did

      pub ka_parts : Parts h g H nr (nk + 1) d N M
          (apply_all g.u (item_ops g.u (KA g) nk item ram) C) (item_ram g.u (KA g) nk item ram)
      ka_parts = record {
        ra = keep_ra _ _ _ _ _ ka_did (inl (omega arith)) (inl (omega arith));
        ka = ka_grown.more;
        da = keep_da _ _ _ _ _ ka_did (inr (omega arith)) (inr (omega arith));
        filters = keep_filters _ _ _ _ _ ka_did (inr (omega arith)) (inr (omega arith));
        deletions = keep_deletions _ _ _ _ _ ka_did (omega arith) (omega arith);
        long = keep_long _ _ _ _ _ ka_did;
      }

    -- DA
    module _ (item : List ℕ) (size_is : length item ≡ 4) (new : (b : ℕ) → b < 4 → get_or item b 0 ≡ da_item H d b)
        (room : d < deletion_capacity g) where
      pub da_room : d / (16 * g.u) < g.D * 16
      da_room = div_lt d (16 * g.u) (g.D * 16) (omega (arith, pu)) (omega arith)

      da_grown : AreaGrown g.u (DA g) g.D (da_item H) d item C ram
      da_grown =
          area.area_grown g.u pu (DA g) g.D (omega arith) (omega (arith, pu)) (omega arith) (da_item H) d item C ram P.da
          size_is new da_room (omega (arith, P.long.read.main_fits)) (omega (arith, P.long.spare_fits))
          (omega (arith, P.long.read.ram_fits))

      pub da_did : Did g.u (DA g).first ((DA g).first + g.D) (DA g).ram C ram (item_ram g.u (DA g) d item ram)
          (item_ops g.u (DA g) d item ram)
      da_did = da_grown.did

      pub da_parts : Parts h g H nr nk (d + 1) N M
          (apply_all g.u (item_ops g.u (DA g) d item ram) C) (item_ram g.u (DA g) d item ram)
      da_parts = record {
        ra = keep_ra _ _ _ _ _ da_did (inl (omega arith)) (inl (omega arith));
        ka = keep_ka _ _ _ _ _ da_did (inl (omega arith)) (inl (omega arith));
        da = da_grown.more;
        filters = keep_filters _ _ _ _ _ da_did (inr (omega arith)) (inr (omega arith));
        deletions = keep_deletions _ _ _ _ _ da_did (omega arith) (omega arith);
        long = keep_long _ _ _ _ _ da_did;
      }

    -- the index over KA
    module _ (new : ℕ → Bool) (same : (x : ℕ) → x < filter_bits g.u → new x ≡ key_filter h g H N x)
        (room : in_full g.u (N + 1) ≤ full_sets g) where
      abbrev filter_in : List ℕ
      filter_in = with_filter g.u (key_index g) (in_ska N) new ram

      abbrev index_ops : List Op
      index_ops = filter_ops g.u (key_index g) C N filter_in

      index_grown : IndexGrown g.u (key_index g) (full_sets g) (key_filter h g H) N new C ram
      index_grown =
          index.index_grown g.u e unit (key_index g) (full_sets g) (key_filter h g H) N new C ram P.filters same room
          (omega (arith, P.long.read.main_fits)) (omega (arith, P.long.spare_fits)) (omega (arith, P.long.read.ram_fits))

      pub index_did : Did g.u (index_block g) (full_block g.u (key_index g) (full_sets g)) (key_index g).ska C ram
          (filter_ram g.u (key_index g) N filter_in) index_ops
      index_did = index_grown.did

      pub index_parts : Parts h g H nr nk d (N + 1) M (apply_all g.u index_ops C) (filter_ram g.u (key_index g) N filter_in)
      index_parts = record {
        ra = keep_ra _ _ _ _ _ index_did (inl (omega arith)) (inl (omega arith));
        ka = keep_ka _ _ _ _ _ index_did (inl (omega arith)) (inl (omega arith));
        da = keep_da _ _ _ _ _ index_did (inl (omega arith)) (inl (omega arith));
        filters = index_grown.more;
        deletions = keep_deletions _ _ _ _ _ index_did (omega arith) (omega arith);
        long = keep_long _ _ _ _ _ index_did;
      }

    -- the index over DA
    module _ (new : ℕ → Bool) (same : (x : ℕ) → x < filter_bits g.u → new x ≡ deletion_filter h g H M x)
        (room : in_full g.u (M + 1) ≤ deletion_sets g) where
      abbrev half_in : List ℕ
      half_in = with_filter g.u (deletion_index g) (in_ska M) new ram

      abbrev half_ops : List Op
      half_ops = filter_ops g.u (deletion_index g) C M half_in

      half_grown : IndexGrown g.u (deletion_index g) (deletion_sets g) (deletion_filter h g H) M new C ram
      half_grown =
          index.index_grown g.u e unit (deletion_index g) (deletion_sets g) (deletion_filter h g H) M new C ram P.deletions same room
          (omega (arith, P.long.read.main_fits)) (omega (arith, P.long.spare_fits)) (omega (arith, P.long.read.ram_fits))

      pub half_did : Did g.u (deletion_index_block g) (full_block g.u (deletion_index g) (deletion_sets g)) (deletion_index g).ska C ram
          (filter_ram g.u (deletion_index g) M half_in) half_ops
      half_did = half_grown.did

      pub half_parts : Parts h g H nr nk d N (M + 1) (apply_all g.u half_ops C) (filter_ram g.u (deletion_index g) M half_in)
      half_parts = record {
        ra = keep_ra _ _ _ _ _ half_did (inl (omega arith)) (inl (omega arith));
        ka = keep_ka _ _ _ _ _ half_did (inl (omega arith)) (inl (omega arith));
        da = keep_da _ _ _ _ _ half_did (inl (omega arith)) (inl (omega arith));
        filters = keep_filters _ _ _ _ _ half_did (inl (omega arith)) (inl (omega arith));
        deletions = half_grown.more;
        long = keep_long _ _ _ _ _ half_did;
      }
