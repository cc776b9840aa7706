-- The plans of a sound geometry fit in lent slices that hold its volume.
use Rattle.std.specs.Prelude.{◌≡◌, refl, Bool, true, cond, List, ℕ, zero, suc, ◌+◌, ◌*◌, ◌/◌, ◌%◌, ◌^◌, ◌≤◌, ◌<◌, eqb, length}
use Rattle.std.proofs.Common.{mul-le-mul_right, mul-le-mul_left, mod-lt, le_trans, le_refl, arith, eqb-true}
use Rattle.memory.specs.Cases.{either, eq?, bool?}
use Rattle.memory.specs.Numbers.{euclid, div_lt, carry}
use Rattle.layout.specs.Geometry as layout
use Rattle.layout.specs.Items.{Area, Ra, KA, DA, fills}
use Rattle.layout.specs.Index.{Index, in_ska, in_l1, in_set, in_full, set_pages, set_blocks, side_block, full_block, set_block}
use Rattle.layout.specs.Calls.{key_filters, deletion_filters}
use Rattle.laws.specs.Lengths.{Long}
use Rattle.laws.specs.SetLaws.{blocks_fit, side_range, places_suffice, deletion_places_suffice}
use Rattle.geometry.specs.declared.volume.Geometry.{Geometry}
use Rattle.geometry.specs.Shape.{shape, Sound}
use Rattle.geometry.specs.Bounds.{index_le, deletion_index_le}
use Rattle.geometry.specs.Indexes.{index_of, index_for, deletion_index_for}
use Rattle.geometry.specs.declared.index.Index.{Index as CodeIndex}
use Rattle.plan.specs.declared.Segment.{Segment}
use Rattle.plan.specs.declared.Summary.{Summary}
use Rattle.plan.specs.Fits.{PageFits, FlushFits, NextFits, WipeFits}
use Rattle.plan.specs.Plans.{SummaryFits, PlanFits}
use Rattle.plan.specs.Numbers.{SummaryNumbers}
use Rattle.planning.specs.LayoutNumbers as numbers
use Rattle.planning.specs.Numbers.{none, page_of, summary_with, no_summary, summary_at, by_summary}
use Rattle.planning.specs.Numbers.{no_deletions, no_entries, deletion_summary, entry_summary}
use Rattle.planning.specs.Numbers.{deletion_numbers, insertion_numbers, update_numbers}

-- ---- numbers of a volume of B blocks

-- sectors of its blocks, in bytes
sectors_in : (u B k main : ℕ) → B * layout.block u ≤ main → k ≤ B * 64 → k * layout.sector u ≤ main
sectors_in u B k main h l = omega (arith, h, mul-le-mul_right (layout.sector u) l)

blocks_in : (B k w len : ℕ) → B * w ≤ len → k ≤ B → k * w ≤ len
blocks_in B k w len h l = omega (arith, h, mul-le-mul_right w l)

-- a page of an area that has so many blocks
page_in : (B : ℕ) (a : Area) (blocks n : ℕ) → a.first + blocks ≤ B → n / a.per_page < blocks * 16 → (page_of a n).first + 4 ≤ B * 64
page_in B a blocks n e h = omega (arith, e, h)

count_le : (a : Area) (n : ℕ) → (page_of a n).count ≤ 4
count_le a n = either (bool? (fills a n)) (λ e. rw e (omega arith)) (λ e. rw e (omega arith))

-- the place of the next set, and that of the set before it, below the end of Z places for full sets
module _ (u e : ℕ) (pow : u ≡ 2 ^ e) (ix : Index) (Z : ℕ) where
  set_in : (z c : ℕ) → c < 4 * u → (c + 1 ≡ 4 * u → z < Z) → set_block u ix z c * 64 + set_pages (c + 1) * 4 ≤ full_block u ix Z * 64
  set_in z c hc hz =
      let b = blocks_fit u e pow (c + 1) (omega (arith, hc)) in
      either (eq? (c + 1) (4 * u))
      (λ a. rw a.0 (omega (arith, b, mul-le-mul_right (4 * u) (hz a.1))))
      (λ a. rw a.0 (omega (arith, b, (side_range u ix (c + 1)).1)))

  old_in : (c : ℕ) → c < 4 * u → side_block u ix c + set_blocks c ≤ full_block u ix Z
  old_in zero h = omega (arith, (side_range u ix zero).1)
  old_in (suc c) h = omega (arith, (side_range u ix (suc c)).1, blocks_fit u e pow (suc c) (omega arith))

  -- the last round of a full set takes one more place
  place_in : (F : ℕ) → 0 < 4 * u → in_full u (F + 1) ≤ Z → F % 8 + 1 ≡ 8 → F / 8 % 16 + 1 ≡ 16 → in_set u F + 1 ≡ 4 * u
      → in_full u F < Z
  place_in F pos room eight sixteen last =
      let a : (F + 1) / 8 ≡ F / 8 + 1 = omega (arith, eight) in
      let b : (F / 8 + 1) / 16 ≡ F / 8 / 16 + 1 = omega (arith, sixteen) in
      let r : (F / 8 / 16 + 1) / (4 * u) ≤ Z = rw (a, b) at room in
      either (carry (F / 8 / 16) (4 * u) pos) (λ d. omega (arith, d.1, r)) (λ d. absurd (d.0 last))

-- the last of q items is followed by the first of the next q
next_div : (n q : ℕ) → 0 < q → n % q + 1 ≡ q → (n + 1) / q ≡ n / q + 1
next_div n q pos e = either (carry n q pos) (λ d. d.1) (λ d. absurd (d.0 e))

-- ---- full sets are few, for any unit

quotient_le : (n q : ℕ) → 0 < q → n / q ≤ n
quotient_le n q h = omega (arith, euclid n q h, mul-le-mul_left (n / q) h)

-- those of the index over the entries
pub full_le : (u R n q : ℕ) → q ≡ layout.entries_per_page u → 0 < u → R ≤ 4096 → n < 4 * R * (16 * u) → in_full u (n / q) ≤ 1024
full_le u R n q e pos h l =
    let F : n / (8 * u) < 8 * R = div_lt n (8 * u) (8 * R) (omega arith) (omega (arith, l)) in
    rw e (omega (arith, F, h, quotient_le (n / (8 * u) / 8 / 16) (4 * u) (omega arith)))

-- those of the index over the deletions, of which a page gives two filters
pub deletion_full_le : (u D d F : ℕ) → F ≡ 2 * (d / (16 * u)) → 0 < u → D ≤ 4096 → d < 16 * D * (16 * u) → in_full u (F + 1) ≤ 1024
deletion_full_le u D d F e pos h l =
    let p : d / (16 * u) < 16 * D = div_lt d (16 * u) (16 * D) (omega arith) (omega (arith, l)) in
    rw e (omega (arith, p, h, quotient_le ((2 * (d / (16 * u)) + 1) / 8 / 16) (4 * u) (omega arith)))

-- ---- of a sound geometry

module _ (g : Geometry) (S : Sound g) where
  abbrev u : ℕ
  u = g.chip.unit

  abbrev G : layout.Geometry
  G = shape g

  abbrev B : ℕ
  B = layout.blocks G

  -- the page that a segment may program is in the volume
  record Inside (a : Segment) : Type 0 where
    pub page : a.first + 4 ≤ B * 64
    pub few : a.count ≤ 4

  da_in : (d : ℕ) → d < layout.deletion_capacity G → Inside (page_of (DA G) d)
  da_in d h = record {
    page =
        page_in B (DA G) g.da d (omega arith)
        (div_lt d (16 * u) (g.da * 16) (omega (arith, S.unit.1.some)) (omega (arith, h)));
    few = count_le (DA G) d;
  }

  ra_in : (n : ℕ) → n < layout.record_capacity G → Inside (page_of (Ra G) n)
  ra_in n h = record {
    page =
        page_in B (Ra G) g.ra n (omega arith)
        (div_lt n (4 * u) (g.ra * 16) (omega (arith, S.unit.1.some)) (omega (arith, h)));
    few = count_le (Ra G) n;
  }

  ka_in : (n : ℕ) → n < layout.record_capacity G → Inside (page_of (KA G) n)
  ka_in n h =
      let f : n / (8 * u) < g.ra * 8 = div_lt n (8 * u) (g.ra * 8) (omega (arith, S.unit.1.some)) (omega (arith, h)) in
      record { page = page_in B (KA G) (layout.ka_blocks G) n (omega arith) (omega (arith, f)); few = count_le (KA G) n }

  none_in : Inside none
  none_in = record { page = omega arith; few = omega arith }

  -- an index in the volume with Z places for full sets, and so many bytes of new fourths, of which a sector takes `piece`
  record IndexIn (ix : CodeIndex) (Z piece fourths : ℕ) : Type 0 where
    pub near : ix.first ≤ 20000
    pub ends : full_block u (index_of ix) Z ≤ B
    pub ska : ix.ska + layout.page u ≤ layout.ram_size G
    pub in_sector : piece ≤ layout.sector u
    pub in_fourths : 4 * piece ≤ fourths

  key_in : IndexIn (index_for g) (layout.full_sets G) (layout.fourth_size u) 256
  key_in =
      let i = index_le g in
      record {
        near = omega (arith, i);
        ends = omega arith;
        ska = omega arith;
        in_sector = omega arith;
        in_fourths = omega (arith, S.unit.1.most);
      }

  deletions_in_lem : IndexIn (deletion_index_for g) (layout.deletion_sets G) (2 * layout.fourth_size u) 512
  deletions_in_lem =
      let i = deletion_index_le g in
      record {
        near = omega (arith, i);
        ends = omega arith;
        ska = omega arith;
        in_sector = omega arith;
        in_fourths = omega (arith, S.unit.1.most);
      }

  -- the filters of the pages before an entry's, and one more
  key_room : (n : ℕ) → n < layout.record_capacity G → fills (KA G) n ≡ true → in_full u (key_filters G n + 1) ≤ layout.full_sets G
  key_room n h full =
      let e : n % (8 * u) + 1 ≡ 8 * u = eqb-true (n % (8 * u) + 1) (8 * u) full in
      let q : (n + 1) / (8 * u) ≡ n / (8 * u) + 1 = next_div n (8 * u) (omega (arith, S.unit.1.some)) e in
      rw (← q) (places_suffice u g.ra (n + 1) S.unit.1.some (omega (arith, h)))

  -- those of the pages before a deletion's, and two more
  deletion_room : (d : ℕ) → d < layout.deletion_capacity G → fills (DA G) d ≡ true
      → in_full u (deletion_filters G d + 1 + 1) ≤ layout.deletion_sets G
  deletion_room d h full =
      let e : d % (16 * u) + 1 ≡ 16 * u = eqb-true (d % (16 * u) + 1) (16 * u) full in
      let q : (d + 1) / (16 * u) ≡ d / (16 * u) + 1 = next_div d (16 * u) (omega (arith, S.unit.1.some)) e in
      let two : 2 * (d / (16 * u)) + 1 + 1 ≡ 2 * ((d + 1) / (16 * u)) = omega (arith, q) in
      rw two (deletion_places_suffice u g.da (d + 1) S.unit.1.some (omega (arith, h)))

  -- ---- in slices that hold the volume

  module _ (main spare ram : List ℕ) (L : Long G main spare ram) where
    abbrev m : ℕ
    m = length main

    abbrev s : ℕ
    s = length spare

    abbrev r : ℕ
    r = length ram

    page_fits : (a : Segment) (at : ℕ) → Inside a → at + layout.page u ≤ layout.ram_size G
        → PageFits u (record { sector = a.first; at = at }) m s r
    page_fits a at h k = record {
      small = S.unit.1.most;
      in_main = sectors_in u B (a.first + 4) m L.read.main_fits h.page;
      in_spare = le_trans h.page L.spare_fits;
      in_ram_lem = le_trans k L.read.ram_fits;
    }

    wipe_fits : (b : Segment) → b.first + b.count ≤ B → WipeFits u b m s
    wipe_fits b h = record {
      small = S.unit.1.most;
      in_main = blocks_in B (b.first + b.count) (layout.block u) m L.read.main_fits h;
      in_spare = blocks_in B (b.first + b.count) 64 s L.spare_fits h;
    }

    no_wipe : WipeFits u none m s
    no_wipe = wipe_fits none (omega arith)

    -- ---- what filters add to an index

    module _ (ix : CodeIndex) (Z piece fourths : ℕ) (I : IndexIn ix Z piece fourths) where
      flush_fits : (first : ℕ) → first + 49 ≤ B * 64 → FlushFits u (record { sector = first; at = ix.ska; piece = piece }) fourths m s r
      flush_fits first h = record {
        some = S.unit.1.some;
        small = S.unit.1.most;
        in_sector = I.in_sector;
        in_fourths = I.in_fourths;
        in_main = sectors_in u B (first + 49) m L.read.main_fits h;
        in_spare = le_trans h L.spare_fits;
        in_ram_lem = le_trans I.ska L.read.ram_fits;
      }

      next_fits : (z c first k : ℕ) → c < 4 * u → k ≤ set_pages (c + 1) * 4 → (0 < k → first ≡ set_block u (index_of ix) z c * 64)
          → first + k ≤ B * 64 → NextFits u (record { index = ix; full_sets = z; rounds = c }) first k m s
      next_fits z c first k hc hk place h =
          let l : full_block u (index_of ix) 0 ≤ B = omega (arith, I.ends) in
          record {
            unit = S.unit;
            rounds = hc;
            near = I.near;
            sides = blocks_in B (full_block u (index_of ix) 0) (layout.block u) m L.read.main_fits l;
            sectors = hk;
            place = place;
            in_main = sectors_in u B (first + k) m L.read.main_fits h;
            in_spare = le_trans h L.spare_fits;
          }

      no_set : NextFits u (record { index = ix; full_sets = 0; rounds = 0 }) 0 0 m s
      no_set = next_fits 0 0 0 0 (omega (arith, S.unit.1.some)) (omega arith) (λ l. absurd (omega arith)) (omega arith)

      no_summary_fits : SummaryFits u (no_summary u piece ix) fourths m s r
      no_summary_fits = record {
        flush = flush_fits 0 (omega arith);
        flush_count = omega arith;
        build = record { set = no_set; l1 = no_wipe; old = no_wipe };
      }

      module _ (F : ℕ) (room : in_full u (F + 1) ≤ Z) where
        a_flush : FlushFits u (record { sector = ix.first * 64 + in_l1 F; at = ix.ska; piece = piece }) fourths m s r
        a_flush = flush_fits (ix.first * 64 + in_l1 F) (omega (arith, I.ends))

        rounds_lt : in_set u F < 4 * u
        rounds_lt = mod-lt (F / 8 / 16) (omega (arith, S.unit.1.some))

        -- the set, where filter F ends a round
        sectors_end : eqb (in_ska F + 1) 8 ≡ true → eqb (in_l1 F + 1) 16 ≡ true
            → set_block u (index_of ix) (in_full u F) (in_set u F) * 64 + set_pages (in_set u F + 1) * 4 ≤ B * 64
        sectors_end eight sixteen =
            let e = S.unit in
            let b = set_in u e.0 e.1.power (index_of ix) Z (in_full u F) (in_set u F) rounds_lt
            (place_in u e.0 e.1.power (index_of ix) Z F (omega (arith, S.unit.1.some)) room
            (eqb-true (in_ska F + 1) 8 eight) (eqb-true (in_l1 F + 1) 16 sixteen)) in
            le_trans b (mul-le-mul_right 64 I.ends)

        old_end : side_block u (index_of ix) (in_set u F) + set_blocks (in_set u F) ≤ B
        old_end = le_trans (old_in u S.unit.0 S.unit.1.power (index_of ix) Z (in_set u F) rounds_lt) I.ends

        summary_fits : SummaryFits u (summary_at u piece ix F) fourths m s r
        summary_fits =
            by_summary u piece ix F (λ x. SummaryFits u x fourths m s r) (λ eight. no_summary_fits)
            (λ eight last. record {
              flush = a_flush;
              flush_count = omega arith;
              build = record { set = no_set; l1 = no_wipe; old = no_wipe };
            })
            (λ eight last. record {
              flush = a_flush;
              flush_count = omega arith;
              build = record {
                set =
                    next_fits (in_full u F) (in_set u F) (set_block u (index_of ix) (in_full u F) (in_set u F) * 64)
                    (set_pages (in_set u F + 1) * 4) rounds_lt (le_refl _) (λ l. refl) (sectors_end eight last);
                l1 = wipe_fits (record { first = ix.first; count = 1 }) (omega (arith, I.ends));
                old = wipe_fits (record { first = side_block u (index_of ix) (in_set u F); count = set_blocks (in_set u F) }) old_end;
              };
            })

    -- whether a page is full or not; of any two, and of numbers with one index
    by_page : (b : Bool) (x y : Summary) (fourths : ℕ) → (b ≡ true → SummaryFits u x fourths m s r) → SummaryFits u y fourths m s r
        → SummaryFits u (cond b x y) fourths m s r
    by_page b x y fourths f n = either (bool? b) (λ e. rw e (f e)) (λ e. rw e n)

    by_page_with : (b : Bool) (ix : CodeIndex) (x y : SummaryNumbers) (fourths : ℕ)
        → (b ≡ true → SummaryFits u (summary_with ix x) fourths m s r)
        → SummaryFits u (summary_with ix y) fourths m s r → SummaryFits u (summary_with ix (cond b x y)) fourths m s r
    by_page_with b ix x y fourths f n = either (bool? b) (λ e. rw e (f e)) (λ e. rw e n)

    no_deletions_fit : SummaryFits u (no_deletions g) 512 m s r
    no_deletions_fit = no_summary_fits (deletion_index_for g) (layout.deletion_sets G) (2 * layout.fourth_size u) 512 deletions_in_lem

    no_entries_fit : SummaryFits u (no_entries g) 256 m s r
    no_entries_fit = no_summary_fits (index_for g) (layout.full_sets G) (layout.fourth_size u) 256 key_in

    deletion_summary_fits : (d : ℕ) → d < layout.deletion_capacity G → SummaryFits u (deletion_summary g d) 512 m s r
    deletion_summary_fits d h =
        by_page_with (fills (DA G) d) (deletion_index_for g) _ (numbers.no_deletions G) 512
        (λ full.
        summary_fits (deletion_index_for g) (layout.deletion_sets G) (2 * layout.fourth_size u) 512 deletions_in_lem (deletion_filters G d + 1)
        (deletion_room d h full))
        no_deletions_fit

    entry_summary_fits : (n : ℕ) → n < layout.record_capacity G → SummaryFits u (entry_summary g n) 256 m s r
    entry_summary_fits n h =
        by_page_with (fills (KA G) n) (index_for g) _ (numbers.no_entries G) 256
        (λ full. summary_fits (index_for g) (layout.full_sets G) (layout.fourth_size u) 256 key_in (key_filters G n) (key_room n h full))
        no_entries_fit

    -- ---- the plans

    parts_fit : (da ra ka : Segment) (x y : Summary) → Inside da → Inside ra → Inside ka → SummaryFits u x 512 m s r
        → SummaryFits u y 256 m s r
        → PlanFits (record { chip = g.chip; da = da; da_index = x; ra = ra; ka = ka; ka_index = y }) m s r
    parts_fit da ra ka x y in_da in_ra in_ka in_x in_y = record {
      some = S.unit.1.some;
      da = page_fits da (DA G).ram in_da (omega arith);
      ra = page_fits ra (Ra G).ram in_ra (omega arith);
      ka = page_fits ka (KA G).ram in_ka (omega arith);
      da_count = in_da.few;
      ra_count = in_ra.few;
      ka_count = in_ka.few;
      da_index = in_x;
      ka_index = in_y;
    }

    pub deletion_fits : (d : ℕ) → d < layout.deletion_capacity G → PlanFits (deletion_numbers g d) m s r
    deletion_fits d h = parts_fit (page_of (DA G) d) none none _ _ (da_in d h) none_in none_in (deletion_summary_fits d h) no_entries_fit

    pub insertion_fits : (n : ℕ) → n < layout.record_capacity G → PlanFits (insertion_numbers g n) m s r
    insertion_fits n h =
        parts_fit none (page_of (Ra G) n) (page_of (KA G) n) _ _ none_in (ra_in n h) (ka_in n h) no_deletions_fit (entry_summary_fits n h)

    pub update_fits : (d n : ℕ) → d < layout.deletion_capacity G → n < layout.record_capacity G → PlanFits (update_numbers g d n) m s r
    update_fits d n k h =
        parts_fit (page_of (DA G) d) (page_of (Ra G) n) (page_of (KA G) n) _ _ (da_in d k) (ra_in n h) (ka_in n h)
        (deletion_summary_fits d k) (entry_summary_fits n h)
