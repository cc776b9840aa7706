-- The numbers of the plans of changes, from the counts alone, for any geometry of the layout.
use Rattle.std.specs.Prelude.{◌≡◌, refl, Bool, true, false, cond, ℕ, ◌+◌, ◌*◌, ◌/◌, eqb}
use Rattle.layout.specs.Geometry.{Geometry, sectors_per_page, sectors_per_block, fourth_size}
use Rattle.layout.specs.Items.{Area, Ra, KA, DA, fills}
use Rattle.layout.specs.Index.{Index, in_ska, in_l1, in_set, in_full, filters_per_flush, flushes_per_round}
use Rattle.layout.specs.Index.{set_block, set_pages, side_block, set_blocks}
use Rattle.layout.specs.Calls.{key_index, key_filters, deletion_index, deletion_filters}
use Rattle.plan.specs.declared.Segment.{Segment}
use Rattle.plan.specs.Numbers.{SummaryNumbers, PlanNumbers}
use Rattle.planning.specs.declared.Slots.{Slots}
use Rattle.planning.specs.declared.Slots.TheVariants.{Delete, Insert, Update}

abbrev pub none : Segment
none = record { first = 0; count = 0 }

-- the page of item n: its sectors count where the item fills it
abbrev pub page_of : Area → ℕ → Segment
page_of a n =
    record { first = a.first * sectors_per_block + n / a.per_page * sectors_per_page; count = cond (fills a n) sectors_per_page 0 }

by_test : {A : Type 0} (Q : A → Type 0) (b : Bool) (x y : A) → (b ≡ true → Q x) → (b ≡ false → Q y) → Q (cond b x y)
by_test Q true x y t f = t refl
by_test Q false x y t f = f refl

-- ---- what new filters add to an index of which `piece` bytes of each flushed sector are new

module _ (u piece : ℕ) (ix : Index) where
  -- nothing
  abbrev pub no_summary : SummaryNumbers
  no_summary = record {
    piece = piece;
    flush = none;
    set = none;
    l1 = none;
    old = none;
    index = ix;
    full_sets = 0;
    rounds = 0;
  }

  module _ (F : ℕ) where
    -- the flush that filter F makes
    abbrev pub flush_segment : Segment
    flush_segment = record { first = ix.first * sectors_per_block + in_l1 F; count = sectors_per_page }

    abbrev pub flush_summary : SummaryNumbers
    flush_summary = record {
      piece = piece;
      flush = flush_segment;
      set = none;
      l1 = none;
      old = none;
      index = ix;
      full_sets = 0;
      rounds = 0;
    }

    -- with the set that it completes, and the erases
    abbrev pub set_summary : SummaryNumbers
    set_summary = record {
      piece = piece;
      flush = flush_segment;
      set = record {
        first = set_block u ix (in_full u F) (in_set u F) * sectors_per_block;
        count = set_pages (in_set u F + 1) * sectors_per_page;
      };
      l1 = record { first = ix.first; count = 1 };
      old = record { first = side_block u ix (in_set u F); count = set_blocks (in_set u F) };
      index = ix;
      full_sets = in_full u F;
      rounds = in_set u F;
    }

    -- what filter F, the last of the new ones, adds: the flush where it is an eighth, and the set where that ends a round
    unfoldable pub summary_at : SummaryNumbers
    summary_at =
        cond (eqb (in_ska F + 1) filters_per_flush) (cond (eqb (in_l1 F + 1) flushes_per_round) set_summary flush_summary) no_summary

    -- what holds of it: without a flush, with the flush, and with the set
    module _ (Q : SummaryNumbers → Type 0) where
      pub by_summary : (eqb (in_ska F + 1) filters_per_flush ≡ false → Q no_summary)
          → (eqb (in_ska F + 1) filters_per_flush ≡ true → eqb (in_l1 F + 1) flushes_per_round ≡ false → Q flush_summary)
          → (eqb (in_ska F + 1) filters_per_flush ≡ true → eqb (in_l1 F + 1) flushes_per_round ≡ true → Q set_summary) → Q summary_at
      unfolding summary_at
      by_summary no_flush no_set all =
          by_test Q (eqb (in_ska F + 1) filters_per_flush) _ _
          (λ eight. by_test Q (eqb (in_l1 F + 1) flushes_per_round) _ _ (all eight) (no_set eight)) no_flush

module _ (g : Geometry) where
  -- an index to which nothing is added; a page of deletions adds two filters, one of entries adds one
  abbrev pub no_deletions : SummaryNumbers
  no_deletions = no_summary g.u (2 * fourth_size g.u) (deletion_index g)

  abbrev pub no_entries : SummaryNumbers
  no_entries = no_summary g.u (fourth_size g.u) (key_index g)

  -- what deletion d adds, and what entry n does, where it fills its page
  abbrev pub deletion_summary : ℕ → SummaryNumbers
  deletion_summary d =
      cond (fills (DA g) d) (summary_at g.u (2 * fourth_size g.u) (deletion_index g) (deletion_filters g d + 1)) no_deletions

  abbrev pub entry_summary : ℕ → SummaryNumbers
  entry_summary n = cond (fills (KA g) n) (summary_at g.u (fourth_size g.u) (key_index g) (key_filters g n)) no_entries

  -- ---- the plans

  abbrev pub deletion_numbers : ℕ → PlanNumbers
  deletion_numbers d = record {
    unit = g.u;
    da = page_of (DA g) d;
    da_index = deletion_summary d;
    ra = none;
    ka = none;
    ka_index = no_entries;
  }

  abbrev pub insertion_numbers : ℕ → PlanNumbers
  insertion_numbers n = record {
    unit = g.u;
    da = none;
    da_index = no_deletions;
    ra = page_of (Ra g) n;
    ka = page_of (KA g) n;
    ka_index = entry_summary n;
  }

  abbrev pub update_numbers : ℕ → ℕ → PlanNumbers
  update_numbers d n = record {
    unit = g.u;
    da = page_of (DA g) d;
    da_index = deletion_summary d;
    ra = page_of (Ra g) n;
    ka = page_of (KA g) n;
    ka_index = entry_summary n;
  }

-- ---- of a change

abbrev pub numbers_of : Geometry → Slots → PlanNumbers
numbers_of g (Delete d) = deletion_numbers g d
numbers_of g (Insert n) = insertion_numbers g n
numbers_of g (Update d n) = update_numbers g d n
