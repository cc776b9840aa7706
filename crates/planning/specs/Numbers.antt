-- The plans of changes, from the counts alone: their numbers with the code's chip and indexes, of which the types say more.
use Rattle.std.specs.Prelude.{◌≡◌, refl, Bool, true, false, cond, ℕ, ◌+◌, eqb}
use Rattle.layout.specs.Items.{Ra, KA, DA, fills}
use Rattle.layout.specs.Index.{in_ska, in_l1, filters_per_flush, flushes_per_round}
use Rattle.geometry.specs.declared.volume.Geometry.{Geometry}
use Rattle.geometry.specs.Shape.{shape}
use Rattle.geometry.specs.Indexes.{index_of, index_for, deletion_index_for}
use Rattle.geometry.specs.declared.index.Index.{Index}
use Rattle.plan.specs.declared.Plan.{Plan}
use Rattle.plan.specs.declared.Segment.{Segment}
use Rattle.plan.specs.declared.Summary.{Summary}
use Rattle.plan.specs.Numbers.{SummaryNumbers, PlanNumbers, summary_numbers, plan_numbers}
use Rattle.planning.specs.LayoutNumbers as layout
pub use Rattle.planning.specs.LayoutNumbers.{none, page_of}

-- numbers with an index, and with the chip and the indexes of a geometry
abbrev pub summary_with : Index → SummaryNumbers → Summary
summary_with ix s = record {
  piece = s.piece;
  flush = s.flush;
  set = s.set;
  l1 = s.l1;
  old = s.old;
  next = record { index = ix; full_sets = s.full_sets; rounds = s.rounds };
}

abbrev pub plan_with : Geometry → PlanNumbers → Plan
plan_with g p = record {
  chip = g.chip;
  da = p.da;
  da_index = summary_with (deletion_index_for g) p.da_index;
  ra = p.ra;
  ka = p.ka;
  ka_index = summary_with (index_for g) p.ka_index;
}

-- ---- what new filters add to an index of which `piece` bytes of each flushed sector are new

module _ (u piece : ℕ) (ix : Index) where
  -- nothing
  abbrev pub no_summary : Summary
  no_summary = summary_with ix (layout.no_summary u piece (index_of ix))

  module _ (F : ℕ) where
    -- the flush that filter F makes
    abbrev pub flush_segment : Segment
    flush_segment = layout.flush_segment u piece (index_of ix) F

    abbrev pub flush_summary : Summary
    flush_summary = summary_with ix (layout.flush_summary u piece (index_of ix) F)

    -- with the set that it completes, and the erases
    abbrev pub set_summary : Summary
    set_summary = summary_with ix (layout.set_summary u piece (index_of ix) F)

    -- what filter F, the last of the new ones, adds: the flush where it is an eighth, and the set where that ends a round
    abbrev pub summary_at : Summary
    summary_at = summary_with ix (layout.summary_at u piece (index_of ix) F)

    -- its numbers are the layout's
    pub summary_numbers_are : summary_numbers summary_at ≡ layout.summary_at u piece (index_of ix) F
    summary_numbers_are =
        layout.by_summary u piece (index_of ix) F (λ s. summary_numbers (summary_with ix s) ≡ s) (λ e. refl) (λ e d. refl) (λ e d. refl)

    -- what holds of it: without a flush, with the flush, and with the set
    module _ (Q : Summary → Type 0) where
      pub by_summary : (eqb (in_ska F + 1) filters_per_flush ≡ false → Q no_summary)
          → (eqb (in_ska F + 1) filters_per_flush ≡ true → eqb (in_l1 F + 1) flushes_per_round ≡ false → Q flush_summary)
          → (eqb (in_ska F + 1) filters_per_flush ≡ true → eqb (in_l1 F + 1) flushes_per_round ≡ true → Q set_summary) → Q summary_at
      by_summary no_flush no_set all = layout.by_summary u piece (index_of ix) F (λ s. Q (summary_with ix s)) no_flush no_set all

-- ---- of a geometry of the code

module _ (g : Geometry) where
  -- an index to which nothing is added; a page of deletions adds two filters, one of entries adds one
  abbrev pub no_deletions : Summary
  no_deletions = summary_with (deletion_index_for g) (layout.no_deletions (shape g))

  abbrev pub no_entries : Summary
  no_entries = summary_with (index_for g) (layout.no_entries (shape g))

  -- what deletion d adds, and what entry n does, where it fills its page
  abbrev pub deletion_summary : ℕ → Summary
  deletion_summary d = summary_with (deletion_index_for g) (layout.deletion_summary (shape g) d)

  abbrev pub entry_summary : ℕ → Summary
  entry_summary n = summary_with (index_for g) (layout.entry_summary (shape g) n)

  -- ---- the plans

  abbrev pub deletion_numbers : ℕ → Plan
  deletion_numbers d = plan_with g (layout.deletion_numbers (shape g) d)

  abbrev pub insertion_numbers : ℕ → Plan
  insertion_numbers n = plan_with g (layout.insertion_numbers (shape g) n)

  abbrev pub update_numbers : ℕ → ℕ → Plan
  update_numbers d n = plan_with g (layout.update_numbers (shape g) d n)

  -- ---- their numbers are the layout's

  -- an index to which nothing may be added
  by_page : (b : Bool) (ix : Index) (x y : SummaryNumbers) → summary_numbers (summary_with ix x) ≡ x
      → summary_numbers (summary_with ix y) ≡ y → summary_numbers (summary_with ix (cond b x y)) ≡ cond b x y
  by_page true ix x y p q = p
  by_page false ix x y p q = q

  deletion_summary_are : (d : ℕ) → summary_numbers (deletion_summary d) ≡ layout.deletion_summary (shape g) d
  deletion_summary_are d =
      by_page (fills (DA (shape g)) d) (deletion_index_for g) _ (layout.no_deletions (shape g))
      (summary_numbers_are _ _ (deletion_index_for g) _) refl

  entry_summary_are : (n : ℕ) → summary_numbers (entry_summary n) ≡ layout.entry_summary (shape g) n
  entry_summary_are n =
      by_page (fills (KA (shape g)) n) (index_for g) _ (layout.no_entries (shape g))
      (summary_numbers_are _ _ (index_for g) _) refl

  pub deletion_numbers_are : (d : ℕ) → plan_numbers (deletion_numbers d) ≡ layout.deletion_numbers (shape g) d
  deletion_numbers_are d =
      let s = deletion_summary_are d in
      λ i. record {
        unit = (shape g).u;
        da = page_of (DA (shape g)) d;
        da_index = s i;
        ra = none;
        ka = none;
        ka_index = layout.no_entries (shape g);
      }

  pub insertion_numbers_are : (n : ℕ) → plan_numbers (insertion_numbers n) ≡ layout.insertion_numbers (shape g) n
  insertion_numbers_are n =
      let s = entry_summary_are n in
      λ i. record {
        unit = (shape g).u;
        da = none;
        da_index = layout.no_deletions (shape g);
        ra = page_of (Ra (shape g)) n;
        ka = page_of (KA (shape g)) n;
        ka_index = s i;
      }

  pub update_numbers_are : (d n : ℕ) → plan_numbers (update_numbers d n) ≡ layout.update_numbers (shape g) d n
  update_numbers_are d n =
      let s = deletion_summary_are d in
      let t = entry_summary_are n in
      λ i. record {
        unit = (shape g).u;
        da = page_of (DA (shape g)) d;
        da_index = s i;
        ra = page_of (Ra (shape g)) n;
        ka = page_of (KA (shape g)) n;
        ka_index = t i;
      }
