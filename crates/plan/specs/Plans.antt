-- The operations that a plan stands for, in order, and where it fits.
use Rattle.std.specs.Prelude.{◌≡◌, List, ◌++◌, ℕ, ◌+◌, ◌-◌, ◌*◌, ◌^◌, ◌≤◌, ◌<◌, length, take, drop}
use Rattle.std.proofs.Common.{sym, ap, ◌∙◌, arith, length-append}
use Rattle.layout.specs.Geometry.{sectors_per_page, ra_ram, ka_ram, da_ram}
use Rattle.layout.specs.Flash.{Flash, Planned, planned_from}
use Rattle.layout.specs.Index.{flushes_per_round}
use Rattle.layout.specs.Items.{record_size, entry_size, deletion_size}
use Rattle.laws.specs.SetLaws.{blocks_fit}
use Rattle.plan.specs.declared.Flush.{Flush}
use Rattle.plan.specs.declared.Page.{Page}
use Rattle.plan.specs.declared.Summary.{Summary}
use Rattle.plan.specs.declared.Plan.{Plan}
use Rattle.plan.specs.declared.Span.{Span}
use Rattle.plan.specs.Runs.{done}
use Rattle.plan.specs.Spans.{span, among, behind, run_of, span_all, span_none, span_among}
use Rattle.plan.specs.Spans.{length_planned, first_run, last_run, both_run}
use Rattle.plan.specs.Segments.{set_from, filled_page, flushed, next_set, wiped}
use Rattle.plan.specs.Numbers.{SummaryNumbers, PlanNumbers, summary_numbers, plan_numbers}
use Rattle.plan.specs.Fits.{PageFits, FlushFits, NextFits, WipeFits}

-- the new bytes: the deletion's, the record's, the entry's
abbrev pub record_at : ℕ
record_at = deletion_size

abbrev pub entry_at : ℕ
entry_at = record_at + record_size

abbrev pub deletion_in : List ℕ → List ℕ
deletion_in new = take deletion_size (drop 0 new)

abbrev pub record_in : List ℕ → List ℕ
record_in new = take record_size (drop record_at new)

abbrev pub entry_in : List ℕ → List ℕ
entry_in new = take entry_size (drop entry_at new)

-- the fourths of its new filters: those of the page of deletions, that of the page of entries
abbrev pub entry_filter_at : ℕ
entry_filter_at = 512

abbrev pub filters_length : ℕ
filters_length = 768

abbrev pub deletion_fourths : List ℕ → List ℕ
deletion_fourths filters = take entry_filter_at (drop 0 filters)

abbrev pub entry_fourths : List ℕ → List ℕ
entry_fourths filters = take (filters_length - entry_filter_at) (drop entry_filter_at filters)

-- ---- the operations that numbers stand for

-- the flush of an index
abbrev pub flush_by : SummaryNumbers → Flush
flush_by s = record { sector = s.flush.first; at = s.index.ska; piece = s.piece }

-- "SKA sectors, set pages, .. last the erases"
module _ (u : ℕ) (s : SummaryNumbers) where
  abbrev pub build_by : List Planned
  build_by =
      planned_from (set_from u s.set.first s.index s.full_sets s.rounds) 0 s.set.count
      ++ (planned_from (wiped s.l1.first) 0 s.l1.count ++ planned_from (wiped s.old.first) 0 s.old.count)

  abbrev pub summary_by : List ℕ → List ℕ → List Planned
  summary_by fourths ram = planned_from (flushed u (flush_by s) fourths ram) 0 s.flush.count ++ build_by

-- how many there are
abbrev pub count_by : SummaryNumbers → ℕ
count_by s = s.flush.count + (s.set.count + s.l1.count + s.old.count)

module _ (p : PlanNumbers) where
  -- the pages that items fill
  abbrev pub da_page_by : Page
  da_page_by = record { sector = p.da.first; at = da_ram p.unit }

  abbrev pub ra_page_by : Page
  ra_page_by = record { sector = p.ra.first; at = ra_ram p.unit }

  abbrev pub ka_page_by : Page
  ka_page_by = record { sector = p.ka.first; at = ka_ram p.unit }

  -- §5: "the deletion filters and their erases follow the DA page directly"
  abbrev pub deletion_by : List ℕ → List ℕ → List ℕ → List Planned
  deletion_by new filters ram =
      planned_from (filled_page p.unit da_page_by (deletion_in new) ram) 0 p.da.count
      ++ summary_by p.unit p.da_index (deletion_fourths filters) ram

  -- "RA page, KA page, SKA sectors, set pages, .. last the erases"
  abbrev pub record_by : List ℕ → List ℕ → List ℕ → List Planned
  record_by new filters ram =
      planned_from (filled_page p.unit ra_page_by (record_in new) ram) 0 p.ra.count
      ++ (planned_from (filled_page p.unit ka_page_by (entry_in new) ram) 0 p.ka.count
      ++ summary_by p.unit p.ka_index (entry_fourths filters) ram)

  abbrev pub planned_by : List ℕ → List ℕ → List ℕ → List Planned
  planned_by new filters ram = deletion_by new filters ram ++ record_by new filters ram

  abbrev pub deletion_count_by : ℕ
  deletion_count_by = p.da.count + count_by p.da_index

  abbrev pub planned_count_by : ℕ
  planned_count_by = deletion_count_by + (p.ra.count + p.ka.count + count_by p.ka_index)

  abbrev pub whole_by : Span
  whole_by = record { from = 0; to = planned_count_by }

  pub deletion_count_by_lem : (new filters ram : List ℕ) → length (deletion_by new filters ram) ≡ deletion_count_by
  deletion_count_by_lem new filters ram = simp (length-append, length_planned) (omega arith)

  pub planned_count_by_lem : (new filters ram : List ℕ) → length (planned_by new filters ram) ≡ planned_count_by
  planned_count_by_lem new filters ram = simp (length-append, length_planned) (omega arith)

  pub whole_by_is : (new filters ram : List ℕ) → span (planned_by new filters ram) whole_by ≡ planned_by new filters ram
  whole_by_is new filters ram = span_all (planned_by new filters ram) planned_count_by (planned_count_by_lem new filters ram)

-- ---- those of the code's plans

abbrev pub flush_of : Summary → Flush
flush_of s = flush_by (summary_numbers s)

module _ (u : ℕ) (s : Summary) where
  abbrev pub build_of : List Planned
  build_of = build_by u (summary_numbers s)

  abbrev pub summary_of : List ℕ → List ℕ → List Planned
  summary_of = summary_by u (summary_numbers s)

abbrev pub summary_count : Summary → ℕ
summary_count s = count_by (summary_numbers s)

module _ (p : Plan) where
  -- its pages
  abbrev pub da_page : Page
  da_page = da_page_by (plan_numbers p)

  abbrev pub ra_page : Page
  ra_page = ra_page_by (plan_numbers p)

  abbrev pub ka_page : Page
  ka_page = ka_page_by (plan_numbers p)

  abbrev pub deletion_of : List ℕ → List ℕ → List ℕ → List Planned
  deletion_of = deletion_by (plan_numbers p)

  abbrev pub record_of : List ℕ → List ℕ → List ℕ → List Planned
  record_of = record_by (plan_numbers p)

  abbrev pub planned : List ℕ → List ℕ → List ℕ → List Planned
  planned new filters ram = deletion_of new filters ram ++ record_of new filters ram

  abbrev pub deletion_count : ℕ
  deletion_count = deletion_count_by (plan_numbers p)

  abbrev pub planned_count : ℕ
  planned_count = planned_count_by (plan_numbers p)

  abbrev pub whole_of : Span
  whole_of = whole_by (plan_numbers p)

  pub deletion_count_lem : (new filters ram : List ℕ) → length (deletion_of new filters ram) ≡ deletion_count
  deletion_count_lem = deletion_count_by_lem (plan_numbers p)

  pub planned_count_lem : (new filters ram : List ℕ) → length (planned new filters ram) ≡ planned_count
  planned_count_lem new filters ram = simp (length-append, length_planned) (omega arith)

  pub whole_is : (new filters ram : List ℕ) → span (planned new filters ram) whole_of ≡ planned new filters ram
  whole_is new filters ram = span_all (planned new filters ram) planned_count (planned_count_lem new filters ram)

-- ---- where a plan fits

-- the next set and the erases
pub record BuildFits (u : ℕ) (s : Summary) (main spare : ℕ) : Type 0 where
  pub set : NextFits u s.next s.set.first s.set.count main spare
  pub l1 : WipeFits u s.l1 main spare
  pub old : WipeFits u s.old main spare

-- an index, with so many bytes of new fourths
pub record SummaryFits (u : ℕ) (s : Summary) (fourths main spare ram : ℕ) : Type 0 where
  pub flush : FlushFits u (flush_of s) fourths main spare ram
  pub flush_count : s.flush.count ≤ sectors_per_page
  pub build : BuildFits u s main spare

pub record PlanFits (p : Plan) (main spare ram : ℕ) : Type 0 where
  pub some : 0 < p.chip.unit
  pub da : PageFits p.chip.unit (da_page p) main spare ram
  pub ra : PageFits p.chip.unit (ra_page p) main spare ram
  pub ka : PageFits p.chip.unit (ka_page p) main spare ram
  pub da_count : p.da.count ≤ sectors_per_page
  pub ra_count : p.ra.count ≤ sectors_per_page
  pub ka_count : p.ka.count ≤ sectors_per_page
  pub da_index : SummaryFits p.chip.unit p.da_index entry_filter_at main spare ram
  pub ka_index : SummaryFits p.chip.unit p.ka_index (filters_length - entry_filter_at) main spare ram

-- the marks of the sectors that it programs
pub record IndexSpareFits (s : Summary) (spare : ℕ) : Type 0 where
  pub flush : s.flush.first + s.flush.count * flushes_per_round < spare + flushes_per_round
  pub set : s.set.first + s.set.count ≤ spare

pub record SpareFits (p : Plan) (spare : ℕ) : Type 0 where
  pub da : p.da.first + p.da.count ≤ spare
  pub ra : p.ra.first + p.ra.count ≤ spare
  pub ka : p.ka.first + p.ka.count ≤ spare
  pub da_index : IndexSpareFits p.da_index spare
  pub ka_index : IndexSpareFits p.ka_index spare

-- where a plan fits, its sectors have marks, and there are not too many operations
index_spare_fits : (u : ℕ) (s : Summary) (fourths main spare ram : ℕ) → SummaryFits u s fourths main spare ram → IndexSpareFits s spare
index_spare_fits u s fourths main spare ram F = record {
  flush = omega (arith, F.flush.in_spare, F.flush_count);
  set = F.build.set.in_spare;
}

pub spare_fits : (p : Plan) (main spare ram : ℕ) → PlanFits p main spare ram → SpareFits p spare
spare_fits p main spare ram F = record {
  da = omega (arith, F.da.in_spare, F.da_count);
  ra = omega (arith, F.ra.in_spare, F.ra_count);
  ka = omega (arith, F.ka.in_spare, F.ka_count);
  da_index = index_spare_fits _ _ _ _ _ _ F.da_index;
  ka_index = index_spare_fits _ _ _ _ _ _ F.ka_index;
}

summary_fits : (u : ℕ) (s : Summary) (fourths main spare ram : ℕ) → SummaryFits u s fourths main spare ram → spare < 2 ^ 64
    → summary_count s < 2 ^ 62
summary_fits u s fourths main spare ram F h =
    let N = F.build.set in
    let b = blocks_fit u N.unit.0 N.unit.1.power (s.next.rounds + 1) (omega (arith, N.rounds)) in
    let k : s.set.count ≤ 8192 = omega (arith, b, N.sectors, N.unit.1.most) in
    let l : s.l1.count * 64 ≤ spare = omega (arith, F.build.l1.in_spare) in
    let o : s.old.count * 64 ≤ spare = omega (arith, F.build.old.in_spare) in
    omega (arith, k, l, o, h, F.flush_count)

module _ (p : Plan) (main spare ram : ℕ) (F : PlanFits p main spare ram) (h : spare < 2 ^ 64) where
  pub deletion_fits : deletion_count p < 2 ^ 63
  deletion_fits = omega (arith, summary_fits _ _ _ _ _ _ F.da_index h, F.da_count)

  pub count_fits : planned_count p < 2 ^ 64
  count_fits = omega (arith, deletion_fits, summary_fits _ _ _ _ _ _ F.ka_index h, F.ra_count, F.ka_count)

-- ---- the parts of a run, in order, are the run

-- nothing is done where the run ends before
pub none_run : (u : ℕ) (xs : List Planned) (s : Span) (y : Flash) → s.to ≡ 0 → y ≡ done u (span xs s) y
none_run u xs s y e = ap (λ (l : List Planned). done u l y) (sym (span_none xs s e))

-- the next set and the erases; the flush and what is built
module _ (u : ℕ) (x : SummaryNumbers) (s s₂ : Span) (c : Flash) where
  pub build_run_by : (s₃ r₁ r₂ r₃ : Span) {c₁ c₂ c₃ : Flash} → s₂ ≡ behind s x.set.count → s₃ ≡ behind s₂ x.l1.count
      → r₁ ≡ among s x.set.count → r₂ ≡ among s₂ x.l1.count → r₃ ≡ among s₃ x.old.count
      → c₁ ≡ run_of u (set_from u x.set.first x.index x.full_sets x.rounds) r₁ c → c₂ ≡ run_of u (wiped x.l1.first) r₂ c₁
      → c₃ ≡ run_of u (wiped x.old.first) r₃ c₂ → c₃ ≡ done u (span (build_by u x) s) c
  build_run_by s₃ r₁ r₂ r₃ e₂ e₃ a₁ a₂ a₃ d₁ d₂ d₃ =
      let f₂ : ℕ → Planned = wiped x.l1.first in
      let f₃ : ℕ → Planned = wiped x.old.first in
      first_run u (set_from u x.set.first x.index x.full_sets x.rounds) x.set.count
      (planned_from f₂ 0 x.l1.count ++ planned_from f₃ 0 x.old.count) s r₁ s₂ c a₁ e₂ d₁
      (first_run u f₂ x.l1.count (planned_from f₃ 0 x.old.count) s₂ r₂ s₃ _ a₂ e₃ d₂ (last_run u f₃ x.old.count s₃ r₃ _ a₃ d₃))

  pub index_run_by : (fourths ram : List ℕ) (r : Span) {c₁ c₂ : Flash} → s₂ ≡ behind s x.flush.count → r ≡ among s x.flush.count
      → c₁ ≡ run_of u (flushed u (flush_by x) fourths ram) r c → c₂ ≡ done u (span (build_by u x) s₂) c₁
      → c₂ ≡ done u (span (summary_by u x fourths ram) s) c
  index_run_by fourths ram r e a d₁ d₂ =
      first_run u (flushed u (flush_by x) fourths ram) x.flush.count (build_by u x) s r s₂ c a e d₁ d₂

-- the page of deletions and its index, the pages of the record and its index, both; `da`, `ra` and `ka` are what code computes
module _ (p : PlanNumbers) (new filters ram : List ℕ) (s s₂ : Span) (c : Flash) where
  pub deletion_run_by : (da : ℕ) (r : Span) {c₁ c₂ : Flash} → da ≡ da_ram p.unit
      → s₂ ≡ behind s p.da.count → r ≡ among s p.da.count
      → c₁ ≡ run_of p.unit (filled_page p.unit (record { sector = p.da.first; at = da }) (deletion_in new) ram) r c
      → c₂ ≡ done p.unit (span (summary_by p.unit p.da_index (deletion_fourths filters) ram) s₂) c₁
      → c₂ ≡ done p.unit (span (deletion_by p new filters ram) s) c
  deletion_run_by da r da_is e a d₁ d₂ =
      let u : ℕ = p.unit in
      first_run u (filled_page u (da_page_by p) (deletion_in new) ram) p.da.count (summary_by u p.da_index (deletion_fourths filters) ram)
      s r s₂ c a e (rw da_is at d₁) d₂

  pub record_run_by : (ra ka : ℕ) (s₃ r₁ r₂ : Span) {c₁ c₂ c₃ : Flash} → ra ≡ ra_ram p.unit → ka ≡ ka_ram p.unit
      → s₂ ≡ behind s p.ra.count → s₃ ≡ behind s₂ p.ka.count → r₁ ≡ among s p.ra.count → r₂ ≡ among s₂ p.ka.count
      → c₁ ≡ run_of p.unit (filled_page p.unit (record { sector = p.ra.first; at = ra }) (record_in new) ram) r₁ c
      → c₂ ≡ run_of p.unit (filled_page p.unit (record { sector = p.ka.first; at = ka }) (entry_in new) ram) r₂ c₁
      → c₃ ≡ done p.unit (span (summary_by p.unit p.ka_index (entry_fourths filters) ram) s₃) c₂
      → c₃ ≡ done p.unit (span (record_by p new filters ram) s) c
  record_run_by ra ka s₃ r₁ r₂ ra_is ka_is e₂ e₃ a₁ a₂ d₁ d₂ d₃ =
      let u : ℕ = p.unit in
      let f₂ : ℕ → Planned = filled_page u (ka_page_by p) (entry_in new) ram in
      let last : List Planned = summary_by u p.ka_index (entry_fourths filters) ram in
      first_run u (filled_page u (ra_page_by p) (record_in new) ram) p.ra.count (planned_from f₂ 0 p.ka.count ++ last)
      s r₁ s₂ c a₁ e₂ (rw ra_is at d₁) (first_run u f₂ p.ka.count last s₂ r₂ s₃ _ a₂ e₃ (rw ka_is at d₂) d₃)

  pub whole_run_by : (r : Span) {c₁ c₂ : Flash} → s₂ ≡ behind s (deletion_count_by p) → r ≡ among s (deletion_count_by p)
      → c₁ ≡ done p.unit (span (deletion_by p new filters ram) r) c
      → c₂ ≡ done p.unit (span (record_by p new filters ram) s₂) c₁
      → c₂ ≡ done p.unit (span (planned_by p new filters ram) s) c
  whole_run_by r e a d₁ d₂ =
      let u : ℕ = p.unit in
      let n = deletion_count_by_lem p new filters ram in
      both_run u (deletion_by p new filters ram) (record_by p new filters ram) (deletion_count_by p) s s₂ c n e
      (d₁ ∙ ap (λ (l : List Planned). done u l c) (span_among (deletion_by p new filters ram) (deletion_count_by p) s r n a)) d₂

-- ---- those of the code's plans

module _ (u : ℕ) (x : Summary) (s s₂ : Span) (c : Flash) where
  pub build_run : (s₃ r₁ r₂ r₃ : Span) {c₁ c₂ c₃ : Flash} → s₂ ≡ behind s x.set.count → s₃ ≡ behind s₂ x.l1.count
      → r₁ ≡ among s x.set.count → r₂ ≡ among s₂ x.l1.count → r₃ ≡ among s₃ x.old.count
      → c₁ ≡ run_of u (next_set u x.next x.set.first) r₁ c → c₂ ≡ run_of u (wiped x.l1.first) r₂ c₁
      → c₃ ≡ run_of u (wiped x.old.first) r₃ c₂ → c₃ ≡ done u (span (build_of u x) s) c
  build_run = build_run_by u (summary_numbers x) s s₂ c

  pub index_run : (fourths ram : List ℕ) (r : Span) {c₁ c₂ : Flash} → s₂ ≡ behind s x.flush.count → r ≡ among s x.flush.count
      → c₁ ≡ run_of u (flushed u (flush_of x) fourths ram) r c → c₂ ≡ done u (span (build_of u x) s₂) c₁
      → c₂ ≡ done u (span (summary_of u x fourths ram) s) c
  index_run = index_run_by u (summary_numbers x) s s₂ c

module _ (p : Plan) (new filters ram : List ℕ) (s s₂ : Span) (c : Flash) where
  pub deletion_run : (da : ℕ) (r : Span) {c₁ c₂ : Flash} → da ≡ da_ram p.chip.unit
      → s₂ ≡ behind s p.da.count → r ≡ among s p.da.count
      → c₁ ≡ run_of p.chip.unit (filled_page p.chip.unit (record { sector = p.da.first; at = da }) (deletion_in new) ram) r c
      → c₂ ≡ done p.chip.unit (span (summary_of p.chip.unit p.da_index (deletion_fourths filters) ram) s₂) c₁
      → c₂ ≡ done p.chip.unit (span (deletion_of p new filters ram) s) c
  deletion_run = deletion_run_by (plan_numbers p) new filters ram s s₂ c

  pub record_run : (ra ka : ℕ) (s₃ r₁ r₂ : Span) {c₁ c₂ c₃ : Flash} → ra ≡ ra_ram p.chip.unit → ka ≡ ka_ram p.chip.unit
      → s₂ ≡ behind s p.ra.count → s₃ ≡ behind s₂ p.ka.count → r₁ ≡ among s p.ra.count → r₂ ≡ among s₂ p.ka.count
      → c₁ ≡ run_of p.chip.unit (filled_page p.chip.unit (record { sector = p.ra.first; at = ra }) (record_in new) ram) r₁ c
      → c₂ ≡ run_of p.chip.unit (filled_page p.chip.unit (record { sector = p.ka.first; at = ka }) (entry_in new) ram) r₂ c₁
      → c₃ ≡ done p.chip.unit (span (summary_of p.chip.unit p.ka_index (entry_fourths filters) ram) s₃) c₂
      → c₃ ≡ done p.chip.unit (span (record_of p new filters ram) s) c
  record_run = record_run_by (plan_numbers p) new filters ram s s₂ c

  pub whole_run : (r : Span) {c₁ c₂ : Flash} → s₂ ≡ behind s (deletion_count p) → r ≡ among s (deletion_count p)
      → c₁ ≡ done p.chip.unit (span (deletion_of p new filters ram) r) c
      → c₂ ≡ done p.chip.unit (span (record_of p new filters ram) s₂) c₁
      → c₂ ≡ done p.chip.unit (span (planned p new filters ram) s) c
  whole_run = whole_run_by (plan_numbers p) new filters ram s s₂ c
