-- The lists that the plans stand for are the layout's, for any geometry of the layout.
use Rattle.std.specs.Prelude.{◌≡◌, refl, Bool, true, false, cond, ℕ, ◌+◌, ◌-◌, ◌*◌, ◌/◌, ◌%◌, ◌≤◌, ◌<◌, eqb}
use Rattle.std.proofs.Common.{sym, ◌∙◌, arith}
use Rattle.std.proofs.Math.Path.{ap}
use mathlib.Core.List.{List, [], ◌++◌, append-nil}
use Rattle.std.proofs.Math.ListN.{length}
use borrow.Author.Tests.{eqb-true}
use Rattle.memory.specs.Booleans.{cond_pos, cond_neg}
use Rattle.memory.specs.Lists.{write}
use Rattle.layout.specs.Keys.{Key}
use Rattle.layout.specs.Geometry.{Geometry, sector, page, fourth_size, ram_size}
use Rattle.layout.specs.Flash.{Planned, planned_from}
use Rattle.layout.specs.Hash.{Family}
use Rattle.layout.specs.Items.{Area, Ra, KA, DA, put, fills, item_plan, entry_bytes, deletion_bytes}
use Rattle.layout.specs.Index.{Index, in_ska, in_l1, in_set, in_full, with_filter, build_plan, flush_and_build, filter_plan, filter_ram}
use Rattle.layout.specs.Calls.{key_index, key_filters, new_filter, summarized, insertion_plan}
use Rattle.layout.specs.Calls.{deletion_index, deletion_filters, new_half, first_half, second_half, deletion_plan}
use Rattle.laws.specs.ItemLaws.{length_entry, length_deletion}
use Rattle.laws.specs.SetLaws.{first_of_pair}
use Rattle.filter.specs.Fourths.{FourthsOf, with_fourths, one_filter, two_filters}
use Rattle.plan.specs.Numbers.{SummaryNumbers}
use Rattle.plan.specs.Segments.{page_from, with_item, filled_page, flush_from}
use Rattle.plan.specs.Plans.{deletion_in, record_in, entry_in, deletion_fourths, entry_fourths, summary_by, deletion_by, planned_by}
use Rattle.planning.specs.LayoutNumbers.{page_of, summary_at, by_summary, deletion_summary, entry_summary}
use Rattle.planning.specs.LayoutNumbers.{deletion_numbers, insertion_numbers, update_numbers}

-- ---- a page that item n fills

-- an item over the end of its page
abbrev page_plan : ℕ → Area → ℕ → List ℕ → List ℕ → List Planned
page_plan u a n ram item =
    planned_from (filled_page u (record { sector = (page_of a n).first; at = a.ram }) item ram) 0 (page_of a n).count

module _ (u : ℕ) (a : Area) (n : ℕ) (item ram : List ℕ) (whole : a.per_page * a.size ≡ page u) (size : length item ≡ a.size) where
  -- the item that fills its page lies over the page's end
  item_last : fills a n ≡ true → with_item u a.ram item ram ≡ put a n item ram
  unfolding put
  item_last full =
      let e : n % a.per_page + 1 ≡ a.per_page = eqb-true (n % a.per_page + 1) a.per_page full in
      let m : n % a.per_page * a.size + a.size ≡ page u = omega (arith, whole, ap (λ (x : ℕ). x * a.size) e) in
      let w : a.ram + (page u - length item) ≡ a.ram + n % a.per_page * a.size = omega (arith, m, size) in
      ap (λ (x : ℕ). write ram x item) w

  abbrev four : List ℕ → List Planned
  four r = planned_from (page_from u (page_of a n).first a.ram r) 0 4

  page_planned : page_plan u a n ram item ≡ item_plan u a n item ram
  page_planned = by_fill (fills a n) refl
    where
      by_fill : (b : Bool) → fills a n ≡ b
          → planned_from (page_from u (page_of a n).first a.ram (with_item u a.ram item ram)) 0 (cond b 4 0)
          ≡ cond b (four (put a n item ram)) []
      by_fill false q = refl
      by_fill true q = ap four (item_last q)

-- ---- what new filters add to an index

module _ (u piece : ℕ) (ix : Index) (F : ℕ) (fourths ram new : List ℕ) where
  -- `new` is the RAM with the new filters, of which F is the last
  abbrev Joined : Type 0
  Joined = eqb (in_ska F + 1) 8 ≡ true → with_fourths u piece (ix.ska + (sector u - piece)) fourths ram ≡ new

  abbrev flush_plan : List ℕ → List Planned
  flush_plan r = planned_from (flush_from u (ix.first * 64 + in_l1 F) ix.ska r) 0 4

  abbrev set_plan : List Planned
  set_plan = build_plan u ix (in_full u F) (in_set u F)

  flush_first : eqb (in_ska F + 1) 8 ≡ true → filter_plan u ix F new ≡ flush_plan new ++ cond (eqb (in_l1 F + 1) 16) set_plan []
  unfolding flush_and_build
  flush_first eight = cond_pos (eqb (in_ska F + 1) 8) (flush_and_build u ix F new) [] eight

  -- of what filter F adds
  pub summary_planned : Joined → summary_by u (summary_at u piece ix F) fourths ram ≡ filter_plan u ix F new
  summary_planned joined =
      by_summary u piece ix F (λ s. summary_by u s fourths ram ≡ filter_plan u ix F new)
      (λ eight. sym (cond_neg (eqb (in_ska F + 1) 8) (flush_and_build u ix F new) [] eight))
      (λ eight last.
      ap (λ (r : List ℕ). flush_plan r ++ []) (joined eight)
      ∙ sym (flush_first eight ∙ ap (λ (l : List Planned). flush_plan new ++ l) (cond_neg (eqb (in_l1 F + 1) 16) set_plan [] last)))
      (λ eight last.
      ap (λ (r : List ℕ). flush_plan r ++ set_plan) (joined eight)
      ∙ sym (flush_first eight ∙ ap (λ (l : List Planned). flush_plan new ++ l) (cond_pos (eqb (in_l1 F + 1) 16) set_plan [] last)))

-- a page that is not full adds nothing
by_page : (u : ℕ) (b : Bool) (s none : SummaryNumbers) (fourths ram : List ℕ) (plan : List Planned) → summary_by u none fourths ram ≡ []
    → (b ≡ true → summary_by u s fourths ram ≡ plan) → summary_by u (cond b s none) fourths ram ≡ cond b plan []
by_page u true s none fourths ram plan e f = f refl
by_page u false s none fourths ram plan e f = e

-- ---- a deletion

-- the filter before the eighth is the seventh
seventh : (F : ℕ) → in_ska (F + 1) + 1 ≡ 8 → 6 ≡ in_ska F
seventh F e = omega (arith, e)

module _ (h : Family) (g : Geometry) (d j : ℕ) (new filters ram : List ℕ) (pos : 0 < g.u) (long : ram_size g ≤ length ram)
    (number_is : deletion_in new ≡ deletion_bytes j)
    (filters_are : fills (DA g) d ≡ true → FourthsOf g.u 2 (λ i. new_half h g d j i ram) (deletion_fourths filters)) where
  abbrev F : ℕ
  F = deletion_filters g d

  abbrev ix : Index
  ix = deletion_index g

  abbrev half : ℕ → ℕ → Bool
  half i = new_half h g d j i ram

  -- the first filter of the page flushes nothing
  abbrev first_plan : List Planned
  first_plan = filter_plan g.u ix F (first_half h g d j ram ram)

  first_none : first_plan ≡ []
  first_none = cond_neg (eqb (in_ska F + 1) 8) (flush_and_build g.u ix F (first_half h g d j ram ram)) [] (first_of_pair (d / (16 * g.u)))

  first_stays : filter_ram g.u ix F (first_half h g d j ram ram) ≡ first_half h g d j ram ram
  first_stays = cond_neg (eqb (in_ska F + 1) 8) _ (first_half h g d j ram ram) (first_of_pair (d / (16 * g.u)))

  -- and the second is flushed with both
  both_joined : fills (DA g) d ≡ true → eqb (in_ska (F + 1) + 1) 8 ≡ true
      → with_fourths g.u (2 * fourth_size g.u) (ix.ska + (sector g.u - 2 * fourth_size g.u)) (deletion_fourths filters) ram
      ≡ second_half h g d j ram ram
  both_joined full eight =
      let seven : 7 ≡ in_ska (F + 1) = omega (arith, eqb-true (in_ska (F + 1) + 1) 8 eight) in
      let six : 6 ≡ in_ska F = seventh F (eqb-true (in_ska (F + 1) + 1) 8 eight) in
      let at : ix.ska + (sector g.u - 2 * fourth_size g.u) ≡ ix.ska + 6 * fourth_size g.u = omega arith in
      let joined = two_filters g.u (2 * fourth_size g.u) ix 6 half (deletion_fourths filters) ram refl pos (omega arith)
      (omega (arith, long)) (filters_are full) in
      ap (λ (a : ℕ). with_fourths g.u (2 * fourth_size g.u) a (deletion_fourths filters) ram) at ∙ joined
      ∙ (λ q. with_filter g.u ix (seven q) (half 1) (with_filter g.u ix (six q) (half 0) ram))
      ∙ sym (ap (with_filter g.u ix (in_ska (F + 1)) (half 1)) first_stays)

  filters_planned : summary_by g.u (deletion_summary g d) (deletion_fourths filters) ram
      ≡ cond (fills (DA g) d) (first_plan ++ filter_plan g.u ix (F + 1) (second_half h g d j ram ram)) []
  filters_planned =
      by_page g.u (fills (DA g) d) _ _ (deletion_fourths filters) ram _ refl
      (λ full.
      summary_planned g.u (2 * fourth_size g.u) ix (F + 1) (deletion_fourths filters) ram (second_half h g d j ram ram)
      (both_joined full)
      ∙ sym (ap (λ (l : List Planned). l ++ filter_plan g.u ix (F + 1) (second_half h g d j ram ram)) first_none))

  -- its page, and the index over the deletions
  deletion_part : deletion_by (deletion_numbers g d) new filters ram ≡ deletion_plan h g d j ram
  unfolding deletion_plan
  deletion_part =
      let item = ap (page_plan g.u (DA g) d ram) number_is
      ∙ page_planned g.u (DA g) d (deletion_bytes j) ram (omega arith) (length_deletion j) in
      (λ q. item q ++ filters_planned q)

  pub deletion_planned : planned_by (deletion_numbers g d) new filters ram ≡ deletion_plan h g d j ram
  deletion_planned = append-nil (deletion_by (deletion_numbers g d) new filters ram) ∙ deletion_part

-- ---- a record and its entry

module _ (h : Family) (g : Geometry) (n : ℕ) (key : Key) (bytes new filters ram : List ℕ) (size : length bytes ≡ 16)
    (record_is_lem : record_in new ≡ bytes) (entry_is : entry_in new ≡ entry_bytes key n)
    (filter_is : fills (KA g) n ≡ true → FourthsOf g.u 1 (λ i. new_filter h g n key ram) (entry_fourths filters)) where
  abbrev K : ℕ
  K = key_filters g n

  one_joined : fills (KA g) n ≡ true → eqb (in_ska K + 1) 8 ≡ true
      → with_fourths g.u (fourth_size g.u) ((key_index g).ska + (sector g.u - fourth_size g.u)) (entry_fourths filters) ram
      ≡ summarized h g n key ram ram
  one_joined full eight =
      let seven : 7 ≡ in_ska K = omega (arith, eqb-true (in_ska K + 1) 8 eight) in
      let at : (key_index g).ska + (sector g.u - fourth_size g.u) ≡ (key_index g).ska + 7 * fourth_size g.u = omega arith in
      ap (λ (a : ℕ). with_fourths g.u (fourth_size g.u) a (entry_fourths filters) ram) at
      ∙ one_filter g.u (fourth_size g.u) (key_index g) 7 (λ i. new_filter h g n key ram) (entry_fourths filters) ram refl (filter_is full)
      ∙ ap (λ (s : ℕ). with_filter g.u (key_index g) s (new_filter h g n key ram) ram) seven

  filter_planned : summary_by g.u (entry_summary g n) (entry_fourths filters) ram
      ≡ cond (fills (KA g) n) (filter_plan g.u (key_index g) K (summarized h g n key ram ram)) []
  filter_planned =
      by_page g.u (fills (KA g) n) _ _ (entry_fourths filters) ram _ refl
      (λ full.
      summary_planned g.u (fourth_size g.u) (key_index g) K (entry_fourths filters) ram (summarized h g n key ram ram) (one_joined full))

  record_planned : page_plan g.u (Ra g) n ram (record_in new) ≡ item_plan g.u (Ra g) n bytes ram
  record_planned = ap (page_plan g.u (Ra g) n ram) record_is_lem ∙ page_planned g.u (Ra g) n bytes ram (omega arith) size

  entry_planned : page_plan g.u (KA g) n ram (entry_in new) ≡ item_plan g.u (KA g) n (entry_bytes key n) ram
  entry_planned =
      ap (page_plan g.u (KA g) n ram) entry_is
      ∙ page_planned g.u (KA g) n (entry_bytes key n) ram (omega arith) (length_entry key n)

  pub insertion_planned : planned_by (insertion_numbers g n) new filters ram ≡ insertion_plan h g n key bytes ram
  unfolding insertion_plan
  insertion_planned q = record_planned q ++ (entry_planned q ++ filter_planned q)

  -- "An update is a deletion followed by an insertion, in one call"
  pub update_planned : (d j : ℕ) → 0 < g.u → ram_size g ≤ length ram → deletion_in new ≡ deletion_bytes j
      → (fills (DA g) d ≡ true → FourthsOf g.u 2 (λ i. new_half h g d j i ram) (deletion_fourths filters))
      → planned_by (update_numbers g d n) new filters ram ≡ deletion_plan h g d j ram ++ insertion_plan h g n key bytes ram
  update_planned d j pos long number_is filters_are =
      let part = deletion_part h g d j new filters ram pos long number_is filters_are in
      (λ q. part q ++ insertion_planned q)
