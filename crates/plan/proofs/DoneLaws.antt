-- How many operations of a plan count as done: by its numbers alone. Document 02, request 8.
use Rattle.std.proofs.Math.Path.{◌≡◌, refl, sym}
use Rattle.std.proofs.Common.{ap, ◌∙◌}
use Rattle.std.specs.Prelude.{false, length, get_or}
use Rattle.std.proofs.Math.Bool.{and-true}
use mathlib.Core.List.{List, [], ◌∷◌, ◌++◌}
use Prim.Native.Nat.{ℕ, zero, suc, ◌+◌, ◌*◌, ◌≤◌, ◌<◌}
use native.Mathlib.Omega.{arith}
use Rattle.memory.specs.Cases.{either, bool?}
use Rattle.layout.specs.Flash.{fresh, Planned, known, made, planned_from}
use Rattle.layout.specs.Index.{flushes_per_round}
use Rattle.layout.specs.Later.{fresh_plan}
use Rattle.laws.specs.Done.{done_count, done_none, done_both, done_down, wipes_fresh}
use Rattle.flash.specs.Fresh.{last_programmed}
use Rattle.plan.specs.declared.Summary.{Summary}
use Rattle.plan.specs.declared.Plan.{Plan}
use Rattle.plan.specs.Spans.{length_planned}
use Rattle.plan.specs.Numbers.{SummaryNumbers, PlanNumbers, plan_numbers}
use Rattle.plan.specs.Segments.{set_from, filled_page, flushed, wiped}
use Rattle.plan.specs.Plans.{deletion_in, record_in, entry_in, deletion_fourths, entry_fourths}
use Rattle.plan.specs.Plans.{da_page_by, ra_page_by, ka_page_by, flush_by, build_by, summary_by, deletion_by, record_by, planned_by}
use Rattle.plan.specs.Plans.{deletion_count_by, deletion_count_by_lem, planned, summary_count, deletion_count}
use Rattle.plan.specs.Done.{done_of, index_done_by, deletion_done_by, record_done_by, plan_done_by}
use Rattle.plan.specs.Done.{index_done, deletion_done, record_done, plan_done}

-- ---- as code finds it; `x` and `y` are what code computes

pub later : (x n a b : ℕ) → x ≡ b → 0 < x → n + x ≡ done_of n a b
later x n a zero e h = absurd (omega arith)
later x n a (suc b) e h = ap (λ (k : ℕ). n + k) e

pub earlier : (x y n a b : ℕ) → x ≡ b → x ≤ 0 → y ≡ a → y ≡ done_of n a b
earlier x y n a zero e h d = d
earlier x y n a (suc b) e h d = absurd (omega arith)

pub done_of_le : (n a b m : ℕ) → a ≤ n → b ≤ m → done_of n a b ≤ n + m
done_of_le n a zero m h k = omega arith
done_of_le n a (suc b) m h k = omega arith

pub last_le : (spare : List ℕ) (d s k : ℕ) → last_programmed spare d s k ≤ k
unfolding last_programmed
last_le spare d s zero = omega arith
last_le spare d s (suc k) =
    either (bool? (fresh (get_or spare (s + k * d) 0))) (λ q. rw q (omega (arith, last_le spare d s k))) (λ q. rw q (omega arith))

pub index_done_le : (s : Summary) (spare : List ℕ) → index_done s spare ≤ s.flush.count + s.set.count
index_done_le s spare =
    done_of_le s.flush.count _ _ s.set.count (last_le spare 16 s.flush.first s.flush.count)
    (last_le spare 1 s.set.first s.set.count)

pub record_done_le : (spare : List ℕ) (p : Plan) → record_done spare p ≤ p.ra.count + (p.ka.count + summary_count p.ka_index)
record_done_le spare p =
    let i : index_done p.ka_index spare ≤ summary_count p.ka_index = omega (arith, index_done_le p.ka_index spare) in
    done_of_le p.ra.count _ _ (p.ka.count + summary_count p.ka_index) (last_le spare 1 p.ra.first p.ra.count)
    (done_of_le p.ka.count _ _ (summary_count p.ka_index) (last_le spare 1 p.ka.first p.ka.count) i)

-- ---- the count by the numbers is that of the operations that they stand for, whatever the bytes

module _ (spare : List ℕ) where
  -- some of a list counts unless all of it is fresh
  done_some : (ps : List Planned) → fresh_plan spare ps ≡ false → 0 < done_count spare ps
  unfolding fresh_plan done_count
  done_some [] q = absurd (let z : ◌≡◌ {A = ℕ} 0 1 = cc in omega arith)
  done_some (p ∷ ps) q = rw q (omega arith)

  two_done : (xs ys : List Planned) (n a b : ℕ) → length xs ≡ n → done_count spare xs ≡ a → done_count spare ys ≡ b
      → done_count spare (xs ++ ys) ≡ done_of n a b
  two_done xs ys n a b e d f =
      done_both spare xs ys
      ∙ either (bool? (fresh_plan spare ys))
      (λ q. rw q (earlier (done_count spare ys) (done_count spare xs) n a b f (omega (arith, done_none spare ys q)) d))
      (λ q. rw (q, e) (later (done_count spare ys) n a b f (done_some ys q)))

  -- a segment that programs, one that erases
  segment_done : (f : ℕ → Planned) (d s : ℕ) → ((j : ℕ) → fresh_plan spare (f j ∷ []) ≡ fresh (get_or spare (s + j * d) 0))
      → (k : ℕ) → done_count spare (planned_from f 0 k) ≡ last_programmed spare d s k
  unfolding last_programmed done_count
  segment_done f d s h zero = refl
  segment_done f d s h (suc k) =
      let e : 0 + k ≡ k = omega arith in
      (rw e at (done_down spare f 0 k)) ∙ rw (h k, segment_done f d s h k)

  wipes_done : (b k : ℕ) → done_count spare (planned_from (wiped b) 0 k) ≡ 0
  wipes_done b k = done_none spare (planned_from (wiped b) 0 k) (wipes_fresh spare (λ j. b + j) 0 k)

  known_one : (s : ℕ) (bytes : List ℕ) → fresh_plan spare (known s bytes ∷ []) ≡ fresh (get_or spare s 0)
  unfolding fresh_plan
  known_one s bytes = and-true (fresh (get_or spare s 0))

  made_one : (s : ℕ) (bytes : List ℕ → List ℕ) → fresh_plan spare (made s bytes ∷ []) ≡ fresh (get_or spare s 0)
  unfolding fresh_plan
  made_one s bytes = and-true (fresh (get_or spare s 0))

  -- a page that an item fills; an index
  page_done : (u s at : ℕ) (item ram : List ℕ) (n : ℕ)
      → done_count spare (planned_from (filled_page u (record { sector = s; at = at }) item ram) 0 n) ≡ last_programmed spare 1 s n
  page_done u s at item ram n =
      segment_done (filled_page u (record { sector = s; at = at }) item ram) 1 s
      (λ j. let e : s + j * 1 ≡ s + j = omega arith in rw e (known_one (s + j) _)) n

  module _ (u : ℕ) (x : SummaryNumbers) where
    flush_done : (fourths ram : List ℕ)
        → done_count spare (planned_from (flushed u (flush_by x) fourths ram) 0 x.flush.count)
        ≡ last_programmed spare flushes_per_round x.flush.first x.flush.count
    flush_done fourths ram =
        segment_done (flushed u (flush_by x) fourths ram) 16 x.flush.first (λ j. known_one (x.flush.first + j * 16) _)
        x.flush.count

    set_done : done_count spare (planned_from (set_from u x.set.first x.index x.full_sets x.rounds) 0 x.set.count)
        ≡ last_programmed spare 1 x.set.first x.set.count
    set_done =
        segment_done (set_from u x.set.first x.index x.full_sets x.rounds) 1 x.set.first
        (λ j. let e : x.set.first + j * 1 ≡ x.set.first + j = omega arith in rw e (made_one (x.set.first + j) _)) x.set.count

    build_done : done_count spare (build_by u x) ≡ last_programmed spare 1 x.set.first x.set.count
    build_done =
        two_done (planned_from (set_from u x.set.first x.index x.full_sets x.rounds) 0 x.set.count)
        (planned_from (wiped x.l1.first) 0 x.l1.count ++ planned_from (wiped x.old.first) 0 x.old.count)
        x.set.count _ 0 (length_planned _ 0 x.set.count) set_done
        (two_done (planned_from (wiped x.l1.first) 0 x.l1.count) (planned_from (wiped x.old.first) 0 x.old.count)
        x.l1.count 0 0 (length_planned _ 0 x.l1.count) (wipes_done x.l1.first x.l1.count)
        (wipes_done x.old.first x.old.count))

    index_done_lem : (fourths ram : List ℕ) → done_count spare (summary_by u x fourths ram) ≡ index_done_by x spare
    index_done_lem fourths ram =
        two_done (planned_from (flushed u (flush_by x) fourths ram) 0 x.flush.count) (build_by u x) x.flush.count _ _
        (length_planned _ 0 x.flush.count) (flush_done fourths ram) build_done

module _ (spare : List ℕ) (p : PlanNumbers) (new filters ram : List ℕ) where
  deletion_done_lem : done_count spare (deletion_by p new filters ram) ≡ deletion_done_by spare p
  deletion_done_lem =
      two_done spare (planned_from (filled_page p.unit (da_page_by p) (deletion_in new) ram) 0 p.da.count)
      (summary_by p.unit p.da_index (deletion_fourths filters) ram) p.da.count _ _ (length_planned _ 0 p.da.count)
      (page_done spare p.unit p.da.first (da_page_by p).at (deletion_in new) ram p.da.count)
      (index_done_lem spare p.unit p.da_index (deletion_fourths filters) ram)

  record_done_lem : done_count spare (record_by p new filters ram) ≡ record_done_by spare p
  record_done_lem =
      two_done spare (planned_from (filled_page p.unit (ra_page_by p) (record_in new) ram) 0 p.ra.count)
      (planned_from (filled_page p.unit (ka_page_by p) (entry_in new) ram) 0 p.ka.count
      ++ summary_by p.unit p.ka_index (entry_fourths filters) ram) p.ra.count _ _ (length_planned _ 0 p.ra.count)
      (page_done spare p.unit p.ra.first (ra_page_by p).at (record_in new) ram p.ra.count)
      (two_done spare (planned_from (filled_page p.unit (ka_page_by p) (entry_in new) ram) 0 p.ka.count)
      (summary_by p.unit p.ka_index (entry_fourths filters) ram) p.ka.count _ _ (length_planned _ 0 p.ka.count)
      (page_done spare p.unit p.ka.first (ka_page_by p).at (entry_in new) ram p.ka.count)
      (index_done_lem spare p.unit p.ka_index (entry_fourths filters) ram))

  pub plan_done_by_lem : plan_done_by spare p ≡ done_count spare (planned_by p new filters ram)
  plan_done_by_lem =
      sym (two_done spare (deletion_by p new filters ram) (record_by p new filters ram) (deletion_count_by p) _ _
      (deletion_count_by_lem p new filters ram) deletion_done_lem record_done_lem)

-- ---- so is that of the code's plan

module _ (spare : List ℕ) (p : Plan) (new filters ram : List ℕ) where
  pub plan_done_lem : plan_done spare p ≡ done_count spare (planned p new filters ram)
  unfolding plan_done
  plan_done_lem = plan_done_by_lem spare (plan_numbers p) new filters ram

-- what code computes
pub plan_done_is : (spare : List ℕ) (p : Plan) (x : ℕ) → x ≡ done_of (deletion_count p) (deletion_done spare p) (record_done spare p)
    → (new filters ram : List ℕ) → x ≡ done_count spare (planned p new filters ram)
unfolding plan_done
plan_done_is spare p x e new filters ram = e ∙ plan_done_lem spare p new filters ram
