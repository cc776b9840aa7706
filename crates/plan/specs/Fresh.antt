-- Are the sectors fresh that a plan programs: by its numbers alone.
use Rattle.std.specs.Prelude.{◌≡◌, Bool, true, ◌&&◌, get_or}
use Rattle.std.proofs.Math.Path.{refl, sym, ap}
use Rattle.std.proofs.Common.{◌∙◌}
use Rattle.std.proofs.Math.Bool.{and_assoc, and-true}
use mathlib.Core.List.{List, [], ◌∷◌, ◌++◌}
use Prim.Native.Nat.{ℕ, zero, suc, ◌+◌, ◌*◌}
use native.Mathlib.Omega.{arith}
use Rattle.memory.specs.Lists.{tabulate}
use Rattle.layout.specs.Geometry.{sector}
use Rattle.layout.specs.Flash.{Flash, apply, fresh, all_fresh, Planned, known, made, wipe, planned_from, op_on, plan_ops}
use Rattle.layout.specs.Index.{flushes_per_round, set_byte}
use Rattle.flash.specs.Fresh.{fresh_run}
use Rattle.plan.specs.declared.Page.{Page}
use Rattle.plan.specs.declared.Summary.{Summary}
use Rattle.plan.specs.declared.Plan.{Plan}
use Rattle.plan.specs.Numbers.{SummaryNumbers, PlanNumbers, summary_numbers, plan_numbers}
use Rattle.plan.specs.Segments.{set_from, with_item, with_ends, filled_page, flushed, wiped}
use Rattle.plan.specs.Plans.{deletion_in, record_in, entry_in, deletion_fourths, entry_fourths}
use Rattle.plan.specs.Plans.{da_page_by, ra_page_by, ka_page_by, flush_by, summary_by, planned_by, planned}

-- those of an index
abbrev pub index_fresh_by : SummaryNumbers → List ℕ → Bool
index_fresh_by s spare = fresh_run spare flushes_per_round s.flush.first s.flush.count && fresh_run spare 1 s.set.first s.set.count

-- those of a plan
abbrev pub plan_fresh_by : List ℕ → PlanNumbers → Bool
plan_fresh_by spare p =
    fresh_run spare 1 p.da.first p.da.count
    && (index_fresh_by p.da_index spare
    && (fresh_run spare 1 p.ra.first p.ra.count
    && (fresh_run spare 1 p.ka.first p.ka.count && index_fresh_by p.ka_index spare)))

-- those of the code's
abbrev pub index_fresh : Summary → List ℕ → Bool
index_fresh s spare = index_fresh_by (summary_numbers s) spare

unfoldable pub plan_fresh : List ℕ → Plan → Bool
plan_fresh spare p = plan_fresh_by spare (plan_numbers p)

-- ---- the marks tell the same of a plan's operations, on whatever chip

module _ (spare : List ℕ) (u : ℕ) where
  -- what the operations of a list ask for
  abbrev asks : List Planned → Flash → Bool
  asks ps c = all_fresh spare (plan_ops u ps c)

  -- a list that asks the same on every chip
  abbrev Asks : List Planned → Bool → Type 0
  Asks ps b = (c : Flash) → asks ps c ≡ b

  both_ask : (xs ys : List Planned) (b : Bool) → Asks ys b → (c : Flash) → asks (xs ++ ys) c ≡ (asks xs c && b)
  unfolding all_fresh
  both_ask [] ys b h c = h c
  both_ask (known s bytes ∷ ps) ys b h c =
      ap (λ (t : Bool). fresh (get_or spare s 0) && t) (both_ask ps ys b h (apply u (op_on (known s bytes) c) c))
      ∙ sym (and_assoc (fresh (get_or spare s 0)) (asks ps (apply u (op_on (known s bytes) c) c)) b)
  both_ask (made s f ∷ ps) ys b h c =
      ap (λ (t : Bool). fresh (get_or spare s 0) && t) (both_ask ps ys b h (apply u (op_on (made s f) c) c))
      ∙ sym (and_assoc (fresh (get_or spare s 0)) (asks ps (apply u (op_on (made s f) c) c)) b)
  both_ask (wipe k ∷ ps) ys b h c = both_ask ps ys b h (apply u (op_on (wipe k) c) c)

  -- a segment asks for its run
  known_ask : (s d : ℕ) (f : ℕ → List ℕ) (i k : ℕ) → Asks (planned_from (λ j. known (s + j * d) (f j)) i k) (fresh_run spare d (s + i * d) k)
  unfolding all_fresh fresh_run
  known_ask s d f i zero c = refl
  known_ask s d f i (suc k) c =
      let e : s + suc i * d ≡ s + i * d + d = omega arith in
      ap (λ (t : Bool). fresh (get_or spare (s + i * d) 0) && t)
      (known_ask s d f (suc i) k (apply u (op_on (known (s + i * d) (f i)) c) c) ∙ ap (λ (m : ℕ). fresh_run spare d m k) e)

  row_ask : (s : ℕ) (f : ℕ → List ℕ) (i k : ℕ) → Asks (planned_from (λ j. known (s + j) (f j)) i k) (fresh_run spare 1 (s + i) k)
  unfolding all_fresh fresh_run
  row_ask s f i zero c = refl
  row_ask s f i (suc k) c =
      let e : s + suc i ≡ s + i + 1 = omega arith in
      ap (λ (t : Bool). fresh (get_or spare (s + i) 0) && t)
      (row_ask s f (suc i) k (apply u (op_on (known (s + i) (f i)) c) c) ∙ ap (λ (m : ℕ). fresh_run spare 1 m k) e)

  made_ask : (s : ℕ) (f : ℕ → List ℕ → List ℕ) (i k : ℕ) → Asks (planned_from (λ j. made (s + j) (f j)) i k) (fresh_run spare 1 (s + i) k)
  unfolding all_fresh fresh_run
  made_ask s f i zero c = refl
  made_ask s f i (suc k) c =
      let e : s + suc i ≡ s + i + 1 = omega arith in
      ap (λ (t : Bool). fresh (get_or spare (s + i) 0) && t)
      (made_ask s f (suc i) k (apply u (op_on (made (s + i) (f i)) c) c) ∙ ap (λ (m : ℕ). fresh_run spare 1 m k) e)

  wipes_ask : (b i k : ℕ) → Asks (planned_from (wiped b) i k) true
  unfolding all_fresh
  wipes_ask b i zero c = refl
  wipes_ask b i (suc k) c = wipes_ask b (suc i) k (apply u (op_on (wipe (b + i)) c) c)

  -- two lists in a row
  two_ask : (xs ys : List Planned) (a b : Bool) → Asks xs a → Asks ys b → Asks (xs ++ ys) (a && b)
  two_ask xs ys a b h k c = both_ask xs ys b k c ∙ ap (λ (t : Bool). t && b) (h c)

  -- two, and three
  five_ask : (A B C D E : List Planned) (a b c d e : Bool) → Asks A a → Asks B b → Asks C c → Asks D d → Asks E e
      → Asks ((A ++ B) ++ (C ++ (D ++ E))) (a && (b && (c && (d && e))))
  five_ask A B C D E a b c d e hA hB hC hD hE flash =
      two_ask (A ++ B) (C ++ (D ++ E)) (a && b) (c && (d && e)) (two_ask A B a b hA hB)
      (two_ask C (D ++ E) c (d && e) hC (two_ask D E d e hD hE)) flash
      ∙ and_assoc a b (c && (d && e))

  -- four, of which the last two erase
  four_ask : (F S L O : List Planned) (f s : Bool) → Asks F f → Asks S s → Asks L true → Asks O true → Asks (F ++ (S ++ (L ++ O))) (f && s)
  four_ask F S L O f s hF hS hL hO flash =
      two_ask F (S ++ (L ++ O)) f (s && (true && true)) hF (two_ask S (L ++ O) s (true && true) hS (two_ask L O true true hL hO)) flash
      ∙ ap (λ (t : Bool). f && t) (and-true s)

  -- the bytes of sector j
  abbrev bytes : ℕ → List ℕ → ℕ → List ℕ
  bytes at l j = tabulate (sector u) (λ y. get_or l (at + (j * sector u + y)) 0)

  page_ask : (q : Page) (item ram : List ℕ) (n : ℕ) → Asks (planned_from (filled_page u q item ram) 0 n) (fresh_run spare 1 q.sector n)
  page_ask q item ram n =
      let z : q.sector + 0 ≡ q.sector = omega arith in
      rw z at (row_ask q.sector (bytes q.at (with_item u q.at item ram)) 0 n)

  index_ask : (s : SummaryNumbers) (fourths ram : List ℕ) → Asks (summary_by u s fourths ram) (index_fresh_by s spare)
  index_ask s fourths ram =
      let y : s.flush.first + 0 * 16 ≡ s.flush.first = omega arith in
      let z : s.set.first + 0 ≡ s.set.first = omega arith in
      let made_of : ℕ → List ℕ → List ℕ
      = λ j main. tabulate (sector u) (set_byte u s.index main s.full_sets s.rounds j) in
      four_ask (planned_from (flushed u (flush_by s) fourths ram) 0 s.flush.count)
      (planned_from (set_from u s.set.first s.index s.full_sets s.rounds) 0 s.set.count)
      (planned_from (wiped s.l1.first) 0 s.l1.count)
      (planned_from (wiped s.old.first) 0 s.old.count)
      (fresh_run spare flushes_per_round s.flush.first s.flush.count)
      (fresh_run spare 1 s.set.first s.set.count)
      (rw y at (known_ask s.flush.first 16 (bytes s.index.ska (with_ends u (flush_by s) fourths ram)) 0 s.flush.count))
      (rw z at (made_ask s.set.first made_of 0 s.set.count))
      (wipes_ask s.l1.first 0 s.l1.count)
      (wipes_ask s.old.first 0 s.old.count)

-- the test by the numbers is that of the operations that they stand for, whatever the bytes and the chip
pub plan_fresh_by_lem : (spare : List ℕ) (p : PlanNumbers) (new filters ram : List ℕ) (c : Flash)
    → plan_fresh_by spare p ≡ all_fresh spare (plan_ops p.unit (planned_by p new filters ram) c)
plan_fresh_by_lem spare p new filters ram c =
    let u : ℕ = p.unit in
    sym
    (five_ask spare u
    (planned_from (filled_page u (da_page_by p) (deletion_in new) ram) 0 p.da.count)
    (summary_by u p.da_index (deletion_fourths filters) ram)
    (planned_from (filled_page u (ra_page_by p) (record_in new) ram) 0 p.ra.count)
    (planned_from (filled_page u (ka_page_by p) (entry_in new) ram) 0 p.ka.count)
    (summary_by u p.ka_index (entry_fourths filters) ram)
    (fresh_run spare 1 p.da.first p.da.count)
    (index_fresh_by p.da_index spare)
    (fresh_run spare 1 p.ra.first p.ra.count)
    (fresh_run spare 1 p.ka.first p.ka.count)
    (index_fresh_by p.ka_index spare)
    (page_ask spare u (da_page_by p) (deletion_in new) ram p.da.count)
    (index_ask spare u p.da_index (deletion_fourths filters) ram)
    (page_ask spare u (ra_page_by p) (record_in new) ram p.ra.count)
    (page_ask spare u (ka_page_by p) (entry_in new) ram p.ka.count)
    (index_ask spare u p.ka_index (entry_fourths filters) ram) c)

-- so is the test of the code's plan
pub plan_fresh_lem : (spare : List ℕ) (p : Plan) (new filters ram : List ℕ) (c : Flash)
    → plan_fresh spare p ≡ all_fresh spare (plan_ops p.chip.unit (planned p new filters ram) c)
unfolding plan_fresh
plan_fresh_lem spare p = plan_fresh_by_lem spare (plan_numbers p)
