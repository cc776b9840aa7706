-- The operations that a plan is on a chip: known sectors and erases are the same on every chip; the sectors of a set, each made when it
-- is programmed, are those made of the main area as it stood before the first.
use Rattle.std.specs.Prelude.{◌≡◌, refl, ◌⊎◌, Bool, true, false, cond, List, [], ◌∷◌, ◌++◌, ℕ, zero, suc, ◌+◌, ◌*◌, ◌/◌, ◌≤◌, ◌<◌, get_or, eqb}
use Rattle.std.proofs.Common.{ap, ◌∙◌, mod-lt, arith}
use Rattle.memory.specs.Cases.{either}
use Rattle.memory.specs.Lists.{tabulate, length_tabulate, get_d_write_before, get_d_write_after}
use Rattle.layout.specs.Geometry.{sector}
use Rattle.layout.specs.Flash.{Flash, Op, program, erase, apply, apply_all, erases, Planned, known, made, wipe, planned_from, op_on, plan_ops}
use Rattle.layout.specs.Items.{Area, put, fills, item_plan}
use Rattle.layout.specs.Index.{Index, in_ska, in_l1, in_set, in_full, set_pages, set_blocks, side_block, set_block, set_byte, flush_sector, set_sector}
use Rattle.layout.specs.Index.{build_plan, flush_and_build, filter_plan}
use Rattle.history.specs.Operations.{programs, item_ops, flush_ops, build_ops, flush_and_build_ops, filter_ops}
use Rattle.history.proofs.FlashLaws.{programs_ext}
use Rattle.laws.specs.Apart.{set_byte_same}
use Rattle.laws.specs.Units.{UnitIs}

-- the same planned operations, counted from one later
pub planned_later : (f : ℕ → Planned) (i k : ℕ) → planned_from f (suc i) k ≡ planned_from (λ j. f (suc j)) i k
planned_later f i zero = refl
planned_later f i (suc k) = ap (λ (ps : List Planned). f (suc i) ∷ ps) (planned_later f (suc i) k)

module _ (u : ℕ) where
  pub ops_append : (xs ys : List Planned) (c : Flash)
      → plan_ops u (xs ++ ys) c ≡ plan_ops u xs c ++ plan_ops u ys (apply_all u (plan_ops u xs c) c)
  ops_append [] ys c = refl
  ops_append (p ∷ ps) ys c = ap (λ (os : List Op). op_on p c ∷ os) (ops_append ps ys (apply u (op_on p c) c))

  pub ops_both : (xs ys : List Planned) (os os' : List Op) (c : Flash) → plan_ops u xs c ≡ os → plan_ops u ys (apply_all u os c) ≡ os'
      → plan_ops u (xs ++ ys) c ≡ os ++ os'
  ops_both xs ys os os' c e e' = ops_append xs ys c ∙ rw (e, e')

  pub ops_if : (b : Bool) (ps : List Planned) (os : List Op) (c : Flash) → plan_ops u ps c ≡ os → plan_ops u (cond b ps []) c ≡ cond b os []
  ops_if true ps os c e = e
  ops_if false ps os c e = refl

  -- ---- k in a row, the j-th on sector or block `at j`

  pub known_ops : (d s k : ℕ) (at : ℕ → ℕ) (f : ℕ → ℕ → ℕ) → ((j : ℕ) → at j ≡ s + j * d) → (c : Flash)
      → plan_ops u (planned_from (λ j. known (at j) (tabulate (sector u) (f j))) 0 k) c ≡ programs u d s k f
  known_ops d s zero at f is c = refl
  known_ops d s (suc k) at f is c =
      let first : at 0 ≡ s = is 0 ∙ omega arith in
      ap (λ (ps : List Planned). program (at 0) (tabulate (sector u) (f 0)) ∷ plan_ops u ps (apply u (program (at 0) (tabulate (sector u) (f 0))) c))
      (planned_later (λ j. known (at j) (tabulate (sector u) (f j))) 0 k)
      ∙ ap (λ (os : List Op). program (at 0) (tabulate (sector u) (f 0)) ∷ os)
      (known_ops d (s + d) k (λ j. at (suc j)) (λ j. f (suc j)) (λ j. is (suc j) ∙ omega arith)
      (apply u (program (at 0) (tabulate (sector u) (f 0))) c))
      ∙ ap (λ (m : ℕ). program m (tabulate (sector u) (f 0)) ∷ programs u d (s + d) k (λ j. f (suc j))) first

  pub wipe_ops : (b k : ℕ) (at : ℕ → ℕ) → ((j : ℕ) → at j ≡ b + j) → (c : Flash)
      → plan_ops u (planned_from (λ j. wipe (at j)) 0 k) c ≡ erases b k
  wipe_ops b zero at is c = refl
  wipe_ops b (suc k) at is c =
      let first : at 0 ≡ b = is 0 ∙ omega arith in
      ap (λ (ps : List Planned). erase (at 0) ∷ plan_ops u ps (apply u (erase (at 0)) c)) (planned_later (λ j. wipe (at j)) 0 k)
      ∙ ap (λ (os : List Op). erase (at 0) ∷ os)
      (wipe_ops (suc b) k (λ j. at (suc j)) (λ j. is (suc j) ∙ omega arith) (apply u (erase (at 0)) c))
      ∙ ap (λ (m : ℕ). erase m ∷ erases (suc b) k) first

  -- sectors between bytes lo and hi that are made of bytes outside these
  pub made_ops : (lo hi s k : ℕ) (at : ℕ → ℕ) (f : List ℕ → ℕ → ℕ → ℕ) → ((j : ℕ) → at j ≡ s + j) → lo ≤ s * sector u
      → (s + k) * sector u ≤ hi
      → ((main main' : List ℕ) → ((x : ℕ) → (x < lo) ⊎ (hi ≤ x) → get_or main x 0 ≡ get_or main' x 0) → (j y : ℕ) → j < k → y < sector u
      → f main j y ≡ f main' j y)
      → (c : Flash) → plan_ops u (planned_from (λ j. made (at j) (λ main. tabulate (sector u) (f main j))) 0 k) c ≡ programs u 1 s k (f c.main)
  made_ops lo hi s zero at f is low high apart c = refl
  made_ops lo hi s (suc k) at f is low high apart c =
      let first : at 0 ≡ s = is 0 ∙ omega arith in
      ap (λ (ps : List Planned). program (at 0) bytes ∷ plan_ops u ps next)
      (planned_later (λ j. made (at j) (λ main. tabulate (sector u) (f main j))) 0 k)
      ∙ ap (λ (os : List Op). program (at 0) bytes ∷ os)
      (made_ops lo hi (s + 1) k (λ j. at (suc j)) (λ main j. f main (suc j)) (λ j. is (suc j) ∙ omega arith) (omega (arith, low))
      (omega (arith, high))
      (λ main main' same j y l m. apart main main' same (suc j) y (omega arith) m) next
      ∙ programs_ext u 1 (s + 1) k (λ j. f next.main (suc j)) (λ j. f c.main (suc j))
      (λ j y l m. apart next.main c.main kept (suc j) y (omega arith) m))
      ∙ ap (λ (m : ℕ). program m bytes ∷ programs u 1 (s + 1) k (λ j. f c.main (suc j))) first
    where
      bytes : List ℕ
      bytes = tabulate (sector u) (f c.main 0)

      next : Flash
      next = apply u (program (at 0) bytes) c

      kept : (x : ℕ) → (x < lo) ⊎ (hi ≤ x) → get_or next.main x 0 ≡ get_or c.main x 0
      kept x o =
          let here : at 0 * sector u ≡ s * sector u = ap (λ (m : ℕ). m * sector u) (is 0 ∙ omega arith) in
          either o
          (λ a. get_d_write_before c.main (at 0 * sector u) bytes x 0 (omega (arith, a, low, here)))
          (λ a. get_d_write_after c.main (at 0 * sector u) bytes x 0
          (omega (arith, a, high, here, length_tabulate (sector u) (f c.main 0))))

  -- ---- the page that item n fills

  pub item_ops_lem : (a : Area) (n : ℕ) (item ram : List ℕ) (c : Flash) → plan_ops u (item_plan u a n item ram) c ≡ item_ops u a n item ram
  item_ops_lem a n item ram c =
      ops_if (fills a n) _ _ c
      (known_ops 1 (a.first * 64 + n / a.per_page * 4) 4 (λ j. a.first * 64 + n / a.per_page * 4 + j)
      (λ j y. get_or (put a n item ram) (a.ram + (j * sector u + y)) 0) (λ j. omega arith) c)

-- ---- one more filter

module _ (u e : ℕ) (unit : UnitIs u e) (ix : Index) where
  -- the next set lies apart from what it is made of
  pub set_ops : (z c : ℕ) → c < 4 * u → (C : Flash)
      → plan_ops u (planned_from (set_sector u ix z c) 0 (set_pages (c + 1) * 4)) C
      ≡ programs u 1 (set_block u ix z c * 64) (set_pages (c + 1) * 4) (set_byte u ix C.main z c)
  set_ops z c hc =
      made_ops u (set_block u ix z c * (1024 * u)) (set_block u ix z c * (1024 * u) + set_pages (c + 1) * (64 * u)) (set_block u ix z c * 64)
      (set_pages (c + 1) * 4)
      (λ j. set_block u ix z c * 64 + j) (λ main. set_byte u ix main z c) (λ j. refl) (omega arith) (omega arith)
      (set_byte_same u e unit.power ix z c hc)

  pub build_ops_lem : (z c : ℕ) → c < 4 * u → (C : Flash) → plan_ops u (build_plan u ix z c) C ≡ build_ops u ix C.main z c
  build_ops_lem z c hc C =
      ops_both u (planned_from (set_sector u ix z c) 0 (set_pages (c + 1) * 4)) _ _ _ C (set_ops z c hc C)
      (ops_both u (planned_from (λ j. wipe (ix.first + j)) 0 1) (planned_from (λ j. wipe (side_block u ix c + j)) 0 (set_blocks c))
      (erases ix.first 1) (erases (side_block u ix c) (set_blocks c)) _
      (wipe_ops u ix.first 1 (λ j. ix.first + j) (λ j. refl) C)
      (wipe_ops u (side_block u ix c) (set_blocks c) (λ j. side_block u ix c + j) (λ j. refl) _))

  pub flush_ops_lem : (t : ℕ) (ram : List ℕ) (C : Flash) → plan_ops u (planned_from (flush_sector u ix t ram) 0 4) C ≡ flush_ops u ix t ram
  flush_ops_lem t ram =
      known_ops u 16 (ix.first * 64 + t) 4 (λ i. ix.first * 64 + t + i * 16) (λ i y. get_or ram (ix.ska + (i * sector u + y)) 0)
      (λ i. refl)

  flush_and_build_ops_lem : (F : ℕ) (ram : List ℕ) (C : Flash) → plan_ops u (flush_and_build u ix F ram) C ≡ flush_and_build_ops u ix C F ram
  unfolding flush_and_build flush_and_build_ops
  flush_and_build_ops_lem F ram C =
      ops_both u (planned_from (flush_sector u ix (in_l1 F) ram) 0 4) (cond (eqb (in_l1 F + 1) 16) (build_plan u ix (in_full u F) (in_set u F)) [])
      (flush_ops u ix (in_l1 F) ram) _ C (flush_ops_lem (in_l1 F) ram C)
      (ops_if u (eqb (in_l1 F + 1) 16) _ _ _
      (build_ops_lem (in_full u F) (in_set u F) (mod-lt (F / 8 / 16) (omega (arith, unit.some)))
      (apply_all u (flush_ops u ix (in_l1 F) ram) C)))

  pub filter_ops_lem : (F : ℕ) (ram : List ℕ) (C : Flash) → plan_ops u (filter_plan u ix F ram) C ≡ filter_ops u ix C F ram
  filter_ops_lem F ram C = ops_if u (eqb (in_ska F + 1) 8) _ _ C (flush_and_build_ops_lem F ram C)
