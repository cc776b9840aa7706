-- Operations inside the first B blocks of a chip, plans whose operations lie there on every chip, and RAM written below byte N: what lies
-- past these is kept.
use Rattle.std.specs.Prelude.{◌≡◌, Bool, cond, get_or, replicate, eqb}
use Rattle.std.proofs.Math.Path.{refl}
use Rattle.std.proofs.Common.{◌∙◌, inr, mod-lt, eqb-true}
use Rattle.std.proofs.Math.Bool.{true, false}
use mathlib.Core.List.{List, [], ◌∷◌, ◌++◌}
use Prim.Native.Nat.{ℕ, zero, suc, ◌+◌, ◌*◌, ◌/◌, ◌%◌, ◌≤◌, ◌<◌}
use Rattle.std.proofs.Math.Nat.{mul-le-mul_right}
use native.Mathlib.Omega.{arith}
use Rattle.std.proofs.Math.ListN.{length, length-replicate}
use Rattle.std.proofs.Math.Seq.{get_or-set_other}
use Rattle.memory.specs.Cases.{either, bool?, eq?}
use Rattle.memory.specs.Lists.{length_tabulate, length_write, get_d_write_after}
use Rattle.memory.specs.Numbers.{carry}
use Rattle.layout.specs.Geometry.{page, block}
use Rattle.layout.specs.Flash.{Flash, Op, program, erase, apply, apply_all, erases, Planned, known, made, wipe, planned_from, plan_ops}
use Rattle.layout.specs.Items.{Area, put, fills, page_sector, item_plan, item_ram, zero_page}
use Rattle.layout.specs.Index.{Index, in_ska, in_l1, in_set, in_full, set_pages, set_blocks, side_block, full_block, set_block, set_byte, with_filter}
use Rattle.layout.specs.Index.{flush_sector, set_sector, build_plan, flush_and_build, filter_plan, filter_ram}
use Rattle.layout.specs.Later.{fresh_plan, later_plan}
use Rattle.laws.specs.SetLaws.{blocks_fit, side_range}
use Rattle.history.proofs.SkaLaws.{filter_out, filter_length}
use Rattle.laws.specs.Units.{UnitIs}
use Rattle.history.specs.Inside.{Inside, OneInside, PlanInside, Past}

module _ (u B : ℕ) where
  pub inside_erases : (b k : ℕ) → b + k ≤ B → Inside u B (erases b k)
  unfolding Inside
  inside_erases b zero h = tt
  inside_erases b (suc k) h = (omega arith, inside_erases (suc b) k (omega arith))

  pub main_past : (os : List Op) (c : Flash) (x : ℕ) → Inside u B os → B * block u ≤ x
      → get_or (apply_all u os c).main x 0 ≡ get_or c.main x 0
  unfolding Inside
  main_past [] c x i l = refl
  main_past (program s bytes ∷ os) c x i l =
      main_past os (apply u (program s bytes) c) x i.2 l
      ∙ get_d_write_after c.main (s * (16 * u)) bytes x 0 (omega (arith, i.1, mul-le-mul_right (16 * u) i.0))
  main_past (erase b ∷ os) c x i l =
      let r : length (replicate {A = ℕ} (1024 * u) 255) ≡ 1024 * u = length-replicate {A = ℕ} (1024 * u) 255 in
      main_past os (apply u (erase b) c) x i.1 l
      ∙ get_d_write_after c.main (b * (1024 * u)) (replicate (1024 * u) 255) x 0 (omega (arith, r, mul-le-mul_right (1024 * u) i.0))

  pub spare_past : (os : List Op) (c : Flash) (x : ℕ) → Inside u B os → B * 64 ≤ x → get_or (apply_all u os c).spare x 0 ≡ get_or c.spare x 0
  unfolding Inside
  spare_past [] c x i l = refl
  spare_past (program s bytes ∷ os) c x i l =
      spare_past os (apply u (program s bytes) c) x i.2 l
      ∙ get_or-set_other c.spare s x 0 0 (let n = i.0 in omega arith)
  spare_past (erase b ∷ os) c x i l =
      let r : length (replicate {A = ℕ} 64 255) ≡ 64 = length-replicate {A = ℕ} 64 255 in
      spare_past os (apply u (erase b) c) x i.1 l
      ∙ get_d_write_after c.spare (b * 64) (replicate 64 255) x 0 (omega (arith, r, mul-le-mul_right 64 i.0))

  pub inside_none : Inside u B []
  unfolding Inside
  inside_none = tt

module _ (u B : ℕ) where
  -- so are its operations
  pub inside_ops : (ps : List Planned) (c : Flash) → PlanInside u B ps → Inside u B (plan_ops u ps c)
  unfolding Inside PlanInside
  inside_ops [] c i = tt
  inside_ops (known s bytes ∷ ps) c i = (i.0.0, i.0.1, inside_ops ps (apply u (program s bytes) c) i.1)
  inside_ops (made s bytes ∷ ps) c i =
      (i.0.0, i.0.1 c.main, inside_ops ps (apply u (program s (bytes c.main)) c) i.1)
  inside_ops (wipe b ∷ ps) c i = (i.0, inside_ops ps (apply u (erase b) c) i.1)

  -- and the end of it that a restart finds to do
  pub inside_later : (spare : List ℕ) (ps : List Planned) → PlanInside u B ps → PlanInside u B (later_plan spare ps)
  unfolding PlanInside later_plan
  inside_later spare [] i = tt
  inside_later spare (p ∷ ps) i =
      either (bool? (fresh_plan spare (p ∷ ps))) (λ q. rw q i) (λ q. rw q (inside_later spare ps i.1))

  pub inside_append : (xs ys : List Planned) → PlanInside u B xs → PlanInside u B ys → PlanInside u B (xs ++ ys)
  unfolding PlanInside
  inside_append [] ys a b = b
  inside_append (p ∷ ps) ys a b = (a.0, inside_append ps ys a.1 b)

  pub inside_if : (b : Bool) (ps : List Planned) → (b ≡ true → PlanInside u B ps) → PlanInside u B (cond b ps [])
  unfolding PlanInside
  inside_if true ps a = a refl
  inside_if false ps a = tt

  -- k of them in a row
  inside_planned : (f : ℕ → Planned) (i k : ℕ) → ((j : ℕ) → j < i + k → OneInside u B (f j)) → PlanInside u B (planned_from f i k)
  unfolding PlanInside
  inside_planned f i zero h = tt
  inside_planned f i (suc k) h = (h i (omega arith), inside_planned f (suc i) k (λ j l. h j (omega arith)))

  -- a page of an area that has so many blocks
  pub inside_item : (a : Area) (blocks n : ℕ) (item ram : List ℕ) → a.first + blocks ≤ B → n / a.per_page < blocks * 16
      → PlanInside u B (item_plan u a n item ram)
  inside_item a blocks n item ram e h =
      inside_if (fills a n) _ (λ f.
      inside_planned (page_sector u a n (put a n item ram)) 0 4 (λ j l. (omega arith, length_tabulate (16 * u) _)))

-- ---- one more filter of an index with Z places for full sets

module _ (u e : ℕ) (unit : UnitIs u e) (B : ℕ) (ix : Index) (Z : ℕ) (end : full_block u ix Z ≤ B) where
  four_pos : 0 < 4 * u
  four_pos = omega (arith, unit.some)

  inside_flush : (t : ℕ) (ram : List ℕ) → t < 16 → PlanInside u B (planned_from (flush_sector u ix t ram) 0 4)
  inside_flush t ram h = inside_planned u B (flush_sector u ix t ram) 0 4 (λ j l. (omega (arith, end), length_tabulate (16 * u) _))

  -- the set of c + 1 rounds at its place, and that of c rounds on its side
  new_inside : (z c : ℕ) → c < 4 * u → (c + 1 ≡ 4 * u → z < Z) → set_block u ix z c * 64 + set_pages (c + 1) * 4 ≤ B * 64
  new_inside z c hc hz =
      let b = blocks_fit u e unit.power (c + 1) (omega (arith, hc)) in
      either (eq? (c + 1) (4 * u))
      (λ a. rw a.0 (omega (arith, b, end, mul-le-mul_right (4 * u) (hz a.1))))
      (λ a. rw a.0 (omega (arith, b, end, (side_range u ix (c + 1)).1)))

  old_inside : (c : ℕ) → c < 4 * u → side_block u ix c + set_blocks c ≤ B
  old_inside zero h = omega (arith, end, (side_range u ix zero).1)
  old_inside (suc c) h = omega (arith, end, (side_range u ix (suc c)).1, blocks_fit u e unit.power (suc c) (omega arith))

  inside_build : (z c : ℕ) → c < 4 * u → (c + 1 ≡ 4 * u → z < Z) → PlanInside u B (build_plan u ix z c)
  inside_build z c hc hz =
      let n = new_inside z c hc hz in
      let o = old_inside c hc in
      inside_append u B _ _
      (inside_planned u B (set_sector u ix z c) 0 (set_pages (c + 1) * 4)
      (λ j l. (omega (arith, n), λ main. length_tabulate (16 * u) (set_byte u ix main z c j))))
      (inside_append u B _ _ (inside_planned u B (λ j. wipe (ix.first + j)) 0 1 (λ j l. omega (arith, end)))
      (inside_planned u B (λ j. wipe (side_block u ix c + j)) 0 (set_blocks c) (λ j l. omega (arith, o))))

  -- the last round of a set takes one more place
  place_left : (N : ℕ) → in_full u (N + 1) ≤ Z → N % 8 + 1 ≡ 8 → N / 8 % 16 + 1 ≡ 16 → in_set u N + 1 ≡ 4 * u → in_full u N < Z
  place_left N room eight sixteen last =
      let a : (N + 1) / 8 ≡ N / 8 + 1 = omega (arith, eight) in
      let b : (N / 8 + 1) / 16 ≡ N / 8 / 16 + 1 = omega (arith, sixteen) in
      let r : (N / 8 / 16 + 1) / (4 * u) ≤ Z = rw (a, b) at room in
      either (carry (N / 8 / 16) (4 * u) four_pos) (λ d. omega (arith, d.1, r)) (λ d. absurd (d.0 last))

  pub inside_filter : (N : ℕ) (ram : List ℕ) → in_full u (N + 1) ≤ Z → PlanInside u B (filter_plan u ix N ram)
  unfolding flush_and_build
  inside_filter N ram room = inside_if u B (eqb (N % 8 + 1) 8) _ (λ q. flushed (eqb-true (N % 8 + 1) 8 q))
    where
      flushed : N % 8 + 1 ≡ 8 → PlanInside u B (flush_and_build u ix N ram)
      flushed eight =
          inside_append u B _ _ (inside_flush (in_l1 N) ram (omega arith))
          (inside_if u B (eqb (N / 8 % 16 + 1) 16) _ (λ q.
          inside_build (in_full u N) (in_set u N) (mod-lt (N / 8 / 16) four_pos) (place_left N room eight (eqb-true (N / 8 % 16 + 1) 16 q))))

pub past_then : (N : ℕ) (r s t : List ℕ) → Past N r s → Past N s t → Past N r t
past_then N r s t p q = record { same = λ x l. q.same x l ∙ p.same x l; long = q.long ∙ p.long }

pub past_zero : (u at N : ℕ) (ram : List ℕ) → at + page u ≤ N → Past N ram (zero_page u at ram)
past_zero u at N ram h =
    let l : length (replicate {A = ℕ} (64 * u) 0) ≡ 64 * u = length-replicate {A = ℕ} (64 * u) 0 in
    record {
      same = λ x g. get_d_write_after ram at (replicate (64 * u) 0) x 0 (omega arith);
      long = length_write ram at (replicate (64 * u) 0);
    }

pub past_item : (u : ℕ) (a : Area) (n N : ℕ) (item ram : List ℕ) → 0 < a.per_page → a.per_page * a.size ≡ page u → length item ≡ a.size
    → a.ram + page u ≤ N → Past N ram (item_ram u a n item ram)
unfolding put
past_item u a n N item ram some whole size h =
    either (bool? (fills a n))
    (λ f. rw f (past_then N ram (put a n item ram) _ placed (past_zero u a.ram N (put a n item ram) h)))
    (λ f. rw f placed)
  where
    placed : Past N ram (put a n item ram)
    placed =
        let m = mul-le-mul_right a.size (mod-lt n {m = a.per_page} some) in
        record {
          same = λ x g. get_d_write_after ram (a.ram + n % a.per_page * a.size) item x 0 (omega (arith, m, size, whole));
          long = length_write ram (a.ram + n % a.per_page * a.size) item;
        }

pub past_filter : (u : ℕ) (pu : 0 < u) (ix : Index) (F N : ℕ) (new : ℕ → Bool) (ram : List ℕ) → ix.ska + page u ≤ N
    → Past N ram (filter_ram u ix F (with_filter u ix (in_ska F) new ram))
past_filter u pu ix F N new ram h =
    either (eq? (F % 8 + 1) 8)
    (λ a. rw a.0 (past_then N ram _ _ placed (past_zero u ix.ska N (with_filter u ix (in_ska F) new ram) h)))
    (λ a. rw a.0 placed)
  where
    placed : Past N ram (with_filter u ix (in_ska F) new ram)
    placed = record {
      same = λ x l. filter_out u pu ix new (F % 8) ram x (omega arith) (inr (omega arith));
      long = filter_length u pu ix new (F % 8) ram;
    }
