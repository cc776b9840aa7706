-- One more filter in the SKA page, and the flush of a full page to L1.
use Rattle.std.specs.Prelude.{◌≡◌, ◌≢◌, ◌⊎◌, Bool, true, List, ℕ, ◌+◌, ◌-◌, ◌*◌, ◌/◌, ◌%◌, ◌≤◌, ◌<◌, length, get_or, ltb}
use Rattle.std.proofs.Common.{sym, ap, ◌∙◌, inl, inr, mul-le-mul_right, le_antisymm, arith, lt-ltb, le-ltb}
use Rattle.std.proofs.Math.Arith.{digits_div, digits_mod}
use Rattle.memory.specs.Lists.{pieces_in, pieces_out}
use Rattle.memory.specs.Bits.{pack_ext}
use Rattle.memory.specs.Cases.{lt?, eq?, either}
use Rattle.memory.specs.Numbers.{euclid, div_lt}
use Rattle.layout.specs.Geometry.{sector, page, block}
use Rattle.layout.specs.Flash.{Flash, apply_all, all_fresh}
use Rattle.layout.specs.Index.{Index, row_byte, full_filters, side_block, full_block, with_filter}
use Rattle.history.specs.Operations.{programs}
use Rattle.history.specs.Image.{l1_byte, IndexMain, IndexSpare}
use Rattle.history.specs.FlashLaws.{AllAllowed}
use Rattle.history.proofs.FlashLaws.{fresh_programs, programs_main_in, programs_main_out, programs_spare_in}
use Rattle.history.proofs.FlashLaws.{programs_spare_out, programs_allowed, range_out}
use Rattle.laws.specs.SetLaws.{side_range}
use Rattle.history.proofs.RowLaws.{row_new, row_old, row_none}
use Rattle.history.specs.IndexRead.{SkaIs}

-- ---- the SKA page

module _ (u : ℕ) (pu : 0 < u) (ix : Index) where
  -- a byte of another slot lies in none of the four pieces
  apart : (s p y j : ℕ) → y < 16 * u → y / (2 * u) ≢ s → s < 8
      → (ix.ska + (p * (16 * u) + y) < ix.ska + s * (2 * u) + j * (16 * u))
      ⊎ (ix.ska + s * (2 * u) + j * (16 * u) + 2 * u ≤ ix.ska + (p * (16 * u) + y))
  apart s p y j hy ne hs =
      let E = euclid y (2 * u) (omega arith) in
      let su : s * (2 * u) + 2 * u ≤ 16 * u = omega (arith, mul-le-mul_right (2 * u) hs) in
      either (lt? p j)
      (λ a. inl (omega (arith, mul-le-mul_right (16 * u) a.1)))
      (λ a. either (lt? j p)
      (λ b. inr (omega (arith, mul-le-mul_right (16 * u) b.1)))
      (λ b.
      let e : p * (16 * u) ≡ j * (16 * u) = ap (λ (n : ℕ). n * (16 * u)) (le_antisymm b.1 a.1) in
      either (lt? (y / (2 * u)) s)
      (λ d. inl (omega (arith, mul-le-mul_right (2 * u) d.1)))
      (λ d. let g : s < y / (2 * u) = omega arith in inr (omega (arith, mul-le-mul_right (2 * u) g)))))

  pub ska_add : (F : ℕ → ℕ → Bool) (new : ℕ → Bool) (flushes s : ℕ) (ram : List ℕ) → s < 8 → ix.ska + page u ≤ length ram
      → ((x : ℕ) → x < 64 * u → new x ≡ F (8 * flushes + s) x) → SkaIs u ix F flushes s ram
      → SkaIs u ix F flushes (s + 1) (with_filter u ix s new ram)
  ska_add F new flushes s ram hs fits same I i hi =
      let E = euclid i (16 * u) (omega arith) in
      let q4 : i / (16 * u) < 4 = div_lt i (16 * u) 4 (omega arith) (omega arith) in
      let su : s * (2 * u) + 2 * u ≤ 16 * u = omega (arith, mul-le-mul_right (2 * u) hs) in
      let E2 = euclid (i % (16 * u)) (2 * u) (omega arith) in
      either (eq? (i % (16 * u) / (2 * u)) s)
      (λ a.
      let q : i % (16 * u) / (2 * u) * (2 * u) ≡ s * (2 * u) = ap (λ (n : ℕ). n * (2 * u)) a.1 in
      let at : ix.ska + i ≡ ix.ska + s * (2 * u) + i / (16 * u) * (16 * u) + i % (16 * u) % (2 * u) = omega arith in
      rw at (pieces_in (2 * u) (16 * u) (ix.ska + s * (2 * u)) 4 _ ram (i / (16 * u)) (i % (16 * u) % (2 * u)) 0 (omega arith)
      (omega (arith, mul-le-mul_right (16 * u) q4)) q4 E2.small)
      ∙ pack_ext 8 _ _ (λ b l. same (i / (16 * u) * (16 * u) + (i % (16 * u) % (2 * u) * 8 + b))
      (omega (arith, mul-le-mul_right (16 * u) q4)))
      ∙ sym (row_new u pu (λ g. F (8 * flushes + g)) s (i / (16 * u) * (16 * u)) (i % (16 * u)) a.1))
      (λ a.
      let at : ix.ska + i ≡ ix.ska + (i / (16 * u) * (16 * u) + i % (16 * u)) = omega arith in
      pieces_out (2 * u) (16 * u) (ix.ska + s * (2 * u)) 4 _ ram (ix.ska + i) 0
      (λ j l. rw at (apart s (i / (16 * u)) (i % (16 * u)) j E.small a.1 hs))
      ∙ I i hi
      ∙ sym (row_old u pu (λ g. F (8 * flushes + g)) s (i / (16 * u) * (16 * u)) (i % (16 * u)) a.1))

  -- a zeroed page holds no filter
  pub ska_zero : (F : ℕ → ℕ → Bool) (flushes : ℕ) (ram : List ℕ) → ((x : ℕ) → ix.ska ≤ x → x < ix.ska + page u → get_or ram x 0 ≡ 0)
      → SkaIs u ix F flushes 0 ram
  ska_zero F flushes ram z i h =
      z (ix.ska + i) (omega arith) (omega arith)
      ∙ sym (row_none (λ g. F (8 * flushes + g)) (16 * u) (i / (16 * u) * (16 * u)) (i % (16 * u)))

  -- a full page, sector by sector
  pub ska_sector : (F : ℕ → ℕ → Bool) (flushes : ℕ) (ram : List ℕ) → SkaIs u ix F flushes 8 ram
      → (i y : ℕ) → i < 4 → y < sector u
      → get_or ram (ix.ska + (i * sector u + y)) 0 ≡ row_byte (λ g. F (8 * flushes + g)) 8 (sector u) (i * sector u) y
  ska_sector F flushes ram I i y hi hy =
      let d : (i * (16 * u) + y) / (16 * u) ≡ i = digits_div i hy in
      let m : (i * (16 * u) + y) % (16 * u) ≡ y = digits_mod i hy in
      I (i * (16 * u) + y) (omega (arith, mul-le-mul_right (16 * u) hi)) ∙ rw (d, m)

-- ---- the flush: four sectors of L1

module _ (u : ℕ) (pu : 0 < u) (ix : Index) (Z z c t : ℕ) (C : Flash) (f : ℕ → ℕ → ℕ) (ht : t < 16) where
  abbrev flushed : Flash
  flushed = apply_all u (programs u 16 (ix.first * 64 + t) 4 f) C

  -- what lies outside L1 is kept
  pub flush_main_out : (x : ℕ) → (x < ix.first * block u) ⊎ ((ix.first + 1) * block u ≤ x) → get_or flushed.main x 0 ≡ get_or C.main x 0
  flush_main_out x o =
      range_out u 16 (ix.first * 64 + t) 4 (ix.first * 64) ((ix.first + 1) * 64) f C x (omega arith) (λ j l. (omega arith, omega arith))
      (either o (λ a. inl (omega arith)) (λ a. inr (omega arith)))

  pub flush_spare_out : (x : ℕ) → (x < ix.first * 64) ⊎ ((ix.first + 1) * 64 ≤ x) → get_or flushed.spare x 0 ≡ get_or C.spare x 0
  flush_spare_out x o = programs_spare_out u 16 (ix.first * 64 + t) 4 f C x (λ j l. either o (λ a. omega arith) (λ a. omega arith))

  module _ (F : ℕ → ℕ → Bool) (I : IndexMain u ix Z F z c t C.main) (fits : full_block u ix Z * block u ≤ length C.main)
      (bytes : (i y : ℕ) → i < 4 → y < sector u
      → f i y ≡ row_byte (λ g. F (z * full_filters u + 128 * c + 8 * t + g)) 8 (sector u) (i * sector u) y) where
    flush_l1 : (i : ℕ) → i < block u → get_or flushed.main (ix.first * block u + i) 0 ≡ l1_byte u F (z * full_filters u + 128 * c) (t + 1) i
    flush_l1 i h =
        let E = euclid i (16 * u) (omega arith) in
        let q64 : i / (16 * u) < 64 = div_lt i (16 * u) 64 (omega arith) (omega arith) in
        let a : ix.first * (1024 * u) + i ≡ (ix.first * 64 + i / (16 * u)) * (16 * u) + i % (16 * u) = omega arith in
        either (eq? (i / (16 * u) % 16) t)
        (λ e.
        let x : ix.first * 64 + i / (16 * u) ≡ ix.first * 64 + t + i / (16 * u) / 16 * 16 = omega arith in
        let on : ltb (i / (16 * u) % 16) (t + 1) ≡ true = lt-ltb (i / (16 * u) % 16) (t + 1) (omega arith) in
        let i4 : i / (16 * u) / 16 < 4 = omega arith in
        rw (a, x, on, e.1)
        (programs_main_in u 16 (ix.first * 64 + t) 4 f C (i / (16 * u) / 16) (i % (16 * u)) (omega arith)
        (omega (arith, mul-le-mul_right (16 * u) i4, mul-le-mul_right (16 * u) ht)) i4 E.small
        ∙ bytes (i / (16 * u) / 16) (i % (16 * u)) i4 E.small))
        (λ e.
        let old = I.l1 i h in
        (rw a (programs_main_out u 16 (ix.first * 64 + t) 4 f C (ix.first * 64 + i / (16 * u)) (i % (16 * u)) E.small
        (λ j l. omega arith)))
        ∙ old
        ∙ either (lt? (i / (16 * u) % 16) t)
        (λ b. rw (b.0, lt-ltb (i / (16 * u) % 16) (t + 1) (omega arith)))
        (λ b. rw (b.0, le-ltb (i / (16 * u) % 16) (t + 1) (omega arith))))

    pub flush_main : IndexMain u ix Z F z c (t + 1) flushed.main
    flush_main = record {
      l1 = flush_l1;
      here = λ i h. flush_main_out (side_block u ix c * block u + i)
          (inr (omega (arith, mul-le-mul_right (1024 * u) (side_range u ix c).0))) ∙ I.here i h;
      there = λ i h. flush_main_out (side_block u ix (c + 1) * block u + i)
          (inr (omega (arith, mul-le-mul_right (1024 * u) (side_range u ix (c + 1)).0))) ∙ I.there i h;
      full = λ k i l h. flush_main_out (full_block u ix k * block u + i) (inr (omega arith)) ∙ I.full k i l h;
    }

  module _ (M : IndexSpare u ix Z z c t C.spare) (fits : full_block u ix Z * 64 ≤ length C.spare) where
    -- the four sectors of flush t are fresh, and the sectors before each in its page are programmed
    flush_at : (j : ℕ) → j < 4 → get_or C.spare (ix.first * 64 + t + j * 16) 0 ≡ 255
    flush_at j l =
        let a : ix.first * 64 + t + j * 16 ≡ ix.first * 64 + (t + j * 16) = omega arith in
        let m : (t + j * 16) % 16 ≡ t = omega arith in
        rw a (M.l1 (t + j * 16) (omega arith) ∙ rw (m, le-ltb t t (omega arith)))

    pub flush_allowed : AllAllowed u (programs u 16 (ix.first * 64 + t) 4 f) C
    flush_allowed =
        programs_allowed u 16 (ix.first * 64 + t) 4 f C (omega arith)
        (λ j l. omega arith)
        flush_at
        (λ j x l a b.
        let s : ix.first * 64 + (x - ix.first * 64) ≡ x = omega arith in
        inl (rw (s, lt-ltb ((x - ix.first * 64) % 16) t (omega arith)) at (M.l1 (x - ix.first * 64) (omega arith))))

    pub flush_fresh : (spare : List ℕ) → ((x : ℕ) → ix.first * 64 ≤ x → x < full_block u ix Z * 64 → get_or spare x 0 ≡ get_or C.spare x 0)
        → all_fresh spare (programs u 16 (ix.first * 64 + t) 4 f) ≡ true
    flush_fresh spare same =
        fresh_programs u 16 (ix.first * 64 + t) 4 f spare
        (λ j l. same (ix.first * 64 + t + j * 16) (omega arith) (omega arith) ∙ flush_at j l)

    pub flush_spare : IndexSpare u ix Z z c (t + 1) flushed.spare
    flush_spare = record {
      l1 = λ x h.
          either (eq? (x % 16) t)
          (λ a.
          let s : ix.first * 64 + x ≡ ix.first * 64 + t + x / 16 * 16 = omega arith in
          let on : ltb (x % 16) (t + 1) ≡ true = lt-ltb (x % 16) (t + 1) (omega arith) in
          rw (s, on) (programs_spare_in u 16 (ix.first * 64 + t) 4 f C (x / 16) (omega arith) (omega arith) (omega arith)))
          (λ a.
          programs_spare_out u 16 (ix.first * 64 + t) 4 f C (ix.first * 64 + x) (λ j l. omega arith) ∙ M.l1 x h
          ∙ either (lt? (x % 16) t)
          (λ b. rw (b.0, lt-ltb (x % 16) (t + 1) (omega arith)))
          (λ b. rw (b.0, le-ltb (x % 16) (t + 1) (omega arith))));
      here = λ x h. flush_spare_out (side_block u ix c * 64 + x) (inr (omega (arith, (side_range u ix c).0))) ∙ M.here x h;
      there = λ x h. flush_spare_out (side_block u ix (c + 1) * 64 + x) (inr (omega (arith, (side_range u ix (c + 1)).0))) ∙ M.there x h;
      full = λ k x l h. flush_spare_out (full_block u ix k * 64 + x) (inr (omega arith)) ∙ M.full k x l h;
    }
