-- The next set after the sixteenth flush: it goes to the other side, or as a full one to its place; L1 and the old set are erased.
use Rattle.std.specs.Prelude.{◌≡◌, ◌⊎◌, Bool, true, false, cond, List, [], ◌++◌, ℕ, ◌+◌, ◌-◌, ◌*◌, ◌/◌, ◌%◌, ◌^◌, ◌≤◌, ◌<◌, length, get_or, ltb, eqb}
use Rattle.std.proofs.Math.Path.{ap}
use Rattle.std.proofs.Common.{◌∙◌, inl, inr, zero-le, lt-ltb, le-ltb, eq-eqb, ne_eqb}
use Rattle.std.proofs.Math.Nat.{mul-le-mul_right}
use native.Mathlib.Omega.{arith}
use Rattle.memory.specs.Cases.{lt?, eq?, either}
use Rattle.memory.specs.Numbers.{euclid, div_lt, div_of, mod_of}
use Rattle.memory.specs.Power.{log2up}
use Rattle.layout.specs.Geometry.{block, side_blocks}
use Rattle.layout.specs.Flash.{Flash, Op, apply_all, erases, all_fresh}
use Rattle.layout.specs.Index.{Index, row_byte, bit_at, set_pages, set_width, set_blocks, full_filters, side_block, full_block, flash_place, set_byte}
use Rattle.history.specs.Operations.{programs, build_ops}
use Rattle.history.specs.Image.{partition_byte, side_byte, full_byte, IndexMain, IndexSpare}
use Rattle.history.specs.FlashLaws.{AllAllowed}
use Rattle.history.proofs.FlashLaws.{fresh_append, fresh_programs, fresh_erases, apply_append, allowed_append}
use Rattle.history.proofs.FlashLaws.{apply_main_length, apply_spare_length, programs_main_in, programs_spare_in, programs_spare_out}
use Rattle.history.proofs.FlashLaws.{programs_allowed, range_out, erases_allowed, erases_main_in, erases_main_out, erases_spare_in}
use Rattle.history.proofs.FlashLaws.{erases_spare_out}
use Rattle.laws.specs.SetLaws.{set_whole, width_pos, blocks_fit, side_range}
use Rattle.laws.specs.Apart.{row_ext}
use Rattle.history.proofs.RowLaws.{full_blocks, full_width, blocks_some, blocks_le}
use Rattle.history.proofs.IndexRead.{read_flash}
use Rattle.laws.specs.Units.{UnitIs}
use Rattle.history.specs.IndexBuild.{Rebuild, rebuild_ops, IndexAfter}

module _ (u : ℕ) (pu : 0 < u) (r : Rebuild) (f : ℕ → ℕ → ℕ) (C : Flash) where
  -- the flash after the programs, after the erase of L1, after that of the old set
  abbrev C1 : Flash
  C1 = apply_all u (programs u 1 (r.dest * 64) r.sectors f) C

  abbrev C2 : Flash
  C2 = apply_all u (erases r.first 1) C1

  abbrev C3 : Flash
  C3 = apply_all u (erases r.old r.gone) C2

  abbrev rebuilt : Flash
  rebuilt = apply_all u (rebuild_ops u r f) C

  rebuilt_is : rebuilt ≡ C3
  rebuilt_is =
      apply_append u (programs u 1 (r.dest * 64) r.sectors f) (erases r.first 1 ++ erases r.old r.gone) C
      ∙ apply_append u (erases r.first 1) (erases r.old r.gone) C1

  main_is : (x : ℕ) → get_or rebuilt.main x 0 ≡ get_or C3.main x 0
  main_is x = ap (λ (D : Flash). get_or D.main x 0) rebuilt_is

  spare_is : (x : ℕ) → get_or rebuilt.spare x 0 ≡ get_or C3.spare x 0
  spare_is x = ap (λ (D : Flash). get_or D.spare x 0) rebuilt_is

  -- what each step leaves
  main1 : (x : ℕ) → (x < r.dest * (1024 * u)) ⊎ ((r.dest + r.new) * (1024 * u) ≤ x) → get_or C1.main x 0 ≡ get_or C.main x 0
  main1 x o =
      range_out u 1 (r.dest * 64) r.sectors (r.dest * 64) ((r.dest + r.new) * 64) f C x (omega arith)
      (λ j l. (omega arith, omega arith))
      (either o (λ a. inl (omega arith)) (λ a. inr (omega arith)))

  main2 : (x : ℕ) → (x < r.first * (1024 * u)) ⊎ ((r.first + 1) * (1024 * u) ≤ x) → get_or C2.main x 0 ≡ get_or C1.main x 0
  main2 x o = erases_main_out u r.first 1 C1 x o

  main3 : (x : ℕ) → (x < r.old * (1024 * u)) ⊎ ((r.old + r.gone) * (1024 * u) ≤ x) → get_or C3.main x 0 ≡ get_or C2.main x 0
  main3 x o = erases_main_out u r.old r.gone C2 x o

  spare1 : (x : ℕ) → (x < r.dest * 64) ⊎ ((r.dest + r.new) * 64 ≤ x) → get_or C1.spare x 0 ≡ get_or C.spare x 0
  spare1 x o = programs_spare_out u 1 (r.dest * 64) r.sectors f C x (λ j l. either o (λ a. omega arith) (λ a. omega arith))

  spare2 : (x : ℕ) → (x < r.first * 64) ⊎ ((r.first + 1) * 64 ≤ x) → get_or C2.spare x 0 ≡ get_or C1.spare x 0
  spare2 x o = erases_spare_out u r.first 1 C1 x o

  spare3 : (x : ℕ) → (x < r.old * 64) ⊎ ((r.old + r.gone) * 64 ≤ x) → get_or C3.spare x 0 ≡ get_or C2.spare x 0
  spare3 x o = erases_spare_out u r.old r.gone C2 x o

  -- what lies in none of the three places is kept
  main_same : (x : ℕ) → (x < r.dest * (1024 * u)) ⊎ ((r.dest + r.new) * (1024 * u) ≤ x)
      → (x < r.first * (1024 * u)) ⊎ ((r.first + 1) * (1024 * u) ≤ x)
      → (x < r.old * (1024 * u)) ⊎ ((r.old + r.gone) * (1024 * u) ≤ x) → get_or rebuilt.main x 0 ≡ get_or C.main x 0
  main_same x a b d = main_is x ∙ main3 x d ∙ main2 x b ∙ main1 x a

  spare_same : (x : ℕ) → (x < r.dest * 64) ⊎ ((r.dest + r.new) * 64 ≤ x) → (x < r.first * 64) ⊎ ((r.first + 1) * 64 ≤ x)
      → (x < r.old * 64) ⊎ ((r.old + r.gone) * 64 ≤ x) → get_or rebuilt.spare x 0 ≡ get_or C.spare x 0
  spare_same x a b d = spare_is x ∙ spare3 x d ∙ spare2 x b ∙ spare1 x a

  -- what lies outside all is kept
  main_outside : (x : ℕ) → (x < r.first * (1024 * u)) ⊎ (r.end * (1024 * u) ≤ x) → get_or rebuilt.main x 0 ≡ get_or C.main x 0
  main_outside x o =
      let m0 = mul-le-mul_right (1024 * u) r.after in
      let m1 = mul-le-mul_right (1024 * u) r.after_old in
      let m2 = mul-le-mul_right (1024 * u) r.dest_in in
      let m3 = mul-le-mul_right (1024 * u) r.old_in in
      either o
      (λ a. main_same x (inl (omega arith)) (inl a) (inl (omega arith)))
      (λ a. main_same x (inr (omega arith)) (inr (omega arith)) (inr (omega arith)))

  spare_outside : (x : ℕ) → (x < r.first * 64) ⊎ (r.end * 64 ≤ x) → get_or rebuilt.spare x 0 ≡ get_or C.spare x 0
  spare_outside x o =
      either o
      (λ a. spare_same x (inl (omega arith)) (inl a) (inl (omega arith)))
      (λ a. spare_same x (inr (omega arith)) (inr (omega arith)) (inr (omega arith)))

  module _ (fits : r.end * (1024 * u) ≤ length C.main) where
    main_new : (i : ℕ) → i < r.new * (1024 * u) → get_or rebuilt.main (r.dest * (1024 * u) + i) 0 ≡ f (i / (16 * u)) (i % (16 * u))
    main_new i h =
        let E = euclid i (16 * u) (omega arith) in
        let j_lt : i / (16 * u) < r.new * 64 = div_lt i (16 * u) (r.new * 64) (omega arith) (omega arith) in
        let x_is : r.dest * (1024 * u) + i ≡ (r.dest * 64 + i / (16 * u) * 1) * (16 * u) + i % (16 * u) = omega arith in
        let m0 = mul-le-mul_right (1024 * u) r.after in
        let m2 = mul-le-mul_right (1024 * u) r.dest_in in
        let m4 = mul-le-mul_right (16 * u) j_lt in
        main_is (r.dest * (1024 * u) + i)
        ∙ main3 (r.dest * (1024 * u) + i)
        (either r.apart (λ a. inl (omega (arith, mul-le-mul_right (1024 * u) a)))
        (λ a. inr (omega (arith, mul-le-mul_right (1024 * u) a))))
        ∙ main2 (r.dest * (1024 * u) + i) (inr (omega arith))
        ∙ rw x_is (programs_main_in u 1 (r.dest * 64) r.sectors f C (i / (16 * u)) (i % (16 * u)) (omega arith) (omega arith)
        (omega arith) E.small)

    main_first : (i : ℕ) → i < 1024 * u → get_or rebuilt.main (r.first * (1024 * u) + i) 0 ≡ 255
    main_first i h =
        let l = apply_main_length u (programs u 1 (r.dest * 64) r.sectors f) C in
        let m0 = mul-le-mul_right (1024 * u) r.after in
        let m1 = mul-le-mul_right (1024 * u) r.after_old in
        let m2 = mul-le-mul_right (1024 * u) r.dest_in in
        main_is (r.first * (1024 * u) + i)
        ∙ main3 (r.first * (1024 * u) + i) (inl (omega arith))
        ∙ erases_main_in u r.first 1 C1 (r.first * (1024 * u) + i) (rw l (omega arith)) (omega arith) (omega arith)

    main_old : (i : ℕ) → i < r.gone * (1024 * u) → get_or rebuilt.main (r.old * (1024 * u) + i) 0 ≡ 255
    main_old i h =
        let l : length C2.main ≡ length C.main
        = apply_main_length u (erases r.first 1) C1 ∙ apply_main_length u (programs u 1 (r.dest * 64) r.sectors f) C in
        main_is (r.old * (1024 * u) + i)
        ∙ erases_main_in u r.old r.gone C2 (r.old * (1024 * u) + i) (rw l (omega (arith, mul-le-mul_right (1024 * u) r.old_in)))
        (omega arith) (omega arith)

  module _ (fits : r.end * 64 ≤ length C.spare) where
    spare_new : (x : ℕ) → x < r.new * 64 → get_or rebuilt.spare (r.dest * 64 + x) 0 ≡ 0
    spare_new x h =
        let x_is : r.dest * 64 + x ≡ r.dest * 64 + x * 1 = omega arith in
        spare_is (r.dest * 64 + x)
        ∙ spare3 (r.dest * 64 + x) (either r.apart (λ a. inl (omega arith)) (λ a. inr (omega arith)))
        ∙ spare2 (r.dest * 64 + x) (inr (omega arith))
        ∙ rw x_is (programs_spare_in u 1 (r.dest * 64) r.sectors f C x (omega arith) (omega arith) (omega arith))

    spare_first : (x : ℕ) → x < 64 → get_or rebuilt.spare (r.first * 64 + x) 0 ≡ 255
    spare_first x h =
        let l = apply_spare_length u (programs u 1 (r.dest * 64) r.sectors f) C in
        spare_is (r.first * 64 + x)
        ∙ spare3 (r.first * 64 + x) (inl (omega arith))
        ∙ erases_spare_in u r.first 1 C1 (r.first * 64 + x) (rw l (omega arith)) (omega arith) (omega arith)

    spare_old : (x : ℕ) → x < r.gone * 64 → get_or rebuilt.spare (r.old * 64 + x) 0 ≡ 255
    spare_old x h =
        let l : length C2.spare ≡ length C.spare
        = apply_spare_length u (erases r.first 1) C1 ∙ apply_spare_length u (programs u 1 (r.dest * 64) r.sectors f) C in
        spare_is (r.old * 64 + x)
        ∙ erases_spare_in u r.old r.gone C2 (r.old * 64 + x) (rw l (omega arith)) (omega arith) (omega arith)

    -- the new set's sectors are fresh, and each page is programmed from its first sector on
    rebuild_allowed : ((x : ℕ) → x < r.new * 64 → get_or C.spare (r.dest * 64 + x) 0 ≡ 255) → AllAllowed u (rebuild_ops u r f) C
    rebuild_allowed free =
        allowed_append u (programs u 1 (r.dest * 64) r.sectors f) (erases r.first 1 ++ erases r.old r.gone) C
        (programs_allowed u 1 (r.dest * 64) r.sectors f C (omega arith)
        (λ j l. omega arith)
        (λ j l. let a : r.dest * 64 + j * 1 ≡ r.dest * 64 + j = omega arith in rw a (free j (omega arith)))
        (λ j x l a b. inr (x - r.dest * 64, omega arith, omega arith)))
        (allowed_append u (erases r.first 1) (erases r.old r.gone) C1 (erases_allowed u r.first 1 C1)
        (erases_allowed u r.old r.gone C2))

  rebuild_fresh : (spare : List ℕ) → ((x : ℕ) → x < r.new * 64 → get_or spare (r.dest * 64 + x) 0 ≡ 255)
      → all_fresh spare (rebuild_ops u r f) ≡ true
  rebuild_fresh spare free =
      fresh_append spare (programs u 1 (r.dest * 64) r.sectors f) (erases r.first 1 ++ erases r.old r.gone)
      (fresh_programs u 1 (r.dest * 64) r.sectors f spare
      (λ j l. let a : r.dest * 64 + j * 1 ≡ r.dest * 64 + j = omega arith in rw a (free j (omega arith))))
      (fresh_append spare (erases r.first 1) (erases r.old r.gone) (fresh_erases spare r.first 1)
      (fresh_erases spare r.old r.gone))

-- ---- the sides

module _ (u : ℕ) (ix : Index) where
  sides_apart : (c : ℕ) → (side_block u ix (c + 1) + 4 * u ≤ side_block u ix c) ⊎ (side_block u ix c + 4 * u ≤ side_block u ix (c + 1))
  sides_apart c =
      either (eq? (c % 2) 1)
      (λ a. let b : eqb ((c + 1) % 2) 1 ≡ false = ne_eqb ((c + 1) % 2) 1 (omega arith) in rw (a.0, b) (inr (omega arith)))
      (λ a. let b : eqb ((c + 1) % 2) 1 ≡ true = eq-eqb ((c + 1) % 2) 1 (omega arith) in rw (a.0, b) (inl (omega arith)))

  -- sets alternate
  same_side : (c d : ℕ) → c % 2 ≡ d % 2 → side_block u ix c ≡ side_block u ix d
  same_side c d e = rw e

module _ (u e : ℕ) (unit : UnitIs u e) (ix : Index) (Z : ℕ) (F : ℕ → ℕ → Bool) (z c : ℕ) (C : Flash)
    (I : IndexMain u ix Z F z c 16 C.main) (M : IndexSpare u ix Z z c 16 C.spare) (hc : c < 4 * u) (hz : z ≤ Z)
    (main_fits : full_block u ix Z * block u ≤ length C.main) (spare_fits : full_block u ix Z * 64 ≤ length C.spare) where
  -- the bits as they stand are those of the filters
  row_is : (p y : ℕ) → p < set_pages (c + 1)
      → row_byte (λ g x. bit_at C.main [] (flash_place u ix z c (z * full_filters u + g) x)) (128 * (c + 1)) (set_width u (c + 1))
      (p * set_width u (c + 1)) y
      ≡ row_byte (λ g. F (z * full_filters u + g)) (128 * (c + 1)) (set_width u (c + 1)) (p * set_width u (c + 1)) y
  row_is p y h =
      let W = set_whole u e unit.power (c + 1) (omega arith) in
      row_ext (λ g x. bit_at C.main [] (flash_place u ix z c (z * full_filters u + g) x)) (λ g. F (z * full_filters u + g)) (128 * (c + 1))
      (set_width u (c + 1)) (p * set_width u (c + 1)) y
      (width_pos u e unit.power (c + 1) (omega arith))
      (λ g r hg hr. read_flash u e unit ix Z F z c 16 C.main I hc hz (omega arith) [] (z * full_filters u + g)
      (p * set_width u (c + 1) + r)
      (omega arith)
      (omega (arith, mul-le-mul_right (set_width u (c + 1)) h)))

  -- byte i of the new set
  set_byte_lem : (i : ℕ) → i < 2 ^ log2up (c + 1) * block u
      → set_byte u ix C.main z c (i / (16 * u)) (i % (16 * u))
      ≡ partition_byte u F (z * full_filters u) (128 * (c + 1)) (set_width u (c + 1)) i
  unfolding set_byte
  set_byte_lem i h =
      let pu = unit.some in
      let E = euclid i (16 * u) (omega arith) in
      let four : (i / (16 * u) / 4 * 4 + i / (16 * u) % 4) * (16 * u) ≡ i / (16 * u) * (16 * u)
      = ap (λ (n : ℕ). n * (16 * u)) (omega arith) in
      let r4 : i / (16 * u) % 4 < 4 = omega arith in
      let m4 = mul-le-mul_right (16 * u) r4 in
      let d : i / (64 * u) ≡ i / (16 * u) / 4
      = div_of i (64 * u) (i / (16 * u) / 4) (i / (16 * u) % 4 * (16 * u) + i % (16 * u)) (omega arith) (omega arith) in
      let m : i % (64 * u) ≡ i / (16 * u) % 4 * (16 * u) + i % (16 * u)
      = mod_of i (64 * u) (i / (16 * u) / 4) (i / (16 * u) % 4 * (16 * u) + i % (16 * u)) (omega arith) (omega arith) in
      let p_lt : i / (64 * u) < set_pages (c + 1) = div_lt i (64 * u) (set_pages (c + 1)) (omega arith) (omega arith) in
      rw (← d, ← m) (row_is (i / (64 * u)) (i % (64 * u)) p_lt)

  -- a place for the new set: past L1, apart from the old side, in the index
  module _ (dest : ℕ) (after : ix.first + 1 ≤ dest) (apart : (dest + 4 * u ≤ side_block u ix c) ⊎ (side_block u ix c + 4 * u ≤ dest))
      (dest_in : dest + 4 * u ≤ full_block u ix Z) where
    new_fit : 2 ^ log2up (c + 1) ≤ 4 * u
    new_fit = blocks_fit u e unit.power (c + 1) (omega arith)

    old_fit : set_blocks c ≤ 4 * u
    old_fit = blocks_le c (4 * u) (blocks_fit u e unit.power c (omega arith))

    old_after : ix.first + 1 ≤ side_block u ix c
    old_after = (side_range u ix c).0

    abbrev plan : Rebuild
    plan = record {
      first = ix.first;
      dest = dest;
      new = 2 ^ log2up (c + 1);
      old = side_block u ix c;
      gone = set_blocks c;
      end = full_block u ix Z;
      sectors = set_pages (c + 1) * 4;
      sectors_are = omega arith;
      after = after;
      after_old = old_after;
      apart = either apart (λ a. inl (omega (arith, new_fit))) (λ a. inr (omega (arith, old_fit)));
      dest_in = omega (arith, new_fit);
      old_in = omega (arith, old_fit, (side_range u ix c).1);
    }

    abbrev build_to : List Op
    build_to =
        programs u 1 (dest * 64) (set_pages (c + 1) * 4) (set_byte u ix C.main z c)
        ++ (erases ix.first 1 ++ erases (side_block u ix c) (set_blocks c))

    -- the new set, then L1 and the old side, erased
    to_new : (i : ℕ) → i < 2 ^ log2up (c + 1) * block u
        → get_or (apply_all u build_to C).main (dest * block u + i) 0
        ≡ partition_byte u F (z * full_filters u) (128 * (c + 1)) (set_width u (c + 1)) i
    to_new i h = main_new u unit.some plan (set_byte u ix C.main z c) C main_fits i h ∙ set_byte_lem i h

    to_l1 : (i : ℕ) → i < block u → get_or (apply_all u build_to C).main (ix.first * block u + i) 0 ≡ 255
    to_l1 = main_first u unit.some plan (set_byte u ix C.main z c) C main_fits

    to_same : (x : ℕ) → (x < dest * block u) ⊎ ((dest + 2 ^ log2up (c + 1)) * block u ≤ x) → (ix.first + 1) * block u ≤ x
        → (x < side_block u ix c * block u) ⊎ ((side_block u ix c + set_blocks c) * block u ≤ x)
        → get_or (apply_all u build_to C).main x 0 ≡ get_or C.main x 0
    to_same x a b d = main_same u unit.some plan (set_byte u ix C.main z c) C x a (inr b) d

    to_old : (i : ℕ) → i < side_blocks u * block u → get_or (apply_all u build_to C).main (side_block u ix c * block u + i) 0 ≡ 255
    to_old i h =
        either (lt? i (set_blocks c * block u))
        (λ a. main_old u unit.some plan (set_byte u ix C.main z c) C main_fits i a.1)
        (λ a.
        to_same (side_block u ix c * block u + i)
        (either apart (λ b. inr (omega (arith, mul-le-mul_right (1024 * u) b, mul-le-mul_right (1024 * u) new_fit)))
        (λ b. inl (omega (arith, mul-le-mul_right (1024 * u) b))))
        (omega (arith, mul-le-mul_right (1024 * u) old_after)) (inr (omega arith))
        ∙ I.here i h ∙ rw a.0)

    -- the same of the spare area
    to_spare_new : (x : ℕ) → x < 2 ^ log2up (c + 1) * 64 → get_or (apply_all u build_to C).spare (dest * 64 + x) 0 ≡ 0
    to_spare_new = spare_new u unit.some plan (set_byte u ix C.main z c) C spare_fits

    to_spare_l1 : (x : ℕ) → x < 64 → get_or (apply_all u build_to C).spare (ix.first * 64 + x) 0 ≡ 255
    to_spare_l1 = spare_first u unit.some plan (set_byte u ix C.main z c) C spare_fits

    to_spare_same : (x : ℕ) → (x < dest * 64) ⊎ ((dest + 2 ^ log2up (c + 1)) * 64 ≤ x) → (ix.first + 1) * 64 ≤ x
        → (x < side_block u ix c * 64) ⊎ ((side_block u ix c + set_blocks c) * 64 ≤ x)
        → get_or (apply_all u build_to C).spare x 0 ≡ get_or C.spare x 0
    to_spare_same x a b d = spare_same u unit.some plan (set_byte u ix C.main z c) C x a (inr b) d

    to_spare_old : (x : ℕ) → x < side_blocks u * 64 → get_or (apply_all u build_to C).spare (side_block u ix c * 64 + x) 0 ≡ 255
    to_spare_old x h =
        either (lt? x (set_blocks c * 64))
        (λ a. spare_old u unit.some plan (set_byte u ix C.main z c) C spare_fits x a.1)
        (λ a.
        to_spare_same (side_block u ix c * 64 + x)
        (either apart (λ b. inr (omega (arith, new_fit))) (λ b. inl (omega arith)))
        (omega (arith, old_after)) (inr (omega arith))
        ∙ M.here x h ∙ rw a.0)

    -- the image is the new one, and the place was fresh: then all is well
    build_after : (z' c' t' : ℕ) → IndexMain u ix Z F z' c' t' (apply_all u build_to C).main
        → IndexSpare u ix Z z' c' t' (apply_all u build_to C).spare
        → ((x : ℕ) → x < side_blocks u * 64 → get_or C.spare (dest * 64 + x) 0 ≡ 255)
        → IndexAfter u ix Z F (ix.first + 1) z' c' t' build_to C
    build_after z' c' t' I' M' free = record {
      on_main_lem = I';
      on_spare = M';
      may =
          rebuild_allowed u unit.some plan (set_byte u ix C.main z c) C spare_fits (λ x h. free x (omega (arith, new_fit)));
      free = λ spare same.
          rebuild_fresh u unit.some plan (set_byte u ix C.main z c) C spare
          (λ x h. same (dest * 64 + x) (omega arith) (omega (arith, new_fit)) ∙ free x (omega (arith, new_fit)));
      main_out = main_outside u unit.some plan (set_byte u ix C.main z c) C;
      spare_out = spare_outside u unit.some plan (set_byte u ix C.main z c) C;
    }

  -- ---- a set that is not full goes to the other side

  module _ (more : c + 1 < 4 * u) where
    abbrev other : ℕ
    other = side_block u ix (c + 1)

    other_after : ix.first + 1 ≤ side_block u ix (c + 1)
    other_after = (side_range u ix (c + 1)).0

    other_in : side_block u ix (c + 1) + 4 * u ≤ full_block u ix Z
    other_in = omega (arith, (side_range u ix (c + 1)).1)

    abbrev side : List Op
    side = build_to other other_after (sides_apart u ix c) other_in

    blocks_next : set_blocks (c + 1) ≡ 2 ^ log2up (c + 1)
    blocks_next = blocks_some (c + 1) (omega arith)

    back : side_block u ix (c + 1 + 1) ≡ side_block u ix c
    back = same_side u ix (c + 1 + 1) c (omega arith)

    side_here : (i : ℕ) → i < side_blocks u * block u
        → get_or (apply_all u side C).main (side_block u ix (c + 1) * block u + i) 0 ≡ side_byte u F (z * full_filters u) (c + 1) i
    side_here i h =
        either (lt? i (2 ^ log2up (c + 1) * block u))
        (λ a. rw (blocks_next, a.0) (to_new other other_after (sides_apart u ix c) other_in i a.1))
        (λ a. rw (blocks_next, a.0)
        (to_same other other_after (sides_apart u ix c) other_in (other * block u + i) (inr (omega arith))
        (omega (arith, mul-le-mul_right (1024 * u) other_after))
        (either (sides_apart u ix c)
        (λ b. inl (omega (arith, mul-le-mul_right (1024 * u) b)))
        (λ b. inr (omega (
          arith,
          mul-le-mul_right (1024 * u) b,
          mul-le-mul_right (1024 * u) (old_fit other other_after (sides_apart u ix c) other_in),
        ))))
        ∙ I.there i h))

    side_main : IndexMain u ix Z F z (c + 1) 0 (apply_all u side C).main
    side_main = record {
      l1 = λ i h. to_l1 other other_after (sides_apart u ix c) other_in i h ∙ rw (le-ltb (i / (16 * u) % 16) 0 zero-le);
      here = side_here;
      there = λ i h. rw back (to_old other other_after (sides_apart u ix c) other_in i h);
      full = λ k i l h.
          to_same other other_after (sides_apart u ix c) other_in (full_block u ix k * block u + i)
          (inr (omega (
            arith,
            mul-le-mul_right (1024 * u) (side_range u ix (c + 1)).1,
            mul-le-mul_right (1024 * u) (new_fit other other_after (sides_apart u ix c) other_in),
          )))
          (omega arith)
          (inr (omega (
            arith,
            mul-le-mul_right (1024 * u) (side_range u ix c).1,
            mul-le-mul_right (1024 * u) (old_fit other other_after (sides_apart u ix c) other_in),
          )))
          ∙ I.full k i l h;
    }

    side_spare_here : (x : ℕ) → x < side_blocks u * 64
        → get_or (apply_all u side C).spare (side_block u ix (c + 1) * 64 + x) 0 ≡ cond (ltb x (set_blocks (c + 1) * 64)) 0 255
    side_spare_here x h =
        either (lt? x (2 ^ log2up (c + 1) * 64))
        (λ a. rw (blocks_next, a.0) (to_spare_new other other_after (sides_apart u ix c) other_in x a.1))
        (λ a. rw (blocks_next, a.0)
        (to_spare_same other other_after (sides_apart u ix c) other_in (other * 64 + x) (inr (omega arith)) (omega (arith, other_after))
        (either (sides_apart u ix c) (λ b. inl (omega arith))
        (λ b. inr (omega (arith, old_fit other other_after (sides_apart u ix c) other_in))))
        ∙ M.there x h))

    side_spare : IndexSpare u ix Z z (c + 1) 0 (apply_all u side C).spare
    side_spare = record {
      l1 = λ x h. to_spare_l1 other other_after (sides_apart u ix c) other_in x h ∙ rw (le-ltb (x % 16) 0 zero-le);
      here = side_spare_here;
      there = λ x h. rw back (to_spare_old other other_after (sides_apart u ix c) other_in x h);
      full = λ k x l h.
          to_spare_same other other_after (sides_apart u ix c) other_in (full_block u ix k * 64 + x)
          (inr (omega (arith, (side_range u ix (c + 1)).1, new_fit other other_after (sides_apart u ix c) other_in)))
          (omega arith)
          (inr (omega (arith, (side_range u ix c).1, old_fit other other_after (sides_apart u ix c) other_in)))
          ∙ M.full k x l h;
    }

    pub build_side : IndexAfter u ix Z F (ix.first + 1) z (c + 1) 0 (build_ops u ix C.main z c) C
    build_side =
        rw (ne_eqb (c + 1) (4 * u) (omega arith))
        (build_after other other_after (sides_apart u ix c) other_in z (c + 1) 0 side_main side_spare M.there)

  -- ---- a full set goes to the next place for full sets

  module _ (last : c + 1 ≡ 4 * u) (room : z < Z) where
    abbrev place : ℕ
    place = full_block u ix z

    place_after : ix.first + 1 ≤ full_block u ix z
    place_after = omega arith

    place_apart : (full_block u ix z + 4 * u ≤ side_block u ix c) ⊎ (side_block u ix c + 4 * u ≤ full_block u ix z)
    place_apart = inr (omega (arith, (side_range u ix c).1))

    place_in : full_block u ix z + 4 * u ≤ full_block u ix Z
    place_in = omega (arith, mul-le-mul_right (4 * u) room)

    abbrev placed : List Op
    placed = build_to place place_after place_apart place_in

    new_is : 2 ^ log2up (c + 1) ≡ 4 * u
    new_is = rw last (full_blocks u e unit.power)

    -- it has a bit of each filter to a page
    whole_byte : (i : ℕ) → partition_byte u F (z * full_filters u) (128 * (c + 1)) (set_width u (c + 1)) i
        ≡ partition_byte u F (z * full_filters u) (full_filters u) 1 i
    whole_byte i =
        ap (λ (n : ℕ). partition_byte u F (z * full_filters u) (128 * n) (set_width u n) i) last
        ∙ ap (λ (w : ℕ). partition_byte u F (z * full_filters u) (full_filters u) w i) (full_width u e unit.power)

    -- side B is that of set 1 and of the full set, and it is erased; side A held the old set
    side_b : side_block u ix 0 ≡ side_block u ix (c + 1)
    side_b = same_side u ix 0 (c + 1) (omega arith)

    side_a : side_block u ix (0 + 1) ≡ side_block u ix c
    side_a = same_side u ix (0 + 1) c (omega arith)

    full_same : (k : ℕ) → (k < z) ⊎ (z < k) → (i : ℕ) → i < side_blocks u * block u
        → get_or (apply_all u placed C).main (full_block u ix k * block u + i) 0 ≡ get_or C.main (full_block u ix k * block u + i) 0
    full_same k ne i h =
        to_same place place_after place_apart place_in (full_block u ix k * block u + i)
        (either ne
        (λ a. inl (omega (arith, mul-le-mul_right (4 * u * (1024 * u)) a)))
        (λ a. inr (omega (
          arith,
          mul-le-mul_right (4 * u * (1024 * u)) a,
          mul-le-mul_right (1024 * u) (new_fit place place_after place_apart place_in),
        ))))
        (omega arith)
        (inr (omega (
          arith,
          mul-le-mul_right (1024 * u) (side_range u ix c).1,
          mul-le-mul_right (1024 * u) (old_fit place place_after place_apart place_in),
        )))

    full_at : (k i : ℕ) → k < Z → i < side_blocks u * block u
        → get_or (apply_all u placed C).main (full_block u ix k * block u + i) 0 ≡ full_byte u F (z + 1) k i
    full_at k i l h =
        either (eq? k z)
        (λ a. rw (a.1, lt-ltb z (z + 1) (omega arith)) (to_new place place_after place_apart place_in i (rw new_is h) ∙ whole_byte i))
        (λ a. either (lt? k z)
        (λ b. full_same k (inl b.1) i h ∙ I.full k i l h ∙ rw (b.0, lt-ltb k (z + 1) (omega arith)))
        (λ b. full_same k (inr (omega arith)) i h ∙ I.full k i l h ∙ rw (b.0, le-ltb k (z + 1) (omega arith))))

    full_main : IndexMain u ix Z F (z + 1) 0 0 (apply_all u placed C).main
    full_main = record {
      l1 = λ i h. to_l1 place place_after place_apart place_in i h ∙ rw (le-ltb (i / (16 * u) % 16) 0 zero-le);
      here = λ i h.
          ap (λ (b : ℕ). get_or (apply_all u placed C).main (b * block u + i) 0) side_b
          ∙ to_same place place_after place_apart place_in (side_block u ix (c + 1) * block u + i)
          (inl (omega (arith, mul-le-mul_right (1024 * u) (side_range u ix (c + 1)).1)))
          (omega (arith, mul-le-mul_right (1024 * u) (side_range u ix (c + 1)).0))
          (either (sides_apart u ix c)
          (λ b. inl (omega (arith, mul-le-mul_right (1024 * u) b)))
          (λ b. inr (omega (
            arith,
            mul-le-mul_right (1024 * u) b,
            mul-le-mul_right (1024 * u) (old_fit place place_after place_apart place_in),
          ))))
          ∙ I.there i h ∙ rw (le-ltb i (0 * (1024 * u)) (omega arith));
      there = λ i h. ap (λ (b : ℕ). get_or (apply_all u placed C).main (b * block u + i) 0) side_a
          ∙ to_old place place_after place_apart place_in i h;
      full = full_at;
    }

    full_spare_same : (k : ℕ) → (k < z) ⊎ (z < k) → (x : ℕ) → x < side_blocks u * 64
        → get_or (apply_all u placed C).spare (full_block u ix k * 64 + x) 0 ≡ get_or C.spare (full_block u ix k * 64 + x) 0
    full_spare_same k ne x h =
        to_spare_same place place_after place_apart place_in (full_block u ix k * 64 + x)
        (either ne
        (λ a. inl (omega (arith, mul-le-mul_right (4 * u) a)))
        (λ a. inr (omega (arith, mul-le-mul_right (4 * u) a, new_fit place place_after place_apart place_in))))
        (omega arith)
        (inr (omega (arith, (side_range u ix c).1, old_fit place place_after place_apart place_in)))

    full_spare_at : (k x : ℕ) → k < Z → x < side_blocks u * 64
        → get_or (apply_all u placed C).spare (full_block u ix k * 64 + x) 0 ≡ cond (ltb k (z + 1)) 0 255
    full_spare_at k x l h =
        either (eq? k z)
        (λ a. rw (a.1, lt-ltb z (z + 1) (omega arith)) (to_spare_new place place_after place_apart place_in x (rw new_is h)))
        (λ a. either (lt? k z)
        (λ b. full_spare_same k (inl b.1) x h ∙ M.full k x l h ∙ rw (b.0, lt-ltb k (z + 1) (omega arith)))
        (λ b. full_spare_same k (inr (omega arith)) x h ∙ M.full k x l h ∙ rw (b.0, le-ltb k (z + 1) (omega arith))))

    full_spare : IndexSpare u ix Z (z + 1) 0 0 (apply_all u placed C).spare
    full_spare = record {
      l1 = λ x h. to_spare_l1 place place_after place_apart place_in x h ∙ rw (le-ltb (x % 16) 0 zero-le);
      here = λ x h.
          ap (λ (b : ℕ). get_or (apply_all u placed C).spare (b * 64 + x) 0) side_b
          ∙ to_spare_same place place_after place_apart place_in (side_block u ix (c + 1) * 64 + x)
          (inl (omega (arith, (side_range u ix (c + 1)).1)))
          (omega (arith, (side_range u ix (c + 1)).0))
          (either (sides_apart u ix c) (λ b. inl (omega arith)) (λ b. inr (omega (arith, old_fit place place_after place_apart place_in))))
          ∙ M.there x h ∙ rw (le-ltb x (0 * 64) zero-le);
      there = λ x h. ap (λ (b : ℕ). get_or (apply_all u placed C).spare (b * 64 + x) 0) side_a
          ∙ to_spare_old place place_after place_apart place_in x h;
      full = full_spare_at;
    }

    place_fresh : (x : ℕ) → x < side_blocks u * 64 → get_or C.spare (full_block u ix z * 64 + x) 0 ≡ 255
    place_fresh x h = M.full z x room h ∙ rw (le-ltb z z (omega arith))

    pub build_full : IndexAfter u ix Z F (ix.first + 1) (z + 1) 0 0 (build_ops u ix C.main z c) C
    build_full =
        rw (eq-eqb (c + 1) (4 * u) last) (build_after place place_after place_apart place_in (z + 1) 0 0 full_main full_spare place_fresh)
