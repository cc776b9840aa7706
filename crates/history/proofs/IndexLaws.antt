-- The laws of an index: every filter reads as the image says, and one more filter, wherever it goes, keeps the image.
use Rattle.std.specs.Prelude.{◌≡◌, refl, ◌≢◌, ◌⊎◌, Bool, List, [], ◌++◌, ℕ, ◌+◌, ◌-◌, ◌*◌, ◌/◌, ◌%◌, ◌≤◌, ◌<◌, length, get_or, replicate}
use Rattle.std.proofs.Common.{sym, ap, ◌∙◌, inl, inr, eq-eqb, ne_eqb}
use Rattle.std.proofs.Math.Nat.{mod-lt}
use native.Mathlib.Omega.{arith}
use Rattle.memory.specs.Lists.{length_write}
use Rattle.memory.specs.Cases.{lt?, eq?, either}
use Rattle.memory.specs.Numbers.{euclid, carry, div_of, mod_of}
use Rattle.layout.specs.Geometry.{sector, page, block, filter_bits}
use Rattle.layout.specs.Flash.{Flash, Op, apply_all, all_fresh}
use Rattle.layout.specs.Items.{zero_page}
use Rattle.layout.specs.Index.{Index, row_byte, in_ska, in_l1, in_set, in_full, full_filters, full_block, filter_bit, with_filter, filter_ram}
use Rattle.history.specs.Operations.{flush_ops, build_ops, flush_and_build_ops, filter_ops}
use Rattle.history.specs.Image.{IndexMain, IndexSpare, IndexIs}
use Rattle.history.specs.Frames.{IndexGrown}
use Rattle.history.proofs.FlashLaws.{fresh_append, apply_append, allowed_append, apply_main_length, apply_spare_length}
use Rattle.history.specs.IndexRead.{SkaIs, on_flash}
use Rattle.history.proofs.IndexRead.{read_ska, read_flash, ska_ext, main_ext, main_kept, spare_kept, main_erased}
use Rattle.history.proofs.IndexRead.{spare_erased}
use Rattle.history.proofs.IndexFlush.{ska_add, ska_zero, ska_sector, flush_main, flush_main_out, flush_spare, flush_spare_out}
use Rattle.history.proofs.IndexFlush.{flush_allowed, flush_fresh}
use Rattle.history.specs.IndexBuild.{IndexAfter}
use Rattle.history.proofs.IndexBuild.{build_side, build_full}
use Rattle.history.proofs.SkaLaws.{filter_out, filter_length, zero_in, zero_out}
use Rattle.laws.specs.Units.{UnitIs}

module _ (u e : ℕ) (unit : UnitIs u e) (ix : Index) (Z : ℕ) where
  -- ---- reading

  four_pos : 0 < 4 * u
  four_pos = omega (arith, unit.some)

  -- all filters but those of the SKA page are on flash
  flash_count : (N : ℕ) → on_flash u (in_full u N) (in_set u N) (in_l1 N) ≡ 8 * (N / 8)
  flash_count N = let E = euclid (N / 8 / 16) (4 * u) four_pos in omega arith

  -- every filter reads as the image says, wherever it stands
  pub read_filter : (F : ℕ → ℕ → Bool) (N : ℕ) (main spare ram : List ℕ) → IndexIs u ix Z F N main spare ram → in_full u N ≤ Z
      → (f x : ℕ) → f < N → x < filter_bits u → filter_bit u ix main ram N f x ≡ F f x
  unfolding filter_bit
  read_filter F N main spare ram I full f x hf hx =
      either (lt? f (N / 8 * 8))
      (λ a. rw a.0
      (read_flash u e unit ix Z F (in_full u N) (in_set u N) (in_l1 N) main I.on_main_lem (mod-lt (N / 8 / 16) four_pos) full
      (omega arith) ram f x (omega (arith, flash_count N)) hx))
      (λ a.
      let back : 8 * (N / 8) + (f - N / 8 * 8) ≡ f = omega arith in
      rw a.0 (read_ska u e unit ix F (N / 8) (in_ska N) main ram (omega arith) I.on_ram_lem (f - N / 8 * 8) x (omega arith) hx ∙ rw back))

  -- only the filters that are there decide
  pub index_ext : (F G : ℕ → ℕ → Bool) (N : ℕ) (main spare ram : List ℕ) → ((f x : ℕ) → f < N → x < filter_bits u → F f x ≡ G f x)
      → in_full u N ≤ Z → IndexIs u ix Z F N main spare ram → IndexIs u ix Z G N main spare ram
  index_ext F G N main spare ram same full I = record {
    on_main_lem = main_ext u e unit ix F G Z (in_full u N) (in_set u N) (in_l1 N) main (mod-lt (N / 8 / 16) four_pos)
        (λ f x a b. same f x (omega (arith, flash_count N)) b) I.on_main_lem;
    on_spare = I.on_spare;
    on_ram_lem = ska_ext u e unit ix F G (N / 8) (in_ska N) ram (λ f x a b. same f x (omega arith) b) I.on_ram_lem;
  }

  -- an index whose bytes are kept is kept
  pub index_kept : (F : ℕ → ℕ → Bool) (N : ℕ) (main spare ram main' spare' ram' : List ℕ) → IndexIs u ix Z F N main spare ram
      → ((x : ℕ) → ix.first * block u ≤ x → x < full_block u ix Z * block u → get_or main' x 0 ≡ get_or main x 0)
      → ((x : ℕ) → ix.first * 64 ≤ x → x < full_block u ix Z * 64 → get_or spare' x 0 ≡ get_or spare x 0)
      → ((x : ℕ) → ix.ska ≤ x → x < ix.ska + page u → get_or ram' x 0 ≡ get_or ram x 0)
      → IndexIs u ix Z F N main' spare' ram'
  index_kept F N main spare ram main' spare' ram' I m s r = record {
    on_main_lem = main_kept u ix Z F (in_full u N) (in_set u N) (in_l1 N) main main' I.on_main_lem m;
    on_spare = spare_kept u ix Z (in_full u N) (in_set u N) (in_l1 N) spare spare' I.on_spare s;
    on_ram_lem = λ i h. r (ix.ska + i) (omega arith) (omega arith) ∙ I.on_ram_lem i h;
  }

  -- an erased index with a zeroed RAM page has no filter
  pub index_start : (F : ℕ → ℕ → Bool) (main spare ram : List ℕ)
      → ((x : ℕ) → ix.first * block u ≤ x → x < full_block u ix Z * block u → get_or main x 0 ≡ 255)
      → ((x : ℕ) → ix.first * 64 ≤ x → x < full_block u ix Z * 64 → get_or spare x 0 ≡ 255)
      → ((x : ℕ) → ix.ska ≤ x → x < ix.ska + page u → get_or ram x 0 ≡ 0)
      → IndexIs u ix Z F 0 main spare ram
  index_start F main spare ram m s r =
      let q : 0 / (4 * u) ≡ 0 = div_of 0 (4 * u) 0 0 (omega arith) four_pos in
      let p : 0 % (4 * u) ≡ 0 = mod_of 0 (4 * u) 0 0 (omega arith) four_pos in
      record {
        on_main_lem = rw (q, p) (main_erased u ix Z F main m);
        on_spare = rw (q, p) (spare_erased u ix Z spare s);
        on_ram_lem = ska_zero u unit.some ix F 0 ram r;
      }

  -- ---- a flush, and what may follow it

  -- the same by other words for its numbers
  after_as : (F : ℕ → ℕ → Bool) (from z z' c c' t t' : ℕ) (ops : List Op) (C : Flash) → z' ≡ z → c' ≡ c → t' ≡ t
      → IndexAfter u ix Z F from z c t ops C → IndexAfter u ix Z F from z' c' t' ops C
  after_as F from z z' c c' t t' ops C p q r A = rw (p, q, r) A

  -- operations that leave the sectors past L1, then others
  after_append : (F : ℕ → ℕ → Bool) (z c t z' c' t' : ℕ) (xs ys : List Op) (C : Flash) → IndexAfter u ix Z F ix.first z c t xs C
      → ((x : ℕ) → (ix.first + 1) * 64 ≤ x → get_or (apply_all u xs C).spare x 0 ≡ get_or C.spare x 0)
      → IndexAfter u ix Z F (ix.first + 1) z' c' t' ys (apply_all u xs C) → IndexAfter u ix Z F ix.first z' c' t' (xs ++ ys) C
  after_append F z c t z' c' t' xs ys C A out B = record {
    on_main_lem = rw (apply_append u xs ys C) B.on_main_lem;
    on_spare = rw (apply_append u xs ys C) B.on_spare;
    may = allowed_append u xs ys C A.may B.may;
    free = λ spare same. fresh_append spare xs ys (A.free spare same)
        (B.free spare (λ x lo hi. same x (omega arith) hi ∙ sym (out x lo)));
    main_out = λ x o. rw (apply_append u xs ys C) (B.main_out x o ∙ A.main_out x o);
    spare_out = λ x o. rw (apply_append u xs ys C) (B.spare_out x o ∙ A.spare_out x o);
  }

  module _ (F : ℕ → ℕ → Bool) (z c t flushes : ℕ) (C : Flash) (ram : List ℕ) (I : IndexMain u ix Z F z c t C.main)
      (M : IndexSpare u ix Z z c t C.spare)
      (full : SkaIs u ix F flushes 8 ram) (count : on_flash u z c t ≡ 8 * flushes) (hc : c < 4 * u) (hz : z ≤ Z) (ht : t < 16)
      (main_fits : full_block u ix Z * block u ≤ length C.main) (spare_fits : full_block u ix Z * 64 ≤ length C.spare) where
    bytes : (i y : ℕ) → i < 4 → y < sector u
        → get_or ram (ix.ska + (i * sector u + y)) 0
        ≡ row_byte (λ g. F (z * full_filters u + 128 * c + 8 * t + g)) 8 (sector u) (i * sector u) y
    bytes i y hi hy =
        ska_sector u unit.some ix F flushes ram full i y hi hy
        ∙ ap (λ (n : ℕ). row_byte (λ g. F (n + g)) 8 (sector u) (i * sector u) y) (sym count)

    abbrev sectors : ℕ → ℕ → ℕ
    sectors i y = get_or ram (ix.ska + (i * sector u + y)) 0

    after_flush : IndexAfter u ix Z F ix.first z c (t + 1) (flush_ops u ix t ram) C
    after_flush = record {
      on_main_lem = flush_main u unit.some ix Z z c t C sectors ht F I main_fits bytes;
      on_spare = flush_spare u unit.some ix Z z c t C sectors ht M spare_fits;
      may = flush_allowed u unit.some ix Z z c t C sectors ht M spare_fits;
      free = flush_fresh u unit.some ix Z z c t C sectors ht M spare_fits;
      main_out = λ x o. flush_main_out u unit.some ix Z z c t C sectors ht x (either o (λ a. inl a) (λ a. inr (omega arith)));
      spare_out = λ x o. flush_spare_out u unit.some ix Z z c t C sectors ht x (either o (λ a. inl a) (λ a. inr (omega arith)));
    }

    abbrev flushed : Flash
    flushed = apply_all u (flush_ops u ix t ram) C

    past_l1 : (x : ℕ) → (ix.first + 1) * 64 ≤ x → get_or flushed.spare x 0 ≡ get_or C.spare x 0
    past_l1 x h = flush_spare_out u unit.some ix Z z c t C sectors ht x (inr h)

    -- after the sixteenth
    module _ (sixteen : t + 1 ≡ 16) where
      main_16 : IndexMain u ix Z F z c 16 flushed.main
      main_16 = rw sixteen at after_flush.on_main_lem

      spare_16 : IndexSpare u ix Z z c 16 flushed.spare
      spare_16 = rw sixteen at after_flush.on_spare

      after_side : c + 1 < 4 * u → IndexAfter u ix Z F ix.first z (c + 1) 0 (flush_ops u ix t ram ++ build_ops u ix flushed.main z c) C
      after_side more =
          after_append F z c (t + 1) z (c + 1) 0 (flush_ops u ix t ram) (build_ops u ix flushed.main z c) C after_flush past_l1
          (build_side u e unit ix Z F z c flushed main_16 spare_16 hc hz (rw (apply_main_length u (flush_ops u ix t ram) C) main_fits)
          (rw (apply_spare_length u (flush_ops u ix t ram) C) spare_fits) more)

      after_full : c + 1 ≡ 4 * u → z < Z
          → IndexAfter u ix Z F ix.first (z + 1) 0 0 (flush_ops u ix t ram ++ build_ops u ix flushed.main z c) C
      after_full last room =
          after_append F z c (t + 1) (z + 1) 0 0 (flush_ops u ix t ram) (build_ops u ix flushed.main z c) C after_flush past_l1
          (build_full u e unit ix Z F z c flushed main_16 spare_16 hc hz (rw (apply_main_length u (flush_ops u ix t ram) C) main_fits)
          (rw (apply_spare_length u (flush_ops u ix t ram) C) spare_fits) last room)

  -- ---- one more filter

  module _ (F : ℕ → ℕ → Bool) (N : ℕ) (new : ℕ → Bool) (C : Flash) (ram : List ℕ) (I : IndexIs u ix Z F N C.main C.spare ram)
      (same : (x : ℕ) → x < filter_bits u → new x ≡ F N x) (room : in_full u (N + 1) ≤ Z)
      (main_fits : full_block u ix Z * block u ≤ length C.main) (spare_fits : full_block u ix Z * 64 ≤ length C.spare)
      (ram_fits : ix.ska + page u ≤ length ram) where
    -- the RAM with the filter in the SKA page, and the operations
    abbrev pub ram₁ : List ℕ
    ram₁ = with_filter u ix (in_ska N) new ram

    abbrev pub ops : List Op
    ops = filter_ops u ix C N ram₁

    ska_one : SkaIs u ix F (N / 8) (N % 8 + 1) ram₁
    ska_one =
        ska_add u unit.some ix F new (N / 8) (N % 8) ram (omega arith) ram_fits
        (λ x h. let n : 8 * (N / 8) + N % 8 ≡ N = omega arith in rw n (same x h)) I.on_ram_lem

    -- the page is full
    module _ (eight : N % 8 + 1 ≡ 8) (hz : in_full u N ≤ Z) where
      ska_8 : SkaIs u ix F (N / 8) 8 ram₁
      ska_8 = rw eight at ska_one

      by_flush : N / 8 % 16 + 1 ≢ 16
          → IndexAfter u ix Z F ix.first (in_full u N) (in_set u N) (in_l1 N + 1) (flush_and_build_ops u ix C N ram₁) C
      unfolding flush_and_build_ops
      by_flush less =
          rw (ne_eqb (N / 8 % 16 + 1) 16 less)
          (after_flush F (in_full u N) (in_set u N) (in_l1 N) (N / 8) C ram₁ I.on_main_lem I.on_spare ska_8 (flash_count N)
          (mod-lt (N / 8 / 16) four_pos) hz (omega arith) main_fits spare_fits)

      by_side : N / 8 % 16 + 1 ≡ 16 → in_set u N + 1 ≢ 4 * u
          → IndexAfter u ix Z F ix.first (in_full u N) (in_set u N + 1) 0 (flush_and_build_ops u ix C N ram₁) C
      unfolding flush_and_build_ops
      by_side sixteen more =
          let hc : in_set u N < 4 * u = mod-lt (N / 8 / 16) four_pos in
          rw (eq-eqb (N / 8 % 16 + 1) 16 sixteen)
          (after_side F (in_full u N) (in_set u N) (in_l1 N) (N / 8) C ram₁ I.on_main_lem I.on_spare ska_8 (flash_count N) hc hz
          (omega arith) main_fits spare_fits sixteen (omega arith))

      by_full : N / 8 % 16 + 1 ≡ 16 → in_set u N + 1 ≡ 4 * u → in_full u N < Z
          → IndexAfter u ix Z F ix.first (in_full u N + 1) 0 0 (flush_and_build_ops u ix C N ram₁) C
      unfolding flush_and_build_ops
      by_full sixteen last less =
          rw (eq-eqb (N / 8 % 16 + 1) 16 sixteen)
          (after_full F (in_full u N) (in_set u N) (in_l1 N) (N / 8) C ram₁ I.on_main_lem I.on_spare ska_8 (flash_count N)
          (mod-lt (N / 8 / 16) four_pos) hz (omega arith) main_fits spare_fits sixteen last less)

    after_page : N % 8 + 1 ≡ 8 → (N + 1) / 8 ≡ N / 8 + 1
        → IndexAfter u ix Z F ix.first (in_full u (N + 1)) (in_set u (N + 1)) (in_l1 (N + 1)) (flush_and_build_ops u ix C N ram₁) C
    after_page eight up =
        either (carry (N / 8) 16 (omega arith))
        (λ b. either (carry (N / 8 / 16) (4 * u) four_pos)
        (λ d.
        let z_is : in_full u (N + 1) ≡ in_full u N + 1 = rw (up, b.1) d.1 in
        let c_is : in_set u (N + 1) ≡ 0 = rw (up, b.1) d.2 in
        let t_is : in_l1 (N + 1) ≡ 0 = rw up b.2 in
        after_as F ix.first (in_full u N + 1) (in_full u (N + 1)) 0 (in_set u (N + 1)) 0 (in_l1 (N + 1))
        (flush_and_build_ops u ix C N ram₁) C z_is c_is t_is
        (by_full eight (omega arith) b.0 d.0 (omega arith)))
        (λ d.
        let z_is : in_full u (N + 1) ≡ in_full u N = rw (up, b.1) d.1 in
        let c_is : in_set u (N + 1) ≡ in_set u N + 1 = rw (up, b.1) d.2 in
        let t_is : in_l1 (N + 1) ≡ 0 = rw up b.2 in
        after_as F ix.first (in_full u N) (in_full u (N + 1)) (in_set u N + 1) (in_set u (N + 1)) 0 (in_l1 (N + 1))
        (flush_and_build_ops u ix C N ram₁) C z_is c_is t_is
        (by_side eight (omega arith) b.0 d.0)))
        (λ b.
        let z_is : in_full u (N + 1) ≡ in_full u N = rw (up, b.1) in
        let c_is : in_set u (N + 1) ≡ in_set u N = rw (up, b.1) in
        let t_is : in_l1 (N + 1) ≡ in_l1 N + 1 = rw up b.2 in
        after_as F ix.first (in_full u N) (in_full u (N + 1)) (in_set u N) (in_set u (N + 1)) (in_l1 N + 1) (in_l1 (N + 1))
        (flush_and_build_ops u ix C N ram₁) C z_is c_is t_is
        (by_flush eight (omega arith) b.0))

    -- no operation: the filter stays in the SKA page
    after_none : IndexAfter u ix Z F ix.first (in_full u N) (in_set u N) (in_l1 N) [] C
    unfolding all_fresh
    after_none = record {
      on_main_lem = I.on_main_lem;
      on_spare = I.on_spare;
      may = tt;
      free = λ spare agree. refl;
      main_out = λ x o. refl;
      spare_out = λ x o. refl;
    }

    after_filter : IndexAfter u ix Z F ix.first (in_full u (N + 1)) (in_set u (N + 1)) (in_l1 (N + 1)) ops C
    after_filter =
        either (carry N 8 (omega arith))
        (λ a. rw (eq-eqb (N % 8 + 1) 8 a.0) (after_page a.0 a.1))
        (λ a. rw (ne_eqb (N % 8 + 1) 8 a.0)
        (after_as F ix.first (in_full u N) (in_full u (N + 1)) (in_set u N) (in_set u (N + 1)) (in_l1 N) (in_l1 (N + 1)) [] C (rw a.1)
        (rw a.1) (rw a.1) after_none))

    -- the SKA page after the call
    ska_after : SkaIs u ix F ((N + 1) / 8) (in_ska (N + 1)) (filter_ram u ix N ram₁)
    ska_after =
        let l : length ram₁ ≡ length ram = filter_length u unit.some ix new (N % 8) ram in
        either (carry N 8 (omega arith))
        (λ a. rw (eq-eqb (N % 8 + 1) 8 a.0, a.2)
        (ska_zero u unit.some ix F ((N + 1) / 8) (zero_page u ix.ska ram₁)
        (λ x lo hi. zero_in u unit.some ix ram₁ x (rw l ram_fits) lo hi)))
        (λ a. rw (ne_eqb (N % 8 + 1) 8 a.0, a.1, a.2) ska_one)

    -- the RAM outside the SKA page is kept
    index_ram_out : (x : ℕ) → (x < ix.ska) ⊎ (ix.ska + page u ≤ x) → get_or (filter_ram u ix N ram₁) x 0 ≡ get_or ram x 0
    index_ram_out x o =
        let kept = filter_out u unit.some ix new (N % 8) ram x (omega arith) o in
        either (eq? (N % 8 + 1) 8)
        (λ a. rw a.0 (zero_out u unit.some ix ram₁ x o ∙ kept))
        (λ a. rw a.0 kept)

    index_ram_length : length (filter_ram u ix N ram₁) ≡ length ram
    index_ram_length =
        let kept = filter_length u unit.some ix new (N % 8) ram in
        either (eq? (N % 8 + 1) 8)
        (λ a. rw a.0 (length_write ram₁ ix.ska (replicate (64 * u) 0) ∙ kept))
        (λ a. rw a.0 kept)

    -- refusal 7 is tested on the spare area before the call: on any that agrees with C's on the index's sectors
    pub index_grown : IndexGrown u ix Z F N new C ram
    index_grown = record {
      did = record {
        allowed = after_filter.may;
        fresh = after_filter.free;
        frame = record {
          main = after_filter.main_out;
          spare = after_filter.spare_out;
          ram = index_ram_out;
          main_length = apply_main_length u ops C;
          spare_length = apply_spare_length u ops C;
          ram_length = index_ram_length;
        };
      };
      more = record { on_main_lem = after_filter.on_main_lem; on_spare = after_filter.on_spare; on_ram_lem = ska_after };
    }
