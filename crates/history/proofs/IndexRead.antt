-- Every filter bit of an index is read where the image says that it lies, and only the filters that are there decide the image.
use Rattle.std.specs.Prelude.{◌≡◌, Bool, List, ℕ, ◌+◌, ◌-◌, ◌*◌, ◌/◌, ◌%◌, ◌^◌, ◌≤◌, ◌<◌, get_or}
use Rattle.std.proofs.Math.Path.{ap}
use Rattle.std.proofs.Common.{◌∙◌, zero-le, mod-lt}
use Rattle.std.proofs.Math.Bool.{true}
use Rattle.std.proofs.Math.Nat.{mul-le-mul_right}
use native.Mathlib.Omega.{arith}
use Rattle.std.proofs.Math.Arith.{digits_div, digits_mod, digits_lt}
use Rattle.std.proofs.Math.Dec.{ltb}
use borrow.Author.Tests.{lt-ltb, le-ltb}
use Rattle.memory.specs.Cases.{lt?, either}
use Rattle.memory.specs.Numbers.{euclid, div_lt}
use Rattle.memory.specs.Power.{log2up, log2up_enough}
use Rattle.layout.specs.Geometry.{page, block, side_blocks}
use Rattle.layout.specs.Index.{Index, bit_at, set_pages, set_width, set_blocks, full_filters, side_block, full_block, ska_place, l1_place, set_place}
use Rattle.layout.specs.Index.{flash_place}
use Rattle.history.specs.Image.{l1_byte, partition_byte, side_byte, full_byte, IndexMain, IndexSpare}
use Rattle.laws.specs.SetLaws.{set_whole, width_pos, blocks_fit, side_range}
use Rattle.history.proofs.RowLaws.{read_row, blocks_some}
use Rattle.laws.specs.Apart.{row_ext}
use Rattle.laws.specs.Units.{UnitIs}
use Rattle.history.specs.IndexRead.{SkaIs, on_flash}

module _ (u e : ℕ) (unit : UnitIs u e) (ix : Index) where
  pub read_ska : (F : ℕ → ℕ → Bool) (flushes s : ℕ) (main ram : List ℕ) → s ≤ 8 → SkaIs u ix F flushes s ram
      → (g x : ℕ) → g < s → x < 64 * u → bit_at main ram (ska_place u ix g x) ≡ F (8 * flushes + g) x
  unfolding bit_at
  read_ska F flushes s main ram hs I g x hg hx =
      let pu = unit.some in
      let E = euclid x (16 * u) (omega arith) in
      let i4 : x / (16 * u) < 4 = div_lt x (16 * u) 4 (omega arith) (omega arith) in
      let g8 : g < 8 = omega arith in
      let y_lt : (g * (16 * u) + x % (16 * u)) / 8 < 16 * u = omega (arith, mul-le-mul_right (16 * u) g8) in
      let a : ix.ska + x / (16 * u) * (16 * u) + (g * (16 * u) + x % (16 * u)) / 8
      ≡ ix.ska + (x / (16 * u) * (16 * u) + (g * (16 * u) + x % (16 * u)) / 8) = omega arith in
      let d : (x / (16 * u) * (16 * u) + (g * (16 * u) + x % (16 * u)) / 8) / (16 * u) ≡ x / (16 * u) = digits_div (x / (16 * u)) y_lt in
      let m : (x / (16 * u) * (16 * u) + (g * (16 * u) + x % (16 * u)) / 8) % (16 * u) ≡ (g * (16 * u) + x % (16 * u)) / 8
      = digits_mod (x / (16 * u)) y_lt in
      rw (a, I (x / (16 * u) * (16 * u) + (g * (16 * u) + x % (16 * u)) / 8) (omega (arith, mul-le-mul_right (16 * u) i4)), d, m)
      (read_row (λ g. F (8 * flushes + g)) s (16 * u) (x / (16 * u) * (16 * u)) g (x % (16 * u)) hg E.small ∙ rw E.whole)

  pub read_l1 : (F : ℕ → ℕ → Bool) (base t : ℕ) (main ram : List ℕ) → t ≤ 16
      → ((i : ℕ) → i < block u → get_or main (ix.first * block u + i) 0 ≡ l1_byte u F base t i)
      → (f x : ℕ) → f < 8 * t → x < 64 * u → bit_at main ram (l1_place u ix f x) ≡ F (base + f) x
  unfolding bit_at
  read_l1 F base t main ram ht I f x hf hx =
      let pu = unit.some in
      let E = euclid x (16 * u) (omega arith) in
      let i4 : x / (16 * u) < 4 = div_lt x (16 * u) 4 (omega arith) (omega arith) in
      let y_lt : (f % 8 * (16 * u) + x % (16 * u)) / 8 < 16 * u
      = omega (arith, mul-le-mul_right (16 * u) (mod-lt f {m = 8} (omega arith))) in
      let q_lt : 16 * (x / (16 * u)) + f / 8 < 64 = omega arith in
      let f4 : (f / 8 / 4 * 4 + f / 8 % 4) * (16 * u) ≡ f / 8 * (16 * u) = ap (λ (n : ℕ). n * (16 * u)) (omega arith) in
      let a : ix.first * (1024 * u) + ((4 * (x / (16 * u)) + f / 8 / 4) * (64 * u) + f / 8 % 4 * (16 * u))
      + (f % 8 * (16 * u) + x % (16 * u)) / 8
      ≡ ix.first * (1024 * u) + ((16 * (x / (16 * u)) + f / 8) * (16 * u) + (f % 8 * (16 * u) + x % (16 * u)) / 8) = omega arith in
      let d : ((16 * (x / (16 * u)) + f / 8) * (16 * u) + (f % 8 * (16 * u) + x % (16 * u)) / 8) / (16 * u) ≡ 16 * (x / (16 * u)) + f / 8
      = digits_div (16 * (x / (16 * u)) + f / 8) y_lt in
      let m : ((16 * (x / (16 * u)) + f / 8) * (16 * u) + (f % 8 * (16 * u) + x % (16 * u)) / 8) % (16 * u)
      ≡ (f % 8 * (16 * u) + x % (16 * u)) / 8 = digits_mod (16 * (x / (16 * u)) + f / 8) y_lt in
      let t_is : (16 * (x / (16 * u)) + f / 8) % 16 ≡ f / 8 = omega arith in
      let p_is : (16 * (x / (16 * u)) + f / 8) / 16 ≡ x / (16 * u) = omega arith in
      let on : ltb (f / 8) t ≡ true = lt-ltb (f / 8) t (omega arith) in
      let back : base + 8 * (f / 8) + f % 8 ≡ base + f = omega arith in
      rw (
        a,
        I ((16 * (x / (16 * u)) + f / 8) * (16 * u) + (f % 8 * (16 * u) + x % (16 * u)) / 8)
            (omega (arith, mul-le-mul_right (16 * u) q_lt)),
        d,
        m,
        t_is,
        p_is,
        on,
      )
      (read_row (λ g. F (base + 8 * (f / 8) + g)) 8 (16 * u) (x / (16 * u) * (16 * u)) (f % 8) (x % (16 * u)) (omega arith) E.small
      ∙ rw (E.whole, back))

  -- P pages of a set from block b on
  pub read_set : (F : ℕ → ℕ → Bool) (base N P w b : ℕ) (main ram : List ℕ) → 0 < w → P * w ≡ 64 * u → N ≤ 8 * P
      → ((i : ℕ) → i < P * page u → get_or main (b * block u + i) 0 ≡ partition_byte u F base N w i)
      → (g x : ℕ) → g < N → x < 64 * u → bit_at main ram (set_place u b w g x) ≡ F (base + g) x
  unfolding bit_at
  read_set F base N P w b main ram pw Pw small I g x hg hx =
      let E = euclid x w pw in
      let gw : g * w + w ≤ 8 * (P * w) = omega (arith, mul-le-mul_right w hg, mul-le-mul_right w small) in
      let y_lt : (g * w + x % w) / 8 < 64 * u = omega arith in
      let p_lt : x / w < P = div_lt x w P pw (omega arith) in
      let a : b * (1024 * u) + x / w * (64 * u) + (g * w + x % w) / 8 ≡ b * (1024 * u) + (x / w * (64 * u) + (g * w + x % w) / 8)
      = omega arith in
      let d : (x / w * (64 * u) + (g * w + x % w) / 8) / (64 * u) ≡ x / w = digits_div (x / w) y_lt in
      let m : (x / w * (64 * u) + (g * w + x % w) / 8) % (64 * u) ≡ (g * w + x % w) / 8 = digits_mod (x / w) y_lt in
      rw (a, I (x / w * (64 * u) + (g * w + x % w) / 8) (digits_lt p_lt y_lt), d, m)
      (read_row (λ g. F (base + g)) N w (x / w * w) g (x % w) hg E.small ∙ rw E.whole)

  -- ---- all filters on flash

  module _ (Z : ℕ) (F : ℕ → ℕ → Bool) (z c t : ℕ) (main : List ℕ) (I : IndexMain u ix Z F z c t main) (hc : c < 4 * u) (hz : z ≤ Z)
      (ht : t ≤ 16) where
    read_full : (ram : List ℕ) (f x : ℕ) → f < z * full_filters u → x < 64 * u
        → bit_at main ram (set_place u (full_block u ix (f / full_filters u)) 1 (f % full_filters u) x) ≡ F f x
    read_full ram f x hf hx =
        let E = euclid f (128 * (4 * u)) (omega arith) in
        let k_lt : f / (128 * (4 * u)) < z = div_lt f (128 * (4 * u)) z (omega arith) hf in
        read_set F (f / (128 * (4 * u)) * (128 * (4 * u))) (128 * (4 * u)) (64 * u) 1 (full_block u ix (f / (128 * (4 * u)))) main ram
        (omega arith) (omega arith) (omega arith)
        (λ i h. I.full (f / (128 * (4 * u))) i (omega arith) (omega arith) ∙ rw (lt-ltb (f / (128 * (4 * u))) z k_lt))
        (f % (128 * (4 * u))) x E.small hx
        ∙ rw E.whole

    read_side : (ram : List ℕ) (g x : ℕ) → g < 128 * c → x < 64 * u
        → bit_at main ram (set_place u (side_block u ix c) (set_width u c) g x) ≡ F (z * full_filters u + g) x
    read_side ram g x hg hx =
        let pc : 0 < c = omega arith in
        let fit = blocks_fit u e unit.power c (omega arith) in
        read_set F (z * full_filters u) (128 * c) (set_pages c) (set_width u c) (side_block u ix c) main ram
        (width_pos u e unit.power c (omega arith))
        (set_whole u e unit.power c (omega arith))
        (omega (arith, log2up_enough c))
        (λ i h.
        let b_is : set_blocks c ≡ 2 ^ log2up c = blocks_some c pc in
        I.here i (omega (arith, mul-le-mul_right (1024 * u) fit)) ∙ rw (b_is, lt-ltb i (2 ^ log2up c * (1024 * u)) (omega arith)))
        g x hg hx

    pub read_flash : (ram : List ℕ) (f x : ℕ) → f < on_flash u z c t → x < 64 * u → bit_at main ram (flash_place u ix z c f x) ≡ F f x
    read_flash ram f x hf hx =
        either (lt? f (z * full_filters u))
        (λ a. rw a.0 (read_full ram f x a.1 hx))
        (λ a. either (lt? f (z * full_filters u + 128 * c))
        (λ b.
        let back : z * full_filters u + (f - z * full_filters u) ≡ f = omega arith in
        rw (a.0, b.0) (read_side ram (f - z * full_filters u) x (omega arith) hx ∙ rw back))
        (λ b.
        let back : z * full_filters u + 128 * c + (f - (z * full_filters u + 128 * c)) ≡ f = omega arith in
        rw (a.0, b.0) (read_l1 F (z * full_filters u + 128 * c) t main ram ht I.l1 (f - (z * full_filters u + 128 * c)) x
        (omega arith) hx ∙ rw back)))

  -- ---- only the filters that are there decide

  pub ska_ext : (F G : ℕ → ℕ → Bool) (flushes s : ℕ) (ram : List ℕ) → ((f x : ℕ) → f < 8 * flushes + s → x < 64 * u → F f x ≡ G f x)
      → SkaIs u ix F flushes s ram → SkaIs u ix G flushes s ram
  ska_ext F G flushes s ram same I i h =
      let pu = unit.some in
      let q4 : i / (16 * u) < 4 = div_lt i (16 * u) 4 (omega arith) (omega arith) in
      I i h
      ∙ row_ext (λ g. F (8 * flushes + g)) (λ g. G (8 * flushes + g)) s (16 * u) (i / (16 * u) * (16 * u)) (i % (16 * u)) (omega arith)
      (λ g r hg hr. same (8 * flushes + g) (i / (16 * u) * (16 * u) + r) (omega arith) (omega (arith, mul-le-mul_right (16 * u) q4)))

  module _ (F G : ℕ → ℕ → Bool) where
    l1_ext : (base t i : ℕ) → ((f x : ℕ) → f < base + 8 * t → x < 64 * u → F f x ≡ G f x) → i < block u
        → l1_byte u F base t i ≡ l1_byte u G base t i
    l1_ext base t i same h =
        let pu = unit.some in
        let q64 : i / (16 * u) < 64 = div_lt i (16 * u) 64 (omega arith) (omega arith) in
        let q4 : i / (16 * u) / 16 < 4 = omega arith in
        either (lt? (i / (16 * u) % 16) t)
        (λ a. rw a.0 (row_ext (λ g. F (base + 8 * (i / (16 * u) % 16) + g)) (λ g. G (base + 8 * (i / (16 * u) % 16) + g)) 8 (16 * u)
        (i / (16 * u) / 16 * (16 * u)) (i % (16 * u)) (omega arith)
        (λ g r hg hr. same (base + 8 * (i / (16 * u) % 16) + g) (i / (16 * u) / 16 * (16 * u) + r) (omega arith)
        (omega (arith, mul-le-mul_right (16 * u) q4)))))
        (λ a. rw a.0)

    partition_ext : (base N P w i : ℕ) → 0 < w → P * w ≡ 64 * u → ((f x : ℕ) → f < base + N → x < 64 * u → F f x ≡ G f x) → i < P * page u
        → partition_byte u F base N w i ≡ partition_byte u G base N w i
    partition_ext base N P w i pw Pw same h =
        let pu = unit.some in
        let p_lt : i / (64 * u) < P = div_lt i (64 * u) P (omega arith) h in
        row_ext (λ g. F (base + g)) (λ g. G (base + g)) N w (i / (64 * u) * w) (i % (64 * u)) pw
        (λ g r hg hr. same (base + g) (i / (64 * u) * w + r) (omega arith) (omega (arith, mul-le-mul_right w p_lt)))

    side_ext : (base c i : ℕ) → c < 4 * u → ((f x : ℕ) → f < base + 128 * c → x < 64 * u → F f x ≡ G f x)
        → side_byte u F base c i ≡ side_byte u G base c i
    side_ext base c i hc same =
        either (lt? i (set_blocks c * block u))
        (λ a. rw a.0 (either (lt? 0 c)
        (λ p.
        let b_is : set_blocks c ≡ 2 ^ log2up c = blocks_some c p.1 in
        let b_by : set_blocks c * (1024 * u) ≡ 2 ^ log2up c * (1024 * u) = ap (λ (n : ℕ). n * (1024 * u)) b_is in
        partition_ext base (128 * c) (set_pages c) (set_width u c) i (width_pos u e unit.power c (omega arith))
        (set_whole u e unit.power c (omega arith)) same (omega arith))
        (λ p. absurd (none c (omega arith) a.1))))
        (λ a. rw a.0)
      where
        none : (c : ℕ) → c ≡ 0 → i < set_blocks c * (1024 * u) → ⊥
        none c e h = let h' : i < 0 * (1024 * u) = rw e at h in omega arith

    full_ext : (z k i : ℕ) → ((f x : ℕ) → f < z * full_filters u → x < 64 * u → F f x ≡ G f x) → i < side_blocks u * block u
        → full_byte u F z k i ≡ full_byte u G z k i
    full_ext z k i same h =
        either (lt? k z)
        (λ a. rw a.0 (partition_ext (k * full_filters u) (full_filters u) (64 * u) 1 i (omega arith) (omega arith)
        (λ f x hf hx. same f x (omega (arith, mul-le-mul_right (128 * (4 * u)) a.1)) hx) (omega arith)))
        (λ a. rw a.0)

    pub main_ext : (Z z c t : ℕ) (main : List ℕ) → c < 4 * u → ((f x : ℕ) → f < on_flash u z c t → x < 64 * u → F f x ≡ G f x)
        → IndexMain u ix Z F z c t main → IndexMain u ix Z G z c t main
    main_ext Z z c t main hc same I = record {
      l1 = λ i h. I.l1 i h ∙ l1_ext (z * full_filters u + 128 * c) t i same h;
      here = λ i h. I.here i h ∙ side_ext (z * full_filters u) c i hc (λ f x a b. same f x (omega arith) b);
      there = I.there;
      full = λ k i l h. I.full k i l h ∙ full_ext z k i (λ f x a b. same f x (omega arith) b) h;
    }

-- ---- bytes of the index that are kept, and bytes that are erased

module _ (u : ℕ) (ix : Index) where
  module _ (Z : ℕ) where
    -- the bytes, and the sectors, of the index
    abbrev pub InMain : ℕ → Type 0
    InMain x = (ix.first * block u ≤ x) × (x < full_block u ix Z * block u)

    abbrev pub InSpare : ℕ → Type 0
    InSpare x = (ix.first * 64 ≤ x) × (x < full_block u ix Z * 64)

    l1_main : (i : ℕ) → i < block u → InMain (ix.first * block u + i)
    l1_main i h = (omega arith, omega arith)

    side_main : (c i : ℕ) → i < side_blocks u * block u → InMain (side_block u ix c * block u + i)
    side_main c i h =
        let r = side_range u ix c in
        (omega (arith, mul-le-mul_right (1024 * u) r.0), omega (arith, mul-le-mul_right (1024 * u) r.1))

    full_main : (k i : ℕ) → k < Z → i < side_blocks u * block u → InMain (full_block u ix k * block u + i)
    full_main k i l h = (omega arith, omega (arith, mul-le-mul_right (4 * u * (1024 * u)) l))

    l1_spare : (i : ℕ) → i < 64 → InSpare (ix.first * 64 + i)
    l1_spare i h = (omega arith, omega arith)

    side_spare : (c i : ℕ) → i < side_blocks u * 64 → InSpare (side_block u ix c * 64 + i)
    side_spare c i h = let r = side_range u ix c in (omega arith, omega arith)

    full_spare : (k i : ℕ) → k < Z → i < side_blocks u * 64 → InSpare (full_block u ix k * 64 + i)
    full_spare k i l h = (omega arith, omega (arith, mul-le-mul_right (4 * u) l))

    pub main_kept : (F : ℕ → ℕ → Bool) (z c t : ℕ) (main main' : List ℕ) → IndexMain u ix Z F z c t main
        → ((x : ℕ) → ix.first * block u ≤ x → x < full_block u ix Z * block u → get_or main' x 0 ≡ get_or main x 0)
        → IndexMain u ix Z F z c t main'
    main_kept F z c t main main' I same = record {
      l1 = λ i h. let p = l1_main i h in same (ix.first * block u + i) p.0 p.1 ∙ I.l1 i h;
      here = λ i h. let p = side_main c i h in same (side_block u ix c * block u + i) p.0 p.1 ∙ I.here i h;
      there = λ i h. let p = side_main (c + 1) i h in same (side_block u ix (c + 1) * block u + i) p.0 p.1 ∙ I.there i h;
      full = λ k i l h. let p = full_main k i l h in same (full_block u ix k * block u + i) p.0 p.1 ∙ I.full k i l h;
    }

    pub spare_kept : (z c t : ℕ) (spare spare' : List ℕ) → IndexSpare u ix Z z c t spare
        → ((x : ℕ) → ix.first * 64 ≤ x → x < full_block u ix Z * 64 → get_or spare' x 0 ≡ get_or spare x 0) → IndexSpare u ix Z z c t spare'
    spare_kept z c t spare spare' I same = record {
      l1 = λ i h. let p = l1_spare i h in same (ix.first * 64 + i) p.0 p.1 ∙ I.l1 i h;
      here = λ i h. let p = side_spare c i h in same (side_block u ix c * 64 + i) p.0 p.1 ∙ I.here i h;
      there = λ i h. let p = side_spare (c + 1) i h in same (side_block u ix (c + 1) * 64 + i) p.0 p.1 ∙ I.there i h;
      full = λ k i l h. let p = full_spare k i l h in same (full_block u ix k * 64 + i) p.0 p.1 ∙ I.full k i l h;
    }

    pub main_erased : (F : ℕ → ℕ → Bool) (main : List ℕ)
        → ((x : ℕ) → ix.first * block u ≤ x → x < full_block u ix Z * block u → get_or main x 0 ≡ 255)
        → IndexMain u ix Z F 0 0 0 main
    main_erased F main same = record {
      l1 = λ i h. let p = l1_main i h in same (ix.first * block u + i) p.0 p.1 ∙ rw (le-ltb (i / (16 * u) % 16) 0 zero-le);
      here = λ i h. let p = side_main 0 i h in same (side_block u ix 0 * block u + i) p.0 p.1
          ∙ rw (le-ltb i (0 * (1024 * u)) (omega arith));
      there = λ i h. let p = side_main (0 + 1) i h in same (side_block u ix (0 + 1) * block u + i) p.0 p.1;
      full = λ k i l h. let p = full_main k i l h in same (full_block u ix k * block u + i) p.0 p.1 ∙ rw (le-ltb k 0 zero-le);
    }

    pub spare_erased : (spare : List ℕ) → ((x : ℕ) → ix.first * 64 ≤ x → x < full_block u ix Z * 64 → get_or spare x 0 ≡ 255)
        → IndexSpare u ix Z 0 0 0 spare
    spare_erased spare same = record {
      l1 = λ i h. let p = l1_spare i h in same (ix.first * 64 + i) p.0 p.1 ∙ rw (le-ltb (i % 16) 0 zero-le);
      here = λ i h. let p = side_spare 0 i h in same (side_block u ix 0 * 64 + i) p.0 p.1 ∙ rw (le-ltb i (0 * 64) zero-le);
      there = λ i h. let p = side_spare (0 + 1) i h in same (side_block u ix (0 + 1) * 64 + i) p.0 p.1;
      full = λ k i l h. let p = full_spare k i l h in same (full_block u ix k * 64 + i) p.0 p.1 ∙ rw (le-ltb k 0 zero-le);
    }
