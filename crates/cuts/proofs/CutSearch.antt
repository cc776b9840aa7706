-- The search on a volume that holds the image of a history, after the first operations of a call: it ends where it ended before them.
-- Filters that were erased have all bits, so that they leave no page out.
use Rattle.std.specs.Prelude.{◌≡◌, refl, Bool, true, List, ℕ, zero, suc, ◌+◌, ◌-◌, ◌*◌, ◌/◌, ◌%◌, ◌^◌, ◌≤◌, ◌<◌, length, get_or}
use Rattle.std.proofs.Math.Path.{ap}
use Rattle.std.proofs.Common.{◌∙◌, inl, mod-lt, lt-ltb}
use Rattle.std.proofs.Math.Nat.{mul-le-mul_right}
use native.Mathlib.Omega.{arith}
use Rattle.std.proofs.Math.Arith.{digits_div}
use Rattle.laws.specs.SetLaws.{unit_pos, set_whole, width_pos, blocks_fit, side_range}
use Rattle.memory.specs.Bits.{bit}
use Rattle.memory.specs.Cases.{lt?, either}
use Rattle.memory.specs.Numbers.{euclid, div_lt, div_of}
use Rattle.memory.specs.Power.{log2up, log2up_enough}
use Rattle.layout.specs.Flash.{Op, Flash, apply_all}
use Rattle.layout.specs.Items.{Area, item_word}
use Rattle.layout.specs.Index.{Index, bit_at, filter_bit, in_l1, in_set, in_full, set_pages, set_width, set_blocks, full_filters}
use Rattle.layout.specs.Index.{side_block, full_block, flash_place}
use Rattle.history.specs.FlashLaws.{AllAllowed}
use Rattle.history.specs.Image.{AreaIs, IndexIs, IndexSpare}
use Rattle.history.proofs.RowLaws.{blocks_some}
use Rattle.cuts.specs.CutLaws.{Apart}
use Rattle.cuts.specs.Kept.{Sized, ErasesIn}
use Rattle.cuts.proofs.Kept.{kept, kept_or_erased}
use Rattle.cuts.proofs.Addresses.{set_address, l1_address, l1_sector, l1_sector_lt}

-- an erased byte has all bits
all_bits : (i : ℕ) → i < 8 → bit 255 i ≡ true
unfolding bit
all_bits zero l = refl
all_bits (suc zero) l = refl
all_bits (suc (suc zero)) l = refl
all_bits (suc (suc (suc zero))) l = refl
all_bits (suc (suc (suc (suc zero)))) l = refl
all_bits (suc (suc (suc (suc (suc zero))))) l = refl
all_bits (suc (suc (suc (suc (suc (suc zero)))))) l = refl
all_bits (suc (suc (suc (suc (suc (suc (suc zero))))))) l = refl
all_bits (suc (suc (suc (suc (suc (suc (suc (suc i)))))))) l = absurd (omega arith)

-- the first operations of a call, done on the chip C
module _ (u e : ℕ) (pow : u ≡ 2 ^ e) (C : Flash) (os : List Op) (allowed : AllAllowed u os C) (apart : Apart os) (sized : Sized u os) where
  pu : 0 < u
  pu = unit_pos u e pow

  abbrev X : Flash
  X = apply_all u os C

  -- a sector's number from an address in a block
  sector_of : (b o : ℕ) → (b * (1024 * u) + o) / (16 * u) ≡ b * 64 + o / (16 * u)
  sector_of b o =
      let E = euclid o (16 * u) (omega (arith, pu)) in
      div_of (b * (1024 * u) + o) (16 * u) (b * 64 + o / (16 * u)) (o % (16 * u)) (omega arith) E.small

  -- ---- items of full pages are kept

  module _ (a : Area) (blocks lo hi : ℕ) (f : ℕ → ℕ → ℕ) (n : ℕ) (ram : List ℕ) (A : AreaIs u a blocks f n C.main C.spare ram)
      (whole : a.per_page * a.size ≡ 64 * u) (pq : 0 < a.per_page) (room : n / a.per_page ≤ blocks * 16) (erases : ErasesIn lo hi os)
      (before : a.first + blocks ≤ lo) where
    byte_kept : (k : ℕ) → k < n / a.per_page * (64 * u) → get_or (apply_all u os C).main (a.first * (1024 * u) + k) 0
        ≡ get_or C.main (a.first * (1024 * u) + k) 0
    byte_kept k l =
        let E = euclid k (16 * u) (omega (arith, pu)) in
        let s : k / (16 * u) < n / a.per_page * 4 = div_lt k (16 * u) (n / a.per_page * 4) (omega (arith, pu)) (omega (arith, l)) in
        let b : (a.first * 64 + k / (16 * u)) / 64 < lo
        = div_lt (a.first * 64 + k / (16 * u)) 64 lo (omega arith) (omega (arith, s, room, before)) in
        kept u pu (a.first * (1024 * u) + k) lo hi os C allowed sized erases (inl (rw (sector_of a.first k) b))
        (rw (sector_of a.first k) (A.on_spare (k / (16 * u)) (omega (arith, s, room))
        ∙ rw (lt-ltb (k / (16 * u)) (n / a.per_page * 4) s)))

    pub word_kept : (j i : ℕ) → i * 4 + 4 ≤ a.size → item_word u a n (apply_all u os C).main ram j i ≡ item_word u a n C.main ram j i
    unfolding item_word
    word_kept j i fit =
        either (lt? j (n / a.per_page * a.per_page))
        (λ q.
        let m : j * a.size + a.size ≤ n / a.per_page * a.per_page * a.size = omega (arith, mul-le-mul_right a.size q.1) in
        let w : n / a.per_page * a.per_page * a.size ≡ n / a.per_page * (64 * u)
        = omega (arith, ap (λ (x : ℕ). n / a.per_page * x) whole) in
        let at : (b : ℕ) → a.first * (1024 * u) + j * a.size + i * 4 + b ≡ a.first * (1024 * u) + (j * a.size + i * 4 + b)
        = λ b. omega arith in
        let at0 : a.first * (1024 * u) + j * a.size + i * 4 ≡ a.first * (1024 * u) + (j * a.size + i * 4) = omega arith in
        rw (
          q.0,
          at 1,
          at 2,
          at 3,
          at0,
          byte_kept (j * a.size + i * 4) (omega (arith, m, w)),
          byte_kept (j * a.size + i * 4 + 1) (omega (arith, m, w)),
          byte_kept (j * a.size + i * 4 + 2) (omega (arith, m, w)),
          byte_kept (j * a.size + i * 4 + 3) (omega (arith, m, w)),
        ))
        (λ q. rw q.0)

  -- ---- bits of filters are kept, or set

  bit_more : (a i : ℕ) → i < 8 → a < length C.main → get_or C.spare (a / (16 * u)) 0 ≡ 0 → bit (get_or C.main a 0) i ≡ true
      → bit (get_or (apply_all u os C).main a 0) i ≡ true
  bit_more a i l n m q =
      either (kept_or_erased u pu a os C allowed apart sized n m)
      (λ k. ap (λ (x : ℕ). bit x i) k ∙ q)
      (λ k. ap (λ (x : ℕ). bit x i) k ∙ all_bits i l)

  -- of a set of P pages from block b on
  set_more : (b N P w g x i : ℕ) → i < 8 → 0 < w → P * w ≡ 64 * u → N ≤ 8 * P → g < N → x < 64 * u
      → (b * (1024 * u) + P * (64 * u) ≤ length C.main) → ((s : ℕ) → s < P * 4 → get_or C.spare (b * 64 + s) 0 ≡ 0)
      → bit (get_or C.main (b * (1024 * u) + x / w * (64 * u) + (g * w + x % w) / 8) 0) i ≡ true
      → bit (get_or (apply_all u os C).main (b * (1024 * u) + x / w * (64 * u) + (g * w + x % w) / 8) 0) i ≡ true
  set_more b N P w g x i li pw Pw small hg hx long programmed q =
      let o : x / w * (64 * u) + (g * w + x % w) / 8 < P * (64 * u) = set_address u N P w g x pw Pw small hg hx in
      let at : b * (1024 * u) + x / w * (64 * u) + (g * w + x % w) / 8 ≡ b * (1024 * u) + (x / w * (64 * u) + (g * w + x % w) / 8)
      = omega arith in
      let s : (x / w * (64 * u) + (g * w + x % w) / 8) / (16 * u) < P * 4 = div_lt (x / w * (64 * u) + (g * w + x % w) / 8) (16 * u) (P * 4)
      (omega (arith, pu)) (omega (arith, o)) in
      bit_more (b * (1024 * u) + x / w * (64 * u) + (g * w + x % w) / 8) i li (omega (arith, o, long))
      (rw (at, sector_of b (x / w * (64 * u) + (g * w + x % w) / 8)) (programmed ((x / w * (64 * u) + (g * w + x % w) / 8) / (16 * u)) s)) q

  module _ (ix : Index) (Z : ℕ) (z c t : ℕ) (M : IndexSpare u ix Z z c t C.spare) (hc : c < 4 * u) (hz : z ≤ Z) (ht : t ≤ 16)
      (long : full_block u ix Z * (1024 * u) ≤ length C.main) where
    full_more : (f x i : ℕ) → i < 8 → f < z * full_filters u → x < 64 * u
        → bit (get_or C.main (full_block u ix (f / full_filters u) * (1024 * u) + x / 1 * (64 * u) + (f % full_filters u * 1 + x % 1) / 8) 0)
        i ≡ true
        → bit (get_or (apply_all u os C).main (full_block u ix
        (f / full_filters u) * (1024 * u) + x / 1 * (64 * u) + (f % full_filters u * 1 + x % 1) / 8) 0) i ≡ true
    full_more f x i li hf hx q =
        let E = euclid f (128 * (4 * u)) (omega (arith, pu)) in
        let k : f / (128 * (4 * u)) < z = div_lt f (128 * (4 * u)) z (omega (arith, pu)) hf in
        let up : f / (128 * (4 * u)) * (4 * u) + 4 * u ≤ Z * (4 * u)
        = omega (arith, mul-le-mul_right (4 * u) k, mul-le-mul_right (4 * u) hz) in
        set_more (full_block u ix (f / (128 * (4 * u)))) (128 * (4 * u)) (64 * u) 1 (f % (128 * (4 * u))) x i li (omega arith) (omega arith)
        (omega arith) E.small hx
        (omega (arith, long, mul-le-mul_right (1024 * u) up))
        (λ s l. M.full (f / (128 * (4 * u))) s (omega (arith, k, hz)) (omega (arith, l)) ∙ rw (lt-ltb (f / (128 * (4 * u))) z k)) q

    side_more : (g x i : ℕ) → i < 8 → g < 128 * c → x < 64 * u
        → bit (get_or C.main (side_block u ix c * (1024 * u) + x / set_width u c * (64 * u) + (g * set_width u c + x % set_width u c) / 8) 0) i
        ≡ true
        → bit (get_or (apply_all u os C).main (side_block u ix c * (1024 * u) + x / set_width u
        c * (64 * u) + (g * set_width u c + x % set_width u c) / 8) 0) i ≡ true
    side_more g x i li hg hx q =
        let pc : 0 < c = omega arith in
        let fit : 2 ^ log2up c ≤ 4 * u = blocks_fit u e pow c (omega (arith, hc)) in
        let is : set_blocks c ≡ 2 ^ log2up c = blocks_some c pc in
        let r = side_range u ix c in
        set_more (side_block u ix c) (128 * c) (set_pages c) (set_width u c) g x i li (width_pos u e pow c (omega (arith, hc)))
        (set_whole u e pow c (omega (arith, hc))) (omega (arith, log2up_enough c)) hg hx
        (omega (arith, long, mul-le-mul_right (1024 * u) fit, mul-le-mul_right (1024 * u) r.1))
        (λ s l. M.here s (omega (arith, l, fit)) ∙ rw (is, lt-ltb s (2 ^ log2up c * 64) (omega (arith, l)))) q

    l1_more : (f x i : ℕ) → i < 8 → f < 8 * t → x < 64 * u
        → bit (get_or C.main (ix.first * (1024 * u) + ((4 * (x / (16 * u)) + f / 8 / 4) * (64 * u) + f / 8 % 4 * (16 * u)) + (f %
        8 * (16 * u) + x % (16 * u)) / 8) 0) i ≡ true
        → bit (get_or (apply_all u os C).main (ix.first * (1024 * u) + ((4 * (x / (16 * u)) + f / 8 / 4) * (64 * u) + f / 8 %
        4 * (16 * u)) + (f % 8 * (16 * u) + x % (16 * u)) / 8) 0) i ≡ true
    l1_more f x i li hf hx q =
        let y : (f % 8 * (16 * u) + x % (16 * u)) / 8 < 16 * u = l1_address u f x pu in
        let at : ix.first * (1024 * u) + ((4 * (x / (16 * u)) + f / 8 / 4) * (64 * u) + f / 8 % 4 * (16 * u)) + (f % 8 * (16 * u) + x %
        (16 * u)) / 8
        ≡ ix.first * (1024 * u) + ((16 * (x / (16 * u)) + f / 8) * (16 * u) + (f % 8 * (16 * u) + x % (16 * u)) / 8) =
        omega (arith, l1_sector u f x) in
        let s : ((16 * (x / (16 * u)) + f / 8) * (16 * u) + (f % 8 * (16 * u) + x % (16 * u)) / 8) / (16 * u) ≡ 16 * (x / (16 * u)) + f / 8
        = digits_div (16 * (x / (16 * u)) + f / 8) y in
        let l : 16 * (x / (16 * u)) + f / 8 < 64 = l1_sector_lt u f x pu (omega (arith, ht)) hx in
        let m : (16 * (x / (16 * u)) + f / 8) % 16 ≡ f / 8 = omega (arith, ht) in
        bit_more (ix.first * (1024 * u) + ((4 * (x / (16 * u)) + f / 8 / 4) * (64 * u) + f / 8 % 4 * (16 * u)) + (f % 8 * (16 * u) + x %
        (16 * u)) / 8) i li
        (omega (arith, at, y, long, mul-le-mul_right (16 * u) l))
        (rw (at, sector_of ix.first ((16 * (x / (16 * u)) + f / 8) * (16 * u) + (f % 8 * (16 * u) + x % (16 * u)) / 8), s)
        (M.l1 (16 * (x / (16 * u)) + f / 8) l ∙ rw (m, lt-ltb (f / 8) t (omega arith)))) q

    flash_more : (ram : List ℕ) (f x : ℕ) → f < z * full_filters u + 128 * c + 8 * t → x < 64 * u
        → bit_at C.main ram (flash_place u ix z c f x) ≡ true → bit_at (apply_all u os C).main ram (flash_place u ix z c f x) ≡ true
    unfolding bit_at
    flash_more ram f x hf hx =
        either (lt? f (z * full_filters u))
        (λ a. rw a.0 (full_more f x ((f % full_filters u * 1 + x % 1) % 8) (omega arith) a.1 hx))
        (λ a. either (lt? f (z * full_filters u + 128 * c))
        (λ b. rw (a.0, b.0) (side_more (f - z * full_filters u) x (((f - z * full_filters u) * set_width u c + x % set_width u c) % 8)
        (omega arith) (omega (arith, a.1, b.1)) hx))
        (λ b.
        rw (a.0, b.0)
        (l1_more (f - (z * full_filters u + 128 * c)) x (((f - (z * full_filters u + 128 * c)) % 8 * (16 * u) + x % (16 * u)) % 8)
        (omega arith) (omega (arith, hf, b.1)) hx)))

  -- every filter of the index that the chip had before
  pub filter_more : (ix : Index) (Z : ℕ) (F : ℕ → ℕ → Bool) (N : ℕ) (ram : List ℕ) → IndexIs u ix Z F N C.main C.spare ram
      → in_full u N ≤ Z → full_block u ix Z * (1024 * u) ≤ length C.main
      → (f x : ℕ) → x < 64 * u → filter_bit u ix C.main ram N f x ≡ true → filter_bit u ix (apply_all u os C).main ram N f x ≡ true
  unfolding filter_bit bit_at
  filter_more ix Z F N ram I full long f x hx =
      let four : 0 < 4 * u = omega (arith, pu) in
      let E = euclid (N / 8 / 16) (4 * u) four in
      either (lt? f (N / 8 * 8))
      (λ a. rw a.0
      (flash_more ix Z (in_full u N) (in_set u N) (in_l1 N) I.on_spare (mod-lt (N / 8 / 16) four) full (omega arith) long ram f x
      (omega (arith, a.1)) hx))
      (λ a. rw a.0 (λ q. q))
