-- Each level has the filters from its start on, where the layout puts their bits.
use mathlib.Core.Path.{◌≡◌, ap, ◌∙◌}
use mathlib.Core.Bool.{cond}
use mathlib.Core.List.{List}
use Prim.Native.Nat.{ℕ, ◌+◌, ◌*◌, ◌-◌, ◌/◌, ◌%◌, ◌^◌, ◌≤◌, ◌<◌}
use native.Mathlib.Nat.{mul-le-mul_right, div-one}
use native.Mathlib.Omega.{arith}
use borrow.Author.Tests.{lt-ltb, le-ltb}
use lib.ListN.{length}
use lib.Pow.{pow_pos, pow-lt, pow_mono, pow-add}
use Rattle.memory.specs.Cases.{either, lt?, by_lt}
use Rattle.memory.specs.Numbers.{Euclid, euclid, div_of, mod_of, div_lt}
use Rattle.memory.specs.Power.{log2up, log2up_enough, log2up_least, width}
use Rattle.layout.specs.Index.{Index, bit_at, filter_bit, in_full, in_set}
use Rattle.memory.specs.Bits.{bit_in}
use Rattle.laws.specs.SetLaws.{width_is, side_range}
use Rattle.laws.specs.Units.{UnitIs, UnitSound}
use Rattle.filter.specs.Filter.{IndexFits}
use Rattle.filter.specs.Groups.{stage_of, ska_level, l1_level, set_level, full_level, level_in_sets, row_at}
use Rattle.filter.specs.declared.groups.Level.{Level}

-- ---- what a level must be

-- filter f of the index, of F, is one of the level's, in these bytes
abbrev pub Lies : ℕ → Index → List ℕ → List ℕ → ℕ → Level → List ℕ → ℕ → Type 0
Lies u ix main ram F l bytes f =
    (x : ℕ) → filter_bit u ix main ram F f x ≡ bit_in bytes (row_at l x) ((f - l.start) * 2 ^ l.exponent + x % 2 ^ l.exponent)

-- the level, on flash, has the filters from its start to `below` - 1, of F
pub record LevelAt (u : ℕ) (ix : Index) (main ram : List ℕ) (F below : ℕ) (l : Level) : Type 0 where
  pub start_lt : l.start < below
  pub even : l.start % 2 ≡ 0
  pub narrow : l.exponent < 10
  pub small : (below - l.start) * 2 ^ l.exponent < 2 ^ 60
  pub eights : (x : ℕ) → x < 64 * u → row_at l x + (below - l.start + 7) / 8 * 2 ^ l.exponent ≤ length main
  pub blocks : (x : ℕ) → x < 64 * u → row_at l x + ((below - l.start) * 2 ^ l.exponent + 511) / 512 * 64 ≤ length main
  pub lies : (f : ℕ) → l.start ≤ f → f < below → Lies u ix main ram F l main f

-- ---- powers

module _ (u e : ℕ) (S : UnitIs u e) where
  pub power_4 : 2 ^ (e + 4) ≡ 16 * u
  power_4 = pow-add 2 e 4 ∙ omega (arith, S.power)

  pub power_2 : 2 ^ (e + 2) ≡ 4 * u
  power_2 = pow-add 2 e 2 ∙ omega (arith, S.power)

  pub power_9 : 2 ^ (e + 9) ≡ 128 * (4 * u)
  power_9 = pow-add 2 e 9 ∙ omega (arith, S.power)

  -- pages and width of a set: their product is the filter's bits
  pub record Set (c q w : ℕ) : Type 0 where
    pub whole : 16 * q * w ≡ 64 * u
    pub some : 0 < w
    pub enough : c ≤ q
    pub side : q ≤ 4 * u

  pub exponent_le : (c : ℕ) → c < 4 * u → log2up c ≤ e + 2
  exponent_le c h = log2up_least c (e + 2) (omega (arith, power_2))

  pub set_of : (c : ℕ) → c < 4 * u → Set c (2 ^ log2up c) (2 ^ (e + 2 - log2up c))
  set_of c h =
      let W : 16 * 2 ^ log2up c * 2 ^ (e + 2 - log2up c) ≡ 64 * 2 ^ e = width e c (omega (arith, S.power)) in
      let l : log2up c ≤ e + 2 = exponent_le c h in
      record {
        whole = omega (arith, S.power);
        some = pow_pos (e + 2 - log2up c);
        enough = log2up_enough c;
        side = omega (arith, pow_mono l, power_2);
      }

-- the exponent of a power of two, found as that of the least power not below it
pub exponent_is : (u r : ℕ) → UnitSound u → r ≡ log2up u → UnitIs u r
exponent_is u r U is =
    let e : ℕ = U.0 in
    let p = U.1.power in
    let l : log2up u ≤ e = log2up_least u e (omega (arith, p)) in
    let g : e ≤ log2up u = either (lt? (log2up u) e) (λ h. absurd (omega (arith, pow-lt h.1, log2up_enough u, p))) (λ h. h.1) in
    let q : e ≡ r = omega arith in
    rw q at U.1

-- ---- the four levels

module _ (u e : ℕ) (S : UnitIs u e) (ix : Index) (main ram : List ℕ) (F : ℕ) where
  pub ska_lies : (f : ℕ) → F / 8 * 8 ≤ f → Lies u ix main ram F (ska_level u e ix (F / 8 * 8)) ram f
  unfolding filter_bit bit_at
  ska_lies f a = let p : 2 ^ (e + 4) ≡ 16 * u = power_4 u e S in rw p (λ x. rw (le-ltb f (F / 8 * 8) a))

  -- flush t = g / 8 of a round lies t sectors after the first
  l1_byte_lem : (b i r g : ℕ) → b * (1024 * u) + i * (4 * (64 * u)) + (g * (16 * u) + r) / 8
      ≡ b * (1024 * u) + ((4 * i + g / 8 / 4) * (64 * u) + g / 8 % 4 * (16 * u)) + (g % 8 * (16 * u) + r) / 8
  l1_byte_lem b i r g =
      let t : g / 8 ≡ g / 8 / 4 * 4 + g / 8 % 4 = omega arith in
      let d : g ≡ g / 8 * 8 + g % 8 = omega arith in
      omega (arith, ap (λ (n : ℕ). n * (16 * u)) t, ap (λ (n : ℕ). n * (2 * u)) d)

  l1_bit : (r g : ℕ) → (g * (16 * u) + r) % 8 ≡ (g % 8 * (16 * u) + r) % 8
  l1_bit r g = omega arith

  pub l1_lies : (start f : ℕ) → start ≡ in_full u F * (128 * (4 * u)) + 128 * in_set u F → start ≤ f → f < F / 8 * 8
      → Lies u ix main ram F (l1_level u e ix start) main f
  unfolding filter_bit bit_at
  l1_lies start f is a b =
      let p : 2 ^ (e + 4) ≡ 16 * u = power_4 u e S in
      rw p (λ x.
      rw (
        lt-ltb f (F / 8 * 8) b,
        le-ltb f (in_full u F * (128 * (4 * u))) (omega arith),
        ← is,
        le-ltb f start a,
        l1_byte_lem ix.first (x / (16 * u)) (x % (16 * u)) (f - start),
        l1_bit (x % (16 * u)) (f - start),
      ))

module _ (u e : ℕ) (S : UnitIs u e) (ix : Index) (main ram : List ℕ) (F below : ℕ) (le : below ≤ F) where
  module _ (few : in_set u F < 4 * u) where
    pub set_at : (ix.first + 1 + 2 * (4 * u)) * (1024 * u) ≤ length main → below ≤ F / 8 * 8
        → in_full u F * (128 * (4 * u)) < below → below ≤ in_full u F * (128 * (4 * u)) + 128 * in_set u F
        → LevelAt u ix main ram F below (set_level u e ix (in_set u F) (in_full u F * (128 * (4 * u))))
    unfolding filter_bit bit_at
    set_at fits top h l =
        let start : ℕ = in_full u F * (128 * (4 * u)) in
        let w : ℕ = 2 ^ (e + 2 - log2up (in_set u F)) in
        let Q = set_of u e S (in_set u F) few in
        let n : below - start ≤ 128 * in_set u F = omega arith in
        let k : (below - start + 7) / 8 ≤ 16 * in_set u F = omega arith in
        let m = mul-le-mul_right w n in
        let c = mul-le-mul_right w Q.enough in
        record {
          start_lt = h;
          even = omega arith;
          narrow = omega (arith, S.small);
          small = omega (arith, S.most, Q.whole);
          eights = λ x b.
              let r : x / w < 16 * 2 ^ log2up (in_set u F) = div_lt x w (16 * 2 ^ log2up (in_set u F)) Q.some (omega (arith, Q.whole)) in
              omega (arith, Q.whole, mul-le-mul_right w k, mul-le-mul_right (64 * u) r, mul-le-mul_right (1024 * u) (side_range u ix (in_set u F)).1, mul-le-mul_right (1024 * u) Q.side);
          blocks = λ x b.
              let r : x / w < 16 * 2 ^ log2up (in_set u F) = div_lt x w (16 * 2 ^ log2up (in_set u F)) Q.some (omega (arith, Q.whole)) in
              omega (arith, Q.whole, mul-le-mul_right (64 * u) r, mul-le-mul_right (1024 * u) (side_range u ix (in_set u F)).1, mul-le-mul_right (1024 * u) Q.side);
          lies = λ f a b x.
              rw (lt-ltb f (F / 8 * 8) (omega arith), le-ltb f start a, lt-ltb f (start + 128 * in_set u F) (omega arith), width_is u e S.power (in_set u F) (omega arith));
        }

  pub full_at : (k : ℕ) → k ≡ (below - 1) / (128 * (4 * u)) → (ix.first + 1 + 2 * (4 * u) + in_full u F * (4 * u)) * (1024 * u) ≤ length main
      → 0 < below → below ≤ F / 8 * 8 → below ≤ in_full u F * (128 * (4 * u)) → LevelAt u ix main ram F below (full_level u ix k)
  unfolding filter_bit bit_at
  full_at k is fits pos top l =
      let E = euclid (below - 1) (128 * (4 * u)) (omega (arith, S.some)) in
      let lo : k * (128 * (4 * u)) < below = rw is (omega (arith, E.whole)) in
      let hi : below ≤ k * (128 * (4 * u)) + 128 * (4 * u) = rw is (omega (arith, E.whole, E.small)) in
      let j : k < in_full u F = rw is (div_lt (below - 1) (128 * (4 * u)) (in_full u F) (omega (arith, S.some)) (omega arith)) in
      record {
        start_lt = lo;
        even = omega arith;
        narrow = omega arith;
        small = omega (arith, S.most);
        eights = λ x b.
            let d : x / 1 ≡ x = div-one x in
            rw d (omega (arith, mul-le-mul_right (4 * u * (1024 * u)) j, mul-le-mul_right (64 * u) b));
        blocks = λ x b.
            let d : x / 1 ≡ x = div-one x in
            rw d (omega (arith, mul-le-mul_right (4 * u * (1024 * u)) j, mul-le-mul_right (64 * u) b));
        lies = λ f a b x.
            let s : f ≡ k * (128 * (4 * u)) + (f - k * (128 * (4 * u))) = omega arith in
            let r : f - k * (128 * (4 * u)) < 128 * (4 * u) = omega arith in
            rw (
              lt-ltb f (F / 8 * 8) (omega arith),
              lt-ltb f (in_full u F * (128 * (4 * u))) (omega arith),
              div_of f (128 * (4 * u)) k (f - k * (128 * (4 * u))) s r,
              mod_of f (128 * (4 * u)) k (f - k * (128 * (4 * u))) s r,
            );
      }

-- ---- the set that has filter `below` - 1

module _ (u e F below Z : ℕ) (ix : Index) (main ram : List ℕ) (S : UnitIs u e) (I : IndexFits u ix Z main ram) (z : in_full u F ≤ Z) (pos : 0 < below) (le : below ≤ F) where
  long : (ix.first + 1 + 2 * (4 * u) + in_full u F * (4 * u)) * (1024 * u) ≤ length main
  long = omega (arith, I.on_flash_lem, mul-le-mul_right (4 * u * (1024 * u)) z)

  rounds : Euclid (F / 8 / 16) (4 * u)
  rounds = euclid (F / 8 / 16) (4 * u) (omega (arith, S.some))

  pub in_sets : below ≤ F / 8 * 8 → below ≤ in_full u F * (128 * (4 * u)) + 128 * in_set u F → LevelAt u ix main ram F below (level_in_sets u e ix (stage_of u F) below)
  in_sets top l =
      by_lt
      (λ t. LevelAt u ix main ram F below (cond t (set_level u e ix (in_set u F) (stage_of u F).full) (full_level u ix ((below - 1) / 2 ^ (e + 9)))))
      (stage_of u F).full below
      (λ h. set_at u e S ix main ram F below le rounds.small (omega (arith, long)) top h l)
      (λ h. full_at u e S ix main ram F below le ((below - 1) / 2 ^ (e + 9)) (ap (λ (w : ℕ). (below - 1) / w) (power_9 u e S)) long pos top h)
