-- What a page of the next set is made of lies in the main area.
use Rattle.std.specs.Prelude.{◌≡◌, refl, ℕ, ◌+◌, ◌-◌, ◌*◌, ◌/◌, ◌%◌, ◌≤◌, ◌<◌}
use Rattle.std.proofs.Common.{sym, ap, inr, mul-le-mul_right, arith}
use Rattle.memory.specs.Cases.{lt?, either}
use Rattle.memory.specs.Numbers.{div_lt}
use Rattle.memory.specs.Power.{log2up}
use Rattle.layout.specs.Geometry.{block, side_blocks}
use Rattle.layout.specs.Index.{Index, set_pages, set_width, full_block}
use Rattle.laws.specs.SetLaws.{width_is, width_pos, set_whole, blocks_fit, filters_fit, side_range}
use Rattle.fields.specs.Sources.{Aligned, Near, Whole, Reaches}
use Rattle.partition.specs.declared.PageSource.{PageSource}
use Rattle.laws.specs.Units.{UnitIs}
use Rattle.partition.specs.Widths.{old_whole, sector_whole, next_width}
use Rattle.partition.specs.Sources.{old_of, l1_of, page_source, pages_pos, field_room}

pub record SourceFits (len : ℕ) (r : PageSource) : Type 0 where
  pub order : r.split ≤ r.end
  pub old_aligned : Aligned r.old r.w
  pub old_near : Near r.old r.w
  pub l1_aligned : Aligned r.l1 r.w
  pub l1_bytes : r.l1.step ≡ 8 * (r.l1.step / 8)
  pub split_whole : Whole r.w r.split
  pub end_is : r.end ≡ r.split + 16 * r.w
  pub old_reaches : (y : ℕ) → y < r.split → Reaches len r.old r.w y
  pub l1_reaches : (y : ℕ) → r.split ≤ y → y < r.end → Reaches len r.l1 r.w (y - r.split)

-- where P pages of w bits and Q of v = m * w bits hold the same, m pages go into one
fewer : (w v m P Q T p : ℕ) → 0 < w → m * w ≡ v → P * w ≡ T → Q * v ≡ T → p < P → p < Q * m
fewer w v m P Q T p pw wh e f h =
    either (lt? p (Q * m)) (λ a. a.1)
    (λ a. absurd (omega (arith, mul-le-mul_right w a.1, mul-le-mul_right w h, ap (λ (n : ℕ). Q * n) wh)))

module _ (u e : ℕ) (U : UnitIs u e) (ix : Index) (c p len : ℕ) (hc : c < 4 * u) (hp : p < set_pages (c + 1))
    (fits : full_block u ix 0 * block u ≤ len) where
  abbrev w : ℕ
  w = set_width u (c + 1)

  abbrev m : ℕ
  m = set_width u c / w

  abbrev K : ℕ
  K = 16 * u / w

  wp : 0 < w
  wp = width_pos u e U.power (c + 1) (omega arith)

  vp : 0 < set_width u c
  vp = width_pos u e U.power c (omega arith)

  sp : 0 < 16 * u
  sp = omega (arith, U.some)

  old_page : p / m < set_pages c
  old_page =
      div_lt p m (set_pages c) (pages_pos w (set_width u c) m (old_whole u e U.power c hc) wp vp)
      (fewer w (set_width u c) m (set_pages (c + 1)) (set_pages c) (64 * u) p wp (old_whole u e U.power c hc)
      (set_whole u e U.power (c + 1) (omega arith)) (set_whole u e U.power c (omega arith)) hp)

  l1_group : p / K < 4
  l1_group =
      div_lt p K 4 (pages_pos w (16 * u) K (sector_whole u e U.power (c + 1) (omega arith)) wp sp)
      (fewer w (16 * u) K (set_pages (c + 1)) 4 (64 * u) p wp (sector_whole u e U.power (c + 1) (omega arith))
      (set_whole u e U.power (c + 1) (omega arith)) (omega arith) hp)

  old_reach : (y : ℕ) → y < 16 * c * w → Reaches len (old_of u ix c p) w y
  old_reach y h =
      let us = U.most in
      let g : (y * 8 + 7) / w < 128 * c = div_lt (y * 8 + 7) w (128 * c) wp (omega arith) in
      let n = filters_fit u e U.power (c + 1) (omega arith) in
      let o = filters_fit u e U.power c (omega arith) in
      let r = field_room w (set_width u c) m (old_whole u e U.power c hc) wp vp p in
      let t : (y * 8 + 7) / w * set_width u c + (p % m * w + w) ≤ 512 * u = omega (arith, mul-le-mul_right (set_width u c) g) in
      let b = mul-le-mul_right (1024 * u) (blocks_fit u e U.power c (omega arith)) in
      let s = mul-le-mul_right (1024 * u) (side_range u ix c).1 in
      let a = mul-le-mul_right (64 * u) old_page in
      record { short = omega arith; few = omega arith; inside = omega arith }

  l1_reach : (y : ℕ) → 16 * c * w ≤ y → y < 16 * (c + 1) * w → Reaches len (l1_of u ix c p) w (y - 16 * c * w)
  l1_reach y h k =
      let us = U.most in
      let g : ((y - 16 * c * w) * 8 + 7) / w < 128 = div_lt ((y - 16 * c * w) * 8 + 7) w 128 wp (omega arith) in
      let n = filters_fit u e U.power (c + 1) (omega arith) in
      let r = field_room w (16 * u) K (sector_whole u e U.power (c + 1) (omega arith)) wp sp p in
      let t : ((y - 16 * c * w) * 8 + 7) / w * (16 * u) + (p % K * w + w) ≤ 128 * (16 * u) = omega (arith, mul-le-mul_right (16 * u) g) in
      let a = mul-le-mul_right (256 * u) l1_group in
      record { short = omega arith; few = omega arith; inside = omega arith }

  pub row_fits : SourceFits len (page_source u ix c p)
  row_fits =
      let k_lt : e + 2 - log2up (c + 1) < 8 = omega arith in
      record {
        order = omega arith;
        old_aligned = record {
          k = e + 2 - log2up (c + 1);
          small = k_lt;
          w_is = width_is u e U.power (c + 1) (omega arith);
          steps = m;
          step_is = sym (old_whole u e U.power c hc);
          lows = p % m;
          low_is = refl;
          room = field_room w (set_width u c) m (old_whole u e U.power c hc) wp vp p;
        };
        old_near = inr (next_width u e U.power c hc);
        l1_bytes = omega arith;
        split_whole = (16 * c, refl);
        end_is = omega arith;
        l1_aligned = record {
          k = e + 2 - log2up (c + 1);
          small = k_lt;
          w_is = width_is u e U.power (c + 1) (omega arith);
          steps = K;
          step_is = sym (sector_whole u e U.power (c + 1) (omega arith));
          lows = p % K;
          low_is = refl;
          room = field_room w (16 * u) K (sector_whole u e U.power (c + 1) (omega arith)) wp sp p;
        };
        old_reaches = old_reach;
        l1_reaches = l1_reach;
      }
