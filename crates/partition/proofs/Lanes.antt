-- L1's part of a page: out of the bytes that pages share, or out of L1 itself.
use mathlib.Core.Path.{◌≡◌, ap, ◌∙◌}
use mathlib.Core.Logic.{inl}
use mathlib.Core.List.{List}
use Prim.Native.Nat.{ℕ, ◌+◌, ◌-◌, ◌*◌, ◌/◌, ◌^◌, ◌≤◌, ◌<◌}
use native.Mathlib.Omega.{arith}
use lib.ListN.{length}
use lib.Pow.{pow_pos}
use Rattle.memory.specs.Lists.{tabulate, tabulate_ext}
use Rattle.memory.specs.Numbers.{div_of}
use Rattle.fields.specs.Sources.{field_byte, Aligned, Near, Whole, Run}
use Rattle.fields.specs.Lanes.{lane_of, lane_aligned, lane_reaches, lane_byte}
use Rattle.layout.specs.Index.{set_width}
use Rattle.partition.specs.declared.PageSource.{PageSource}
use Rattle.partition.specs.Widths.{sector_whole}
use Rattle.partition.specs.Shared.{Shares}
use Rattle.partition.specs.Reach.{SourceFits}
use Rattle.partition.proofs.Pages.{whole_eight, whole_lane}

-- sectors are whole fields of a page
pub whole_sectors : (u e : ℕ) (pow : u ≡ 2 ^ e) (c : ℕ) → c ≤ 4 * u → (k x : ℕ) → x ≡ k * (16 * u) → Whole (set_width u c) x
whole_sectors u e pow c h k x q = (k * (16 * u / set_width u c), omega (arith, q, ap (λ (n : ℕ). k * n) (sector_whole u e pow c h)))

module _ (main : List ℕ) (r : PageSource) (F : SourceFits (length main) r) where
  w_pos : 0 < r.w
  w_pos = rw F.l1_aligned.w_is (pow_pos F.l1_aligned.k)

  -- the last of 128 rows is there
  pub columns_in : (r.l1.step / 8 < 2 ^ 32) × (r.l1.at + r.l1.low / 8 + 127 * (r.l1.step / 8) < length main)
  columns_in =
      let y : ℕ = 16 * r.w - 1 in
      let d : ((16 * r.w - 1) * 8 + 7) / r.w ≡ 127 = div_of ((16 * r.w - 1) * 8 + 7) r.w 127 (r.w - 1) (omega (arith, w_pos)) (omega (arith, w_pos)) in
      let e : r.split + (16 * r.w - 1) - r.split ≡ 16 * r.w - 1 = omega arith in
      let R = rw e at (F.l1_reaches (r.split + (16 * r.w - 1)) (omega arith) (omega (arith, w_pos, F.end_is))) in
      let f : 127 * r.l1.step + (r.l1.low + r.w) ≤ 65536 = rw d at R.few in
      let i : r.l1.at * 8 + (127 * r.l1.step + (r.l1.low + r.w)) ≤ length main * 8 = rw d at R.inside in
      (omega (arith, f), omega (arith, i, F.l1_bytes, w_pos))

  module _ (shared : List ℕ) (y n : ℕ) (S : Shares main r shared) (Y : Whole r.w y) (N : Whole r.w n) (room : (i : ℕ) → i < n → y + i < 16 * r.w) where
    pub lane_run : r.w < 8
        → (Aligned (lane_of r.l1) (8 * r.w) × Near (lane_of r.l1) (8 * r.w) × Run (length shared) (lane_of r.l1) (8 * r.w) y n)
        × (Whole (8 * r.w) (8 * y) × Whole (8 * r.w) (8 * n))
    lane_run h = (
      (
        lane_aligned main r.l1 r.w F.l1_aligned h,
        inl (omega (arith, w_pos)),
        λ i l. rw S.size (lane_reaches main r.l1 r.w F.l1_aligned h (y + i) (room i l)),
      ),
      (whole_lane r.w y Y, whole_lane r.w n N),
    )

    pub lane_bytes : r.w < 8 → (out : List ℕ) → out ≡ tabulate n (λ i. field_byte shared (lane_of r.l1) (8 * r.w) (y + i))
        → out ≡ tabulate n (λ i. field_byte main r.l1 r.w (y + i))
    lane_bytes h out e =
        e ∙ tabulate_ext n _ _ (λ i l.
        ap (λ (v : List ℕ). field_byte v (lane_of r.l1) (8 * r.w) (y + i)) (S.column h)
        ∙ lane_byte main r.l1 r.w F.l1_aligned h F.l1_bytes (y + i) (room i l))

    pub wide_run : 8 ≤ r.w
        → (Aligned r.l1 r.w × Near r.l1 r.w × Run (length main) r.l1 r.w y n) × (Whole r.w (8 * y) × Whole r.w (8 * n))
    wide_run h = (
      (
        F.l1_aligned,
        inl h,
        λ i l.
            let e : r.split + (y + i) - r.split ≡ y + i = omega arith in
            rw e at (F.l1_reaches (r.split + (y + i)) (omega arith) (omega (arith, F.end_is, room i l))),
      ),
      (whole_eight r.w y Y, whole_eight r.w n N),
    )
