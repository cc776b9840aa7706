-- The bytes that pages share stay theirs while L1 stays as it is.
use Rattle.std.specs.Prelude.{◌≡◌, refl, List, ℕ, zero, suc, ◌+◌, ◌-◌, ◌*◌, ◌/◌, ◌%◌, ◌^◌, ◌≤◌, ◌<◌, length, get_or}
use Rattle.std.proofs.Common.{sym, ap, ◌∙◌, inl, inr, mul-le-mul_right, arith, pow_pos, lt-ltb}
use Rattle.memory.specs.Cases.{lt?, either}
use Rattle.memory.specs.Lists.{tabulate, length_tabulate}
use Rattle.memory.specs.Numbers.{euclid, div_lt}
use Rattle.memory.specs.Power.{log2up}
use Rattle.layout.specs.Geometry.{sector, page, block}
use Rattle.layout.specs.Index.{Index, pages_per_fourth, set_pages, set_width}
use Rattle.laws.specs.SetLaws.{width_is, set_whole}
use Rattle.laws.specs.Units.{UnitIs}
use Rattle.fields.specs.Halves.{Narrow}
use Rattle.fields.specs.Columns.{column_byte}
use Rattle.fields.specs.Lanes.{column_of, column_same}
use Rattle.partition.specs.declared.PageSource.{PageSource}
use Rattle.partition.specs.Sources.{l1_of, page_source}
use Rattle.partition.specs.Shared.{together, shared_bytes, Shares, column_at}

-- what is made is shared
pub shares_made : (main : List ℕ) (r : PageSource) (old : List ℕ) → length old ≡ 128 → Shares main r (shared_bytes main r old)
shares_made main r old e = record { size = size; column = λ h. rw (lt-ltb r.w 8 h) refl }
  where
    size : length (shared_bytes main r old) ≡ 128
    size =
        either (lt? r.w 8)
        (λ a. rw a.0 (length_tabulate 128 (column_byte main (r.l1.at + r.l1.low / 8) (r.l1.step / 8) r.w)))
        (λ a. rw a.0 e)

power_narrow : (k w : ℕ) → w ≡ 2 ^ k → w < 8 → Narrow w
power_narrow zero w e h = inl e
power_narrow (suc zero) w e h = inr (inl e)
power_narrow (suc (suc zero)) w e h = inr (inr e)
power_narrow (suc (suc (suc k))) w e h = absurd (omega (arith, pow_pos k))

module _ (u e : ℕ) (U : UnitIs u e) (ix : Index) (c : ℕ) (hc : c < 4 * u) where
  abbrev w : ℕ
  w = set_width u (c + 1)

  narrow : set_width u (c + 1) < 8 → Narrow (set_width u (c + 1))
  narrow h = power_narrow (e + 2 - log2up (c + 1)) (set_width u (c + 1)) (width_is u e U.power (c + 1) (omega arith)) h

  -- a page's byte of the filters
  byte_lt : (q : ℕ) → q < set_pages (c + 1) → Narrow w → q / (8 / w) < 8 * u
  byte_lt q h N =
      let s = set_whole u e U.power (c + 1) (omega arith) in
      let m = mul-le-mul_right (set_width u (c + 1)) h in
      go (set_width u (c + 1)) N (omega (arith, s, m))
    where
      go : (v : ℕ) → Narrow v → q * v + v ≤ 64 * u → q / (8 / v) < 8 * u
      go v (inl d) l = let l1 : q * 1 + 1 ≤ 64 * u = rw d at l in rw d (omega arith)
      go v (inr (inl d)) l = let l1 : q * 2 + 2 ≤ 64 * u = rw d at l in rw d (omega arith)
      go v (inr (inr d)) l = let l1 : q * 4 + 4 ≤ 64 * u = rw d at l in rw d (omega arith)

  abbrev at : ℕ → ℕ
  at p = (l1_of u ix c p).at + (l1_of u ix c p).low / 8

  at_is : (p : ℕ) → Narrow w → at p ≡ ix.first * block u + p / (8 / w) / (2 * u) * (pages_per_fourth * page u) + p / (8 / w) % (2 * u)
  at_is p N = column_at u (set_width u (c + 1)) p (ix.first * block u) (pages_per_fourth * page u) U.some N

  at_in : (q r : ℕ) → q < set_pages (c + 1) → Narrow w → r < 128 → at q + r * (sector u / 8) < (ix.first + 1) * block u
  at_in q r h N l =
      let b = byte_lt q h N in
      let E = euclid (q / (8 / w)) (2 * u) (omega (arith, U.some)) in
      let d : q / (8 / w) / (2 * u) < 4 = div_lt (q / (8 / w)) (2 * u) 4 (omega (arith, U.some)) (omega arith) in
      let s : sector u / 8 ≡ 2 * u = omega arith in
      rw (at_is q N, s) (omega (arith, mul-le-mul_right (2 * u) l, mul-le-mul_right (pages_per_fourth * page u) d, E.small))

  pub shares_kept : (p q : ℕ) → q < set_pages (c + 1) → p / together w ≡ q / together w → (main main' : List ℕ)
      → ((x : ℕ) → x < (ix.first + 1) * block u → get_or main x 0 ≡ get_or main' x 0) → (bytes : List ℕ)
      → Shares main (page_source u ix c p) bytes → Shares main' (page_source u ix c q) bytes
  shares_kept p q hq beside main main' same bytes S = record { size = S.size; column = λ h. S.column h ∙ kept h }
    where
      kept : w < 8 → column_of main (l1_of u ix c p) w ≡ column_of main' (l1_of u ix c q) w
      kept h =
          let N = narrow h in
          let b : p / (8 / w) ≡ q / (8 / w) = rw (lt-ltb w 8 h) at beside in
          let e : at p ≡ at q = at_is p N ∙ (rw b (sym (at_is q N))) in
          ap (λ (a : ℕ). tabulate 128 (column_byte main a (sector u / 8) w)) e
          ∙ column_same main main' (at q) (sector u / 8) w N (λ r l. same (at q + r * (sector u / 8)) (at_in q r hq N l))
