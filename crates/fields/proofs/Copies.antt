-- Runs of whole bytes as lists: fields next to one another, and fields of whole bytes.
use mathlib.Core.Path.{◌≡◌, refl, ap, ◌∙◌}
use mathlib.Core.Logic.{inl, inr}
use mathlib.Core.List.{List}
use Prim.Native.Nat.{ℕ, zero, suc, ◌+◌, ◌-◌, ◌*◌, ◌/◌, ◌^◌, ◌≤◌, ◌<◌}
use native.Mathlib.Omega.{arith}
use lib.ListN.{length, get_or, take, drop, length-take, length-drop}
use Rattle.memory.specs.Lists.{tabulate, tabulate_ext, is_tabulate}
use Rattle.fields.specs.declared.Source.{Source}
use Rattle.fields.specs.Sources.{field_byte, run_byte, Aligned, Whole, Size, Run, Runs}
use Rattle.fields.specs.Lists.{part_at}
use Rattle.fields.proofs.Rows.{same_inside, same_byte, bytes_whole, run_in, run_is}

module _ (bytes : List ℕ) (s : Source) (w y n : ℕ) (A : Aligned s w) where
  module _ (same : s.step ≡ w) (R : Run (length bytes) s w y n) (some : 0 < n) where
    pub copy_inside : s.at + y + n ≤ length bytes
    copy_inside = omega (arith, same_inside bytes s w (y + (n - 1)) A same (length bytes) (R (n - 1) (omega arith)))

    pub copies : ((i : ℕ) → get_or bytes i 0 < 256) → take (s.at + y + n - (s.at + y)) (drop (s.at + y) bytes) ≡ tabulate n (λ i. field_byte bytes s w (y + i))
    copies small =
        is_tabulate (take (s.at + y + n - (s.at + y)) (drop (s.at + y) bytes)) n _ (simp (length-take, length-drop) (omega (arith, copy_inside)))
        (λ i h.
        let a : s.at + y + i ≡ s.at + (y + i) = omega arith in
        rw (part_at bytes (s.at + y) n i h, a) (same_byte bytes s w (y + i) A same (small (s.at + (y + i)))))

  module _ (big : 8 ≤ w) where
    -- whole fields are whole runs, of 1 to 16 bytes
    pub runs_whole : (x : ℕ) → Whole w (8 * x) → Whole (w / 8) x
    runs_whole x W = (W.0, omega (arith, W.1, ap (λ (m : ℕ). W.0 * m) (bytes_whole bytes s w y A big)))

    pub run_size : Size (w / 8)
    run_size = go A.k A.small A.w_is
      where
        go : (k : ℕ) → k < 8 → w ≡ 2 ^ k → Size (w / 8)
        go zero h e = absurd (omega arith)
        go (suc zero) h e = absurd (omega arith)
        go (suc (suc zero)) h e = absurd (omega arith)
        go (suc (suc (suc zero))) h e = rw e (inl refl)
        go (suc (suc (suc (suc zero)))) h e = rw e (inr (inl refl))
        go (suc (suc (suc (suc (suc zero))))) h e = rw e (inr (inr (inl refl)))
        go (suc (suc (suc (suc (suc (suc zero)))))) h e = rw e (inr (inr (inr (inl refl))))
        go (suc (suc (suc (suc (suc (suc (suc zero))))))) h e = rw e (inr (inr (inr (inr refl))))
        go (suc (suc (suc (suc (suc (suc (suc (suc k)))))))) h e = absurd (omega arith)

    pub runs_in : Run (length bytes) s w y n → Runs (length bytes) (s.at + s.low / 8) (s.step / 8) (w / 8) y n
    runs_in R i h = run_in bytes s w (y + i) A big (length bytes) (R i h)

    pub runs_are : (out : List ℕ) → ((i : ℕ) → get_or bytes i 0 < 256) → out ≡ tabulate n (λ i. run_byte bytes (s.at + s.low / 8) (s.step / 8) (w / 8) (y + i))
        → out ≡ tabulate n (λ i. field_byte bytes s w (y + i))
    runs_are out small e = e ∙ tabulate_ext n _ _ (λ i h. run_is bytes s w (y + i) A big (small _))
