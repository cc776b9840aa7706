-- The SKA page with one more filter, and zeroed: what lies outside the page is kept.
use Rattle.std.specs.Prelude.{◌≡◌, ◌⊎◌, Bool, List, ℕ, ◌+◌, ◌-◌, ◌*◌, ◌≤◌, ◌<◌, length, get_or, replicate}
use Rattle.std.proofs.Common.{◌∙◌, inl, inr, mul-le-mul_right, arith}
use Rattle.std.proofs.lemmas.List.{length-replicate, get_or-replicate}
use Rattle.memory.specs.Lists.{pieces_out, length_pieces, get_d_write_before, get_d_write_in, get_d_write_after}
use Rattle.memory.specs.Cases.{either}
use Rattle.layout.specs.Geometry.{page}
use Rattle.layout.specs.Items.{zero_page}
use Rattle.layout.specs.Index.{Index, with_filter}

module _ (u : ℕ) (pu : 0 < u) (ix : Index) where
  pub filter_out : (new : ℕ → Bool) (s : ℕ) (ram : List ℕ) (x : ℕ) → s < 8 → (x < ix.ska) ⊎ (ix.ska + page u ≤ x)
      → get_or (with_filter u ix s new ram) x 0 ≡ get_or ram x 0
  filter_out new s ram x hs o =
      let su : s * (2 * u) + 2 * u ≤ 16 * u = omega (arith, mul-le-mul_right (2 * u) hs) in
      pieces_out (2 * u) (16 * u) (ix.ska + s * (2 * u)) 4 _ ram x 0
      (λ j l. either o (λ a. inl (omega arith)) (λ a. inr (omega (arith, mul-le-mul_right (16 * u) l))))

  pub filter_length : (new : ℕ → Bool) (s : ℕ) (ram : List ℕ) → length (with_filter u ix s new ram) ≡ length ram
  filter_length new s ram = length_pieces (2 * u) (16 * u) (ix.ska + s * (2 * u)) 4 _ ram

  pub zero_in : (ram : List ℕ) (x : ℕ) → ix.ska + page u ≤ length ram → ix.ska ≤ x → x < ix.ska + page u
      → get_or (zero_page u ix.ska ram) x 0 ≡ 0
  zero_in ram x fits lo hi =
      let l : length (replicate {A = ℕ} (64 * u) 0) ≡ 64 * u = length-replicate {A = ℕ} (64 * u) 0 in
      get_d_write_in ram ix.ska (replicate (64 * u) 0) x 0 lo (omega arith) (omega arith)
      ∙ get_or-replicate (64 * u) (x - ix.ska) 0 0 (omega arith)

  pub zero_out : (ram : List ℕ) (x : ℕ) → (x < ix.ska) ⊎ (ix.ska + page u ≤ x) → get_or (zero_page u ix.ska ram) x 0 ≡ get_or ram x 0
  zero_out ram x o =
      let l : length (replicate {A = ℕ} (64 * u) 0) ≡ 64 * u = length-replicate {A = ℕ} (64 * u) 0 in
      either o
      (λ a. get_d_write_before ram ix.ska (replicate (64 * u) 0) x 0 a)
      (λ a. get_d_write_after ram ix.ska (replicate (64 * u) 0) x 0 (omega arith))
