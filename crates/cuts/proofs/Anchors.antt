-- The erases after a set leave its last sector alone.
use Rattle.std.specs.Prelude.{◌≡◌, ◌⊎◌, List, [], ◌++◌, ℕ, zero, suc, ◌+◌, ◌*◌, ◌/◌, ◌^◌, ◌≤◌, ◌<◌}
use Rattle.std.proofs.Common.{inl, inr, append-nil, arith, pow_pos}
use Rattle.memory.specs.Cases.{either}
use Rattle.memory.specs.Numbers.{div_lt}
use Rattle.memory.specs.Power.{log2up}
use Rattle.layout.specs.Flash.{Op, erases}
use Rattle.layout.specs.Index.{Index, set_pages, set_blocks, side_block, set_block}
use Rattle.laws.specs.Apart.{next_after, next_apart}
use Rattle.laws.specs.SetLaws.{blocks_fit}
use Rattle.history.proofs.RowLaws.{blocks_le}
use Rattle.cuts.specs.CutLaws.{Survives}

survives_erases : (s b k : ℕ) (rest : List Op) → (s / 64 < b) ⊎ (b + k ≤ s / 64) → Survives s rest → Survives s (erases b k ++ rest)
survives_erases s b zero rest o v = v
survives_erases s b (suc k) rest o v = (
  either o (λ q. (λ x. omega (arith, q, x))) (λ q. (λ x. omega (arith, q, x))),
  survives_erases s (suc b) k rest (either o (λ q. inl (omega arith)) (λ q. inr (omega arith))) v,
)

module _ (u e : ℕ) (pow : u ≡ 2 ^ e) (ix : Index) (z c : ℕ) (hc : c < 4 * u) where
  set_size : set_pages (c + 1) * 4 ≤ 4 * u * 64
  set_size = let f = blocks_fit u e pow (c + 1) (omega arith) in omega arith

  pub set_some : 0 < set_pages (c + 1) * 4
  set_some = let f : 0 < 2 ^ log2up (c + 1) = pow_pos (log2up (c + 1)) in omega arith

  pub set_survives : (last : ℕ) → suc last ≡ set_pages (c + 1) * 4
      → Survives (set_block u ix z c * 64 + last * 1) (erases ix.first 1 ++ erases (side_block u ix c) (set_blocks c))
  set_survives last count =
      let k : set_blocks c ≤ 4 * u = blocks_le c (4 * u) (blocks_fit u e pow c (omega arith)) in
      let s : (set_block u ix z c * 64 + last * 1) / 64 < set_block u ix z c + 4 * u
      = div_lt (set_block u ix z c * 64 + last * 1) 64 (set_block u ix z c + 4 * u) (omega arith) (omega (arith, set_size)) in
      let t : set_block u ix z c ≤ (set_block u ix z c * 64 + last * 1) / 64 = omega arith in
      survives_erases (set_block u ix z c * 64 + last * 1) ix.first 1 (erases (side_block u ix c) (set_blocks c))
      (inr (omega (arith, next_after u ix z c, t)))
      (rw append-nil at
      (survives_erases (set_block u ix z c * 64 + last * 1) (side_block u ix c) (set_blocks c) []
      (either (next_apart u ix z c) (λ o. inr (omega (arith, o, t, k))) (λ o. inl (omega (arith, o, s)))) tt))
