-- The flash after planned operations, one after another.
use Rattle.std.specs.Prelude.{◌≡◌, refl, List, [], ◌∷◌, ◌++◌, ℕ, zero, suc, ◌+◌, ◌-◌, ◌≤◌}
use Rattle.std.proofs.Common.{sym, ap, ◌∙◌, arith}
use Rattle.layout.specs.Flash.{Flash, erase, erases, apply, apply_all, Planned, wipe, planned_from, op_on, plan_ops}

module _ (u : ℕ) where
  -- after one, and after a list
  abbrev pub done_one : Planned → Flash → Flash
  done_one p c = apply u (op_on p c) c

  abbrev pub done : List Planned → Flash → Flash
  done ps c = apply_all u (plan_ops u ps c) c

  pub done_append : (xs ys : List Planned) (c : Flash) → done (xs ++ ys) c ≡ done ys (done xs c)
  done_append [] ys c = refl
  done_append (p ∷ ps) ys c = done_append ps ys (done_one p c)

  -- one more at the end
  pub done_more : (f : ℕ → Planned) (i k : ℕ) (c : Flash)
      → done (planned_from f i (suc k)) c ≡ done_one (f (i + k)) (done (planned_from f i k) c)
  done_more f i zero c = let e : i + 0 ≡ i = omega arith in rw e
  done_more f i (suc k) c = let e : i + suc k ≡ suc i + k = omega arith in rw e (done_more f (suc i) k (done_one (f i) c))

  -- one turn of a loop over a segment
  pub turn : (f : ℕ → Planned) (from j : ℕ) (c : Flash) {x y : Flash} → from ≤ j
      → x ≡ done (planned_from f from (j - from)) c → y ≡ done_one (f j) x → y ≡ done (planned_from f from (j + 1 - from)) c
  turn f from j c h e g =
      let k : j + 1 - from ≡ suc (j - from) = omega arith in
      let a : from + (j - from) ≡ j = omega arith in
      rw k (g ∙ ap (done_one (f j)) e ∙ sym (rw a at (done_more f from (j - from) c)))

  -- blocks erased in a row
  pub done_wipes : (b f k : ℕ) (c : Flash) → apply_all u (erases (b + f) k) c ≡ done (planned_from (λ j. wipe (b + j)) f k) c
  done_wipes b f zero c = refl
  done_wipes b f (suc k) c =
      let e : suc (b + f) ≡ b + suc f = omega arith in
      ap (λ (m : ℕ). apply_all u (erases m k) (apply u (erase (b + f)) c)) e ∙ done_wipes b (suc f) k (apply u (erase (b + f)) c)
