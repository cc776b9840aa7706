-- What a cut list of operations leaves of a byte of a programmed sector: the byte itself, or FF.
use Rattle.std.specs.Prelude.{◌≡◌, refl, ◌≢◌, ◌⊎◌, List, [], ◌∷◌, ◌++◌, ℕ, zero, suc, ◌+◌, ◌-◌, ◌*◌, ◌/◌, ◌≤◌, ◌<◌, length, get_or, replicate}
use Rattle.std.proofs.Common.{sym, ap, ◌∙◌, inl, inr, mul-le-mul_right, arith, get_or-set_other}
use Rattle.std.proofs.lemmas.List.{length-replicate, get_or-replicate}
use Rattle.memory.specs.Lists.{write, length_write, get_d_write_before, get_d_write_in, get_d_write_after, length_tabulate}
use Rattle.memory.specs.Numbers.{euclid}
use Rattle.memory.specs.Cases.{lt?, eq?, either}
use Rattle.layout.specs.Flash.{Op, program, erase, Flash, apply, apply_all, erases}
use Rattle.history.specs.Operations.{programs}
use Rattle.history.specs.FlashLaws.{AllAllowed}
use Rattle.cuts.specs.CutLaws.{NoProgram, Apart}
use Rattle.cuts.proofs.CutLaws.{outside}
use Rattle.cuts.specs.Kept.{Sized, ErasesIn}

-- ---- of lists in parts

pub sized_start : (u : ℕ) (xs ys : List Op) → Sized u (xs ++ ys) → Sized u xs
sized_start u [] ys a = tt
sized_start u (program s b ∷ os) ys a = (a.0, sized_start u os ys a.1)
sized_start u (erase b ∷ os) ys a = sized_start u os ys a

pub sized_append : (u : ℕ) (xs ys : List Op) → Sized u xs → Sized u ys → Sized u (xs ++ ys)
sized_append u [] ys a b = b
sized_append u (program s x ∷ os) ys a b = (a.0, sized_append u os ys a.1 b)
sized_append u (erase k ∷ os) ys a b = sized_append u os ys a b

pub erases_in_start : (lo hi : ℕ) (xs ys : List Op) → ErasesIn lo hi (xs ++ ys) → ErasesIn lo hi xs
erases_in_start lo hi [] ys a = tt
erases_in_start lo hi (program s b ∷ os) ys a = erases_in_start lo hi os ys a
erases_in_start lo hi (erase b ∷ os) ys a = (a.0, a.1, erases_in_start lo hi os ys a.2)

pub erases_in_append : (lo hi : ℕ) (xs ys : List Op) → ErasesIn lo hi xs → ErasesIn lo hi ys → ErasesIn lo hi (xs ++ ys)
erases_in_append lo hi [] ys a b = b
erases_in_append lo hi (program s x ∷ os) ys a b = erases_in_append lo hi os ys a b
erases_in_append lo hi (erase k ∷ os) ys a b = (a.0, a.1, erases_in_append lo hi os ys a.2 b)

no_program_start : (b : ℕ) (xs ys : List Op) → NoProgram b (xs ++ ys) → NoProgram b xs
no_program_start b [] ys a = tt
no_program_start b (program s x ∷ os) ys a = (a.0, no_program_start b os ys a.1)
no_program_start b (erase k ∷ os) ys a = no_program_start b os ys a

pub apart_start : (xs ys : List Op) → Apart (xs ++ ys) → Apart xs
apart_start [] ys a = tt
apart_start (program s x ∷ os) ys a = apart_start os ys a
apart_start (erase k ∷ os) ys a = (no_program_start k os ys a.0, apart_start os ys a.1)

-- ---- a byte of a programmed sector is kept, or FF after an erase

module _ (u : ℕ) (pu : 0 < u) (a : ℕ) where
  program_out : (s : ℕ) (bytes : List ℕ) (l : List ℕ) → length bytes ≡ 16 * u → a / (16 * u) ≢ s → get_or (write l (s * (16 * u)) bytes) a 0
      ≡ get_or l a 0
  program_out s bytes l e o =
      let E = euclid a (16 * u) (omega arith) in
      either (lt? (a / (16 * u)) s)
      (λ q. get_d_write_before l (s * (16 * u)) bytes a 0 (omega (arith, mul-le-mul_right (16 * u) q.1)))
      (λ q. let m : s < a / (16 * u) = omega arith in get_d_write_after l (s * (16 * u)) bytes a 0
      (omega (arith, e, mul-le-mul_right (16 * u) m)))

  -- the block of the sector is the block of the address
  erase_out : (b : ℕ) (l : List ℕ) → a / (16 * u) / 64 ≢ b → get_or (write l (b * (1024 * u)) (replicate (1024 * u) 255)) a 0 ≡ get_or l a 0
  erase_out b l o =
      let z : length (replicate {A = ℕ} (1024 * u) 255) ≡ 1024 * u = length-replicate {A = ℕ} (1024 * u) 255 in
      let E = euclid a (16 * u) (omega arith) in
      either (lt? (a / (16 * u) / 64) b)
      (λ q.
      let m : a / (16 * u) < b * 64 = omega arith in
      get_d_write_before l (b * (1024 * u)) (replicate (1024 * u) 255) a 0 (omega (arith, mul-le-mul_right (16 * u) m)))
      (λ q.
      let m : b * 64 + 64 ≤ a / (16 * u) = omega arith in
      get_d_write_after l (b * (1024 * u)) (replicate (1024 * u) 255) a 0 (omega (arith, z, mul-le-mul_right (16 * u) m)))

  erase_in : (b : ℕ) (l : List ℕ) → a / (16 * u) / 64 ≡ b → a < length l → get_or (write l (b * (1024 * u)) (replicate (1024 * u) 255)) a 0
      ≡ 255
  erase_in b l o n =
      let z : length (replicate {A = ℕ} (1024 * u) 255) ≡ 1024 * u = length-replicate {A = ℕ} (1024 * u) 255 in
      let E = euclid a (16 * u) (omega arith) in
      let lo : b * 64 ≤ a / (16 * u) = omega arith in
      let hi : a / (16 * u) < b * 64 + 64 = omega arith in
      get_d_write_in l (b * (1024 * u)) (replicate (1024 * u) 255) a 0 (omega (arith, mul-le-mul_right (16 * u) lo))
      (omega (arith, z, mul-le-mul_right (16 * u) hi)) n
      ∙ get_or-replicate (1024 * u) (a - b * (1024 * u)) 255 0 (omega (arith, mul-le-mul_right (16 * u) hi))

  -- FF stays where nothing is programmed
  blank_stays : (os : List Op) (c : Flash) → Sized u os → NoProgram (a / (16 * u) / 64) os → a < length c.main → get_or c.main a 0 ≡ 255
      → get_or (apply_all u os c).main a 0 ≡ 255
  blank_stays [] c z n l e = e
  blank_stays (program s bytes ∷ os) c z n l e =
      blank_stays os (apply u (program s bytes) c) z.1 n.1 (rw (length_write c.main (s * (16 * u)) bytes) l)
      (program_out s bytes c.main z.0 (λ q. n.0 (ap (λ (x : ℕ). x / 64) (sym q))) ∙ e)
  blank_stays (erase b ∷ os) c z n l e =
      blank_stays os (apply u (erase b) c) z n (rw (length_write c.main (b * (1024 * u)) (replicate (1024 * u) 255)) l)
      (either (eq? (a / (16 * u) / 64) b)
      (λ q. erase_in b c.main q.1 l)
      (λ q. erase_out b c.main q.1 ∙ e))

  pub kept_or_erased : (os : List Op) (c : Flash) → AllAllowed u os c → Apart os → Sized u os → a < length c.main
      → get_or c.spare (a / (16 * u)) 0 ≡ 0
      → (get_or (apply_all u os c).main a 0 ≡ get_or c.main a 0) ⊎ (get_or (apply_all u os c).main a 0 ≡ 255)
  kept_or_erased [] c A p z l m = inl refl
  kept_or_erased (program s bytes ∷ os) c A p z l m =
      let o : a / (16 * u) ≢ s = λ q. let e : get_or c.spare (a / (16 * u)) 0 ≡ 255 = rw q A.0.0 in omega (arith, e, m) in
      either (kept_or_erased os (apply u (program s bytes) c) A.1 p z.1 (rw (length_write c.main (s * (16 * u)) bytes) l)
      (get_or-set_other c.spare s (a / (16 * u)) 0 0 o ∙ m))
      (λ q. inl (q ∙ program_out s bytes c.main z.0 o))
      (λ q. inr q)
  kept_or_erased (erase b ∷ os) c A p z l m =
      either (eq? (a / (16 * u) / 64) b)
      (λ q. inr (blank_stays os (apply u (erase b) c) z (rw q.1 p.0)
      (rw (length_write c.main (b * (1024 * u)) (replicate (1024 * u) 255)) l) (erase_in b c.main q.1 l)))
      (λ q.
      either (kept_or_erased os (apply u (erase b) c) A.1 p.1 z
      (rw (length_write c.main (b * (1024 * u)) (replicate (1024 * u) 255)) l) (outside c.spare b (a / (16 * u)) q.1 ∙ m))
      (λ r. inl (r ∙ erase_out b c.main q.1))
      (λ r. inr r))

  -- and kept for certain outside the blocks that the list erases
  pub kept : (lo hi : ℕ) (os : List Op) (c : Flash) → AllAllowed u os c → Sized u os → ErasesIn lo hi os → (a / (16 * u) / 64 < lo)
      ⊎ (hi ≤ a / (16 * u) / 64)
      → get_or c.spare (a / (16 * u)) 0 ≡ 0 → get_or (apply_all u os c).main a 0 ≡ get_or c.main a 0
  kept lo hi [] c A z i o m = refl
  kept lo hi (program s bytes ∷ os) c A z i o m =
      let n : a / (16 * u) ≢ s = λ q. let e : get_or c.spare (a / (16 * u)) 0 ≡ 255 = rw q A.0.0 in omega (arith, e, m) in
      kept lo hi os (apply u (program s bytes) c) A.1 z.1 i o (get_or-set_other c.spare s (a / (16 * u)) 0 0 n ∙ m)
      ∙ program_out s bytes c.main z.0 n
  kept lo hi (erase b ∷ os) c A z i o m =
      let n : a / (16 * u) / 64 ≢ b = λ q. either o (λ r. omega (arith, i.0, q)) (λ r. omega (arith, i.1, q)) in
      kept lo hi os (apply u (erase b) c) A.1 z i.2 o (outside c.spare b (a / (16 * u)) n ∙ m) ∙ erase_out b c.main n

-- ---- runs of sectors and of blocks

pub sized_programs : (u d s k : ℕ) (f : ℕ → ℕ → ℕ) → Sized u (programs u d s k f)
sized_programs u d s zero f = tt
sized_programs u d s (suc k) f = (length_tabulate (16 * u) (f zero), sized_programs u d (s + d) k (λ j. f (suc j)))

pub sized_erases : (u b k : ℕ) → Sized u (erases b k)
sized_erases u b zero = tt
sized_erases u b (suc k) = sized_erases u (suc b) k

pub erases_in : (lo hi b k : ℕ) → lo ≤ b → b + k ≤ hi → ErasesIn lo hi (erases b k)
erases_in lo hi b zero l m = tt
erases_in lo hi b (suc k) l m = (l, omega arith, erases_in lo hi (suc b) k (omega arith) (omega arith))
