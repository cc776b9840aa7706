-- Which sectors lists of operations ask to be fresh, and what they do to the
-- flash: each byte and mark inside and outside the sectors and blocks named.
use Rattle.std.specs.Prelude.{◌≡◌, refl, ◌≢◌, ◌⊎◌, true, false, List, [], ◌∷◌, ◌++◌, ℕ, zero, suc, ◌+◌, ◌-◌, ◌*◌, ◌/◌, ◌%◌, ◌≤◌, ◌<◌, length, get_or, replicate, eqb}
use Rattle.std.proofs.Common.{sym, ap, ◌∙◌, inl, inr, not-suc-le-zero, mul-le-mul_right, arith, length-set, ext_get_or, get_or-set_same, get_or-set_other}
use Rattle.std.proofs.Math.Bool.{and-eq-true_iff}
use Rattle.std.proofs.lemmas.List.{length-replicate, get_or-replicate}
use Rattle.memory.specs.Lists.{write, length_write, get_d_write_before, get_d_write_in, get_d_write_after, tabulate, tabulate_ext, length_tabulate, get_d_tabulate}
use Rattle.memory.specs.Numbers.{euclid, div_lt}
use Rattle.memory.specs.Cases.{lt?, eq?, either}
use Rattle.layout.specs.Flash.{Op, program, erase, Flash, apply, apply_all, erases, fresh, all_fresh}
use Rattle.laws.specs.FreshLaws.{erased_fresh}
use Rattle.history.specs.Operations.{programs}
use Rattle.history.specs.FlashLaws.{AllAllowed}

-- ---- refusal 7: the sectors to be programmed are fresh, by the marks before the first operation

pub fresh_append : (spare : List ℕ) (xs ys : List Op) → all_fresh spare xs ≡ true → all_fresh spare ys ≡ true
    → all_fresh spare (xs ++ ys) ≡ true
unfolding all_fresh
fresh_append spare [] ys a b = b
fresh_append spare (program s bytes ∷ os) ys a b =
    let p = (and-eq-true_iff (fresh (get_or spare s 0)) (all_fresh spare os)).0 a in
    rw p.0 (fresh_append spare os ys p.1 b)
fresh_append spare (erase k ∷ os) ys a b = fresh_append spare os ys a b

pub fresh_programs : (u d s k : ℕ) (f : ℕ → ℕ → ℕ) (spare : List ℕ) → ((j : ℕ) → j < k → get_or spare (s + j * d) 0 ≡ 255)
    → all_fresh spare (programs u d s k f) ≡ true
unfolding all_fresh
fresh_programs u d s zero f spare h = refl
fresh_programs u d s (suc k) f spare h =
    let e : s + 0 * d ≡ s = omega arith in
    let h0 : get_or spare s 0 ≡ 255 = rw e at (h 0 (omega arith)) in
    rw (h0, erased_fresh) (fresh_programs u d (s + d) k (λ j. f (suc j)) spare
    (λ j l. let up : s + suc j * d ≡ s + d + j * d = omega arith in rw up at (h (suc j) (omega arith))))

pub fresh_erases : (spare : List ℕ) (b k : ℕ) → all_fresh spare (erases b k) ≡ true
unfolding all_fresh
fresh_erases spare b zero = refl
fresh_erases spare b (suc k) = fresh_erases spare (suc b) k

module _ (u : ℕ) where
  -- equal bytes are equal operations
  pub programs_ext : (d s k : ℕ) (f g : ℕ → ℕ → ℕ) → ((j y : ℕ) → j < k → y < 16 * u → f j y ≡ g j y)
      → programs u d s k f ≡ programs u d s k g
  programs_ext d s zero f g e = refl
  programs_ext d s (suc k) f g e =
      rw (
        tabulate_ext (16 * u) (f zero) (g zero) (λ y l. e 0 y (omega arith) l),
        programs_ext d (s + d) k (λ j. f (suc j)) (λ j. g (suc j)) (λ j y l m. e (suc j) y (omega arith) m),
      )

  pub apply_append : (xs ys : List Op) (c : Flash) → apply_all u (xs ++ ys) c ≡ apply_all u ys (apply_all u xs c)
  apply_append [] ys c = refl
  apply_append (o ∷ os) ys c = apply_append os ys (apply u o c)

  pub allowed_append : (xs ys : List Op) (c : Flash) → AllAllowed u xs c → AllAllowed u ys (apply_all u xs c) → AllAllowed u (xs ++ ys) c
  allowed_append [] ys c a b = b
  allowed_append (o ∷ os) ys c a b = (a.0, allowed_append os ys (apply u o c) a.1 b)

  -- operations keep the lengths of both areas
  pub apply_main_length : (os : List Op) (c : Flash) → length (apply_all u os c).main ≡ length c.main
  apply_main_length [] c = refl
  apply_main_length (program s bytes ∷ os) c =
      apply_main_length os (apply u (program s bytes) c) ∙ length_write c.main (s * (16 * u)) bytes
  apply_main_length (erase b ∷ os) c =
      apply_main_length os (apply u (erase b) c) ∙ length_write c.main (b * (1024 * u)) (replicate (1024 * u) 255)

  pub apply_spare_length : (os : List Op) (c : Flash) → length (apply_all u os c).spare ≡ length c.spare
  apply_spare_length [] c = refl
  apply_spare_length (program s bytes ∷ os) c = apply_spare_length os (apply u (program s bytes) c) ∙ length-set c.spare s 0
  apply_spare_length (erase b ∷ os) c = apply_spare_length os (apply u (erase b) c) ∙ length_write c.spare (b * 64) (replicate 64 255)

  -- ---- k sectors, the j-th being s + j * d; byte y of the j-th is f j y

  -- a sector that is none of them keeps its mark, and its cells
  pub programs_spare_out : (d s k : ℕ) (f : ℕ → ℕ → ℕ) (c : Flash) (x : ℕ) → ((j : ℕ) → j < k → x ≢ s + j * d)
      → get_or (apply_all u (programs u d s k f) c).spare x 0 ≡ get_or c.spare x 0
  programs_spare_out d s zero f c x o = refl
  programs_spare_out d s (suc k) f c x o =
      programs_spare_out d (s + d) k (λ j. f (suc j)) (apply u (program s (tabulate (16 * u) (f zero))) c) x
      (λ j l. let n = o (suc j) (omega arith) in omega arith)
      ∙ get_or-set_other c.spare s x 0 0 (let n = o 0 (omega arith) in omega arith)

  pub programs_main_out : (d s k : ℕ) (f : ℕ → ℕ → ℕ) (c : Flash) (x y : ℕ) → y < (16 * u) → ((j : ℕ) → j < k → x ≢ s + j * d)
      → get_or (apply_all u (programs u d s k f) c).main (x * (16 * u) + y) 0 ≡ get_or c.main (x * (16 * u) + y) 0
  programs_main_out d s zero f c x y h o = refl
  programs_main_out d s (suc k) f c x y h o =
      let t = length_tabulate (16 * u) (f zero) in
      programs_main_out d (s + d) k (λ j. f (suc j)) (apply u (program s (tabulate (16 * u) (f zero))) c) x y h
      (λ j l. let n = o (suc j) (omega arith) in omega arith)
      ∙ either (lt? x s)
      (λ a. get_d_write_before c.main (s * (16 * u)) _ (x * (16 * u) + y) 0 (omega (arith, mul-le-mul_right (16 * u) a.1)))
      (λ a.
      let n = o 0 (omega arith) in
      let b : s < x = omega arith in
      get_d_write_after c.main (s * (16 * u)) _ (x * (16 * u) + y) 0 (omega (arith, mul-le-mul_right (16 * u) b)))

  pub programs_spare_in : (d s k : ℕ) (f : ℕ → ℕ → ℕ) (c : Flash) (j : ℕ) → 0 < d → s + j * d < length c.spare → j < k
      → get_or (apply_all u (programs u d s k f) c).spare (s + j * d) 0 ≡ 0
  programs_spare_in d s zero f c j hd h a = absurd (not-suc-le-zero a)
  programs_spare_in d s (suc k) f c zero hd h a =
      let e : s + 0 * d ≡ s = omega arith in
      rw e (programs_spare_out d (s + d) k (λ j. f (suc j)) (apply u (program s (tabulate (16 * u) (f zero))) c) s (λ j l. omega arith)
      ∙ get_or-set_same c.spare s 0 0 (omega arith))
  programs_spare_in d s (suc k) f c (suc j) hd h a =
      let e : s + suc j * d ≡ s + d + j * d = omega arith in
      rw e (programs_spare_in d (s + d) k (λ j. f (suc j)) (apply u (program s (tabulate (16 * u) (f zero))) c) j hd
      (rw (length-set c.spare s 0) (omega arith)) (omega arith))

  -- byte y of the j-th sector written
  pub programs_main_in : (d s k : ℕ) (f : ℕ → ℕ → ℕ) (c : Flash) (j y : ℕ) → 0 < d → (s + j * d) * (16 * u) + (16 * u) ≤ length c.main
      → j < k → y < (16 * u)
      → get_or (apply_all u (programs u d s k f) c).main ((s + j * d) * (16 * u) + y) 0 ≡ f j y
  programs_main_in d s zero f c j y hd h a b = absurd (not-suc-le-zero a)
  programs_main_in d s (suc k) f c zero y hd h a b =
      let t = length_tabulate (16 * u) (f zero) in
      let e : s + 0 * d ≡ s = omega arith in
      let i : s * (16 * u) + y - s * (16 * u) ≡ y = omega arith in
      let h' : s * (16 * u) + (16 * u) ≤ length c.main = rw e at h in
      rw e (programs_main_out d (s + d) k (λ j. f (suc j)) (apply u (program s (tabulate (16 * u) (f zero))) c) s y b (λ j l. omega arith)
      ∙ get_d_write_in c.main (s * (16 * u)) (tabulate (16 * u) (f zero)) (s * (16 * u) + y) 0 (omega arith) (omega arith) (omega arith)
      ∙ ap (λ (z : ℕ). get_or (tabulate (16 * u) (f zero)) z 0) i ∙ get_d_tabulate (16 * u) (f zero) y 0 b)
  programs_main_in d s (suc k) f c (suc j) y hd h a b =
      let e : s + suc j * d ≡ s + d + j * d = omega arith in
      let h' : (s + d + j * d) * (16 * u) + (16 * u) ≤ length c.main = rw e at h in
      rw e (programs_main_in d (s + d) k (λ j. f (suc j)) (apply u (program s (tabulate (16 * u) (f zero))) c) j y hd
      (rw (length_write c.main (s * (16 * u)) (tabulate (16 * u) (f zero))) h') (omega arith) b)

  -- they are allowed where each is fresh, and each sector before it in its page is programmed, or is one of the earlier ones
  pub programs_allowed : (d s k : ℕ) (f : ℕ → ℕ → ℕ) (c : Flash) → 0 < d → ((j : ℕ) → j < k → s + j * d < length c.spare)
      → ((j : ℕ) → j < k → get_or c.spare (s + j * d) 0 ≡ 255)
      → ((j x : ℕ) → j < k → x < s + j * d → x / 4 ≡ (s + j * d) / 4 → (get_or c.spare x 0 ≡ 0) ⊎ ((i : ℕ) × (i < j) × (x ≡ s + i * d)))
      → AllAllowed u (programs u d s k f) c
  programs_allowed d s zero f c hd h fresh done = tt
  programs_allowed d s (suc k) f c hd h fresh done =
      let c1 : Flash = apply u (program s (tabulate (16 * u) (f zero))) c in
      let z : s + 0 * d ≡ s = omega arith in
      let up : (j : ℕ) → s + suc j * d ≡ s + d + j * d = λ j. omega arith in (
        (
          rw z at (fresh 0 (omega arith)),
          (λ x a b. either (done 0 x (omega arith) (omega arith) (rw z b)) (λ p. p) (λ p. absurd (not-suc-le-zero p.1))),
        ),
        programs_allowed d (s + d) k (λ j. f (suc j)) c1 hd
            (λ j l. rw (length-set c.spare s 0, ← up j) (h (suc j) (omega arith)))
            (λ j l. get_or-set_other c.spare s (s + d + j * d) 0 0 (omega arith) ∙ rw (up j) at (fresh (suc j) (omega arith)))
            (λ j x l a b. either (eq? x s)
            (λ e. inl (rw e.1 (get_or-set_same c.spare s 0 0 (omega (arith, h 0 (omega arith))))))
            (λ e. either (done (suc j) x (omega arith) (omega arith) (rw (up j) b))
            (λ p. inl (get_or-set_other c.spare s x 0 0 e.1 ∙ p))
            (λ p. inr (back j x e p)))),
      )
    where
      back : (j x : ℕ) → ((eqb x s ≡ false) × (x ≢ s)) → ((i : ℕ) × (i < suc j) × (x ≡ s + i * d)) → (i : ℕ) × (i < j) × (x ≡ s + d + i * d)
      back j x e p = go p.0 p.1 p.2
        where
          go : (i : ℕ) → i < suc j → x ≡ s + i * d → (i : ℕ) × (i < j) × (x ≡ s + d + i * d)
          go zero a b = absurd (e.1 (omega arith))
          go (suc i) a b = (i, omega arith, omega arith)

  -- sectors between lo and hi leave what is before and after
  pub range_out : (d s k lo hi : ℕ) (f : ℕ → ℕ → ℕ) (c : Flash) (a : ℕ) → 0 < (16 * u)
      → ((j : ℕ) → j < k → (lo ≤ s + j * d) × (s + j * d < hi))
      → (a < lo * (16 * u)) ⊎ (hi * (16 * u) ≤ a) → get_or (apply_all u (programs u d s k f) c).main a 0 ≡ get_or c.main a 0
  range_out d s k lo hi f c a pS r o =
      let E = euclid a (16 * u) pS in
      rw (← E.whole) (programs_main_out d s k f c (a / (16 * u)) (a % (16 * u)) E.small (λ j l q.
      let m : a / (16 * u) * (16 * u) ≡ (s + j * d) * (16 * u) = ap (λ (x : ℕ). x * (16 * u)) q in
      either o
      (λ b. absurd (omega (arith, mul-le-mul_right (16 * u) (r j l).0)))
      (λ b. absurd (omega (arith, mul-le-mul_right (16 * u) (r j l).1)))))

  -- ---- k blocks in a row from b on are erased

  pub erases_allowed : (b k : ℕ) (c : Flash) → AllAllowed u (erases b k) c
  erases_allowed b zero c = tt
  erases_allowed b (suc k) c = (tt, erases_allowed (suc b) k (apply u (erase b) c))

  pub erases_main_out : (b k : ℕ) (c : Flash) (x : ℕ) → (x < b * (1024 * u)) ⊎ ((b + k) * (1024 * u) ≤ x)
      → get_or (apply_all u (erases b k) c).main x 0 ≡ get_or c.main x 0
  erases_main_out b zero c x o = refl
  erases_main_out b (suc k) c x o =
      let l : length (replicate {A = ℕ} (1024 * u) 255) ≡ 1024 * u = length-replicate {A = ℕ} (1024 * u) 255 in
      erases_main_out (suc b) k (apply u (erase b) c) x (either o (λ a. inl (omega arith)) (λ a. inr (omega arith)))
      ∙ either o (λ a. get_d_write_before c.main (b * (1024 * u)) _ x 0 a)
      (λ a. get_d_write_after c.main (b * (1024 * u)) _ x 0 (omega arith))

  pub erases_main_in : (b k : ℕ) (c : Flash) (x : ℕ) → (b + k) * (1024 * u) ≤ length c.main → b * (1024 * u) ≤ x
      → x < (b + k) * (1024 * u)
      → get_or (apply_all u (erases b k) c).main x 0 ≡ 255
  erases_main_in b zero c x h lo hi = absurd (omega arith)
  erases_main_in b (suc k) c x h lo hi =
      let l : length (replicate {A = ℕ} (1024 * u) 255) ≡ 1024 * u = length-replicate {A = ℕ} (1024 * u) 255 in
      either (lt? x (suc b * (1024 * u)))
      (λ a.
      erases_main_out (suc b) k (apply u (erase b) c) x (inl a.1)
      ∙ get_d_write_in c.main (b * (1024 * u)) _ x 0 lo (omega arith) (omega arith)
      ∙ get_or-replicate (1024 * u) (x - b * (1024 * u)) 255 0 (omega arith))
      (λ a. erases_main_in (suc b) k (apply u (erase b) c) x
      (rw (length_write c.main (b * (1024 * u)) (replicate (1024 * u) 255)) (omega arith)) a.1 (omega arith))

  pub erases_spare_out : (b k : ℕ) (c : Flash) (x : ℕ) → (x < b * 64) ⊎ ((b + k) * 64 ≤ x)
      → get_or (apply_all u (erases b k) c).spare x 0 ≡ get_or c.spare x 0
  erases_spare_out b zero c x o = refl
  erases_spare_out b (suc k) c x o =
      let l : length (replicate {A = ℕ} 64 255) ≡ 64 = length-replicate {A = ℕ} 64 255 in
      erases_spare_out (suc b) k (apply u (erase b) c) x (either o (λ a. inl (omega arith)) (λ a. inr (omega arith)))
      ∙ either o (λ a. get_d_write_before c.spare (b * 64) _ x 0 a) (λ a. get_d_write_after c.spare (b * 64) _ x 0 (omega arith))

  pub erases_spare_in : (b k : ℕ) (c : Flash) (x : ℕ) → (b + k) * 64 ≤ length c.spare → b * 64 ≤ x → x < (b + k) * 64
      → get_or (apply_all u (erases b k) c).spare x 0 ≡ 255
  erases_spare_in b zero c x h lo hi = absurd (omega arith)
  erases_spare_in b (suc k) c x h lo hi =
      let l : length (replicate {A = ℕ} 64 255) ≡ 64 = length-replicate {A = ℕ} 64 255 in
      either (lt? x (suc b * 64))
      (λ a.
      erases_spare_out (suc b) k (apply u (erase b) c) x (inl a.1)
      ∙ get_d_write_in c.spare (b * 64) _ x 0 lo (omega arith) (omega arith)
      ∙ get_or-replicate 64 (x - b * 64) 255 0 (omega arith))
      (λ a. erases_spare_in (suc b) k (apply u (erase b) c) x (rw (length_write c.spare (b * 64) (replicate 64 255)) (omega arith))
      a.1 (omega arith))

  -- ---- sectors in a row are one write of cells

  pub row_main : (s k : ℕ) (f : ℕ → ℕ → ℕ) (c : Flash) → 0 < (16 * u) → (s + k) * (16 * u) ≤ length c.main
      → (apply_all u (programs u 1 s k f) c).main ≡ write c.main (s * (16 * u)) (tabulate (k * (16 * u)) (λ i. f (i / (16 * u)) (i % (16 * u))))
  row_main s k f c pS fits =
      ext_get_or 0 (apply_all u (programs u 1 s k f) c).main
      (write c.main (s * (16 * u)) (tabulate (k * (16 * u)) (λ i. f (i / (16 * u)) (i % (16 * u)))))
      (apply_main_length (programs u 1 s k f) c ∙ sym (length_write c.main (s * (16 * u)) _))
      (λ a h. at a (rw (apply_main_length (programs u 1 s k f) c) at h))
    where
      at : (a : ℕ) → a < length c.main
          → get_or (apply_all u (programs u 1 s k f) c).main a 0
          ≡ get_or (write c.main (s * (16 * u)) (tabulate (k * (16 * u)) (λ i. f (i / (16 * u)) (i % (16 * u))))) a 0
      at a h =
          let t = length_tabulate (k * (16 * u)) (λ i. f (i / (16 * u)) (i % (16 * u))) in
          either (lt? a (s * (16 * u)))
          (λ b.
          range_out 1 s k s (s + k) f c a pS (λ j l. (omega arith, omega arith)) (inl b.1)
          ∙ sym (get_d_write_before c.main (s * (16 * u)) _ a 0 b.1))
          (λ b. either (lt? a ((s + k) * (16 * u)))
          (λ d.
          let E = euclid (a - s * (16 * u)) (16 * u) pS in
          let j : (a - s * (16 * u)) / (16 * u) < k = div_lt (a - s * (16 * u)) (16 * u) k pS (omega arith) in
          let e : (s + (a - s * (16 * u)) / (16 * u) * 1) * (16 * u) + (a - s * (16 * u)) % (16 * u) ≡ a = omega arith in
          (rw e at (programs_main_in 1 s k f c ((a - s * (16 * u)) / (16 * u)) ((a - s * (16 * u)) % (16 * u)) (omega arith)
          (omega (arith, mul-le-mul_right (16 * u) j)) j E.small))
          ∙ sym (get_d_write_in c.main (s * (16 * u)) (tabulate (k * (16 * u)) (λ i. f (i / (16 * u)) (i % (16 * u)))) a 0 b.1
          (omega arith) h
          ∙ get_d_tabulate (k * (16 * u)) (λ i. f (i / (16 * u)) (i % (16 * u))) (a - s * (16 * u)) 0 (omega arith)))
          (λ d.
          range_out 1 s k s (s + k) f c a pS (λ j l. (omega arith, omega arith)) (inr d.1)
          ∙ sym (get_d_write_after c.main (s * (16 * u)) _ a 0 (omega arith))))
