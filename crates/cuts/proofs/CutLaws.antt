-- A list of operations cut after any of them: what the spare bytes tell, and that the later operations finish the list. Of no call in
-- particular.
use Rattle.std.specs.Prelude.{◌≡◌, ◌≢◌, ◌⊎◌, true, false, ℕ, ◌+◌, ◌-◌, ◌*◌, ◌/◌, ◌≤◌, ◌<◌, length, get_or, set, replicate}
use Rattle.std.proofs.Math.Path.{refl}
use Rattle.std.proofs.Common.{sym, ap, ◌∙◌, inl, inr, arith, length-set, ext_get_or, get_or-set_same, get_or-set_other}
use Rattle.std.proofs.Math.Bool.{and-eq-true_iff}
use mathlib.Core.List.{List, [], ◌∷◌, ◌++◌}
use Rattle.std.proofs.lemmas.List.{length-replicate, get_or-replicate}
use Rattle.std.proofs.Math.ListN.{get_or-eq_default}
use Rattle.memory.specs.Lists.{write, length_write, get_d_write_before, get_d_write_in, get_d_write_after}
use Rattle.memory.specs.Cases.{lt?, eq?, either, bool?}
use Rattle.layout.specs.Flash.{Op, program, erase, Flash, apply, apply_all, fresh, all_fresh}
use Rattle.laws.specs.FreshLaws.{erased_fresh, programmed_not}
use Rattle.history.specs.FlashLaws.{AllAllowed}
use Rattle.cuts.specs.Later.{later}
use Rattle.cuts.specs.CutLaws.{OnlyErases, Blank, Blanks, NoProgram, Apart, Survives, Anchored, Behind}

-- ---- the two laws of spare bytes that are used: an erased one is fresh, a programmed one is not

pub fresh_erased : fresh 255 ≡ true
fresh_erased = erased_fresh

pub fresh_programmed : fresh 0 ≡ false
fresh_programmed = programmed_not

-- FF over FF changes nothing, FF elsewhere keeps FF
same_write : (l : List ℕ) (at k : ℕ) → ((i : ℕ) → at ≤ i → i < at + k → i < length l → get_or l i 0 ≡ 255) → write l at (replicate k 255) ≡ l
same_write l at k h =
    let z : length (replicate {A = ℕ} k 255) ≡ k = length-replicate {A = ℕ} k 255 in
    ext_get_or 0 (write l at (replicate k 255)) l (length_write l at (replicate k 255))
    (λ i m.
    let n : i < length l = omega (arith, m, length_write l at (replicate k 255)) in
    either (lt? i at)
    (λ a. get_d_write_before l at (replicate k 255) i 0 a.1)
    (λ a. either (lt? i (at + k))
    (λ e.
    get_d_write_in l at (replicate k 255) i 0 a.1 (omega (arith, z)) n ∙ get_or-replicate k (i - at) 255 0 (omega arith)
    ∙ sym (h i a.1 e.1 n))
    (λ e. get_d_write_after l at (replicate k 255) i 0 (omega (arith, z)))))

still : (l : List ℕ) (at k i : ℕ) → i < length l → get_or l i 0 ≡ 255 → get_or (write l at (replicate k 255)) i 0 ≡ 255
still l at k i n e =
    let z : length (replicate {A = ℕ} k 255) ≡ k = length-replicate {A = ℕ} k 255 in
    either (lt? i at)
    (λ a. get_d_write_before l at (replicate k 255) i 0 a.1 ∙ e)
    (λ a. either (lt? i (at + k))
    (λ q. get_d_write_in l at (replicate k 255) i 0 a.1 (omega (arith, z)) n ∙ get_or-replicate k (i - at) 255 0 (omega arith))
    (λ q. get_d_write_after l at (replicate k 255) i 0 (omega (arith, z)) ∙ e))

inside : (l : List ℕ) (at k i : ℕ) → at ≤ i → i < at + k → i < length l → get_or (write l at (replicate k 255)) i 0 ≡ 255
inside l at k i a b n =
    let z : length (replicate {A = ℕ} k 255) ≡ k = length-replicate {A = ℕ} k 255 in
    get_d_write_in l at (replicate k 255) i 0 a (omega (arith, z)) n ∙ get_or-replicate k (i - at) 255 0 (omega arith)

module _ (u : ℕ) where
  erase_blank : (b : ℕ) (c : Flash) → Blank u b (apply u (erase b) c)
  erase_blank b c = record {
    main = λ i a e n. inside c.main (b * (1024 * u)) (1024 * u) i a e
        (rw (length_write c.main (b * (1024 * u)) (replicate (1024 * u) 255)) at n);
    spare = λ i a e n. inside c.spare (b * 64) 64 i a e (rw (length_write c.spare (b * 64) (replicate 64 255)) at n);
  }

  blank_kept : (b k : ℕ) (c : Flash) → Blank u b c → Blank u b (apply u (erase k) c)
  blank_kept b k c B = record {
    main = λ i a e n.
        let m : i < length c.main = rw (length_write c.main (k * (1024 * u)) (replicate (1024 * u) 255)) at n in
        still c.main (k * (1024 * u)) (1024 * u) i m (B.main i a e m);
    spare = λ i a e n.
        let m : i < length c.spare = rw (length_write c.spare (k * 64) (replicate 64 255)) at n in
        still c.spare (k * 64) 64 i m (B.spare i a e m);
  }

  pub erase_again : (b : ℕ) (c : Flash) → Blank u b c → apply u (erase b) c ≡ c
  erase_again b c B = rw (same_write c.main (b * (1024 * u)) (1024 * u) B.main, same_write c.spare (b * 64) 64 B.spare)

  blank_erases : (b : ℕ) (os : List Op) (c : Flash) → OnlyErases os → Blank u b c → Blank u b (apply_all u os c)
  blank_erases b [] c o B = B
  blank_erases b (program s bytes ∷ os) c o B = absurd o
  blank_erases b (erase k ∷ os) c o B = blank_erases b os (apply u (erase k) c) o (blank_kept b k c B)

  -- after erases their blocks are blank
  pub erased_blanks : (os : List Op) (c : Flash) → OnlyErases os → Blanks u os (apply_all u os c)
  erased_blanks [] c o = tt
  erased_blanks (program s bytes ∷ os) c o = absurd o
  erased_blanks (erase b ∷ os) c o = (blank_erases b os (apply u (erase b) c) o (erase_blank b c), erased_blanks os (apply u (erase b) c) o)

  -- erases of blank blocks change nothing
  pub erases_again : (os : List Op) (c : Flash) → OnlyErases os → Blanks u os c → apply_all u os c ≡ c
  erases_again [] c o B = refl
  erases_again (program s bytes ∷ os) c o B = absurd o
  erases_again (erase b ∷ os) c o B = ap (apply_all u os) (erase_again b c B.0) ∙ erases_again os c o B.1

-- ---- the sectors still to be programmed are fresh, at any cut

module _ (spare : List ℕ) (s : ℕ) where
  -- a spare byte that is fresh after sector s was programmed was fresh before
  fresh_before : (x : ℕ) → fresh (get_or (set spare s 0) x 0) ≡ true → fresh (get_or spare x 0) ≡ true
  fresh_before x q =
      either (eq? x s)
      (λ a. either (lt? s (length spare))
      (λ l.
      let e : get_or (set spare s 0) x 0 ≡ 0 = rw a.1 (get_or-set_same spare s 0 0 l.1) in
      let z : false ≡ true = sym fresh_programmed ∙ ap fresh (sym e) ∙ q in
      cc)
      (λ l.
      let e : get_or (set spare s 0) x 0 ≡ 0 = get_or-eq_default (set spare s 0) 0 (rw (length-set spare s 0) (omega arith)) in
      let z : false ≡ true = sym fresh_programmed ∙ ap fresh (sym e) ∙ q in
      cc))
      (λ a. ap fresh (sym (get_or-set_other spare s x 0 0 a.1)) ∙ q)

  all_fresh_before : (os : List Op) → all_fresh (set spare s 0) os ≡ true → all_fresh spare os ≡ true
  unfolding all_fresh
  all_fresh_before [] q = refl
  all_fresh_before (program x bytes ∷ os) q =
      let p = (and-eq-true_iff (fresh (get_or (set spare s 0) x 0)) (all_fresh (set spare s 0) os)).0 q in
      rw (fresh_before x p.0) (all_fresh_before os p.1)
  all_fresh_before (erase b ∷ os) q = all_fresh_before os q

-- spare bytes outside a block are kept when it is erased
pub outside : (spare : List ℕ) (b x : ℕ) → x / 64 ≢ b → get_or (write spare (b * 64) (replicate 64 255)) x 0 ≡ get_or spare x 0
outside spare b x o =
    let z : length (replicate {A = ℕ} 64 255) ≡ 64 = length-replicate {A = ℕ} 64 255 in
    either (lt? x (b * 64))
    (λ q. get_d_write_before spare (b * 64) (replicate 64 255) x 0 q.1)
    (λ q. get_d_write_after spare (b * 64) (replicate 64 255) x 0
    (either (lt? x (b * 64 + 64)) (λ l. let e : x / 64 ≡ b = omega arith in absurd (o e)) (λ l. omega (arith, z))))

fresh_outside : (spare : List ℕ) (b : ℕ) (os : List Op) → NoProgram b os → all_fresh (write spare (b * 64) (replicate 64 255)) os ≡ true
    → all_fresh spare os ≡ true
unfolding all_fresh
fresh_outside spare b [] o q = refl
fresh_outside spare b (program x bytes ∷ os) o q =
    let p = (and-eq-true_iff (fresh (get_or (write spare (b * 64) (replicate 64 255)) x 0))
    (all_fresh (write spare (b * 64) (replicate 64 255)) os)).0 q in
    let e : fresh (get_or spare x 0) ≡ true = ap fresh (sym (outside spare b x o.0)) ∙ p.0 in
    rw e (fresh_outside spare b os o.1 p.1)
fresh_outside spare b (erase k ∷ os) o q = fresh_outside spare b os o q

-- what the program order allows, and erases no block before it programs there, finds its sectors fresh before its first operation
pub allowed_fresh : (u : ℕ) (os : List Op) (c : Flash) → AllAllowed u os c → Apart os → all_fresh c.spare os ≡ true
unfolding all_fresh
allowed_fresh u [] c a p = refl
allowed_fresh u (program s bytes ∷ os) c a p =
    let e : fresh (get_or c.spare s 0) ≡ true = ap fresh a.0.0 ∙ fresh_erased in
    rw e (all_fresh_before c.spare s os (allowed_fresh u os (apply u (program s bytes) c) a.1 p))
allowed_fresh u (erase b ∷ os) c a p = fresh_outside c.spare b os p.0 (allowed_fresh u os (apply u (erase b) c) a.1 p.1)

-- ---- the last sector programmed shows

-- the spare byte of a sector just programmed, and after erases of other blocks
pub programmed_spare : (spare : List ℕ) (s : ℕ) → get_or (set spare s 0) s 0 ≡ 0
programmed_spare spare s =
    either (lt? s (length spare))
    (λ l. get_or-set_same spare s 0 0 l.1)
    (λ l. get_or-eq_default (set spare s 0) 0 (rw (length-set spare s 0) (omega arith)))

pub spare_stays : (u s : ℕ) (os rest : List Op) (c : Flash) → OnlyErases os → Survives s (os ++ rest) → get_or c.spare s 0 ≡ 0
    → get_or (apply_all u os c).spare s 0 ≡ 0
spare_stays u s [] rest c o v e = e
spare_stays u s (program t bytes ∷ os) rest c o v e = absurd o
spare_stays u s (erase b ∷ os) rest c o v e = spare_stays u s os rest (apply u (erase b) c) o v.1 (outside c.spare b s v.0 ∙ e)

-- ---- `later` by where the last programmed sector is

-- none is programmed: the whole list
pub later_none : (spare : List ℕ) (os : List Op) → all_fresh spare os ≡ true → later spare os ≡ os
unfolding later
later_none spare [] q = refl
later_none spare (o ∷ os) q = rw q

pub not_fresh_lem : (spare : List ℕ) (s : ℕ) (bytes : List ℕ) (before rest : List Op) → fresh (get_or spare s 0) ≡ false
    → all_fresh spare (before ++ (program s bytes ∷ rest)) ≡ false
unfolding all_fresh
not_fresh_lem spare s bytes [] rest q = rw q
not_fresh_lem spare s bytes (program x b ∷ os) rest q =
    either (bool? (fresh (get_or spare x 0))) (λ t. rw t (not_fresh_lem spare s bytes os rest q)) (λ t. rw t)
not_fresh_lem spare s bytes (erase k ∷ os) rest q = not_fresh_lem spare s bytes os rest q

-- the last one is sector s: what follows it
pub later_after : (spare : List ℕ) (s : ℕ) (bytes : List ℕ) (before rest : List Op) → fresh (get_or spare s 0) ≡ false → all_fresh spare rest
    ≡ true
    → later spare (before ++ (program s bytes ∷ rest)) ≡ rest
unfolding later
later_after spare s bytes [] rest q f = rw (not_fresh_lem spare s bytes [] rest q) (later_none spare rest f)
later_after spare s bytes (o ∷ os) rest q f = rw (not_fresh_lem spare s bytes (o ∷ os) rest q) (later_after spare s bytes os rest q f)

pub ends : (os : List Op) → OnlyErases os ⊎ Behind os
ends [] = inl tt
ends (program s b ∷ os) =
    either (ends os)
    (λ e. inr (record { before = []; sector = s; bytes = b; erases = os; only = e; is = refl }))
    (λ e. inr (record {
      before = program s b ∷ e.before;
      sector = e.sector;
      bytes = e.bytes;
      erases = e.erases;
      only = e.only;
      is = ap (λ (l : List Op). program s b ∷ l) e.is;
    }))
ends (erase b ∷ os) =
    either (ends os)
    (λ e. inl e)
    (λ e. inr (record {
      before = erase b ∷ e.before;
      sector = e.sector;
      bytes = e.bytes;
      erases = e.erases;
      only = e.only;
      is = ap (λ (l : List Op). erase b ∷ l) e.is;
    }))

pub anchored_at : (before : List Op) (s : ℕ) (bytes : List ℕ) (rest : List Op) → Anchored (before ++ (program s bytes ∷ rest))
    → Survives s rest
anchored_at [] s bytes rest a = a.0
anchored_at (program x b ∷ os) s bytes rest a = anchored_at os s bytes rest a.1
anchored_at (erase k ∷ os) s bytes rest a = anchored_at os s bytes rest a

pub apart_end : (xs ys : List Op) → Apart (xs ++ ys) → Apart ys
apart_end [] ys a = a
apart_end (program s b ∷ os) ys a = apart_end os ys a
apart_end (erase b ∷ os) ys a = apart_end os ys a.1

pub allowed_end : (u : ℕ) (xs ys : List Op) (c : Flash) → AllAllowed u (xs ++ ys) c → AllAllowed u ys (apply_all u xs c)
allowed_end u [] ys c a = a
allowed_end u (o ∷ os) ys c a = allowed_end u os ys (apply u o c) a.1

pub allowed_start : (u : ℕ) (xs ys : List Op) (c : Flash) → AllAllowed u (xs ++ ys) c → AllAllowed u xs c
allowed_start u [] ys c a = tt
allowed_start u (o ∷ os) ys c a = (a.0, allowed_start u os ys (apply u o c) a.1)
