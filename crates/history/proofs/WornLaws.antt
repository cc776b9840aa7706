-- What operations do to two spare areas at once, and what worn marks decide: as those of a history do.
use Rattle.std.specs.Prelude.{◌≡◌, refl, Bool, true, false, cond, List, [], ◌∷◌, ℕ, ◌+◌, ◌-◌, ◌*◌, ◌/◌, ◌%◌, ◌≤◌, ◌<◌, ltb, eqb, length, get_or, set, replicate}
use Rattle.std.proofs.Common.{sym, ap, ◌∙◌, inl, inr, arith, length-set, get_or-set_same, get_or-set_other}
use Rattle.std.proofs.lemmas.List.{length-replicate, get_or-replicate}
use Rattle.std.proofs.Math.ListN.{get_or-eq_default}
use Rattle.memory.specs.Cases.{either, lt?, eq?}
use Rattle.memory.specs.Lists.{write, length_write, get_d_write_before, get_d_write_in, get_d_write_after}
use Rattle.layout.specs.Geometry.{Geometry, sectors_per_page, sectors_per_block, sector, block, side_blocks, ka_block, da_block, index_block}
use Rattle.layout.specs.Geometry.{deletion_index_block}
use Rattle.layout.specs.Flash.{Flash, Op, program, erase, fresh, apply, apply_all, Planned, known, made, wipe, op_on, plan_ops}
use Rattle.layout.specs.Flash.{all_fresh}
use Rattle.layout.specs.Items.{Area, Ra, KA, DA}
use Rattle.layout.specs.Index.{flushes_per_round, in_l1, in_set, in_full, set_blocks}
use Rattle.laws.specs.FreshLaws.{Written, wrong_bits, none_wrong, worn_fresh}
use Rattle.history.specs.Image.{History, records_in, deletions_in, filters_in, deletion_filters_in, area_spare_byte, index_spare_byte}
use Rattle.history.specs.Image.{spare_image}
use Rattle.history.specs.ProgramOrder.{Below}
use Rattle.history.specs.Worn.{Worn, ByteKept}

-- ---- the marks of a history are 00 and FF

written_if : (t : Bool) (a b : ℕ) → Written a → Written b → Written (cond t a b)
written_if true a b p q = p
written_if false a b p q = q

either_written : (t : Bool) → Written (cond t 0 255)
either_written t = written_if t 0 255 (inl refl) (inr refl)

area_written : (a : Area) (n x : ℕ) → Written (area_spare_byte a n x)
area_written a n x = either_written (ltb x (n / a.per_page * sectors_per_page))

index_written : (u N x : ℕ) → Written (index_spare_byte u N x)
index_written u N x =
    written_if (ltb x sectors_per_block) _ _ (either_written (ltb (x % flushes_per_round) (in_l1 N)))
    (written_if (ltb x ((1 + side_blocks u) * sectors_per_block)) _ _
    (written_if (eqb (in_set u N % 2) 1) _ _
    (either_written (ltb (x - sectors_per_block) (set_blocks (in_set u N) * sectors_per_block))) (inr refl))
    (written_if (ltb x ((1 + 2 * side_blocks u) * sectors_per_block)) _ _
    (written_if (eqb (in_set u N % 2) 1) _ _ (inr refl)
    (either_written (ltb (x - (1 + side_blocks u) * sectors_per_block) (set_blocks (in_set u N) * sectors_per_block))))
    (either_written (ltb ((x - (1 + 2 * side_blocks u) * sectors_per_block) / (side_blocks u * sectors_per_block)) (in_full u N)))))

pub image_written : (g : Geometry) (H : History) (x : ℕ) → Written (spare_image g H x)
unfolding spare_image
image_written g H x =
    written_if (ltb x (ka_block g * sectors_per_block)) _ _ (area_written (Ra g) (records_in H) x)
    (written_if (ltb x (da_block g * sectors_per_block)) _ _ (area_written (KA g) (records_in H) (x - ka_block g * sectors_per_block))
    (written_if (ltb x (index_block g * sectors_per_block)) _ _ (area_written (DA g) (deletions_in H) (x - da_block g * sectors_per_block))
    (written_if (ltb x (deletion_index_block g * sectors_per_block)) _ _
    (index_written g.u (filters_in g H) (x - index_block g * sectors_per_block))
    (index_written g.u (deletion_filters_in g H) (x - deletion_index_block g * sectors_per_block)))))

-- ---- what one operation does to a byte of two spare areas

-- a place of neither area reads as before, whatever is written
past_kept : (a a' b b' : List ℕ) (x : ℕ) → length b ≡ length a → length b' ≡ length a' → length a' ≡ length a → length a ≤ x
    → ByteKept (get_or a x 0) (get_or b x 0) (get_or a' x 0) (get_or b' x 0)
past_kept a a' b b' x p q e l = inl (
  get_or-eq_default b' 0 (omega arith) ∙ sym (get_or-eq_default a' 0 (omega arith)),
  get_or-eq_default b 0 (omega arith) ∙ sym (get_or-eq_default a 0 l),
)

-- bytes that an operation writes to both
both_written : (a b c d k : ℕ) → Written k → b ≡ k → d ≡ k → ByteKept a b c d
both_written a b c d k w p q = inr (q ∙ sym p, rw p w)

program_kept : (a a' : List ℕ) (s x : ℕ) → length a' ≡ length a
    → ByteKept (get_or a x 0) (get_or (set a s 0) x 0) (get_or a' x 0) (get_or (set a' s 0) x 0)
program_kept a a' s x e =
    either (lt? x (length a))
    (λ l. either (eq? x s)
    (λ p. both_written _ _ _ _ 0 (inl refl) (rw p.1 (get_or-set_same a s 0 0 (omega arith)))
    (rw p.1 (get_or-set_same a' s 0 0 (omega (arith, e)))))
    (λ p. inl (get_or-set_other a' s x 0 0 p.1, get_or-set_other a s x 0 0 p.1)))
    (λ l. past_kept a a' (set a s 0) (set a' s 0) x (length-set a s 0) (length-set a' s 0) e l.1)

erase_at : (a : List ℕ) (b x : ℕ) → b * 64 ≤ x → x < b * 64 + 64 → x < length a → get_or (write a (b * 64) (replicate 64 255)) x 0 ≡ 255
erase_at a b x low high l =
    let z : length (replicate {A = ℕ} 64 255) ≡ 64 = length-replicate {A = ℕ} 64 255 in
    get_d_write_in a (b * 64) (replicate 64 255) x 0 low (omega arith) l ∙ get_or-replicate 64 (x - b * 64) 255 0 (omega arith)

erase_kept : (a a' : List ℕ) (b x : ℕ) → length a' ≡ length a
    → ByteKept (get_or a x 0) (get_or (write a (b * 64) (replicate 64 255)) x 0) (get_or a' x 0) (get_or (write a' (b * 64) (replicate 64 255)) x 0)
erase_kept a a' b x e =
    let z : length (replicate {A = ℕ} 64 255) ≡ 64 = length-replicate {A = ℕ} 64 255 in
    let erased : List ℕ = replicate 64 255 in
    either (lt? x (length a))
    (λ l. either (lt? x (b * 64))
    (λ p. inl (get_d_write_before a' (b * 64) erased x 0 p.1, get_d_write_before a (b * 64) erased x 0 p.1))
    (λ p. either (lt? x (b * 64 + 64))
    (λ q. both_written _ _ _ _ 255 (inr refl) (erase_at a b x p.1 q.1 l.1) (erase_at a' b x p.1 q.1 (omega (arith, e))))
    (λ q. inl (
      get_d_write_after a' (b * 64) erased x 0 (omega (arith, z, q.1)),
      get_d_write_after a (b * 64) erased x 0 (omega (arith, z, q.1)),
    ))))
    (λ l. past_kept a a' (write a (b * 64) erased) (write a' (b * 64) erased) x (length_write a (b * 64) erased)
    (length_write a' (b * 64) erased) e l.1)

-- ---- operations do not look at marks

module _ (u : ℕ) where
  -- the main area and the operations of a plan go by the main area alone
  apply_main : (o : Op) (c c' : Flash) → c'.main ≡ c.main → (apply u o c').main ≡ (apply u o c).main
  apply_main (program s bytes) c c' e = ap (λ (m : List ℕ). write m (s * sector u) bytes) e
  apply_main (erase b) c c' e = ap (λ (m : List ℕ). write m (b * block u) (replicate (block u) 255)) e

  pub all_main : (os : List Op) (c c' : Flash) → c'.main ≡ c.main → (apply_all u os c').main ≡ (apply_all u os c).main
  all_main [] c c' e = e
  all_main (o ∷ os) c c' e = all_main os (apply u o c) (apply u o c') (apply_main o c c' e)

  op_same : (p : Planned) (c c' : Flash) → c'.main ≡ c.main → op_on p c' ≡ op_on p c
  op_same (known s bytes) c c' e = refl
  op_same (made s bytes) c c' e = ap (λ (m : List ℕ). program s (bytes m)) e
  op_same (wipe b) c c' e = refl

  pub plan_same : (ps : List Planned) (c c' : Flash) → c'.main ≡ c.main → plan_ops u ps c' ≡ plan_ops u ps c
  plan_same [] c c' e = refl
  plan_same (p ∷ ps) c c' e =
      rw (op_same p c c' e)
      (ap (λ (t : List Op). op_on p c ∷ t)
      (plan_same ps (apply u (op_on p c) c) (apply u (op_on p c) c') (apply_main (op_on p c) c c' e)))

  -- ---- what lists of operations do to a mark, on two spare areas at once

  abbrev Kept : ℕ → Flash → Flash → Flash → Flash → Type 0
  Kept x c d c' d' = ByteKept (get_or c.spare x 0) (get_or d.spare x 0) (get_or c'.spare x 0) (get_or d'.spare x 0)

  pub kept_then : (x : ℕ) (c d e c' d' e' : Flash) → Kept x c d c' d' → Kept x d e d' e' → Kept x c e c' e'
  kept_then x c d e c' d' e' p (inr q) = inr q
  kept_then x c d e c' d' e' (inl p) (inl q) = inl (q.0 ∙ p.0, q.1 ∙ p.1)
  kept_then x c d e c' d' e' (inr p) (inl q) = inr (q.0 ∙ p.0 ∙ sym q.1, rw q.1 p.1)

  one_kept : (o : Op) (c c' : Flash) (x : ℕ) → length c'.spare ≡ length c.spare → Kept x c (apply u o c) c' (apply u o c')
  one_kept (program s bytes) c c' x e = program_kept c.spare c'.spare s x e
  one_kept (erase b) c c' x e = erase_kept c.spare c'.spare b x e

  one_length : (o : Op) (c : Flash) → length (apply u o c).spare ≡ length c.spare
  one_length (program s bytes) c = length-set c.spare s 0
  one_length (erase b) c = length_write c.spare (b * 64) (replicate 64 255)

  pub all_kept : (os : List Op) (c c' : Flash) (x : ℕ) → length c'.spare ≡ length c.spare
      → Kept x c (apply_all u os c) c' (apply_all u os c')
  all_kept [] c c' x e = inl (refl, refl)
  all_kept (o ∷ os) c c' x e =
      kept_then x c (apply u o c) (apply_all u os (apply u o c)) c' (apply u o c') (apply_all u os (apply u o c'))
      (one_kept o c c' x e) (all_kept os (apply u o c) (apply u o c') x (one_length o c' ∙ e ∙ sym (one_length o c)))

-- marks that are kept get no more wrong bits
pub kept_worn : (k before after worn_before worn_after : ℕ) → ByteKept before after worn_before worn_after
    → wrong_bits worn_before before ≤ k → wrong_bits worn_after after ≤ k
kept_worn k a b c d (inl p) few = rw (p.0, p.1) few
kept_worn k a b c d (inr p) few = rw (p.0, none_wrong b) (omega arith)

-- worn marks of a volume whose own are 00 and FF are as fresh as these
pub as_fresh : (N : ℕ) (sound worn : List ℕ) → ((x : ℕ) → x < N → Written (get_or sound x 0)) → Worn N sound worn
    → (x : ℕ) → x < N → fresh (get_or worn x 0) ≡ fresh (get_or sound x 0)
as_fresh N sound worn written W x l = worn_fresh (get_or worn x 0) (get_or sound x 0) (written x l) (omega (arith, W.wrong x l))

-- ---- refusal 7

-- where the first N marks are as fresh, so are the sectors of operations among them
pub fresh_worn : (N : ℕ) (sound worn : List ℕ) → ((x : ℕ) → x < N → fresh (get_or worn x 0) ≡ fresh (get_or sound x 0))
    → (os : List Op) → Below N os → all_fresh worn os ≡ all_fresh sound os
unfolding all_fresh
fresh_worn N sound worn same [] low = refl
fresh_worn N sound worn same (program s bytes ∷ os) low = rw (same s low.0, fresh_worn N sound worn same os low.1)
fresh_worn N sound worn same (erase b ∷ os) low = fresh_worn N sound worn same os low
