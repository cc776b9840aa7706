-- A call's list whose sectors know their bytes, or take them from the chip when they are programmed. The list itself looks at no chip, so
-- that a restart has it
-- again as it was: what is left of it does what was left of the call, with nothing to compare.
use Rattle.std.proofs.Math.Path.{◌≡◌, refl, sym, ap}
use Rattle.std.proofs.Common.{◌∙◌, arith}
use Rattle.std.specs.Prelude.{Bool, ◌&&◌, ℕ, get_or}
use Rattle.std.proofs.Math.Bool.{true, false}
use mathlib.Core.List.{List, [], ◌∷◌, ◌++◌, append_assoc}
use Rattle.memory.specs.Cases.{either, bool?}
use Rattle.layout.specs.Flash.{Op, program, erase, Flash, apply, apply_all, Planned, known, made, wipe, op_on, plan_ops, fresh, all_fresh}
use Rattle.history.proofs.FlashLaws.{apply_append}
use Rattle.layout.specs.Later.{fresh_plan, later_plan}
use Rattle.cuts.specs.Later.{later}
use Rattle.cuts.specs.CutLaws.{OnlyErases, Anchored}
use Rattle.cuts.proofs.CutLaws.{erase_again, erased_blanks, fresh_programmed, spare_stays}
use Rattle.cuts.proofs.CutLaws.{programmed_spare, later_none, not_fresh_lem, ends, anchored_at}
use Rattle.cuts.specs.Resume.{CutAt, Fit}
use Rattle.cuts.proofs.Resume.{left_fresh_lem}

module _ (u : ℕ) where
  -- the spare bytes tell the same of plans and of their operations
  pub fresh_plan_lem : (spare : List ℕ) (ds : List Planned) (c : Flash) → fresh_plan spare ds ≡ all_fresh spare (plan_ops u ds c)
  unfolding fresh_plan all_fresh
  fresh_plan_lem spare [] c = refl
  fresh_plan_lem spare (known s bytes ∷ ds) c =
      ap (λ (t : Bool). fresh (get_or spare s 0) && t) (fresh_plan_lem spare ds (apply u (program s bytes) c))
  fresh_plan_lem spare (made s f ∷ ds) c =
      ap (λ (t : Bool). fresh (get_or spare s 0) && t) (fresh_plan_lem spare ds (apply u (program s (f c.main)) c))
  fresh_plan_lem spare (wipe b ∷ ds) c = fresh_plan_lem spare ds (apply u (erase b) c)

  -- ---- erases that were the last things done, once more

  no_head : (o : Op) (os : List Op) → ◌≡◌ {A = List Op} (o ∷ os) [] → ⊥
  no_head o os e = let z : ◌≡◌ {A = ℕ} 0 1 = cc in omega arith

  not_erase : (s : ℕ) (bytes : List ℕ) (b : ℕ) (xs ys : List Op) → ◌≡◌ {A = List Op} (program s bytes ∷ xs) (erase b ∷ ys) → ⊥
  not_erase s bytes b xs ys e = let z : ◌≡◌ {A = ℕ} 0 1 = cc in omega arith

  same_block : (b k : ℕ) (xs ys : List Op) → ◌≡◌ {A = List Op} (erase b ∷ xs) (erase k ∷ ys) → b ≡ k
  same_block b k xs ys e = cc

  same_tail : (o o' : Op) (xs ys : List Op) → ◌≡◌ {A = List Op} (o ∷ xs) (o' ∷ ys) → xs ≡ ys
  same_tail o o' xs ys e = cc

  again : (ds : List Planned) (c : Flash) (es left : List Op) → OnlyErases es → plan_ops u ds c ≡ es ++ left → plan_ops u ds (apply_all u es c)
      ≡ es ++ left
  again ds c [] left o e = e
  again ds c (program s b ∷ es) left o e = absurd o
  again [] c (erase b ∷ es) left o e = absurd (no_head (erase b) (es ++ left) (sym e))
  again (known s bytes ∷ ds) c (erase b ∷ es) left o e =
      absurd (not_erase s bytes b (plan_ops u ds (apply u (program s bytes) c)) (es ++ left) e)
  again (made s f ∷ ds) c (erase b ∷ es) left o e =
      absurd (not_erase s (f c.main) b (plan_ops u ds (apply u (program s (f c.main)) c)) (es ++ left) e)
  again (wipe k ∷ ds) c (erase b ∷ es) left o e =
      let k_is : k ≡ b = same_block k b (plan_ops u ds (apply u (erase k) c)) (es ++ left) e in
      let t : plan_ops u ds (apply u (erase b) c) ≡ es ++ left
      = rw k_is at (same_tail (erase k) (erase b) (plan_ops u ds (apply u (erase k) c)) (es ++ left) e) in
      let blank = erased_blanks u (erase b ∷ es) c o in
      let still : apply u (erase b) (apply_all u es (apply u (erase b) c)) ≡ apply_all u es (apply u (erase b) c)
      = erase_again u b (apply_all u es (apply u (erase b) c)) blank.0 in
      rw (k_is, still) (ap (λ (l : List Op). erase b ∷ l) (again ds (apply u (erase b) c) es left o t))

  -- ---- what is later of the plans, on the chip that is found, is what is later of the call's operations

  fit_tail : (o : Op) (os : List Op) (c : Flash) → Fit u (o ∷ os) c → Fit u os (apply u o c)
  fit_tail (program s b) os c F = record { allowed = F.allowed.1; apart = F.apart; anchored = F.anchored.1 }
  fit_tail (erase b) os c F = record { allowed = F.allowed.1; apart = F.apart.1; anchored = F.anchored }

  -- a program among what was done shows, if only erases follow it
  shows : (before : List Op) (s : ℕ) (bytes : List ℕ) (es left : List Op) (c : Flash) → OnlyErases es
      → Anchored ((before ++ (program s bytes ∷ es)) ++ left)
      → all_fresh (apply_all u (before ++ (program s bytes ∷ es)) c).spare ((before ++ (program s bytes ∷ es)) ++ left) ≡ false
  shows before s bytes es left c o a =
      let long : (before ++ (program s bytes ∷ es)) ++ left ≡ before ++ (program s bytes ∷ (es ++ left))
      = append_assoc before (program s bytes ∷ es) left in
      let v = anchored_at before s bytes (es ++ left) (rw long at a) in
      let m : fresh (get_or (apply_all u (before ++ (program s bytes ∷ es)) c).spare s 0) ≡ false
      = rw (apply_append u before (program s bytes ∷ es) c)
      (ap fresh (spare_stays u s es left (apply u (program s bytes) (apply_all u before c)) o v
      (programmed_spare (apply_all u before c).spare s)) ∙ fresh_programmed) in
      ap (all_fresh (apply_all u (before ++ (program s bytes ∷ es)) c).spare) long
      ∙ not_fresh_lem (apply_all u (before ++ (program s bytes ∷ es)) c).spare s bytes before (es ++ left) m

  -- if all sectors are fresh, what was done was erases
  only_erases : (done left : List Op) (c : Flash) → Anchored (done ++ left) → all_fresh (apply_all u done c).spare (done ++ left) ≡ true
      → OnlyErases done
  only_erases done left c a q =
      either (ends done)
      (λ o. o)
      (λ B.
      let z : false ≡ true = sym (shows B.before B.sector B.bytes B.erases left c B.only (rw B.is at a))
      ∙ (rw B.is at q) in
      absurd (let y : ◌≡◌ {A = ℕ} 0 1 = cc in omega arith))

  resume : (ds : List Planned) (c : Flash) (done left : List Op) → plan_ops u ds c ≡ done ++ left → Fit u (done ++ left) c
      → plan_ops u (later_plan (apply_all u done c).spare ds) (apply_all u done c) ≡ later (apply_all u done c).spare (done ++ left)
  unfolding later_plan later
  resume [] c [] left e F = ap (later c.spare) e
  resume [] c (o ∷ done) left e F = absurd (no_head o (done ++ left) (sym e))
  resume (d ∷ ds) c [] left e F =
      let f : all_fresh c.spare left ≡ true = left_fresh_lem u [] left c F in
      let g : fresh_plan c.spare (d ∷ ds) ≡ true = fresh_plan_lem c.spare (d ∷ ds) c ∙ ap (all_fresh c.spare) e ∙ f in
      rw g (e ∙ sym (later_none c.spare left f))
  resume (d ∷ ds) c (o ∷ done) left e F =
      let x : Flash = apply_all u done (apply u o c) in
      either (bool? (all_fresh (apply_all u done (apply u o c)).spare (o ∷ (done ++ left))))
      (λ t.
      let g : fresh_plan (apply_all u done (apply u o c)).spare (d ∷ ds) ≡ true
      = fresh_plan_lem (apply_all u done (apply u o c)).spare (d ∷ ds) c ∙ ap (all_fresh (apply_all u done (apply u o c)).spare) e ∙ t in
      rw (g, t) (again (d ∷ ds) c (o ∷ done) left (only_erases (o ∷ done) left c F.anchored t) e))
      (λ t.
      let g : fresh_plan (apply_all u done (apply u o c)).spare (d ∷ ds) ≡ false
      = fresh_plan_lem (apply_all u done (apply u o c)).spare (d ∷ ds) c ∙ ap (all_fresh (apply_all u done (apply u o c)).spare) e ∙ t in
      let h : op_on d c ≡ o = same_op (op_on d c) o (plan_ops u ds (apply u (op_on d c) c)) (done ++ left) e in
      let k : plan_ops u ds (apply u o c) ≡ done ++ left
      = rw h at (same_tail (op_on d c) o (plan_ops u ds (apply u (op_on d c) c)) (done ++ left) e) in
      rw (g, t) (resume ds (apply u o c) done left k (fit_tail o (done ++ left) c F)))
    where
      same_op : (a b : Op) (xs ys : List Op) → ◌≡◌ {A = List Op} (a ∷ xs) (b ∷ ys) → a ≡ b
      same_op a b xs ys q = cc

  -- at every cut of the call's list
  pub plan_resumes : (ds : List Planned) (c x : Flash) → Fit u (plan_ops u ds c) c → CutAt u (plan_ops u ds c) c x
      → plan_ops u (later_plan x.spare ds) x ≡ later x.spare (plan_ops u ds c)
  plan_resumes ds c x F K =
      rw K.is (resume ds c K.done K.left K.whole (rw K.whole at F)
      ∙ ap (later (apply_all u K.done c).spare) (sym K.whole))
