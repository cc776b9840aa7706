-- A list of operations that is cut, resumed, cut again and so on ends as the list itself, and all runs together keep the chip's program
-- order.
use Rattle.std.specs.Prelude.{◌≡◌, refl, true, List, [], ◌∷◌, ◌++◌, ℕ, zero, suc, get_or, take, drop}
use Rattle.std.proofs.Common.{sym, ap, ◌∙◌, append_assoc, take-append-drop}
use Rattle.memory.specs.Cases.{either}
use Rattle.layout.specs.Flash.{Op, program, erase, Flash, apply, apply_all, fresh, all_fresh}
use Rattle.history.specs.FlashLaws.{AllAllowed}
use Rattle.history.proofs.FlashLaws.{apply_append}
use Rattle.cuts.specs.Later.{later}
use Rattle.cuts.specs.CutLaws.{OnlyErases, Blanks, Survives}
use Rattle.cuts.proofs.CutLaws.{fresh_programmed, erase_again, erased_blanks, erases_again}
use Rattle.cuts.proofs.CutLaws.{allowed_fresh, spare_stays, programmed_spare, later_none, later_after, ends}
use Rattle.cuts.proofs.CutLaws.{anchored_at, apart_end, allowed_start, allowed_end}
use Rattle.cuts.specs.Resume.{CutAt, Fit, Resumes}

pub fresh_nil : (spare : List ℕ) → all_fresh spare [] ≡ true
unfolding all_fresh
fresh_nil spare = refl

pub only_fresh : (spare : List ℕ) (es rest : List Op) → OnlyErases es → all_fresh spare rest ≡ true → all_fresh spare (es ++ rest) ≡ true
unfolding all_fresh
only_fresh spare [] rest o q = q
only_fresh spare (program s b ∷ os) rest o q = absurd o
only_fresh spare (erase b ∷ os) rest o q = only_fresh spare os rest o q

module _ (u : ℕ) where
  -- the first n operations done
  pub cut_after : (n : ℕ) (ops : List Op) (c : Flash) → CutAt u ops c (apply_all u (take n ops) c)
  cut_after n ops c = record { done = take n ops; left = drop n ops; whole = sym (take-append-drop n ops); is = refl }

  pub left_fresh_lem : (done left : List Op) (c : Flash) → Fit u (done ++ left) c → all_fresh (apply_all u done c).spare left ≡ true
  left_fresh_lem done left c F =
      allowed_fresh u left (apply_all u done c) (allowed_end u done left c F.allowed) (apart_end done left F.apart)

  resumes_behind : (before : List Op) (s : ℕ) (bytes : List ℕ) (es left : List Op) (c : Flash) → OnlyErases es
      → Fit u ((before ++ (program s bytes ∷ es)) ++ left) c
      → Resumes u ((before ++ (program s bytes ∷ es)) ++ left) left (apply_all u (before ++ (program s bytes ∷ es)) c)
  resumes_behind before s bytes es left c o F =
      let x : Flash = apply_all u (before ++ (program s bytes ∷ es)) c in
      let y : Flash = apply u (program s bytes) (apply_all u before c) in
      let e : apply_all u (before ++ (program s bytes ∷ es)) c ≡ apply_all u es (apply u (program s bytes) (apply_all u before c))
      = apply_append u before (program s bytes ∷ es) c in
      let long : (before ++ (program s bytes ∷ es)) ++ left ≡ before ++ (program s bytes ∷ (es ++ left))
      = append_assoc before (program s bytes ∷ es) left in
      let v : Survives s (es ++ left) = anchored_at before s bytes (es ++ left) (rw long at F.anchored) in
      let m : get_or (apply_all u es (apply u (program s bytes) (apply_all u before c))).spare s 0 ≡ 0
      = spare_stays u s es left (apply u (program s bytes) (apply_all u before c)) o v (programmed_spare (apply_all u before c).spare s) in
      let f : all_fresh (apply_all u (before ++ (program s bytes ∷ es)) c).spare left ≡ true
      = left_fresh_lem (before ++ (program s bytes ∷ es)) left c F in
      record {
        again = es;
        only = o;
        blank = rw e (erased_blanks u es (apply u (program s bytes) (apply_all u before c)) o);
        is = rw long
            (later_after (apply_all u (before ++ (program s bytes ∷ es)) c).spare s bytes before (es ++ left)
            (rw e (ap fresh m ∙ fresh_programmed))
            (only_fresh (apply_all u (before ++ (program s bytes ∷ es)) c).spare es left o f));
      }

  resumes_at : (done left : List Op) (c : Flash) → Fit u (done ++ left) c → Resumes u (done ++ left) left (apply_all u done c)
  resumes_at done left c F =
      either (ends done)
      (λ o. record {
        again = done;
        only = o;
        blank = erased_blanks u done c o;
        is = later_none (apply_all u done c).spare (done ++ left)
            (only_fresh (apply_all u done c).spare done left o (left_fresh_lem done left c F));
      })
      (λ B. rw B.is (resumes_behind B.before B.sector B.bytes B.erases left c B.only (rw B.is at F)))

  module _ (ops : List Op) (c x : Flash) (F : Fit u ops c) (K : CutAt u ops c x) where
    pub resumes : Resumes u ops K.left x
    resumes = rw (K.whole, K.is) (resumes_at K.done K.left c (rw K.whole at F))

    left_allowed : AllAllowed u K.left x
    left_allowed = rw K.is (allowed_end u K.done K.left c (rw K.whole at F.allowed))

    -- resumed to its end, the list is done
    pub resume_all : apply_all u (later x.spare ops) x ≡ apply_all u ops c
    resume_all =
        let R : Resumes u ops K.left x = resumes in
        ap (λ (l : List Op). apply_all u l x) R.is ∙ apply_append u R.again K.left x
        ∙ ap (apply_all u K.left) (erases_again u R.again x R.only R.blank ∙ K.is)
        ∙ sym (apply_append u K.done K.left c) ∙ ap (λ (l : List Op). apply_all u l c) (sym K.whole)

    -- resumed and cut again, it is a cut of the list
    again_cut : (n : ℕ) (es : List Op) → OnlyErases es → Blanks u es x → CutAt u ops c (apply_all u (take n (es ++ K.left)) x)
    again_cut zero es o B = K
    again_cut (suc n) [] o B = record {
      done = K.done ++ take (suc n) K.left;
      left = drop (suc n) K.left;
      whole = K.whole ∙ ap (λ (l : List Op). K.done ++ l) (sym (take-append-drop (suc n) K.left))
          ∙ sym (append_assoc K.done (take (suc n) K.left) (drop (suc n) K.left));
      is = ap (apply_all u (take (suc n) K.left)) K.is ∙ sym (apply_append u K.done (take (suc n) K.left) c);
    }
    again_cut (suc n) (program s b ∷ es) o B = absurd o
    again_cut (suc n) (erase b ∷ es) o B = rw (erase_again u b x B.0) (again_cut n es o B.1)

    pub resume_cut : (n : ℕ) → CutAt u ops c (apply_all u (take n (later x.spare ops)) x)
    resume_cut n = let R : Resumes u ops K.left x = resumes in rw R.is (again_cut n R.again R.only R.blank)

    -- and keeps the program order
    again_allowed : (es : List Op) → OnlyErases es → Blanks u es x → AllAllowed u (es ++ K.left) x
    again_allowed [] o B = left_allowed
    again_allowed (program s b ∷ es) o B = absurd o
    again_allowed (erase b ∷ es) o B = (tt, rw (erase_again u b x B.0) (again_allowed es o B.1))

    pub resume_allowed : AllAllowed u (later x.spare ops) x
    resume_allowed = let R : Resumes u ops K.left x = resumes in rw R.is (again_allowed R.again R.only R.blank)

    pub resume_part_allowed : (n : ℕ) → AllAllowed u (take n (later x.spare ops)) x
    resume_part_allowed n =
        allowed_start u (take n (later x.spare ops)) (drop n (later x.spare ops)) x
        (rw (take-append-drop n (later x.spare ops)) resume_allowed)
