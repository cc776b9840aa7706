-- Shapes of lists of operations: what is erased is not programmed later, and the sector programmed before erases shows that all before them
-- is done.
use Rattle.std.specs.Prelude.{◌≡◌, List, [], ◌∷◌, ◌++◌, ℕ, zero, suc, ◌+◌, ◌*◌}
use Rattle.std.proofs.Common.{ap, arith}
use Rattle.memory.specs.Lists.{tabulate}
use Rattle.layout.specs.Flash.{Op, program, erase, erases}
use Rattle.history.specs.Operations.{programs}
use Rattle.cuts.specs.CutLaws.{OnlyErases, NoProgram, Apart, Survives, Anchored}
use Rattle.cuts.specs.Shape.{OnlyPrograms, Begins, Clear}

pub programs_only : (u d s k : ℕ) (f : ℕ → ℕ → ℕ) → OnlyPrograms (programs u d s k f)
programs_only u d s zero f = tt
programs_only u d s (suc k) f = programs_only u d (s + d) k (λ j. f (suc j))

pub erases_only : (b k : ℕ) → OnlyErases (erases b k)
erases_only b zero = tt
erases_only b (suc k) = erases_only (suc b) k

pub erases_append : (xs ys : List Op) → OnlyErases xs → OnlyErases ys → OnlyErases (xs ++ ys)
erases_append [] ys p q = q
erases_append (program s b ∷ os) ys p q = absurd p
erases_append (erase b ∷ os) ys p q = erases_append os ys p q

-- the last sector
pub programs_last : (u d s k : ℕ) (f : ℕ → ℕ → ℕ) → programs u d s (suc k) f ≡ programs u d s k f
    ++ (program (s + k * d) (tabulate (16 * u) (f k)) ∷ [])
programs_last u d s zero f = let e : s + 0 * d ≡ s = omega arith in rw e
programs_last u d s (suc k) f =
    let e : s + suc k * d ≡ s + d + k * d = omega arith in
    rw e (ap (λ (l : List Op). program s (tabulate (16 * u) (f zero)) ∷ l) (programs_last u d (s + d) k (λ j. f (suc j))))

-- ---- what the shapes give: a block is not erased before it is programmed, and a spare byte stays before each run of erases

pub apart_erases : (es : List Op) → OnlyErases es → Apart es
apart_erases [] o = tt
apart_erases (program s b ∷ os) o = absurd o
apart_erases (erase b ∷ os) o = (none b os o, apart_erases os o)
  where
    none : (b : ℕ) (os : List Op) → OnlyErases os → NoProgram b os
    none b [] o = tt
    none b (program s x ∷ os) o = absurd o
    none b (erase k ∷ os) o = none b os o

pub apart_programs : (xs ys : List Op) → OnlyPrograms xs → Apart ys → Apart (xs ++ ys)
apart_programs [] ys p q = q
apart_programs (program s b ∷ os) ys p q = apart_programs os ys p q
apart_programs (erase b ∷ os) ys p q = absurd p

pub anchored_erases : (es : List Op) → OnlyErases es → Anchored es
anchored_erases [] o = tt
anchored_erases (program s b ∷ os) o = absurd o
anchored_erases (erase b ∷ os) o = anchored_erases os o

-- programs before a program
pub anchored_programs : (xs : List Op) (s : ℕ) (bytes : List ℕ) (ys : List Op) → OnlyPrograms xs → Anchored (program s bytes ∷ ys)
    → Anchored (xs ++ (program s bytes ∷ ys))
anchored_programs [] s bytes ys p a = a
anchored_programs (program x b ∷ []) s bytes ys p a = (tt, a)
anchored_programs (program x b ∷ (program x' b' ∷ os)) s bytes ys p a = (tt, anchored_programs (program x' b' ∷ os) s bytes ys p a)
anchored_programs (program x b ∷ (erase k ∷ os)) s bytes ys p a = absurd p
anchored_programs (erase b ∷ os) s bytes ys p a = absurd p

pub anchored_only : (xs : List Op) → OnlyPrograms xs → Anchored xs
anchored_only [] p = tt
anchored_only (program x b ∷ []) p = (tt, tt)
anchored_only (program x b ∷ (program x' b' ∷ os)) p = (tt, anchored_only (program x' b' ∷ os) p)
anchored_only (program x b ∷ (erase k ∷ os)) p = absurd p
anchored_only (erase b ∷ os) p = absurd p

survives_append : (s : ℕ) (xs ys : List Op) → Survives s xs → Begins ys → Survives s (xs ++ ys)
survives_append s [] [] v p = tt
survives_append s [] (program t b ∷ ys) v p = tt
survives_append s [] (erase b ∷ ys) v p = absurd p
survives_append s (program t b ∷ xs) ys v p = tt
survives_append s (erase b ∷ xs) ys v p = (v.0, survives_append s xs ys v.1 p)

pub anchored_append : (xs ys : List Op) → Anchored xs → Anchored ys → Begins ys → Anchored (xs ++ ys)
anchored_append [] ys a b p = b
anchored_append (program s x ∷ os) ys a b p = (survives_append s os ys a.0 p, anchored_append os ys a.1 b p)
anchored_append (erase k ∷ os) ys a b p = anchored_append os ys a b p

no_program_append : (b : ℕ) (xs ys : List Op) → NoProgram b xs → NoProgram b ys → NoProgram b (xs ++ ys)
no_program_append b [] ys p q = q
no_program_append b (program s x ∷ os) ys p q = (p.0, no_program_append b os ys p.1 q)
no_program_append b (erase k ∷ os) ys p q = no_program_append b os ys p q

pub apart_append : (xs ys : List Op) → Apart xs → Apart ys → Clear xs ys → Apart (xs ++ ys)
apart_append [] ys a b p = b
apart_append (program s x ∷ os) ys a b p = apart_append os ys a b p
apart_append (erase k ∷ os) ys a b p = (no_program_append k os ys a.0 p.0, apart_append os ys a.1 b p.1)
