-- What operations say was programmed, after a list of them: a list after another, lists of erases, and the spare bytes.
use Rattle.std.specs.Prelude.{◌≡◌, Bool, false, List, [], ◌∷◌, ◌++◌, ℕ, zero, suc, ◌+◌, ◌*◌, ◌/◌, ◌≤◌, ◌<◌, length, replicate, eqb}
use Rattle.std.proofs.Common.{sym, inl, inr, arith, length-set, eq-eqb}
use Rattle.memory.specs.Cases.{either, eq?, bool?}
use Rattle.memory.specs.Lists.{length_write}
use Rattle.layout.specs.Flash.{Op, program, erase, Flash, apply, apply_all, erases}
use Rattle.history.specs.Runs.{programmed, ProgramOrder}
use Rattle.history.specs.ProgramOrder.{Says}
use Rattle.history.proofs.ProgramOrder.{says_program, says_erase}
use Rattle.cuts.specs.CutLaws.{OnlyErases}
use Rattle.cuts.specs.Told.{Has, after_ops}

pub erased_in_order : (es os : List Op) (P : ℕ → Bool) → OnlyErases es → ProgramOrder os (after_ops es P) → ProgramOrder (es ++ os) P
erased_in_order [] os P o q = q
erased_in_order (program s b ∷ es) os P o q = absurd o
erased_in_order (erase b ∷ es) os P o q = erased_in_order es os (programmed (erase b) P) o q

stays_false : (es : List Op) (P : ℕ → Bool) (x : ℕ) → OnlyErases es → P x ≡ false → after_ops es P x ≡ false
stays_false [] P x o q = q
stays_false (program s b ∷ es) P x o q = absurd o
stays_false (erase b ∷ es) P x o q = stays_false es (programmed (erase b) P) x o (either (bool? (eqb (x / 64) b)) (λ t. rw t) (λ t. rw t q))

pub has_false : (es : List Op) (P : ℕ → Bool) (x : ℕ) → OnlyErases es → Has (x / 64) es → after_ops es P x ≡ false
has_false [] P x o q = absurd q
has_false (program s b ∷ es) P x o q = absurd o
has_false (erase b ∷ es) P x o q =
    either q
    (λ e. stays_false es (programmed (erase b) P) x o (rw (eq-eqb (x / 64) b (sym e))))
    (λ r. has_false es (programmed (erase b) P) x o r)

pub has_erases : (b k n : ℕ) → k ≤ b → b < k + n → Has b (erases k n)
has_erases b k zero l m = absurd (omega (arith, l, m))
has_erases b k (suc n) l m =
    either (eq? k b) (λ a. inl a.1) (λ a. inr (has_erases b (suc k) n (omega (arith, l, a.1)) (omega (arith, m))))

pub order_append : (xs ys : List Op) (P : ℕ → Bool) → ProgramOrder xs P → ProgramOrder ys (after_ops xs P) → ProgramOrder (xs ++ ys) P
order_append [] ys P p q = q
order_append (program s b ∷ xs) ys P p q = (p.0, p.1, order_append xs ys (programmed (program s b) P) p.2 q)
order_append (erase b ∷ xs) ys P p q = order_append xs ys (programmed (erase b) P) p q

pub only_in_order : (es : List Op) (P : ℕ → Bool) → OnlyErases es → ProgramOrder es P
only_in_order [] P o = tt
only_in_order (program s b ∷ es) P o = absurd o
only_in_order (erase b ∷ es) P o = only_in_order es (programmed (erase b) P) o

-- spare bytes that tell what was programmed tell it after any operations
pub says_after : (u N : ℕ) (os : List Op) (c : Flash) (P : ℕ → Bool) → N ≤ length c.spare → Says N c P
    → Says N (apply_all u os c) (after_ops os P)
says_after u N [] c P l m = m
says_after u N (program s bytes ∷ os) c P l m =
    says_after u N os (apply u (program s bytes) c) (programmed (program s bytes) P) (rw (length-set c.spare s 0) l)
    (says_program u N s bytes c P l m)
says_after u N (erase b ∷ os) c P l m =
    says_after u N os (apply u (erase b) c) (programmed (erase b) P) (rw (length_write c.spare (b * 64) (replicate 64 255)) l)
    (says_erase u N b c P l m)
