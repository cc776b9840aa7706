-- From marks to the operations' own bookkeeping: what is allowed by the marks is in_order by the operations.
use Rattle.std.specs.Prelude.{◌≡◌, refl, Bool, true, false, cond, List, [], ◌∷◌, ◌++◌, ℕ, zero, suc, ◌+◌, ◌-◌, ◌*◌, ◌/◌, ◌≤◌, ◌<◌, length, get_or, take, replicate}
use Rattle.std.proofs.Common.{sym, ap, ◌∙◌, true≢false, arith, length-set, length-take, get_or-set_same, get_or-set_other, ne_eqb}
use Rattle.std.proofs.Math.Bool.{and-eq-true_iff}
use Rattle.std.proofs.lemmas.List.{length-replicate, get_or-replicate}
use Rattle.std.proofs.Math.ListN.{get_or-eq_default}
use Rattle.memory.specs.Cases.{either, eq?, lt?}
use Rattle.memory.specs.Lists.{length_write, get_d_write_before, get_d_write_in, get_d_write_after}
use Rattle.layout.specs.Flash.{Flash, Op, program, erase, apply, fresh, all_fresh, erases}
use Rattle.laws.specs.FreshLaws.{programmed_not}
use Rattle.history.specs.FlashLaws.{AllAllowed}
use Rattle.history.specs.Runs.{programmed, ProgramOrder}
use Rattle.history.specs.ProgramOrder.{Below, Says, erased}

-- operations whose sectors are fresh by the first N marks program none past them
pub fresh_below : (N : ℕ) (spare : List ℕ) (ops : List Op) → all_fresh (take N spare) ops ≡ true → Below N ops
unfolding all_fresh
fresh_below N spare [] q = tt
fresh_below N spare (program s bytes ∷ os) q =
    let p = (and-eq-true_iff (fresh (get_or (take N spare) s 0)) (all_fresh (take N spare) os)).0 q in (
      either (lt? s N)
          (λ a. a.1)
          (λ a.
          let past : get_or (take N spare) s 0 ≡ 0 = get_or-eq_default (take N spare) 0 (omega (arith, length-take N spare)) in
          let both : true ≡ false = sym p.0 ∙ ap fresh past ∙ programmed_not in
          absurd (true≢false both)),
      fresh_below N spare os p.1,
    )
fresh_below N spare (erase b ∷ os) q = fresh_below N spare os q

says_true : (b : Bool) (x : ℕ) → x ≡ cond b 0 255 → x ≡ 0 → b ≡ true
says_true true x p q = refl
says_true false x p q = absurd (omega (arith, p, q))

says_false : (b : Bool) (x : ℕ) → x ≡ cond b 0 255 → x ≡ 255 → b ≡ false
says_false true x p q = absurd (omega (arith, p, q))
says_false false x p q = refl

module _ (u N : ℕ) where
  pub says_program : (s : ℕ) (bytes : List ℕ) (c : Flash) (P : ℕ → Bool) → N ≤ length c.spare → Says N c P
      → Says N (apply u (program s bytes) c) (programmed (program s bytes) P)
  says_program s bytes c P long m x l =
      either (eq? x s)
      (λ a. rw a.0 (rw a.1 (get_or-set_same c.spare s 0 0 (omega arith))))
      (λ a. rw a.0 (get_or-set_other c.spare s x 0 0 a.1 ∙ m x l))

  pub says_erase : (b : ℕ) (c : Flash) (P : ℕ → Bool) → N ≤ length c.spare → Says N c P
      → Says N (apply u (erase b) c) (programmed (erase b) P)
  says_erase b c P long m x l =
      let z : length (replicate {A = ℕ} 64 255) ≡ 64 = length-replicate {A = ℕ} 64 255 in
      either (eq? (x / 64) b)
      (λ a. rw a.0 (get_d_write_in c.spare (b * 64) (replicate 64 255) x 0 (omega arith) (omega arith) (omega arith)
      ∙ get_or-replicate 64 (x - b * 64) 255 0 (omega arith)))
      (λ a. rw a.0
      (either (lt? x (b * 64))
      (λ q. get_d_write_before c.spare (b * 64) (replicate 64 255) x 0 q.1 ∙ m x l)
      (λ q. get_d_write_after c.spare (b * 64) (replicate 64 255) x 0 (omega arith) ∙ m x l)))

  -- what is allowed by the marks is in_order by the operations
  pub in_order : (ops : List Op) (c : Flash) (P : ℕ → Bool) → N ≤ length c.spare → Says N c P → AllAllowed u ops c → Below N ops
      → ProgramOrder ops P
  in_order [] c P long m a b = tt
  in_order (program s bytes ∷ os) c P long m a b = (
    says_false (P s) (get_or c.spare s 0) (m s b.0) a.0.0,
    (λ x l q. says_true (P x) (get_or c.spare x 0) (m x (omega (arith, b.0))) (a.0.1 x l q)),
    in_order os (apply u (program s bytes) c) (programmed (program s bytes) P) (rw (length-set c.spare s 0) long)
        (says_program s bytes c P long m) a.1 b.1,
  )
  in_order (erase b ∷ os) c P long m a l =
      in_order os (apply u (erase b) c) (programmed (erase b) P) (rw (length_write c.spare (b * 64) (replicate 64 255)) long)
      (says_erase b c P long m) a.1 l

pub erases_in_order : (b k : ℕ) (os : List Op) (P : ℕ → Bool) → ProgramOrder os (erased b k P) → ProgramOrder (erases b k ++ os) P
erases_in_order b zero os P q = q
erases_in_order b (suc k) os P q = erases_in_order (suc b) k os (programmed (erase b) P) q

erased_out : (b k : ℕ) (P : ℕ → Bool) (x : ℕ) → x / 64 < b → erased b k P x ≡ P x
erased_out b zero P x l = refl
erased_out b (suc k) P x l = erased_out (suc b) k (programmed (erase b) P) x (omega arith) ∙ rw (ne_eqb (x / 64) b (λ e. omega arith))

pub erased_in : (b k : ℕ) (P : ℕ → Bool) (x : ℕ) → b ≤ x / 64 → x / 64 < b + k → erased b k P x ≡ false
erased_in b zero P x l m = absurd (omega arith)
erased_in b (suc k) P x l m =
    either (eq? (x / 64) b)
    (λ a. erased_out (suc b) k (programmed (erase b) P) x (omega arith) ∙ rw a.0)
    (λ a. erased_in (suc b) k (programmed (erase b) P) x (omega arith) (omega arith))

pub below_append : (N : ℕ) (xs ys : List Op) → Below N xs → Below N ys → Below N (xs ++ ys)
below_append N [] ys a b = b
below_append N (program s bytes ∷ xs) ys a b = (a.0, below_append N xs ys a.1 b)
below_append N (erase s ∷ xs) ys a b = below_append N xs ys a b
