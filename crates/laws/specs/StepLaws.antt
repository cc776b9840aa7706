-- What a budget leaves of the steps of a call: the chip's operations up to it, and the new RAM where it reaches the last step.
use Rattle.std.specs.Prelude.{◌≡◌, refl, Bool, true, false, cond, List, [], ◌∷◌, ◌++◌, ℕ, zero, suc, ◌+◌, ◌≤◌, min, length, take, leb, ltb}
use Rattle.std.proofs.Common.{sym, ap, ◌∙◌, arith, length-take, length-append, take_all, le-leb, lt-ltb, le-ltb}
use Rattle.memory.specs.Cases.{either, lt?}
use Rattle.layout.specs.Flash.{Flash, Op, apply, apply_all}
use Rattle.layout.specs.Calls.{Volume, Result, Outcome, accepted, hit, miss, refused}
use Rattle.layout.specs.Header.{finished}
use Rattle.layout.specs.Budgets.{Step, store, chip, Memory, memory, steps, chips, last_steps, call_steps, ops_in, taken_by, taken}

-- after the operations the store: with b of the steps, b of the operations, and the store where there is one step more
pub last_cut : (u b : ℕ) (ops : List Op) (f ram : List ℕ) (c : Flash)
    → steps u (take b (chips ops ++ (store f ∷ []))) (memory c ram)
    ≡ memory (apply_all u (take b ops) c) (cond (ltb (length ops) b) f ram)
last_cut u zero ops f ram c = rw (le-ltb (length ops) 0 (omega arith))
last_cut u (suc zero) [] f ram c = refl
last_cut u (suc (suc b)) [] f ram c = ap (λ (t : Bool). memory c (cond t f ram)) (sym (lt-ltb 0 (suc (suc b)) (omega arith)))
last_cut u (suc b) (o ∷ ops) f ram c = rw (ltb_suc (length ops) b) (last_cut u b ops f ram (apply u o c))
  where
    ltb_suc : (m n : ℕ) → ltb (suc m) (suc n) ≡ ltb m n
    ltb_suc m n =
        either (lt? m n) (λ a. lt-ltb (suc m) (suc n) (omega (arith, a.1)) ∙ sym a.0)
        (λ a. le-ltb (suc m) (suc n) (omega (arith, a.1)) ∙ sym a.0)

chips_length : (ops : List Op) → length (chips ops) ≡ length ops
chips_length [] = refl
chips_length (o ∷ ops) = omega (arith, chips_length ops)

pub last_length : (r : Result) → length (last_steps r) ≡ suc (length r.ops)
last_length r = omega (arith, length-append (chips r.ops) (store (finished r.volume) ∷ []), chips_length r.ops)

-- any two budgets that are enough do the same
pub taken_enough : (a b u : ℕ) (v : Volume) (ss : List Step) (r : Result) → length ss ≤ a → length ss ≤ b
    → taken a u v ss r ≡ taken b u v ss r
taken_enough a b u v ss r ha hb = by r.outcome
  where
    by : (o : Outcome) → taken_by o a u v ss r ≡ taken_by o b u v ss r
    by accepted = rw (take_all a ss ha, take_all b ss hb, le-leb (length ss) a ha, le-leb (length ss) b hb)
    by (hit place bytes) = refl
    by miss = refl
    by (refused i) = refl
