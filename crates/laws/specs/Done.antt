-- What counts as done, as a number: how code finds it, from the end of a plan down to its last programmed sector, segment by segment; and
-- the operations of a budget are those of the first planned.
use Rattle.std.specs.Prelude.{◌≡◌, refl, Bool, true, false, ◌&&◌, cond, List, [], ◌∷◌, ◌++◌, ℕ, zero, suc, ◌+◌, ◌≤◌, length, get_or, take, drop}
use Rattle.std.proofs.Common.{ap, ◌∙◌, arith}
use Rattle.std.proofs.Math.Bool.{and-true}
use Rattle.memory.specs.Cases.{either, bool?}
use Rattle.layout.specs.Flash.{Flash, Op, apply, Planned, known, made, wipe, planned_from, op_on, plan_ops, fresh}
use Rattle.layout.specs.Later.{fresh_plan, later_plan}

-- a plan's operations are as many as it plans
pub ops_length : (u : ℕ) (ps : List Planned) (c : Flash) → length (plan_ops u ps c) ≡ length ps
ops_length u [] c = refl
ops_length u (p ∷ ps) c = ap suc (ops_length u ps (apply u (op_on p c) c))

-- how many count as done
unfoldable pub done_count : List ℕ → List Planned → ℕ
done_count spare [] = 0
done_count spare (p ∷ ps) = cond (fresh_plan spare (p ∷ ps)) 0 (suc (done_count spare ps))

-- a restart does all behind them
pub later_drop : (spare : List ℕ) (ps : List Planned) → later_plan spare ps ≡ drop (done_count spare ps) ps
unfolding later_plan done_count
later_drop spare [] = refl
later_drop spare (p ∷ ps) = either (bool? (fresh_plan spare (p ∷ ps))) (λ q. rw q) (λ q. rw q (later_drop spare ps))

pub done_le : (spare : List ℕ) (ps : List Planned) → done_count spare ps ≤ length ps
unfolding done_count
done_le spare [] = omega arith
done_le spare (p ∷ ps) =
    either (bool? (fresh_plan spare (p ∷ ps))) (λ q. rw q (omega arith)) (λ q. rw q (omega (arith, done_le spare ps)))

-- none of a plan that is all fresh
pub done_none : (spare : List ℕ) (ps : List Planned) → fresh_plan spare ps ≡ true → done_count spare ps ≡ 0
unfolding done_count
done_none spare [] q = refl
done_none spare (p ∷ ps) q = rw q

and_assoc : (a b c : Bool) → (a && (b && c)) ≡ ((a && b) && c)
and_assoc true b c = refl
and_assoc false b c = refl

pub fresh_both : (spare : List ℕ) (xs ys : List Planned) → fresh_plan spare (xs ++ ys) ≡ (fresh_plan spare xs && fresh_plan spare ys)
unfolding fresh_plan
fresh_both spare [] ys = refl
fresh_both spare (known s bytes ∷ xs) ys = rw (fresh_both spare xs ys) (and_assoc (fresh (get_or spare s 0)) _ _)
fresh_both spare (made s bytes ∷ xs) ys = rw (fresh_both spare xs ys) (and_assoc (fresh (get_or spare s 0)) _ _)
fresh_both spare (wipe b ∷ xs) ys = fresh_both spare xs ys

-- of a plan in two parts: the second decides, unless all of it is fresh
pub done_both : (spare : List ℕ) (xs ys : List Planned)
    → done_count spare (xs ++ ys) ≡ cond (fresh_plan spare ys) (done_count spare xs) (length xs + done_count spare ys)
unfolding done_count
done_both spare [] ys =
    either (bool? (fresh_plan spare ys)) (λ q. rw q (done_none spare ys q)) (λ q. rw q (omega arith))
done_both spare (p ∷ xs) ys =
    either (bool? (fresh_plan spare ys))
    (λ q.
    let same : fresh_plan spare ((p ∷ xs) ++ ys) ≡ fresh_plan spare (p ∷ xs)
    = fresh_both spare (p ∷ xs) ys ∙ rw q (and-true (fresh_plan spare (p ∷ xs))) in
    rw (same, done_both spare xs ys, q))
    (λ q.
    let none : fresh_plan spare ((p ∷ xs) ++ ys) ≡ false = fresh_both spare (p ∷ xs) ys ∙ rw q (and-false (fresh_plan spare (p ∷ xs))) in
    rw (none, done_both spare xs ys, q) (omega arith))
  where
    and-false : (b : Bool) → (b && false) ≡ false
    and-false true = refl
    and-false false = refl

-- k in a row, from the last one down
planned_end : (f : ℕ → Planned) (i k : ℕ) → planned_from f i (suc k) ≡ planned_from f i k ++ (f (i + k) ∷ [])
planned_end f i zero = let e : i + 0 ≡ i = omega arith in rw e
planned_end f i (suc k) =
    let e : i + suc k ≡ suc i + k = omega arith in
    rw e (ap (λ (l : List Planned). f i ∷ l) (planned_end f (suc i) k))

planned_length : (f : ℕ → Planned) (i k : ℕ) → length (planned_from f i k) ≡ k
planned_length f i zero = refl
planned_length f i (suc k) = omega (arith, planned_length f (suc i) k)

pub done_down : (spare : List ℕ) (f : ℕ → Planned) (i k : ℕ)
    → done_count spare (planned_from f i (suc k))
    ≡ cond (fresh_plan spare (f (i + k) ∷ [])) (done_count spare (planned_from f i k)) (suc k)
unfolding done_count
done_down spare f i k =
    ap (done_count spare) (planned_end f i k)
    ∙ done_both spare (planned_from f i k) (f (i + k) ∷ [])
    ∙ either (bool? (fresh_plan spare (f (i + k) ∷ []))) (λ q. rw q) (λ q. rw q (omega (arith, planned_length f i k)))

-- erases alone are never done
pub wipes_fresh : (spare : List ℕ) (at : ℕ → ℕ) (i k : ℕ) → fresh_plan spare (planned_from (λ j. wipe (at j)) i k) ≡ true
unfolding fresh_plan
wipes_fresh spare at i zero = refl
wipes_fresh spare at i (suc k) = wipes_fresh spare at (suc i) k

-- ---- a budget

-- b of the operations are the operations of the first b planned
pub first_ops : (u b : ℕ) (ps : List Planned) (c : Flash) → plan_ops u (take b ps) c ≡ take b (plan_ops u ps c)
first_ops u zero ps c = refl
first_ops u (suc b) [] c = refl
first_ops u (suc b) (p ∷ ps) c = ap (λ (os : List Op). op_on p c ∷ os) (first_ops u b ps (apply u (op_on p c) c))
