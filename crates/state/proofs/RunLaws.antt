-- What a run of steps tells its caller: of operations and a last store, of a store before them, and the answer of a call.
use mathlib.Core.Path.{◌≡◌, refl, sym, ap, ◌∙◌}
use mathlib.Core.Bool.{Bool, true, false, cond}
use mathlib.Core.List.{List, ◌∷◌}
use Prim.Native.Nat.{ℕ, suc, ◌+◌, ◌≤◌, ◌<◌}
use native.Mathlib.Omega.{arith}
use lib.ListN.{length, take, length-take}
use lib.Seq.{take_all}
use lib.Dec.{leb}
use borrow.Author.Tests.{lt-ltb, le-ltb, le-leb, lt-leb}
use Rattle.memory.specs.Bits.{num}
use Rattle.memory.specs.Cases.{either, le?}
use Rattle.layout.specs.Flash.{Flash, apply_all}
use Rattle.layout.specs.Calls.{Volume, Outcome, accepted, hit, miss, refused, Result}
use Rattle.layout.specs.Header.{finished}
use Rattle.layout.specs.Budgets as budgets
use Rattle.layout.specs.Budgets.{Step, store, Memory, memory, last_steps, taken_by, taken}
use Rattle.laws.specs.StepLaws.{last_cut, last_length}
use Rattle.std.specs.Prelude as std
use Rattle.std.specs.Prelude.{Ok, Err}
use Rattle.state.specs.Contract.{CutEffect, cut_of, cut_by, state_is, number_of, outcome_of, Effect, effect_of, change_effect, Ran}
use Rattle.state.specs.declared.State.{State}
use Rattle.state.specs.declared.Refusal.{Refusal}
use Rattle.state.specs.declared.Cut.{Cut}
use Rattle.state.specs.declared.Progress.{Progress}
use Rattle.state.proofs.Refusals.{refused_by}

module _ (u b : ℕ) (r : Result) (c : Flash) (ram : List ℕ) (m : Memory) (p : Progress) where
  -- the budget ends among the operations
  pub ran_cut_lem : b ≤ length r.ops → m ≡ memory (apply_all u (take b r.ops) c) ram → p.steps ≡ b → p.finished ≡ false
      → Ran u (last_steps r) b (memory c ram) m p
  ran_cut_lem h e s f =
      record {
        memory_is = e ∙ sym (last_cut u b r.ops (finished r.volume) ram c ∙ rw (le-ltb (length r.ops) b h));
        steps_is = omega (arith, s, h, length-take b (last_steps r), last_length r);
        finished_is = f ∙ sym (lt-leb (length (last_steps r)) b (omega (arith, h, last_length r)));
      }

  -- it is enough for the store too
  pub ran_all : length r.ops < b → m ≡ memory (apply_all u r.ops c) (finished r.volume) → p.steps ≡ length r.ops + 1
      → p.finished ≡ true → Ran u (last_steps r) b (memory c ram) m p
  ran_all h e s f =
      record {
        memory_is = e
            ∙ sym (last_cut u b r.ops (finished r.volume) ram c ∙ rw (lt-ltb (length r.ops) b h, take_all b r.ops (omega (arith, h))));
        steps_is = omega (arith, s, h, length-take b (last_steps r), last_length r);
        finished_is = f ∙ sym (le-leb (length (last_steps r)) b (omega (arith, h, last_length r)));
      }

-- no budget
pub ran_none : (u b : ℕ) (s : Step) (ss : List Step) (m : Memory) (p : Progress) → b ≡ 0 → p.steps ≡ 0 → p.finished ≡ false
    → Ran u (s ∷ ss) b m m p
ran_none u b s ss m p z a f =
    rw z (record { memory_is = refl; steps_is = a; finished_is = f ∙ sym (lt-leb (suc (length ss)) 0 (omega arith)) })

-- a store, then a run
pub ran_stored : (u a b : ℕ) (ss : List Step) (c : Flash) (ram stored : List ℕ) (m : Memory) (p q : Progress) → a ≡ suc b
    → Ran u ss b (memory c stored) m p → q.steps ≡ p.steps + 1 → q.finished ≡ p.finished
    → Ran u (store stored ∷ ss) a (memory c ram) m q
ran_stored u a b ss c ram stored m p q e R s f =
    rw e
    (record {
      memory_is = R.memory_is;
      steps_is = omega (arith, s, R.steps_is);
      finished_is = f ∙ R.finished_is ∙ leb_suc (length ss) b;
    })
  where
    leb_suc : (x y : ℕ) → leb x y ≡ leb (suc x) (suc y)
    leb_suc x y =
        either (le? x y) (λ a. a.0 ∙ sym (le-leb (suc x) (suc y) (omega (arith, a.1))))
        (λ a. a.0 ∙ sym (lt-leb (suc x) (suc y) (omega (arith, a.1))))

-- the answer of an accepted call, by its run
pub ran_cut_is : (b u : ℕ) (v : Volume) (ss : List Step) (r : Result) (m : Memory) (p : Progress) (old new : State) → r.outcome ≡ accepted
    → state_is old ≡ v.state → state_is new ≡ r.volume.state → Ran u ss b (memory v.flash v.ram) m p
    → ◌≡◌ {A = CutEffect} (record {
      outcome = accepted;
      complete = num p.finished;
      steps = p.steps;
      left = record { state = state_is (cond p.finished new old); flash = m.flash; ram = m.ram };
    }) (cut_of (budgets.cut_of b ss (taken b u v ss r)))
ran_cut_is b u v ss r m p old new a e n R =
    rw (a, ← R.memory_is, ← R.steps_is, ← R.finished_is, ← e, ← n) (by p.finished)
  where
    by : (t : Bool) → ◌≡◌ {A = CutEffect} (record {
      outcome = accepted;
      complete = num t;
      steps = p.steps;
      left = record { state = state_is (cond t new old); flash = m.flash; ram = m.ram };
    }) (record {
      outcome = accepted;
      complete = num t;
      steps = p.steps;
      left = record { state = cond t (state_is new) (state_is old); flash = m.flash; ram = m.ram };
    })
    by true = refl
    by false = refl

-- the answer of a refused one
pub refused_cut_lem : (b u : ℕ) (v w : Volume) (i : Refusal) (ss : List Step) (r : Result) → r ≡ refused_by w i
    → ◌≡◌ {A = CutEffect} (record { outcome = refused (number_of i); complete = 0; steps = 0; left = v }) (cut_of (budgets.cut_of b ss (taken b u v ss r)))
refused_cut_lem b u v w i ss r p = rw p

-- ---- with enough steps: a call that answers as a change does has no count

abbrev counted : Outcome → Bool
counted accepted = false
counted (hit place bytes) = true
counted miss = true
counted (refused i) = false

uncounted : {A : Type 0} (a : std.Result A Refusal) → counted (outcome_of a) ≡ false
uncounted (Ok x) = refl
uncounted (Err i) = refl

pub taken_count : {A : Type 0} (b u : ℕ) (v : Volume) (ss : List Step) (r : Result) (a : std.Result A Refusal)
    → outcome_of a ≡ (taken b u v ss r).outcome → (taken b u v ss r).count ≡ 0
taken_count b u v ss r a e = by r.outcome (sym (ap counted e) ∙ uncounted a)
  where
    by : (o : Outcome) → counted (taken_by o b u v ss r).outcome ≡ false → (taken_by o b u v ss r).count ≡ 0
    by accepted q = refl
    by (hit place bytes) q = let z : true ≡ false = q in cc
    by miss q = let z : true ≡ false = q in cc
    by (refused i) q = refl

-- of any answer with a budget
module _ (c : CutEffect) (b : ℕ) (ss : List Step) (r : Result) (e : c ≡ cut_of (budgets.cut_of b ss r)) where
  result_is : (budgets.cut_of b ss r).result ≡ r
  result_is = by r.outcome
    where
      by : (o : Outcome) → (budgets.cut_by o b ss r).result ≡ r
      by accepted = refl
      by (hit place bytes) = refl
      by miss = refl
      by (refused i) = refl

  pub outcome_of_lem : c.outcome ≡ r.outcome
  outcome_of_lem = ap (λ (x : CutEffect). x.outcome) e ∙ ap (λ (x : Result). x.outcome) result_is

  pub uncut_effect_lem : r.count ≡ 0 → ◌≡◌ {A = Effect} (record { outcome = c.outcome; count = 0; left = c.left }) (effect_of r)
  uncut_effect_lem z =
      let left : c.left ≡ r.volume = ap (λ (x : CutEffect). x.left) e ∙ ap (λ (x : Result). x.volume) result_is in
      rw (outcome_of_lem, left, z)

-- an answer with a budget that is enough, as the answer of a call that has none
pub uncut_ok : (s : State) (c : Cut) (main spare ram : List ℕ) (b : ℕ) (ss : List Step) (r : Result)
    → cut_by s (Ok c) main spare ram ≡ cut_of (budgets.cut_of b ss r) → r.count ≡ 0
    → change_effect s (Ok c.state) main spare ram ≡ effect_of r
uncut_ok s c main spare ram b ss r e z = uncut_effect_lem (cut_by s (Ok c) main spare ram) b ss r e z

pub uncut_err : (s : State) (i : Refusal) (main spare ram : List ℕ) (b : ℕ) (ss : List Step) (r : Result)
    → cut_by s (Err i) main spare ram ≡ cut_of (budgets.cut_of b ss r) → r.count ≡ 0
    → change_effect s (Err i) main spare ram ≡ effect_of r
uncut_err s i main spare ram b ss r e z = uncut_effect_lem (cut_by s (Err i) main spare ram) b ss r e z
