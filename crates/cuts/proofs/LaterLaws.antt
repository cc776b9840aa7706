-- What a restart finds is the end of the plan after its last programmed sector, on any chip; none of it is programmed yet.
use Rattle.std.specs.Prelude.{◌≡◌, refl, true, false, List, [], ◌∷◌, ◌++◌, ℕ, get_or}
use Rattle.std.proofs.Common.{sym, ap, ◌∙◌, inl, inr, true≢false}
use Rattle.memory.specs.Cases.{either, bool?}
use Rattle.layout.specs.Flash.{Flash, Planned, known, made, wipe, plan_ops, fresh, all_fresh}
use Rattle.layout.specs.Later.{fresh_plan, later_plan}
use Rattle.cuts.proofs.Plans.{fresh_plan_lem}
use Rattle.cuts.specs.LaterLaws.{DoneAndLater}

-- a restart programs no sector that is not fresh: refusal 7 would never meet it
pub later_fresh : (spare : List ℕ) (ps : List Planned) → fresh_plan spare (later_plan spare ps) ≡ true
unfolding later_plan fresh_plan
later_fresh spare [] = refl
later_fresh spare (p ∷ ps) = either (bool? (fresh_plan spare (p ∷ ps))) (λ q. rw q q) (λ q. rw q (later_fresh spare ps))

-- nor do its operations
pub later_ops_fresh : (u : ℕ) (spare : List ℕ) (ps : List Planned) (c : Flash) → all_fresh spare (plan_ops u (later_plan spare ps) c) ≡ true
later_ops_fresh u spare ps c = sym (fresh_plan_lem u spare (later_plan spare ps) c) ∙ later_fresh spare ps

not_fresh_one : (spare : List ℕ) (p : Planned) (ps : List Planned) → fresh_plan spare (p ∷ ps) ≡ false → fresh_plan spare ps ≡ true
    → fresh_plan spare (p ∷ []) ≡ false
unfolding fresh_plan
not_fresh_one spare (known s bytes) ps q t =
    either (bool? (fresh (get_or spare s 0)))
    (λ f. let z : true ≡ false = sym t ∙ (rw f at q) in absurd (true≢false z)) (λ f. rw f)
not_fresh_one spare (made s bytes) ps q t =
    either (bool? (fresh (get_or spare s 0)))
    (λ f. let z : true ≡ false = sym t ∙ (rw f at q) in absurd (true≢false z)) (λ f. rw f)
not_fresh_one spare (wipe b) ps q t = let z : true ≡ false = sym t ∙ q in absurd (true≢false z)

one_more : (spare : List ℕ) (p : Planned) (ps : List Planned) → fresh_plan spare (p ∷ ps) ≡ false → DoneAndLater spare ps
    → DoneAndLater spare (p ∷ ps)
unfolding later_plan
one_more spare p ps q D = record {
  done = p ∷ D.done;
  whole = rw q (ap (λ (l : List Planned). p ∷ l) D.whole);
  last = either D.last
      (λ e.
      let all : ps ≡ later_plan spare ps = D.whole ∙ ap (λ (l : List Planned). l ++ later_plan spare ps) e in
      let f : fresh_plan spare ps ≡ true = ap (fresh_plan spare) all ∙ later_fresh spare ps in
      inr (record {
        before = [];
        last = p;
        is = ap (λ (l : List Planned). p ∷ l) e;
        programmed = not_fresh_one spare p ps q f;
      }))
      (λ L. inr (record {
        before = p ∷ L.before;
        last = L.last;
        is = ap (λ (l : List Planned). p ∷ l) L.is;
        programmed = L.programmed;
      }));
}

pub later_is : (spare : List ℕ) (ps : List Planned) → DoneAndLater spare ps
unfolding later_plan
later_is spare [] = record { done = []; whole = refl; last = inl refl }
later_is spare (p ∷ ps) =
    either (bool? (fresh_plan spare (p ∷ ps)))
    (λ q. record { done = []; whole = rw q; last = inl refl })
    (λ q. one_more spare p ps q (later_is spare ps))
