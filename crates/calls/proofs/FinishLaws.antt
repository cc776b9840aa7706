-- The steps behind the intent: the operations that a budget allows, then the RAM and its header.
use mathlib.Core.Path.{◌≡◌, sym, ap, ◌∙◌}
use mathlib.Core.Bool.{Bool, true, false, cond}
use mathlib.Core.List.{List, ◌++◌}
use Prim.Native.Nat.{ℕ, ◌+◌, ◌-◌, ◌≤◌, ◌<◌}
use native.Mathlib.Omega.{arith}
use lib.Dec.{ltb}
use lib.ListN.{length, take, drop, length-take}
use borrow.Author.Tests.{ltb-true, ltb-false, le-leb, lt-leb}
use Rattle.memory.specs.Words.{length_words}
use Rattle.layout.specs.Geometry.{State}
use Rattle.layout.specs.Flash.{Flash, apply_all}
use Rattle.layout.specs.Calls.{Result, Call, insert, update, delete, lookup}
use Rattle.layout.specs.Header.{header_size, pages, header, finished, header_bytes, intent_words, no_intent}
use Rattle.layout.specs.Budgets.{Memory, memory, last_steps}
use Rattle.laws.specs.StepLaws.{last_cut, last_length}
use Rattle.laws.specs.HeaderLaws.{pages_of, whole_ram, length_header}
use Rattle.state.specs.Contract.{Ran}
use Rattle.state.specs.declared.Progress.{Progress}
use Rattle.changes.specs.Tasks.{Carried}

-- no budget, no step
pub ran_none : (u : ℕ) (r : Result) (m m' : Memory) → m' ≡ m → Ran u (last_steps r) 0 m m' (record { steps = 0; finished = false })
ran_none u r m m' e = record {
  memory_is = e;
  steps_is = omega arith;
  finished_is = sym (lt-leb (length (last_steps r)) 0 (omega (arith, last_length r)));
}

module _ (u : ℕ) (r : Result) (b : ℕ) (flash flash' : Flash) (p : Progress) where
  module _ (ram part ram' : List ℕ) (C : Carried u r b flash (pages ram) p flash' part) (back : ram' ≡ part ++ header ram) where
    -- the budget does not reach the RAM
    pub ran_cut_lem : p.finished ≡ false → Ran u (last_steps r) b (memory flash ram) (memory flash' ram') p
    ran_cut_lem q =
        let t : ltb (length r.ops) b ≡ false = sym C.finished_is ∙ q in
        let few : b ≤ length r.ops = ltb-false _ _ t in
        let part_is : part ≡ pages ram = C.ram_is ∙ ap (λ (f : Bool). cond f r.volume.ram (pages ram)) q in
        let ram_is : ram' ≡ ram = back ∙ ap (λ (l : List ℕ). l ++ header ram) part_is ∙ whole_ram ram in
        record {
          memory_is =
              ap (memory flash') ram_is ∙ ap (λ (c : Flash). memory c ram) C.flash_is
              ∙ ap (λ (f : Bool). memory (apply_all u (take b r.ops) flash) (cond f (finished r.volume) ram)) (sym t)
              ∙ sym (last_cut u b r.ops (finished r.volume) ram flash);
          steps_is = omega (arith, C.steps_is, length-take b (last_steps r), last_length r, few);
          finished_is = q ∙ sym (lt-leb (length (last_steps r)) b (omega (arith, last_length r, few)));
        }

    -- it does: with the header after it
    pub ran_all : p.finished ≡ true → header_size ≤ length ram → (ram'' : List ℕ)
        → ram'' ≡ pages ram' ++ header_bytes r.volume.state no_intent
        → Ran u (last_steps r) b (memory flash ram) (memory flash' ram'') (record { steps = p.steps + 1; finished = true })
    ran_all q long ram'' end =
        let t : ltb (length r.ops) b ≡ true = sym C.finished_is ∙ q in
        let enough : length r.ops < b = ltb-true _ _ t in
        let part_is : part ≡ r.volume.ram = C.ram_is ∙ ap (λ (f : Bool). cond f r.volume.ram (pages ram)) q in
        let pages_is : pages ram' ≡ r.volume.ram
        = ap pages (back ∙ ap (λ (l : List ℕ). l ++ header ram) part_is) ∙ pages_of r.volume.ram (header ram) (length_header ram long) in
        let ram_is : ram'' ≡ finished r.volume
        = end ∙ ap (λ (l : List ℕ). l ++ header_bytes r.volume.state no_intent) pages_is in
        record {
          memory_is =
              ap (memory flash') ram_is ∙ ap (λ (c : Flash). memory c (finished r.volume)) C.flash_is
              ∙ ap (λ (f : Bool). memory (apply_all u (take b r.ops) flash) (cond f (finished r.volume) ram)) (sym t)
              ∙ sym (last_cut u b r.ops (finished r.volume) ram flash);
          steps_is = omega (arith, C.steps_is, length-take b (last_steps r), last_length r, enough);
          finished_is = sym (le-leb (length (last_steps r)) b (omega (arith, last_length r, enough)));
        }

-- ---- the header

-- it comes back behind the pages that were lent
pub pages_back : (ram part : List ℕ) (n : ℕ) → n ≡ length ram - header_size → part ++ drop (n - 0) ram ≡ part ++ header ram
unfolding header
pages_back ram part n e = let z : n - 0 ≡ n = omega arith in rw (z, e)

-- 64 bytes
pub intent_length : (s : State) (c : Call) → length (header_bytes s (intent_words c)) ≡ header_size
unfolding header_bytes
intent_length s (insert r) = length_words _
intent_length s (update r) = length_words _
intent_length s (delete key) = length_words _
intent_length s (lookup key) = length_words _
