-- What a call answers and leaves is what its command answers and leaves.
use mathlib.Core.Path.{◌≡◌, refl, sym, ap, ◌∙◌}
use mathlib.Core.Logic.{◌≢◌}
use mathlib.Core.List.{List}
use Prim.Native.Nat.{ℕ}
use Prim.{Unit}
use native.Mathlib.Omega.{arith}
use lib.ListN.{length, get_or}
use denote.Ref.{Bor}
use borrow.Author.Tests.{eqb-false}
use Rattle.std.specs.Prelude as std
use Rattle.std.specs.Prelude.{Ok, Err, Some, None}
use Rattle.memory.specs.Lists.{write, length_tabulate}
use Rattle.memory.specs.Words.{word}
use Rattle.layout.specs.Keys.{Key}
use Rattle.layout.specs.Hash.{Family}
use Rattle.layout.specs.Calls.{Volume, Outcome, accepted, hit, miss, refused, Result, lookup}
use Rattle.layout.specs.Budgets.{call_whole}
use Rattle.state.specs.Contract.{Effect, effect_of, state_after, change_effect, number_of}
use Rattle.state.specs.declared.State.{State}
use Rattle.state.specs.declared.Refusal.{Refusal}
use Rattle.state.specs.declared.Refusal.TheVariants.{BadState, TooShort, Present, Absent, Full, DeletionsFull, NotFresh, CorruptEntry, Malformed, Pending}
use Rattle.lookup.specs.Results.{lookup_by, lookup_of, answer_numbers, looked_numbers, looked_part, placed_part, place_in}
use Rattle.lookup.specs.declared.Looked.{Looked}
use Rattle.lookup.specs.Whole.{whole_cases}
use Rattle.script.specs.Lines.{Command, command}
use Rattle.script.specs.Answers.{text}
use Rattle.script.specs.Answers as answers
use Rattle.script.specs.Values.{answer_of}
use Rattle.script.specs.Script.{result_answer, result_performed, perform}
use Rattle.script.specs.Script as script
use Rattle.lines.specs.Contract.{performed_of, change_answer, after_line, answer_line}
use Rattle.lines.specs.declared.Performed.{Performed}

-- ---- changes

-- what a caller sees of a call, as a command's answer
abbrev effect_answer : Effect → Outcome → answers.Answer
effect_answer l accepted = answers.ok l.left.state.records l.left.state.deletions
effect_answer l (hit place bytes) = answers.hit (word bytes 4) l.count
effect_answer l miss = answers.miss l.count
effect_answer l (refused i) = answers.no i

abbrev effect_performed : Effect → script.Performed
effect_performed l = record { answer = effect_answer l l.outcome; volume = l.left }

effect_answer_lem : (r : Result) (o : Outcome) → effect_answer (effect_of r) o ≡ result_answer r o
effect_answer_lem r accepted = refl
effect_answer_lem r (hit place bytes) = refl
effect_answer_lem r miss = refl
effect_answer_lem r (refused i) = refl

effect_reply : (r : Result) → effect_performed (effect_of r) ≡ result_performed r
effect_reply r = ap (λ (a : answers.Answer). record { answer = a; volume = r.volume }) (effect_answer_lem r r.outcome)

change_effect_lem : (s : State) (a : std.Result State Refusal) (main spare ram : List ℕ)
    → performed_of (record { state = state_after s a; answer = change_answer a }) main spare ram
    ≡ effect_performed (change_effect s a main spare ram)
change_effect_lem s (Ok t) main spare ram = refl
change_effect_lem s (Err i) main spare ram = refl

pub change_reply : (p : Performed) (s : State) (a : std.Result State Refusal) (main spare ram : List ℕ) (r : Result)
    → p ≡ record { state = state_after s a; answer = change_answer a } → change_effect s a main spare ram ≡ effect_of r
    → performed_of p main spare ram ≡ result_performed r
change_reply p s a main spare ram r is e =
    ap (λ (q : Performed). performed_of q main spare ram) is ∙ change_effect_lem s a main spare ram ∙ ap effect_performed e ∙ effect_reply r

-- ---- lookups

-- the outcomes of a lookup: the 16 bytes of a record, a miss, or a refusal with its number
abbrev LookupOutcome : Outcome → Type 0
LookupOutcome (hit place bytes) = length bytes ≡ 16
LookupOutcome miss = Unit
LookupOutcome (refused i) = i ≢ 0
LookupOutcome accepted = ⊥

module _ (h : Family) (v : Volume) (key : Key) where
  whole_outcome : LookupOutcome (call_whole h v (lookup key)).outcome
  whole_outcome =
      whole_cases h v key (λ r. LookupOutcome r.outcome) (λ i some small. eqb-false i 0 some) (λ good. tt) (λ j good. length_tabulate 16 _)

  whole_keeps : (call_whole h v (lookup key)).volume ≡ v
  whole_keeps = whole_cases h v key (λ r. r.volume ≡ v) (λ i some small. refl) (λ good. refl) (λ j good. refl)

-- no refusal has the number 0
number_some : (i : Refusal) → number_of i ≢ 0
number_some BadState e = omega arith
number_some TooShort e = omega arith
number_some Present e = omega arith
number_some Absent e = omega arith
number_some Full e = omega arith
number_some DeletionsFull e = omega arith
number_some NotFresh e = omega arith
number_some CorruptEntry e = omega arith
number_some Malformed e = omega arith
number_some Pending e = omega arith

-- the answer by what a lookup gives
refused_answer : (r : Result) (o : Outcome) (i : Refusal) → looked_numbers (Err i) ≡ answer_numbers (lookup_by o r.count r.da_pages)
    → answers.no (number_of i) ≡ result_answer r o
refused_answer r accepted i e = absurd (number_some i (ap (λ (l : List ℕ). get_or l 0 0) e))
refused_answer r (hit place bytes) i e = absurd (number_some i (ap (λ (l : List ℕ). get_or l 0 0) e))
refused_answer r miss i e = absurd (number_some i (ap (λ (l : List ℕ). get_or l 0 0) e))
refused_answer r (refused j) i e = ap answers.no (ap (λ (l : List ℕ). get_or l 0 0) e)

missed_answer : (r : Result) (o : Outcome) (l : Looked) → LookupOutcome o → l.record ≡ None
    → looked_numbers (Ok l) ≡ answer_numbers (lookup_by o r.count r.da_pages) → answers.miss l.pages ≡ result_answer r o
missed_answer r accepted l k z e = absurd k
missed_answer r (hit place bytes) l k z e = let f = ap (λ (t : List ℕ). get_or t 1 0) (rw z at e) in absurd (omega arith)
missed_answer r miss l k z e = ap answers.miss (ap (λ (t : List ℕ). get_or t 2 0) e)
missed_answer r (refused j) l k z e = absurd (k (sym (ap (λ (t : List ℕ). get_or t 0 0) e)))

hit_answer : (r : Result) (o : Outcome) (main ram : ℕ × ℕ) (l : Looked) (x : Bor (List ℕ)) → LookupOutcome o → l.record ≡ Some x
    → looked_part (Ok l) ≡ placed_part main ram o → looked_numbers (Ok l) ≡ answer_numbers (lookup_by o r.count r.da_pages)
    → (length x.now ≡ 16) × (answers.hit (word x.now 4) l.pages ≡ result_answer r o)
hit_answer r accepted main ram l x k z p e = absurd k
hit_answer r (hit place b) main ram l x k z p e =
    let q : std.Some (x.now, x.ref_ptr) ≡ placed_part main ram (hit place b) = rw z at p in
    let n : l.pages ≡ r.count = ap (λ (t : List ℕ). get_or t 2 0) e in
    let g : (x.now, x.ref_ptr) ≡ (b, place_in main ram place) = cc in
    let y : x.now ≡ b = ap (λ (u : List ℕ × (ℕ × ℕ)). u.0) g in
    rw (y, n) (k, refl)
hit_answer r miss main ram l x k z p e = let f = ap (λ (t : List ℕ). get_or t 1 0) (rw z at e) in absurd (omega arith)
hit_answer r (refused j) main ram l x k z p e = let f = ap (λ (t : List ℕ). get_or t 1 0) (rw z at e) in absurd (omega arith)

module _ (h : Family) (v : Volume) (key : Key) where
  abbrev r : Result
  r = call_whole h v (lookup key)

  pub lookup_refused : (i : Refusal) → looked_numbers (Err i) ≡ answer_numbers (lookup_of r) → answers.no (number_of i) ≡ (result_performed r).answer
  lookup_refused i = refused_answer r r.outcome i

  pub lookup_missed : (l : Looked) → l.record ≡ None → looked_numbers (Ok l) ≡ answer_numbers (lookup_of r)
      → answers.miss l.pages ≡ (result_performed r).answer
  lookup_missed l = missed_answer r r.outcome l (whole_outcome h v key)

  pub lookup_hit : (main ram : ℕ × ℕ) (l : Looked) (x : Bor (List ℕ)) → l.record ≡ Some x
      → looked_part (Ok l) ≡ placed_part main ram r.outcome → looked_numbers (Ok l) ≡ answer_numbers (lookup_of r)
      → (length x.now ≡ 16) × (answers.hit (word x.now 4) l.pages ≡ (result_performed r).answer)
  lookup_hit main ram l x = hit_answer r r.outcome main ram l x (whole_outcome h v key)

  -- an answer with the volume as it was
  pub lookup_reply : (a : answers.Answer) → a ≡ (result_performed r).answer → record { answer = a; volume = v } ≡ result_performed r
  lookup_reply a e = rw e (ap (λ (w : Volume). record { answer = (result_performed r).answer; volume = w }) (sym (whole_keeps h v key)))

-- ---- a line

pub line_answer : (p : Performed) (v : Volume) (q : Command) (line main spare ram out after : List ℕ) (n : ℕ) → q ≡ command line
    → performed_of p main spare ram ≡ perform v q
    → n ≡ length (text (answer_of p.answer)) → after ≡ write out 0 (text (answer_of p.answer))
    → after_line (record { state = p.state; length = n }) main spare ram after ≡ answer_line v line out
unfolding answer_line
line_answer p v q line main spare ram out after n eq ep en eo =
    rw (en, eo)
    (ap (λ (d : script.Performed). record { length = length (text d.answer); volume = d.volume; out = write out 0 (text d.answer) })
    (ep ∙ ap (perform v) eq))
