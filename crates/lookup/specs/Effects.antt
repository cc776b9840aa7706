-- What the contracts of `lookup` and `find` promise is what the chain of calls asks of a lookup (`store/specs/Chain.antt`): together
-- with the volume handed in, which both leave as it is, the answer gives all that a caller sees of the layout's call. The pages of
-- deletions opened, which the chain does not ask for, are the layout's too.
use Rattle.std.specs.Prelude as std
use Rattle.std.specs.Prelude.{◌≡◌, refl, cond, List, [], ℕ, eqb, get_or, Option, Some, None}
use Rattle.std.proofs.Common.{ap, ◌∙◌}
use Rattle.memory.specs.Bits.{eqb_num}
use Rattle.layout.specs.Keys.{Key}
use Rattle.layout.specs.Hash.{Family}
use Rattle.layout.specs.Items.{Place, bytes_at}
use Rattle.layout.specs.Calls.{Volume, lookup, Outcome, accepted, hit, miss, refused}
use Rattle.layout.specs.Budgets.{call_whole}
use Rattle.state.specs.Contract.{Effect, effect_of}
use Rattle.lookup.specs.Results.{LookupNumbers, lookup_of, answer_numbers, part_of, placed_part, looked_part, looked_numbers}
use Rattle.lookup.specs.declared.Looked.{Looked}
use Rattle.state.specs.declared.Refusal.{Refusal}
use Rattle.lookup.specs.Whole.{whole_cases, hit_inside}

-- the layout's outcome, by a refusal's number, whether a record was found, its place and its 16 bytes
abbrev pub outcome_by : ℕ → ℕ → Place → List ℕ → Outcome
outcome_by refusal is_found place bytes = cond (eqb refusal 0) (cond (eqb is_found 1) (hit place bytes) miss) (refused refusal)

-- what a caller sees of a lookup on the volume v
abbrev pub lookup_effect : Volume → ℕ → ℕ → ℕ → Place → List ℕ → Effect
lookup_effect v refusal is_found count place bytes = record { outcome = outcome_by refusal is_found place bytes; count = count; left = v }

-- the bytes of a part that is handed out, empty where there is none
abbrev pub part_bytes : Option (List ℕ × (ℕ × ℕ)) → List ℕ
part_bytes None = []
part_bytes (Some p) = p.0

placed_bytes : (main ram : ℕ × ℕ) (o : Outcome) → part_bytes (placed_part main ram o) ≡ part_of o
placed_bytes main ram (hit place bytes) = refl
placed_bytes main ram miss = refl
placed_bytes main ram (refused i) = refl
placed_bytes main ram accepted = refl

-- the same by the answer's fields and the bytes of a hit
abbrev pub place_of : LookupNumbers → Place
place_of r = record { in_ram = eqb r.in_ram 1; at = r.offset }

abbrev pub result_effect : Volume → LookupNumbers → List ℕ → Effect
result_effect v r bytes = lookup_effect v r.refusal r.found r.count (place_of r) bytes

-- ---- `find` and the C interface: the bytes of a hit are those that lie where the answer says

abbrev pub find_effect : Volume → LookupNumbers → Effect
find_effect v r = result_effect v r (bytes_at v.flash.main v.ram (place_of r) 16)

module _ (h : Family) (v : Volume) (key : Key) where
  pub find_effect_lem : find_effect v (lookup_of (call_whole h v (lookup key))) ≡ effect_of (call_whole h v (lookup key))
  find_effect_lem =
      whole_cases h v key (λ r. find_effect v (lookup_of r) ≡ effect_of r)
      (λ i some small. rw some)
      (λ good. refl)
      (λ j good. rw (eqb_num _, ← (hit_inside v good j).0))

  -- whatever it answers: 0 on a refusal
  pub find_pages : (lookup_of (call_whole h v (lookup key))).deletion_count ≡ (call_whole h v (lookup key)).da_pages
  find_pages =
      whole_cases h v key (λ r. (lookup_of r).deletion_count ≡ r.da_pages) (λ i some small. refl) (λ good. refl) (λ j good. refl)

  -- ---- `lookup`: its numbers and the bytes of its part, as the contract gives them; the record's place is where the part lies

  numbers_effect : result_effect v (lookup_of (call_whole h v (lookup key))) (part_of (call_whole h v (lookup key)).outcome)
      ≡ effect_of (call_whole h v (lookup key))
  numbers_effect =
      whole_cases h v key (λ r. result_effect v (lookup_of r) (part_of r.outcome) ≡ effect_of r)
      (λ i some small. rw some)
      (λ good. refl)
      (λ j good. rw (eqb_num _))

  pub lookup_effect_lem : (numbers part : List ℕ) → numbers ≡ answer_numbers (lookup_of (call_whole h v (lookup key)))
      → part ≡ part_of (call_whole h v (lookup key)).outcome
      → (place : Place)
      × (lookup_effect v (get_or numbers 0 0) (get_or numbers 1 0) (get_or numbers 2 0) place part ≡ effect_of (call_whole h v (lookup key)))
  lookup_effect_lem numbers part n p = (place_of (lookup_of (call_whole h v (lookup key))), rw (n, p) numbers_effect)

  pub lookup_pages : (numbers : List ℕ) → numbers ≡ answer_numbers (lookup_of (call_whole h v (lookup key)))
      → get_or numbers 3 0 ≡ (call_whole h v (lookup key)).da_pages
  lookup_pages numbers n = rw n find_pages

  -- and so as the contract states them, of its whole answer
  pub looked_effect_lem : (a : std.Result Looked Refusal) (main ram : ℕ × ℕ)
      → looked_part a ≡ placed_part main ram (call_whole h v (lookup key)).outcome
      → looked_numbers a ≡ answer_numbers (lookup_of (call_whole h v (lookup key)))
      → (place : Place)
      × (lookup_effect v (get_or (looked_numbers a) 0 0) (get_or (looked_numbers a) 1 0) (get_or (looked_numbers a) 2 0) place (part_bytes (looked_part a))
      ≡ effect_of (call_whole h v (lookup key)))
  looked_effect_lem a main ram p n =
      lookup_effect_lem (looked_numbers a) (part_bytes (looked_part a)) n
      (ap part_bytes p ∙ placed_bytes main ram (call_whole h v (lookup key)).outcome)
