-- The part that a lookup hands out: it is there, it lies inside its slice, and it holds the record's bytes.
use mathlib.Core.Path.{◌≡◌, refl, sym, ap, ◌∙◌}
use mathlib.Core.Bool.{Bool, true, false, false≢true}
use mathlib.Core.List.{List}
use Prim.Native.Nat.{ℕ, ◌+◌, ◌≤◌}
use native.Mathlib.Omega.{arith}
use lib.ListN.{length}
use Rattle.std.specs.Prelude.{Option, Some, None}
use Rattle.memory.specs.Bits.{num}
use Rattle.layout.specs.Keys.{Key}
use Rattle.layout.specs.Items.{Place, bytes_at, source}
use Rattle.layout.specs.Hash.{Family}
use Rattle.layout.specs.Calls.{Volume, Outcome, accepted, hit, miss, refused, lookup}
use Rattle.layout.specs.Budgets.{call_whole}
use Rattle.geometry.specs.Shape.{place}
use Rattle.geometry.specs.declared.areas.Place as address
use Rattle.geometry.specs.declared.areas.Place.TheVariants.{Ram, Flash}
use Rattle.lookup.specs.Results.{LookupNumbers, lookup_by, lookup_of, numbers_at, place_in, placed_part}
use Rattle.lookup.specs.Whole.{Inside, whole_cases, hit_inside}

-- the place of an outcome, and its bytes
abbrev place_of : Place → Outcome → Place
place_of d (hit p b) = p
place_of d miss = d
place_of d (refused i) = d
place_of d accepted = d

abbrev bytes_of : List ℕ → Outcome → List ℕ
bytes_of d (hit p b) = b
bytes_of d miss = d
bytes_of d (refused i) = d
bytes_of d accepted = d

abbrev is_hit : Outcome → Bool
is_hit (hit p b) = true
is_hit miss = false
is_hit (refused i) = false
is_hit accepted = false

pub whole_inside : (h : Family) (v : Volume) (key : Key) (p : Place) (b : List ℕ) → (call_whole h v (lookup key)).outcome ≡ hit p b
    → Inside v.flash.main v.ram p b
whole_inside h v key p b =
    whole_cases h v key (λ r. r.outcome ≡ hit p b → Inside v.flash.main v.ram p b)
    (λ i some small e. absurd (false≢true (ap is_hit e)))
    (λ good e. absurd (false≢true (ap is_hit e)))
    (λ j good e. moved_by (hit_inside v good j) e)
  where
    moved_by : {q : Place} {c : List ℕ} → Inside v.flash.main v.ram q c → hit q c ≡ hit p b → Inside v.flash.main v.ram p b
    moved_by {q} {c} x e =
        let same : q ≡ p = ap (place_of p) e in
        let bytes : c ≡ b = ap (bytes_of b) e in
        (sym bytes ∙ x.0 ∙ ap (λ (y : Place). bytes_at v.flash.main v.ram y 16) same, rw same at x.1)

-- ---- the part by what `find` answers

num_true : (b : Bool) → num b ≡ 1 → b ≡ true
num_true true q = refl
num_true false q = absurd (omega (arith, q))

num_false : (b : Bool) → num b ≡ 0 → b ≡ false
num_false true q = absurd (omega (arith, q))
num_false false q = refl

-- a place by its two parts
as_place : (p : Place) (x : Bool) (q : ℕ) → p.in_ram ≡ x → q ≡ p.at → p ≡ record { in_ram = x; at = q }
as_place p x q t e = λ i. record { in_ram = t i; at = sym e i }

-- an answer with a place is a hit there, one without is none
abbrev At : Option address.Place → Outcome → Type 0
At None o = (m r : ℕ × ℕ) → placed_part m r o ≡ None
At (Some p) o = (b : List ℕ) × (o ≡ hit (place p) b)

by_place : (p : Place) (b : List ℕ) (q : address.Place) (c d k e : ℕ) → numbers_at (Some q) k e ≡ lookup_by (hit p b) c d → p ≡ place q
by_place p b (Ram at) c d k e is = as_place p true at (num_true p.in_ram (sym (ap (λ (x : LookupNumbers). x.in_ram) is))) (ap (λ (x : LookupNumbers). x.offset) is)
by_place p b (Flash at) c d k e is = as_place p false at (num_false p.in_ram (sym (ap (λ (x : LookupNumbers). x.in_ram) is))) (ap (λ (x : LookupNumbers). x.offset) is)

-- the two numbers of `found`, which do not agree
found_both : (q : address.Place) (k e : ℕ) → (numbers_at (Some q) k e).found ≡ 1
found_both (Ram at) k e = refl
found_both (Flash at) k e = refl

at_outcome : (found : Option address.Place) (o : Outcome) (c d k e : ℕ) → numbers_at found k e ≡ lookup_by o c d → At found o
at_outcome None (hit p b) c d k e is = absurd (omega (arith, ap (λ (x : LookupNumbers). x.found) is))
at_outcome None miss c d k e is = λ m r. refl
at_outcome None (refused i) c d k e is = λ m r. refl
at_outcome None accepted c d k e is = λ m r. refl
at_outcome (Some q) (hit p b) c d k e is = (b, ap (λ (y : Place). hit y b) (by_place p b q c d k e is))
at_outcome (Some q) miss c d k e is = absurd (omega (arith, found_both q k e, ap (λ (x : LookupNumbers). x.found) is))
at_outcome (Some q) (refused i) c d k e is = absurd (omega (arith, found_both q k e, ap (λ (x : LookupNumbers). x.found) is))
at_outcome (Some q) accepted c d k e is = absurd (omega (arith, found_both q k e, ap (λ (x : LookupNumbers). x.found) is))

module _ (h : Family) (v : Volume) (key : Key) (k e : ℕ) where
  abbrev o : Outcome
  o = (call_whole h v (lookup key)).outcome

  pub part_none : numbers_at None k e ≡ lookup_of (call_whole h v (lookup key)) → (m r : ℕ × ℕ) → placed_part m r o ≡ None
  part_none is = at_outcome None o (call_whole h v (lookup key)).count (call_whole h v (lookup key)).da_pages k e is

  module _ (q : address.Place) (is : numbers_at (Some q) k e ≡ lookup_of (call_whole h v (lookup key))) where
    hit_there : (b : List ℕ) × (o ≡ hit (place q) b)
    hit_there = at_outcome (Some q) o (call_whole h v (lookup key)).count (call_whole h v (lookup key)).da_pages k e is

    inside : Inside v.flash.main v.ram (place q) hit_there.0
    inside = whole_inside h v key (place q) hit_there.0 hit_there.1

    pub part_fits : (place q).at + 16 ≤ length (source v.flash.main v.ram (place q))
    part_fits = inside.1

    pub part_is : (m r : ℕ × ℕ) → placed_part m r o ≡ Some (bytes_at v.flash.main v.ram (place q) 16, place_in m r (place q))
    part_is m r = ap (placed_part m r) hit_there.1 ∙ ap (λ (b : List ℕ). Some (b, place_in m r (place q))) inside.0
