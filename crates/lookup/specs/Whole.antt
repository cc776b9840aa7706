-- A lookup as a whole call. It has no steps: it is refused, or it answers what the search met in the pages, and leaves the volume as it is.
use Rattle.std.specs.Prelude.{◌≡◌, Bool, not, cond, List, [], length, get_or, take, ltb, eqb}
use Rattle.std.proofs.Math.Path.{refl}
use Rattle.std.proofs.Math.Bool.{true, false}
use Rattle.std.proofs.Math.Option.{Option, none, some}
use Prim.Native.Nat.{ℕ, ◌+◌, ◌*◌, ◌/◌, ◌-◌, ◌≤◌, ◌<◌}
use Rattle.std.proofs.Common.{mod-lt, arith, get_or-take}
use Rattle.std.proofs.Math.Nat.{div-mul-le_self, mul-le-mul_right}
use borrow.Author.Tests.{ltb-false, not-false}
use Rattle.memory.specs.Booleans.{or_eq_false_iff}
use Rattle.memory.specs.Cases.{either, lt?}
use Rattle.memory.specs.Lists.{part, tabulate_ext}
use Rattle.layout.specs.Keys.{Key}
use Rattle.layout.specs.Geometry as layout
use Rattle.layout.specs.Hash.{Family}
use Rattle.layout.specs.Items.{Place, bytes_at, source}
use Rattle.layout.specs.Refusals as refusal
use Rattle.layout.specs.Search.{Stop, found, corrupt}
use Rattle.layout.specs.Calls.{Volume, Result, hit, miss, refuse, bad_state, too_short, judge_first, lookup, lookup_after, record_place, search}
use Rattle.layout.specs.Calls.{search_da_pages}
use Rattle.layout.specs.Header.{pages, on_pages, kind_in, intended}
use Rattle.layout.specs.Budgets.{Step, taken, call_steps, result_of, call_for, call_whole}
use Rattle.laws.specs.HeaderLaws.{length_pages}
use Rattle.laws.specs.Lengths.{long_of}
use Rattle.laws.specs.Sound.{sound, pu}

-- a part of 16 bytes at a place, inside its slice
abbrev pub Inside : List ℕ → List ℕ → Place → List ℕ → Type 0
Inside main ram p b = (b ≡ bytes_at main ram p 16) × (p.at + 16 ≤ length (source main ram p))

-- bytes that lie in the pages lie at the same place of the whole RAM
part_of_ram : (ram : List ℕ) (at : ℕ) → at + 16 ≤ length (pages ram) → part (pages ram) at 16 ≡ part ram at 16
unfolding pages
part_of_ram ram at h =
    tabulate_ext 16 (λ (y : ℕ). get_or (take (length ram - 64) ram) (at + y) 0) (λ (y : ℕ). get_or ram (at + y) 0)
    (λ i k. get_or-take (length ram - 64) ram (at + i) 0 (omega (arith, h, k, length_pages ram)))

pub inside_ram : (main ram : List ℕ) (p : Place) → p.at + 16 ≤ length (source main (pages ram) p)
    → Inside main ram p (bytes_at main (pages ram) p 16)
inside_ram main ram p h = by p.in_ram p.at h
  where
    by : (x : Bool) (at : ℕ) → at + 16 ≤ length (cond x (pages ram) main)
        → (part (cond x (pages ram) main) at 16 ≡ part (cond x ram main) at 16) × (at + 16 ≤ length (cond x ram main))
    by true at h = (part_of_ram ram at h, omega (arith, h, length_pages ram))
    by false at h = (refl, h)

module _ (v : Volume) where
  abbrev g : layout.Geometry
  g = layout.geometry v.state.sizes

  -- neither 1 nor 2
  pub record Good : Type 0 where
    pub state : bad_state v.state ≡ false
    pub bytes : too_short g v.flash (pages v.ram) ≡ false

  -- a record's place is inside its slice
  pub place_inside : Good → (j : ℕ) → (record_place g v j).at + 16 ≤ length (source v.flash.main (pages v.ram) (record_place g v j))
  unfolding bad_state
  place_inside good j =
      let state = (or_eq_false_iff (not (layout.allowed v.state.sizes)) _).0 good.state in
      let counts = (or_eq_false_iff (ltb (layout.record_capacity g) v.state.records) _).0 state.1 in
      let ok = sound v.state.sizes (not-false _ state.0) in
      let u_pos = pu v.state.sizes ok in
      let cap : v.state.records ≤ layout.record_capacity g = ltb-false _ _ counts.0 in
      let read = (long_of g v.flash (pages v.ram) good.bytes).read in
      let u : ℕ = layout.unit_of v.state.sizes in
      either (lt? j (v.state.records / (4 * u) * (4 * u)))
      (λ a. rw a.0 (omega (arith, div-mul-le_self v.state.records (4 * u), cap, read.main_fits)))
      (λ a. rw a.0 (omega (arith, mul-le-mul_right 16 (mod-lt j {m = 4 * u} (omega (arith, u_pos))), read.ram_fits)))

  -- and so are the bytes of a hit, in the RAM as it is lent
  pub hit_inside : Good → (j : ℕ)
      → Inside v.flash.main v.ram (record_place g v j) (bytes_at v.flash.main (pages v.ram) (record_place g v j) 16)
  hit_inside good j = inside_ram v.flash.main v.ram (record_place g v j) (place_inside good j)

module _ (h : Family) (v : Volume) (key : Key) where
  -- what the search met
  abbrev pub missed : Result
  missed =
      record {
        outcome = miss;
        count = (search h (g v) (on_pages v) key).opened;
        da_pages = search_da_pages h (g v) (on_pages v) key;
        volume = v;
        ops = [];
      }

  abbrev pub hit_at : ℕ → Result
  hit_at j =
      record {
        outcome = hit (record_place (g v) v j) (bytes_at v.flash.main (pages v.ram) (record_place (g v) v j) 16);
        count = (search h (g v) (on_pages v) key).opened;
        da_pages = search_da_pages h (g v) (on_pages v) key;
        volume = v;
        ops = [];
      }

  -- a lookup is one of these
  module _
      (P : Result → Type 0) (no : (i : ℕ) → eqb i 0 ≡ false → i < 16 → P (refuse v i)) (nothing : Good v → P missed)
      (one : (j : ℕ) → Good v → P (hit_at j)) where
    abbrev met : Bool → Bool → Bool → Option Stop → Result
    met bad short idle s =
        cond bad (refuse (on_pages v) refusal.bad_state)
        (cond short (refuse (on_pages v) refusal.too_short)
        (cond idle (lookup_after (g v) (on_pages v) (search h (g v) (on_pages v) key).opened (search_da_pages h (g v) (on_pages v) key) s)
        (refuse (on_pages v) refusal.pending)))

    of : (b u : ℕ) (ss : List Step) (x y z : Bool) (s : Option Stop) → bad_state v.state ≡ x
        → too_short (g v) v.flash (pages v.ram) ≡ y → P (taken b u v ss (met x y z s))
    unfolding lookup_after
    of b u ss true y z s p q = no refusal.bad_state refl (omega arith)
    of b u ss false true z s p q = no refusal.too_short refl (omega arith)
    of b u ss false false false s p q = no refusal.pending refl (omega arith)
    of b u ss false false true none p q = nothing (record { state = p; bytes = q })
    of b u ss false false true (some corrupt) p q = no refusal.corrupt_entry refl (omega arith)
    of b u ss false false true (some (found j)) p q = one j (record { state = p; bytes = q })

    pub whole_cases : P (call_whole h v (lookup key))
    unfolding call_for judge_first
    whole_cases =
        let r : Result = result_of h v (lookup key) in
        of (length r.ops + 2) (layout.unit_of v.state.sizes) (call_steps (intended v (lookup key)) r)
        (bad_state v.state) (too_short (g v) v.flash (pages v.ram)) (eqb (kind_in v.ram) 0)
        (search h (g v) (on_pages v) key).stop refl refl
