-- Whether there is room for a change, by the tests of 5 and of 6.
use Rattle.std.specs.Prelude.{◌≡◌, refl, Bool, true, false, cond, ◌&&◌, Result, Ok, Err, ℕ, leb}
use Rattle.std.proofs.Common.{leb-false}
use Rattle.std.proofs.lemmas.Bool.{lt-leb}
use Rattle.layout.specs.Geometry.{Geometry, record_capacity, deletion_capacity}
use Rattle.layout.specs.Calls.{one}
use Rattle.planning.specs.Edits.{Room}
use Rattle.state.specs.declared.Refusal.{Refusal}
use Rattle.state.specs.declared.Refusal.TheVariants.{Full, DeletionsFull}
use Rattle.changes.specs.declared.Edit.{Edit}
use Rattle.changes.specs.declared.Edit.TheVariants.{Insert, Delete, Replace}
use Rattle.changes.specs.Edits.{edit_is, slots_of, room_refusal}

-- neither 5 nor 6 is told
pub neither : (a b : Bool) → ◌≡◌ {A = Result Unit Refusal} (Ok tt) (cond a (Err Full) (cond b (Err DeletionsFull) (Ok tt)))
    → (a ≡ false) × (b ≡ false)
neither true b e = cc
neither false true e = cc
neither false false e = (refl, refl)

module _ (g : Geometry) (n d : ℕ) where
  -- does 5 apply, does 6
  abbrev five : Edit → Bool
  five e = one (edit_is e).inserts && leb (record_capacity g) n

  abbrev six : Edit → Bool
  six e = one (edit_is e).deletes && leb (deletion_capacity g) d

  -- where neither does, there is room
  pub room_of : (e : Edit) → five e ≡ false → six e ≡ false → Room g (slots_of n d e)
  room_of (Insert r) p q = leb-false (record_capacity g) n p
  room_of (Delete j) p q = leb-false (deletion_capacity g) d q
  room_of (Replace j r) p q = (leb-false (deletion_capacity g) d q, leb-false (record_capacity g) n p)

  -- and where there is room, neither
  pub room_tests : (e : Edit) → Room g (slots_of n d e) → (five e ≡ false) × (six e ≡ false)
  room_tests (Insert r) R = (lt-leb (record_capacity g) n R, refl)
  room_tests (Delete j) R = (refl, lt-leb (deletion_capacity g) d R)
  room_tests (Replace j r) R = (lt-leb (record_capacity g) n R.1, lt-leb (deletion_capacity g) d R.0)

  -- as the code asks for both
  pub room_told : (e : Edit) → Ok tt ≡ room_refusal g n d (edit_is e) → Room g (slots_of n d e)
  room_told e is = let t = neither (five e) (six e) is in room_of e t.0 t.1
