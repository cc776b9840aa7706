-- The RAM after a change that fills no page.
use Rattle.std.specs.Prelude.{◌≡◌, refl, Bool, true, false, ◌||◌, List, ℕ, ◌<◌}
use Rattle.std.proofs.Common.{sym, ◌∙◌}
use Rattle.std.proofs.lemmas.Bool.{false≢true}
use Rattle.memory.specs.Cases.{either, bool?}
use Rattle.layout.specs.Geometry.{Geometry}
use Rattle.layout.specs.Items.{Ra, KA, DA, fills, put}
use Rattle.plan.specs.Plans.{deletion_in, record_in, entry_in}
use Rattle.planning.specs.declared.Slots.{Slots}
use Rattle.planning.specs.declared.Slots.TheVariants.{Delete, Insert, Update}
use Rattle.planning.specs.Edits.{programs_in, entry_then_record}
use Rattle.kept.specs.Kept.{record_kept, kept}

module _ (g : Geometry) where
  abbrev pub deletion_appended : ℕ → List ℕ → List ℕ → List ℕ
  deletion_appended d new ram = put (DA g) d (deletion_in new) ram

  -- record n, then its entry
  abbrev pub record_appended : ℕ → List ℕ → List ℕ → List ℕ
  record_appended n new ram = put (KA g) n (entry_in new) (put (Ra g) n (record_in new) ram)

  abbrev pub appended : List ℕ → List ℕ → Slots → List ℕ
  appended new ram (Delete d) = deletion_appended d new ram
  appended new ram (Insert n) = record_appended n new ram
  appended new ram (Update d n) = record_appended n new (deletion_appended d new ram)

-- of two tests that fail together each fails
first_fails : (a b : Bool) → (a || b) ≡ false → a ≡ false
first_fails true b e = absurd (false≢true (sym e))
first_fails false b e = refl

second_fails : (a b : Bool) → (a || b) ≡ false → b ≡ false
second_fails true b e = absurd (false≢true (sym e))
second_fails false b e = e

-- where nothing is programmed, that is all
module _ (g : Geometry) (pos : 0 < g.u) (new filters : List ℕ) where
  no_entry : (n : ℕ) → fills (Ra g) n ≡ false → fills (KA g) n ≡ false
  no_entry n e = either (bool? (fills (KA g) n)) (λ t. absurd (false≢true (sym e ∙ entry_then_record g n pos t))) (λ t. t)

  record_appended_lem : (n : ℕ) (ram : List ℕ) → fills (Ra g) n ≡ false → record_appended g n new ram ≡ record_kept g n new filters ram
  record_appended_lem n ram e = rw (e, no_entry n e)

  pub kept_appended : (ram : List ℕ) (e : Slots) → programs_in g e ≡ false → appended g new ram e ≡ kept g new filters ram e
  kept_appended ram (Delete d) t = rw t
  kept_appended ram (Insert n) t = record_appended_lem n ram t
  kept_appended ram (Update d n) t =
      rw (first_fails (fills (DA g) d) (fills (Ra g) n) t)
      (record_appended_lem n (deletion_appended g d new ram) (second_fails (fills (DA g) d) (fills (Ra g) n) t))
