-- The new bytes of a change as they are written, and its new filters, which are two parts.
use mathlib.Core.Path.{◌≡◌, refl, sym, ap, ◌∙◌}
use mathlib.Core.List.{List, [], ◌∷◌, ◌++◌}
use Prim.Native.Nat.{ℕ}
use lib.ListN.{length, take, drop, replicate}
use lib.Seq.{take_all}
use Rattle.std.proofs.Common.{Option, Some, None}
use Rattle.std.proofs.Math.Seq.{take-append_seam, drop-append_seam}
use native.Mathlib.Omega.{arith}
use Rattle.memory.specs.Lists.{write}
use Rattle.memory.specs.Words.{byte_of, bytes4, words_bytes}
use Rattle.layout.specs.Items.{record_bytes, entry_bytes, deletion_bytes}
use Rattle.layout.specs.Geometry.{Geometry}
use Rattle.keys.specs.Key.{key_is}
use Rattle.planning.specs.New.{new_bytes}
use Rattle.plan.specs.Plans.{deletion_fourths, entry_fourths}
use Rattle.state.specs.Contract.{record_is}
use Rattle.state.specs.declared.Record.{Record}
use Rattle.changes.specs.declared.Edit.{Edit}
use Rattle.changes.specs.declared.Edit.TheVariants.{Insert, Delete, Replace}
use Rattle.changes.specs.Edits.{deleted, inserted, old_number, new_record, slots_of, record_number}
use Rattle.changes.specs.Filters.{DeletionFilters, EntryFilter, FiltersOf}

-- the zeros with the number that is deleted, and with a record and its entry behind it
abbrev pub with_deletion : Option ℕ → List ℕ
with_deletion None = replicate 28 0
with_deletion (Some j) = write (replicate 28 0) 0 (bytes4 j)

abbrev pub with_record : ℕ → Option Record → List ℕ → List ℕ
with_record n None b = b
with_record n (Some r) b = write b 4 (words_bytes (r.key.level ∷ r.moves ∷ r.goal ∷ r.free ∷ r.key.level ∷ n ∷ []))

all_written : (n d : ℕ) (e : Edit) → with_record n (inserted e) (with_deletion (deleted e))
    ≡ new_bytes (old_number e) (record_is (new_record e)) (record_number (slots_of n d e))
unfolding write byte_of words_bytes record_bytes entry_bytes deletion_bytes
all_written n d (Insert r) = refl
all_written n d (Delete j) = refl
all_written n d (Replace j r) = refl

-- are an edit's new bytes
pub written_is : (n d : ℕ) (e : Edit) (o : Option ℕ) (i : Option Record) (b : List ℕ) → o ≡ deleted e → i ≡ inserted e
    → b ≡ with_deletion o → with_record n i b ≡ new_bytes (old_number e) (record_is (new_record e)) (record_number (slots_of n d e))
written_is n d e o i b o_is i_is b_is = rw (b_is, o_is, i_is) (all_written n d e)

-- ---- the new filters

module _ (g : Geometry) (place : ℕ) (ram : List ℕ) where
  -- filters of a deletion, where there is one, and of an entry
  abbrev pub DeletionPart : List ℕ → Option ℕ → Type 0
  DeletionPart D None = Unit {0}
  DeletionPart D (Some j) = DeletionFilters g place j ram D

  abbrev pub EntryPart : List ℕ → Option Record → Type 0
  EntryPart E None = Unit {0}
  EntryPart E (Some r) = EntryFilter g place (key_is r.key) ram E

  pub deletion_put : (j : ℕ) (o : Option ℕ) (D D' : List ℕ) → o ≡ Some j → D ≡ D' → DeletionFilters g place j ram D' → DeletionPart D o
  deletion_put j o D D' o_is D_is F = rw (o_is, D_is) F

  pub no_deletion : (o : Option ℕ) (D : List ℕ) → o ≡ None → DeletionPart D o
  no_deletion o D o_is = rw o_is tt

-- the first of two parts, of 512 and of 256 bytes, and the second
module _ (D E : List ℕ) (d : length D ≡ 512) (e : length E ≡ 256) where
  deletion_part : deletion_fourths (D ++ E) ≡ D
  deletion_part = ap (λ (k : ℕ). take k (D ++ E)) (sym d) ∙ take-append_seam D E

  entry_part : entry_fourths (D ++ E) ≡ E
  entry_part =
      ap (λ (k : ℕ). take 256 (drop k (D ++ E))) (sym d) ∙ ap (take 256) (drop-append_seam D E) ∙ take_all 256 E (omega arith)

  -- the parts of an edit are its filters
  pub parts_filled : (g : Geometry) (n k : ℕ) (ram : List ℕ) (t : Edit) (o : Option ℕ) (i : Option Record) → o ≡ deleted t → i ≡ inserted t
      → DeletionPart g k ram D o → EntryPart g n ram E i → FiltersOf g (old_number t) (key_is (new_record t).key) ram (D ++ E) (slots_of n k t)
  parts_filled g n k ram t o i o_is i_is p q = by t (rw o_is at p) (rw i_is at q)
    where
      by : (t : Edit) → DeletionPart g k ram D (deleted t) → EntryPart g n ram E (inserted t)
          → FiltersOf g (old_number t) (key_is (new_record t).key) ram (D ++ E) (slots_of n k t)
      by (Insert r) p q = rw entry_part q
      by (Delete j) p q = rw deletion_part p
      by (Replace j r) p q = (rw deletion_part p, rw entry_part q)
