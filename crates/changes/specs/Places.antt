-- The plan and the RAM of an edit are those of the places that it takes.
use Rattle.std.specs.Prelude.{◌≡◌, refl, ℕ}
use Rattle.std.proofs.Common.{sym, append-nil}
use Rattle.layout.specs.Geometry.{Geometry}
use Rattle.layout.specs.Hash.{fnv_family}
use Rattle.layout.specs.Items.{record_bytes}
use Rattle.layout.specs.Calls.{Volume, deletes, change_plan, change_ram}
use Rattle.keys.specs.Key.{key_is}
use Rattle.state.specs.Contract.{record_is}
use Rattle.planning.specs.Edits.{plan_of, ram_of}
use Rattle.changes.specs.declared.Edit.{Edit}
use Rattle.changes.specs.declared.Edit.TheVariants.{Insert, Delete, Replace}
use Rattle.changes.specs.Edits.{edit_is, old_number, new_record, slots_of}

module _ (g : Geometry) (v : Volume) where
  abbrev n : ℕ
  n = v.state.records

  abbrev d : ℕ
  d = v.state.deletions

  pub plan_of_lem : (e : Edit) → plan_of g fnv_family (old_number e) (key_is (new_record e).key) (record_bytes (record_is (new_record e))) v.ram (slots_of n d e)
      ≡ change_plan fnv_family g v (edit_is e)
  plan_of_lem (Insert r) = refl
  plan_of_lem (Delete j) = sym (append-nil (deletes fnv_family g v (edit_is (Delete j)).deletes))
  plan_of_lem (Replace j r) = refl

  pub ram_of_lem : (e : Edit) → ram_of g fnv_family (old_number e) (key_is (new_record e).key) (record_bytes (record_is (new_record e))) v.ram (slots_of n d e)
      ≡ change_ram fnv_family g v (edit_is e)
  ram_of_lem (Insert r) = refl
  ram_of_lem (Delete j) = refl
  ram_of_lem (Replace j r) = refl
