-- The new bytes of a change, one after another, and their parts.
use Rattle.std.specs.Prelude.{◌≡◌, List, ◌++◌, ℕ, length, take, drop}
use Rattle.std.proofs.Common.{sym, ap, ◌∙◌, append_assoc, arith, length-append, take_all}
use Rattle.std.proofs.Math.Seq.{take-append_seam, drop-append_seam}
use Rattle.layout.specs.Items.{Record, record_bytes, entry_bytes, deletion_bytes}
use Rattle.laws.specs.ItemLaws.{length_record, length_entry, length_deletion}
use Rattle.plan.specs.Plans.{deletion_in, record_in, entry_in}

-- the deletion of record j, record n and its entry
abbrev pub new_bytes : ℕ → Record → ℕ → List ℕ
new_bytes j r n = deletion_bytes j ++ (record_bytes r ++ entry_bytes r.key n)

-- parts of 4, 16 and 8 bytes
module _ (D R E : List ℕ) (d : length D ≡ 4) (r : length R ≡ 16) (e : length E ≡ 8) where
  part_first : deletion_in (D ++ (R ++ E)) ≡ D
  part_first = ap (λ (k : ℕ). take k (D ++ (R ++ E))) (sym d) ∙ take-append_seam D (R ++ E)

  part_second : record_in (D ++ (R ++ E)) ≡ R
  part_second =
      ap (λ (k : ℕ). take 16 (drop k (D ++ (R ++ E)))) (sym d) ∙ ap (take 16) (drop-append_seam D (R ++ E))
      ∙ ap (λ (k : ℕ). take k (R ++ E)) (sym r) ∙ take-append_seam R E

  part_third : entry_in (D ++ (R ++ E)) ≡ E
  part_third =
      let k : 20 ≡ length (D ++ R) = omega (arith, length-append D R) in
      ap (λ (l : List ℕ). take 8 (drop 20 l)) (sym (append_assoc D R E))
      ∙ ap (λ (k : ℕ). take 8 (drop k ((D ++ R) ++ E))) k ∙ ap (take 8) (drop-append_seam (D ++ R) E) ∙ take_all 8 E (omega arith)

module _ (j : ℕ) (r : Record) (n : ℕ) where
  abbrev D : List ℕ
  D = deletion_bytes j

  abbrev R : List ℕ
  R = record_bytes r

  abbrev E : List ℕ
  E = entry_bytes r.key n

  pub deletion_part : deletion_in (new_bytes j r n) ≡ D
  deletion_part = part_first D R E (length_deletion j) (length_record r) (length_entry r.key n)

  pub record_part : record_in (new_bytes j r n) ≡ R
  record_part = part_second D R E (length_deletion j) (length_record r) (length_entry r.key n)

  pub entry_part : entry_in (new_bytes j r n) ≡ E
  entry_part = part_third D R E (length_deletion j) (length_record r) (length_entry r.key n)
