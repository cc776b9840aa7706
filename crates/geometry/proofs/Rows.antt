-- The table of sector sizes as the contracts have it, and its rules, computed over all rows.
use Rattle.std.specs.Prelude.{ℕ, zero, suc, ◌<◌, ◌≡◌, refl, Bool, true, ◌&&◌, List, [], ◌∷◌, leb, eqb, length, get_or}
use Rattle.std.proofs.Math.Bool.{and-eq-true_iff}
use Rattle.std.proofs.Common.{le_of_suc-le-suc, not-suc-le-zero, leb-true, eqb-true}
use Rattle.memory.specs.Power.{log2up}
use Rattle.geometry.specs.declared.table.SizeRow.{SizeRow}
use Rattle.geometry.specs.Rows.{row, rows, row_of, records_of, entries_of, bits_of, power_of, row_for, Ruled, test, every}

-- what a test of five parts says
module _ (a b c d e : Bool) (t : (a && (b && (c && (d && e)))) ≡ true) where
  five : (a ≡ true) × (b ≡ true) × (c ≡ true) × (d ≡ true) × (e ≡ true)
  five =
      let t1 = (and-eq-true_iff a (b && (c && (d && e)))).0 t in
      let t2 = (and-eq-true_iff b (c && (d && e))).0 t1.1 in
      let t3 = (and-eq-true_iff c (d && e)).0 t2.1 in
      let t4 = (and-eq-true_iff d e).0 t3.1 in
      (t1.0, t2.0, t3.0, t4.0, t4.1)

at : (f : SizeRow → Bool) (d : SizeRow) (xs : List SizeRow) → every f xs ≡ true → (k : ℕ) → k < length xs → f (get_or xs k d) ≡ true
at f d [] e k h = absurd (not-suc-le-zero h)
at f d (x ∷ xs) e zero h = ((and-eq-true_iff (f x) (every f xs)).0 e).0
at f d (x ∷ xs) e (suc k) h = at f d xs ((and-eq-true_iff (f x) (every f xs)).0 e).1 k (le_of_suc-le-suc h)

-- the one computed test
all_pass : every test rows ≡ true
unfolding log2up
all_pass = refl

pub rule : (i : ℕ) → i < 6 → Ruled (row_of i)
rule i h =
    let r : SizeRow = row_of i in
    let t : test r ≡ true = at test (row 0 0 0 0) rows all_pass i h in
    let S : ℕ = r.sector in
    let f =
    five (eqb r.records (records_of S)) (eqb r.entries (entries_of S)) (eqb r.bits (bits_of S))
    (eqb S (power_of S)) (leb S 512) t in
    record {
      records = eqb-true _ _ f.0;
      entries = eqb-true _ _ f.1;
      bits = eqb-true _ _ f.2;
      power = eqb-true _ _ f.3;
      most = leb-true _ _ f.4;
    }

-- a row of the table is the one that its sector size makes
pub row_is : (r : SizeRow) (S : ℕ) → Ruled r → r.sector ≡ S → r ≡ row_for S
row_is r S k e = rw (← e, k.records, k.entries, k.bits)
