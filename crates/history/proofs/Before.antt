-- A history and a later one: histories only grow at their ends.
use Rattle.std.specs.Prelude.{◌≡◌, refl, List, [], ◌∷◌, ◌++◌, ℕ, ◌≤◌, ◌<◌, length, get_or, drop}
use Rattle.std.proofs.Common.{sym, ap, ◌∙◌, arith, length-append, take-append-drop}
use Rattle.std.proofs.Math.Option.{Option, none, some}
use Rattle.std.proofs.Math.ListN.{get_or-append}
use Rattle.layout.specs.Items.{Record, no_record}
use Rattle.layout.specs.Hash.{Family}
use Rattle.layout.specs.Calls.{Volume, Call, insert, update, delete, lookup, Outcome, accepted, hit, miss, refused, call}
use Rattle.history.specs.Image.{History, record_at}
use Rattle.history.specs.Live.{find_live, with_record, with_deletion, without_live}
use Rattle.history.specs.Runs.{grow, grow_if, history_of}
use Rattle.history.specs.Before.{Before, first_deletions}

append-nil : {A : Type 0} (l : List A) → l ≡ l ++ []
append-nil [] = refl
append-nil (x ∷ xs) = ap (λ l. x ∷ l) (append-nil xs)

pub before_same : (H : History) → Before H H
before_same H =
    record { records_more = []; records_are = append-nil H.records; deleted_more = []; deleted_are = append-nil H.deleted }

append_assoc : {A : Type 0} (a b c : List A) → (a ++ b) ++ c ≡ a ++ (b ++ c)
append_assoc [] b c = refl
append_assoc (x ∷ a) b c = ap (λ l. x ∷ l) (append_assoc a b c)

pub before_then : (A B C : History) → Before A B → Before B C → Before A C
before_then A B C p q = record {
  records_more = p.records_more ++ q.records_more;
  records_are = q.records_are ∙ rw p.records_are (append_assoc A.records p.records_more q.records_more);
  deleted_more = p.deleted_more ++ q.deleted_more;
  deleted_are = q.deleted_are ∙ rw p.deleted_are (append_assoc A.deleted p.deleted_more q.deleted_more);
}

module _ (H₀ H : History) (B : Before H₀ H) where
  pub record_kept_lem : (j : ℕ) → j < length H₀.records → record_at H j ≡ record_at H₀ j
  record_kept_lem j l = rw B.records_are (get_or-append H₀.records B.records_more no_record j l)

  pub deletion_kept_lem : (i : ℕ) → i < length H₀.deleted → get_or H.deleted i 0 ≡ get_or H₀.deleted i 0
  deletion_kept_lem i l = rw B.deleted_are (get_or-append H₀.deleted B.deleted_more 0 i l)

  pub records_le : length H₀.records ≤ length H.records
  records_le = rw (B.records_are, length-append H₀.records B.records_more) (omega arith)

  pub deleted_le : length H₀.deleted ≤ length H.deleted
  deleted_le = rw (B.deleted_are, length-append H₀.deleted B.deleted_more) (omega arith)

-- ---- by calls

before_record : (H : History) (r : Record) → Before H (with_record H r)
before_record H r = record { records_more = r ∷ []; records_are = refl; deleted_more = []; deleted_are = append-nil H.deleted }

before_deletion : (H : History) (j : ℕ) → Before H (with_deletion H j)
before_deletion H j = record { records_more = []; records_are = append-nil H.records; deleted_more = j ∷ []; deleted_are = refl }

before_without : (H : History) (o : Option ℕ) → Before H (without_live H o)
before_without H none = before_same H
before_without H (some j) = before_deletion H j

before_grow : (H : History) (c : Call) → Before H (grow H c)
before_grow H (insert r) = before_record H r
before_grow H (update r) =
    let D : History = without_live H (find_live H r.key) in
    before_then H D (with_record D r) (before_without H (find_live H r.key)) (before_record D r)
before_grow H (delete key) = before_without H (find_live H key)
before_grow H (lookup key) = before_same H

before_grow_if : (o : Outcome) (H : History) (c : Call) → Before H (grow_if o H c)
before_grow_if accepted H c = before_grow H c
before_grow_if (hit place bytes) H c = before_same H
before_grow_if miss H c = before_same H
before_grow_if (refused i) H c = before_same H

-- the history of a list of calls is later than the one it began with
pub before_history : (h : Family) (v : Volume) (H : History) (cs : List Call) → Before H (history_of h v H cs)
before_history h v H [] = before_same H
before_history h v H (c ∷ cs) =
    before_then H (grow_if (call h v c).outcome H c) _ (before_grow_if (call h v c).outcome H c)
    (before_history h (call h v c).volume (grow_if (call h v c).outcome H c) cs)

pub before_first : (H : History) (d₀ : ℕ) → Before (first_deletions H d₀) H
before_first H d₀ = record {
  records_more = [];
  records_are = append-nil H.records;
  deleted_more = drop d₀ H.deleted;
  deleted_are = sym (take-append-drop d₀ H.deleted);
}
