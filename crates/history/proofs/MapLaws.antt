-- The history and the finite map answer alike: each call keeps the invariant `Live`.
use Rattle.std.specs.Prelude.{◌≡◌, refl, ◌≢◌, ◌⊎◌, true, false, not, ◌&&◌, ◌||◌, cond, List, [], ◌∷◌, ◌++◌, ℕ, suc, ◌+◌, ◌≤◌, ◌<◌, length, leb, eqb}
use Rattle.std.proofs.Common.{sym, ap, ◌∙◌, inl, inr, true≢false, add-one, arith, length-append, eq-eqb, ne_eqb}
use Rattle.std.proofs.Math.Bool.{and-true}
use Rattle.std.proofs.Math.Option.{Option, none, some, map, map-eq-none_iff}
use Rattle.std.proofs.Math.ListN.{get_or-append}
use Rattle.std.proofs.Math.Seq.{get_or-append_seam}
use Rattle.memory.specs.Cases.{bool?, lt?, eq?, either}
use Rattle.memory.specs.Ranges.{last, last_some, last_none, last_ext, last_no, memb}
use Rattle.layout.specs.Keys.{Key, same_key}
use Rattle.layout.specs.Calls.{Call, insert, update, delete, lookup}
use Rattle.layout.specs.FiniteMap.{Level, Map, find, without, Step, insert_map, update_map, delete_map, lookup_map, step_map, level_of}
use Rattle.layout.specs.Items.{Record}
use Rattle.history.proofs.KeyLaws.{key?, same_key_lem, key_other}
use Rattle.history.specs.Image.{History, record_at}
use Rattle.history.specs.Live.{live_at, find_live, with_record, with_deletion, HistoryStep, insert_history, update_history, delete_history}
use Rattle.history.specs.Live.{lookup_history, step_history, level_at, Nodup, Live}

-- ---- membership and one more deletion

pub memb_snoc : (x y : ℕ) (l : List ℕ) → memb x (l ++ (y ∷ [])) ≡ (memb x l || eqb y x)
unfolding memb
memb_snoc x y [] = either (bool? (eqb y x)) (λ h. cc) (λ h. cc)
memb_snoc x y (z ∷ l) = let ih = memb_snoc x y l in either (bool? (eqb z x)) (λ h. cc) (λ h. cc)

-- ---- the levels of the map

pub find_front : (x : Level) (xs : List Level) (k : Key) → find (x ∷ xs) k ≡ cond (same_key x.key k) (some x) (find xs k)
unfolding find
find_front x xs k = refl

-- a key left out is not found
pub find_without : (k : Key) (l : List Level) → find (without k l) k ≡ none
unfolding find without
find_without k [] = refl
find_without k (x ∷ xs) =
    let ih = find_without k xs in
    either (bool? (same_key x.key k)) (λ h. rw h ih) (λ h. rw (h, h) ih)

-- any other key is found as before
pub find_other : (k k' : Key) (l : List Level) → k ≢ k' → find (without k l) k' ≡ find l k'
unfolding find without
find_other k k' [] n = refl
find_other k k' (x ∷ xs) n =
    let ih = find_other k k' xs n in
    either (key? x.key k)
    (λ h. let f : same_key x.key k' ≡ false = key_other x.key k' (λ e. n (sym h.1 ∙ e)) in cc)
    (λ h. either (bool? (same_key x.key k')) (λ g. cc) (λ g. cc))

pub nodup_without : (k : Key) (l : List Level) → Nodup l → Nodup (without k l)
unfolding without
nodup_without k [] u = tt
nodup_without k (x ∷ xs) u =
    let ih = nodup_without k xs u.1 in
    either (key? x.key k)
    (λ h. rw h.0 ih)
    (λ h. rw h.0 (find_other k x.key xs (λ e. h.1 (sym e)) ∙ u.0, ih))

-- leaving out a key that is not there changes nothing
pub without_absent : (k : Key) (l : List Level) → find l k ≡ none → without k l ≡ l
unfolding find without
without_absent k [] e = refl
without_absent k (x ∷ xs) e =
    either (bool? (same_key x.key k)) (λ h. cc) (λ h. let ih = without_absent k xs (cc) in cc)

pub length_without : (k : Key) (l : List Level) (o : Level) → Nodup l → find l k ≡ some o → suc (length (without k l)) ≡ length l
unfolding find without
length_without k [] o u e = cc
length_without k (x ∷ xs) o u e =
    either (key? x.key k)
    (λ h. let a : without k xs ≡ xs = without_absent k xs (rw (← h.1) u.0) in rw (h.0, a))
    (λ h. let ih = length_without k xs o u.1 (cc) in rw h.0 (ap suc ih))

-- ---- the history with one more record

module _ (H : History) (r : Record) where
  pub record_old : (j : ℕ) → j < length H.records → record_at (with_record H r) j ≡ record_at H j
  record_old j h = get_or-append H.records _ _ j h

  pub record_new : record_at (with_record H r) (length H.records) ≡ r
  record_new = get_or-append_seam H.records r [] _

  pub live_old : (k : Key) (j : ℕ) → j < length H.records → live_at (with_record H r) k j ≡ live_at H k j
  unfolding live_at
  live_old k j h = rw (record_old j h)

  pub live_new : (k : Key) → memb (length H.records) H.deleted ≡ false
      → live_at (with_record H r) k (length H.records) ≡ same_key r.key k
  unfolding live_at
  live_new k e = rw (record_new, e) (and-true (same_key r.key k))

  pub length_with : length (with_record H r).records ≡ suc (length H.records)
  length_with = length-append H.records _ ∙ add-one _

  pub find_with : (k : Key) → memb (length H.records) H.deleted ≡ false
      → find_live (with_record H r) k ≡ cond (same_key r.key k) (some (length H.records)) (find_live H k)
  unfolding last
  find_with k e = rw (length_with, live_new k e, last_ext (live_at (with_record H r) k) (live_at H k) (length H.records) (live_old k))

-- ---- the history with one more deletion

pub live_deletion : (H : History) (j : ℕ) (k : Key) (i : ℕ) → live_at (with_deletion H j) k i ≡ (live_at H k i && not (eqb j i))
unfolding live_at
live_deletion H j k i =
    rw memb_snoc
    (either (bool? (same_key (record_at H i).key k))
    (λ a. either (bool? (memb i H.deleted))
    (λ b. either (bool? (eqb j i)) (λ c. cc) (λ c. cc))
    (λ b. either (bool? (eqb j i)) (λ c. cc) (λ c. cc)))
    (λ a. cc))

-- a live record has one key
pub live_other : (H : History) (j : ℕ) (k k' : Key) → live_at H k j ≡ true → k ≢ k' → live_at H k' j ≡ false
unfolding live_at
live_other H j k k' e ne =
    either (key? (record_at H j).key k)
    (λ h. rw (key_other (record_at H j).key k' (λ q. ne (sym h.1 ∙ q))))
    (λ h. let z : false ≡ true = sym (rw h.0) ∙ e in cc)

-- ---- the invariant after an insertion

pub Live-record : (H : History) (M : Map) (r : Record) → Live H M → find_live H r.key ≡ none
    → Live (with_record H r) (record { levels = level_of r ∷ M.levels; n = M.n + 1; d = M.d })
Live-record H M r L e = record {
  n_is = omega (arith, L.n_is, length_with H r);
  d_is = L.d_is;
  same = same';
  count = omega (arith, L.count, length_with H r);
  once = (L.same r.key ∙ rw e, L.once);
  one = one';
  below = λ j h. L.below j (omega (arith, length_with H r));
}
  where
    fresh : memb (length H.records) H.deleted ≡ false
    fresh = L.below (length H.records) (omega arith)

    old : (o : Option ℕ) (k : Key) → find_live H k ≡ o → map (level_at H) o ≡ map (level_at (with_record H r)) o
    old none k q = refl
    old (some j) k q = ap (λ (x : Record). some (level_of x)) (sym (record_old H r j (last_some (live_at H k) (length H.records) j q).0))

    same' : (k : Key) → find (level_of r ∷ M.levels) k ≡ map (level_at (with_record H r)) (find_live (with_record H r) k)
    same' k = find_front (level_of r) M.levels k ∙ rw (find_with H r k fresh)
        (either (bool? (same_key r.key k))
        (λ t. rw t (ap (λ (x : Record). some (level_of x)) (sym (record_new H r))))
        (λ t. rw t (L.same k ∙ old (find_live H k) k refl)))

    -- the new record shares its key with no live one
    new_old : (k : Key) (i j : ℕ) → i < length H.records → j ≡ length H.records → live_at (with_record H r) k i ≡ true
        → live_at (with_record H r) k j ≡ true → ⊥
    new_old k i j h q a b =
        let t : same_key r.key k ≡ true = sym (live_new H r k fresh) ∙ rw (← q) b in
        let k_is : r.key ≡ k = same_key_lem r.key k t in
        let f : live_at H k i ≡ false = rw (← k_is) (last_none (live_at H r.key) (length H.records) i e h) in
        true≢false (sym a ∙ live_old H r k i h ∙ f)

    one' : (k : Key) (i j : ℕ) → i < length (with_record H r).records → j < length (with_record H r).records
        → live_at (with_record H r) k i ≡ true → live_at (with_record H r) k j ≡ true → i ≡ j
    one' k i j hi hj a b =
        let len = length_with H r in
        either (lt? i (length H.records))
        (λ p. either (lt? j (length H.records))
        (λ q. L.one k i j p.1 q.1 (sym (live_old H r k i p.1) ∙ a) (sym (live_old H r k j q.1) ∙ b))
        (λ q. absurd (new_old k i j p.1 (omega arith) a b)))
        (λ p. either (lt? j (length H.records))
        (λ q. absurd (new_old k j i q.1 (omega arith) b a))
        (λ q. omega arith))

-- ---- the invariant after a deletion

pub Live-deletion : (H : History) (M : Map) (k : Key) (j : ℕ) → Live H M → find_live H k ≡ some j
    → Live (with_deletion H j) (record { levels = without k M.levels; n = M.n; d = M.d + 1 })
Live-deletion H M k j L e = record {
  n_is = L.n_is;
  d_is = omega (arith, L.d_is, len);
  same = same';
  count = omega (arith, L.count, len, length_without k M.levels (level_at H j) L.once (L.same k ∙ rw e));
  once = nodup_without k M.levels L.once;
  one = λ k' a b ha hb p q. L.one k' a b ha hb (was k' a p) (was k' b q);
  below = below';
}
  where
    len : length (H.deleted ++ (j ∷ [])) ≡ length H.deleted + 1
    len = length-append H.deleted _

    at : (j < length H.records) × (live_at H k j ≡ true)
    at = last_some (live_at H k) (length H.records) j e

    -- a deletion makes nothing live
    was : (k' : Key) (i : ℕ) → live_at (with_deletion H j) k' i ≡ true → live_at H k' i ≡ true
    was k' i p =
        let q = live_deletion H j k' i in
        either (bool? (live_at H k' i)) (λ h. h) (λ h. cc)

    -- the key's only live record is gone
    gone : (i : ℕ) → i < length H.records → live_at (with_deletion H j) k i ≡ false
    gone i h =
        live_deletion H j k i
        ∙ either (bool? (live_at H k i))
        (λ t. rw (t, eq-eqb j i (L.one k j i at.0 h at.1 t)))
        (λ t. rw t)

    -- the records of any other key are as before
    kept : (k' : Key) → k ≢ k' → (i : ℕ) → i < length H.records → live_at (with_deletion H j) k' i ≡ live_at H k' i
    kept k' ne i h =
        live_deletion H j k' i
        ∙ either (eq? j i)
        (λ t. let f : live_at H k' i ≡ false = rw (← t.1) (live_other H j k k' at.1 ne) in rw f)
        (λ t. rw t.0 (and-true (live_at H k' i)))

    same' : (k' : Key) → find (without k M.levels) k' ≡ map (level_at H) (find_live (with_deletion H j) k')
    same' k' =
        either (key? k k')
        (λ q.
        let none_left : find_live (with_deletion H j) k ≡ none = last_no (live_at (with_deletion H j) k) (length H.records) gone in
        rw (← q.1) (find_without k M.levels ∙ rw none_left))
        (λ q.
        let unchanged : find_live (with_deletion H j) k' ≡ find_live H k'
        = last_ext (live_at (with_deletion H j) k') (live_at H k') (length H.records) (kept k' q.1) in
        find_other k k' M.levels q.1 ∙ L.same k' ∙ rw unchanged)

    below' : (i : ℕ) → length H.records ≤ i → memb i (H.deleted ++ (j ∷ [])) ≡ false
    below' i h = memb_snoc i j H.deleted ∙ rw (L.below i h, ne_eqb j i (λ q. absurd (omega (arith, at.0, q))))

-- ---- the calls

module _ (capacity deletion_capacity : ℕ) where
  -- the same answer, and the invariant holds after it
  abbrev Same : HistoryStep → Step → Type 0
  Same a b = (a.says ≡ b.says) × Live a.next b.next

  -- the two capacity tests have one value on both sides
  room : {H : History} {M : Map} → Live H M
      → ((leb capacity (length H.records) ≡ true) × (leb capacity M.n ≡ true))
      ⊎ ((leb capacity (length H.records) ≡ false) × (leb capacity M.n ≡ false))
  room {H} {M} L = either (bool? (leb capacity (length H.records))) (λ t. inl (t, rw L.n_is t)) (λ t. inr (t, rw L.n_is t))

  room_deletion : {H : History} {M : Map} → Live H M
      → ((leb deletion_capacity (length H.deleted) ≡ true) × (leb deletion_capacity M.d ≡ true))
      ⊎ ((leb deletion_capacity (length H.deleted) ≡ false) × (leb deletion_capacity M.d ≡ false))
  room_deletion {H} {M} L =
      either (bool? (leb deletion_capacity (length H.deleted))) (λ t. inl (t, rw L.d_is t)) (λ t. inr (t, rw L.d_is t))

  insert_same : (H : History) (M : Map) (r : Record) (o : Option ℕ) → Live H M → find_live H r.key ≡ o
      → Same (insert_history capacity H r o) (insert_map capacity M (level_of r) (map (level_at H) o))
  insert_same H M r (some j) L e = (refl, L)
  insert_same H M r none L e =
      either (room L) (λ t. rw (t.0, t.1) (refl, L)) (λ t. rw (t.0, t.1) (refl, Live-record H M r L e))

  update_same : (H : History) (M : Map) (r : Record) (o : Option ℕ) → Live H M → find_live H r.key ≡ o
      → Same (update_history capacity deletion_capacity H r o) (update_map capacity deletion_capacity M (level_of r) (map (level_at H) o))
  update_same H M r none L e =
      either (room L) (λ t. rw (t.0, t.1) (refl, L)) (λ t. rw (t.0, t.1, gone) (refl, Live-record H M r L e))
    where
      gone : without r.key M.levels ≡ M.levels
      gone = without_absent r.key M.levels (L.same r.key ∙ rw e)
  update_same H M r (some j) L e =
      either (room L)
      (λ t. rw (t.0, t.1) (refl, L))
      (λ t. either (room_deletion L)
      (λ s. rw (t.0, t.1, s.0, s.1) (refl, L))
      (λ s. rw (t.0, t.1, s.0, s.1) (refl, both)))
    where
      one_less : Live (with_deletion H j) (record { levels = without r.key M.levels; n = M.n; d = M.d + 1 })
      one_less = Live-deletion H M r.key j L e

      both : Live (with_record (with_deletion H j) r)
          (record { levels = level_of r ∷ without r.key M.levels; n = M.n + 1; d = M.d + 1 })
      both =
          Live-record (with_deletion H j) _ r one_less
          ((map-eq-none_iff _ _).0 (sym (one_less.same r.key) ∙ find_without r.key M.levels))

  delete_same : (H : History) (M : Map) (k : Key) (o : Option ℕ) → Live H M → find_live H k ≡ o
      → Same (delete_history deletion_capacity H o) (delete_map deletion_capacity M k (map (level_at H) o))
  delete_same H M k none L e = (refl, L)
  delete_same H M k (some j) L e =
      either (room_deletion L) (λ s. rw (s.0, s.1) (refl, L)) (λ s. rw (s.0, s.1) (refl, Live-deletion H M k j L e))

  lookup_same : (H : History) (M : Map) (o : Option ℕ) → Live H M
      → Same (lookup_history H o) (lookup_map M (map (level_at H) o))
  lookup_same H M none L = (refl, L)
  lookup_same H M (some j) L = (refl, L)

  -- a call gets the map's answer, and history and map agree after it
  pub step_same : (H : History) (M : Map) (c : Call) → Live H M
      → ((step_history capacity deletion_capacity H c).says ≡ (step_map capacity deletion_capacity M c).says)
      × Live (step_history capacity deletion_capacity H c).next (step_map capacity deletion_capacity M c).next
  step_same H M (insert r) L = rw (L.same r.key) (insert_same H M r (find_live H r.key) L refl)
  step_same H M (update r) L = rw (L.same r.key) (update_same H M r (find_live H r.key) L refl)
  step_same H M (delete key) L = rw (L.same key) (delete_same H M key (find_live H key) L refl)
  step_same H M (lookup key) L = rw (L.same key) (lookup_same H M (find_live H key) L)
