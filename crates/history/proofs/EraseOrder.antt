-- No block that a call erases is programmed after that in the same call, whatever its state and lent bytes: no erase makes a sector
-- fresh that the call programs, though those of the index over DA stand before an update's other sectors. Document 02, §5.
use Rattle.std.specs.Prelude.{◌≡◌, refl, Bool, cond, length, eqb}
use Rattle.std.proofs.Math.Bool.{true, false}
use Rattle.std.proofs.Math.Option.{Option, none, some}
use mathlib.Core.List.{List, [], ◌∷◌, ◌++◌, append-nil}
use Prim.Native.Nat.{ℕ, zero, suc, ◌+◌, ◌*◌, ◌/◌, ◌≤◌, ◌<◌}
use Rattle.std.proofs.Common.{arith, leb-false}
use Rattle.std.proofs.Math.ListN.{get_or}
use Rattle.memory.specs.Cases.{either, bool?}
use Rattle.layout.specs.Geometry.{Geometry, geometry, deletion_index_block, record_capacity, sector, Sizes, unit_of}
use Rattle.layout.specs.Flash.{Flash, Op, program, erase, apply_all, erases, Planned, plan_ops, all_fresh}
use Rattle.layout.specs.Hash.{Family}
use Rattle.layout.specs.Items.{Area, Ra, KA, DA, put, fills, Record, record_bytes, entry_bytes, deletion_bytes}
use Rattle.layout.specs.Index.{Index, in_ska, in_l1, in_set, in_full, set_pages, set_blocks, side_block, set_block, set_byte}
use Rattle.layout.specs.Keys.{Key}
use Rattle.layout.specs.Search.{Stop, found, corrupt}
use Rattle.layout.specs.Calls.{Volume, Call, insert, update, delete, lookup, Result, bad_state, too_short, judge_first, search}
use Rattle.layout.specs.Calls.{deletion_plan, insertion_plan, commit, no_room, no_deletion, change_by, insert_after, update_after}
use Rattle.layout.specs.Calls.{delete_after, lookup_after, answer, call, key_index, key_filters, deletion_index, deletion_filters}
use Rattle.history.specs.Operations.{programs, item_ops, build_ops, flush_and_build_ops, filter_ops, number_ops, both_halves}
use Rattle.history.specs.Operations.{record_ram, entered, filtered_ram}
use Rattle.history.proofs.PlanLaws.{ops_append}
use Rattle.history.proofs.ChangeLaws.{deletion_ops_lem, insertion_ops_lem}
use Rattle.history.specs.Inside.{Inside}
use Rattle.history.specs.ProgramOrder.{Below}
use Rattle.history.proofs.Every.{insertion_inside, state_allowed}
use Rattle.laws.specs.ItemLaws.{length_record}
use Rattle.laws.specs.SetLaws.{side_range}
use Rattle.laws.specs.Sound.{SizesSound, sound}
use Rattle.laws.specs.Sound as units
use Rattle.laws.specs.Units.{UnitIs}
use Rattle.history.specs.EraseOrder.{ProgramsNone, EraseOrder, ErasesFrom}

-- ---- lists in parts

none_append : (b : ℕ) (xs ys : List Op) → ProgramsNone b xs → ProgramsNone b ys → ProgramsNone b (xs ++ ys)
unfolding ProgramsNone
none_append b [] ys p q = q
none_append b (program s bytes ∷ xs) ys p q = (p.0, none_append b xs ys p.1 q)
none_append b (erase c ∷ xs) ys p q = none_append b xs ys p q

none_below : (B b : ℕ) (os : List Op) → Below (B * 64) os → B ≤ b → ProgramsNone b os
unfolding ProgramsNone
none_below B b [] p l = tt
none_below B b (program s bytes ∷ os) p l = ((λ e. omega (arith, p.0)), none_below B b os p.1 l)
none_below B b (erase c ∷ os) p l = none_below B b os p l

-- first operations that erase from B on, then such as program below B
order_append : (B : ℕ) (xs ys : List Op) → EraseOrder xs → ErasesFrom B xs → EraseOrder ys → Below (B * 64) ys → EraseOrder (xs ++ ys)
unfolding EraseOrder ErasesFrom
order_append B [] ys o f p l = p
order_append B (program s bytes ∷ xs) ys o f p l = order_append B xs ys o f p l
order_append B (erase b ∷ xs) ys o f p l =
    (none_append b xs ys o.0 (none_below B b ys l f.0), order_append B xs ys o.1 f.1 p l)

pub inside_below : (u B : ℕ) (os : List Op) → Inside u B os → Below (B * 64) os
unfolding Inside
inside_below u B [] i = tt
inside_below u B (program s bytes ∷ os) i = (i.0, inside_below u B os i.2)
inside_below u B (erase b ∷ os) i = inside_below u B os i.1

-- ---- programs, then more; erases alone

module _ (u B : ℕ) where
  programs_order : (d s k : ℕ) (f : ℕ → ℕ → ℕ) (os : List Op) → EraseOrder os → EraseOrder (programs u d s k f ++ os)
  unfolding EraseOrder
  programs_order d s zero f os o = o
  programs_order d s (suc k) f os o = programs_order d (s + d) k (λ j. f (suc j)) os o

  programs_from : (d s k : ℕ) (f : ℕ → ℕ → ℕ) (os : List Op) → ErasesFrom B os → ErasesFrom B (programs u d s k f ++ os)
  unfolding ErasesFrom
  programs_from d s zero f os o = o
  programs_from d s (suc k) f os o = programs_from d (s + d) k (λ j. f (suc j)) os o

  erases_none : (x b k : ℕ) (os : List Op) → ProgramsNone x os → ProgramsNone x (erases b k ++ os)
  unfolding ProgramsNone
  erases_none x b zero os o = o
  erases_none x b (suc k) os o = erases_none x (suc b) k os o

  erases_order : (b k : ℕ) (os : List Op) → ((x : ℕ) → ProgramsNone x os) → EraseOrder os → EraseOrder (erases b k ++ os)
  unfolding EraseOrder
  erases_order b zero os n o = o
  erases_order b (suc k) os n o = (erases_none b (suc b) k os (n b), erases_order (suc b) k os n o)

  erases_from : (b k : ℕ) (os : List Op) → B ≤ b → ErasesFrom B os → ErasesFrom B (erases b k ++ os)
  unfolding ErasesFrom
  erases_from b zero os l o = o
  erases_from b (suc k) os l o = (l, erases_from (suc b) k os (omega arith) o)

  order_if : (b : Bool) (os : List Op) → EraseOrder os → EraseOrder (cond b os [])
  unfolding EraseOrder
  order_if true os o = o
  order_if false os o = tt

  from_if : (b : Bool) (os : List Op) → ErasesFrom B os → ErasesFrom B (cond b os [])
  unfolding ErasesFrom
  from_if true os o = o
  from_if false os o = tt

  -- ---- an item, and one more filter of an index

  item_order : (a : Area) (n : ℕ) (item ram : List ℕ) (os : List Op) → EraseOrder os → EraseOrder (item_ops u a n item ram ++ os)
  item_order a n item ram os o =
      either (bool? (fills a n))
      (λ f. rw f (programs_order 1 (a.first * 64 + n / a.per_page * 4) 4
      (λ j y. get_or (put a n item ram) (a.ram + (j * sector u + y)) 0) os o))
      (λ f. rw f o)

  item_from : (a : Area) (n : ℕ) (item ram : List ℕ) (os : List Op) → ErasesFrom B os → ErasesFrom B (item_ops u a n item ram ++ os)
  item_from a n item ram os o =
      either (bool? (fills a n))
      (λ f. rw f (programs_from 1 (a.first * 64 + n / a.per_page * 4) 4
      (λ j y. get_or (put a n item ram) (a.ram + (j * sector u + y)) 0) os o))
      (λ f. rw f o)

  module _ (ix : Index) where
    abbrev wipes : ℕ → List Op
    wipes c = erases ix.first 1 ++ (erases (side_block u ix c) (set_blocks c) ++ [])

    build_is : (main : List ℕ) (z c : ℕ)
        → build_ops u ix main z c ≡ programs u 1 (set_block u ix z c * 64) (set_pages (c + 1) * 4) (set_byte u ix main z c) ++ wipes c
    build_is main z c = rw (append-nil (erases (side_block u ix c) (set_blocks c)))

    build_order : (main : List ℕ) (z c : ℕ) → EraseOrder (build_ops u ix main z c)
    unfolding EraseOrder ProgramsNone
    build_order main z c =
        rw (build_is main z c)
        (programs_order 1 (set_block u ix z c * 64) (set_pages (c + 1) * 4) (set_byte u ix main z c) (wipes c)
        (erases_order ix.first 1 (erases (side_block u ix c) (set_blocks c) ++ [])
        (λ x. erases_none x (side_block u ix c) (set_blocks c) [] tt)
        (erases_order (side_block u ix c) (set_blocks c) [] (λ x. tt) tt)))

    build_from : (main : List ℕ) (z c : ℕ) → B ≤ ix.first → ErasesFrom B (build_ops u ix main z c)
    unfolding ErasesFrom
    build_from main z c l =
        rw (build_is main z c)
        (programs_from 1 (set_block u ix z c * 64) (set_pages (c + 1) * 4) (set_byte u ix main z c) (wipes c)
        (erases_from ix.first 1 (erases (side_block u ix c) (set_blocks c) ++ []) l
        (erases_from (side_block u ix c) (set_blocks c) [] (omega (arith, l, (side_range u ix c).0)) tt)))

    filter_order : (C : Flash) (N : ℕ) (ram : List ℕ) → EraseOrder (filter_ops u ix C N ram)
    unfolding flush_and_build_ops
    filter_order C N ram =
        order_if (eqb (in_ska N + 1) 8) _
        (programs_order 16 (ix.first * 64 + in_l1 N) 4 (λ i y. get_or ram (ix.ska + (i * sector u + y)) 0) _
        (order_if (eqb (in_l1 N + 1) 16) _ (build_order _ (in_full u N) (in_set u N))))

    filter_from : (C : Flash) (N : ℕ) (ram : List ℕ) → B ≤ ix.first → ErasesFrom B (filter_ops u ix C N ram)
    unfolding flush_and_build_ops
    filter_from C N ram l =
        from_if (eqb (in_ska N + 1) 8) _
        (programs_from 16 (ix.first * 64 + in_l1 N) 4 (λ i y. get_or ram (ix.ska + (i * sector u + y)) 0) _
        (from_if (eqb (in_l1 N + 1) 16) _ (build_from _ (in_full u N) (in_set u N) l)))

-- ---- a deletion, an insertion, both

module _ (h : Family) (sizes : Sizes) (ok : SizesSound sizes) where
  abbrev g : Geometry
  g = geometry sizes

  abbrev u : ℕ
  u = unit_of sizes

  abbrev unit : UnitIs (unit_of sizes) ok.e
  unit = units.unit sizes ok

  -- the index over DA is all that a deletion erases of
  abbrev B : ℕ
  B = deletion_index_block g

  deletion_order : (d j : ℕ) (ram : List ℕ) (C : Flash) → EraseOrder (plan_ops u (deletion_plan h g d j ram) C)
  deletion_order d j ram C =
      rw (deletion_ops_lem h g d j ram ok.e unit C)
      (item_order u B (DA g) d (deletion_bytes j) ram _ (order_if u B (fills (DA g) d) _
      (filter_order u B (deletion_index g) (apply_all u (number_ops g d j ram) C) (deletion_filters g d + 1)
      (both_halves h g d j ram))))

  deletion_from : (d j : ℕ) (ram : List ℕ) (C : Flash) → ErasesFrom B (plan_ops u (deletion_plan h g d j ram) C)
  deletion_from d j ram C =
      rw (deletion_ops_lem h g d j ram ok.e unit C)
      (item_from u B (DA g) d (deletion_bytes j) ram _ (from_if u B (fills (DA g) d) _
      (filter_from u B (deletion_index g) (apply_all u (number_ops g d j ram) C) (deletion_filters g d + 1)
      (both_halves h g d j ram) (omega arith))))

  insertion_order : (n : ℕ) (key : Key) (bytes ram : List ℕ) (C : Flash) → length bytes ≡ 16
      → EraseOrder (plan_ops u (insertion_plan h g n key bytes ram) C)
  insertion_order n key bytes ram C size =
      rw (insertion_ops_lem h g n key bytes ok.e unit size ram C)
      (item_order u B (Ra g) n bytes ram _ (item_order u B (KA g) n (entry_bytes key n) (record_ram g n bytes ram) _
      (order_if u B (fills (KA g) n) _
      (filter_order u B (key_index g) (entered g n key bytes ram C) (key_filters g n) (filtered_ram h g n key bytes ram)))))

  update_order : (n d j : ℕ) (key : Key) (bytes ram : List ℕ) (C : Flash) → n < record_capacity g → length bytes ≡ 16
      → EraseOrder (plan_ops u (deletion_plan h g d j ram ++ insertion_plan h g n key bytes ram) C)
  update_order n d j key bytes ram C room size =
      let ops : List Op = plan_ops u (deletion_plan h g d j ram) C in
      let C₁ : Flash = apply_all u ops C in
      rw (ops_append u (deletion_plan h g d j ram) (insertion_plan h g n key bytes ram) C)
      (order_append B ops _ (deletion_order d j ram C) (deletion_from d j ram C) (insertion_order n key bytes ram C₁ size)
      (inside_below u B _ (insertion_inside h sizes ok n key bytes ram C₁ room size B (omega arith))))

  -- ---- every call

  order_either : (b : Bool) (r s : Result) → (b ≡ true → EraseOrder r.ops) → (b ≡ false → EraseOrder s.ops)
      → EraseOrder (cond b r s).ops
  order_either true r s p q = p refl
  order_either false r s p q = q refl

  module _ (v : Volume) where
    commit_order : (n d : ℕ) (plan : List Planned) (ram : List ℕ) → EraseOrder (plan_ops u plan v.flash)
        → EraseOrder (commit g v n d plan ram).ops
    unfolding commit EraseOrder
    commit_order n d plan ram o = order_either (all_fresh v.flash.spare (plan_ops u plan v.flash)) _ _ (λ a. o) (λ a. tt)

    insert_order : (r : Record) (s : Option Stop) → EraseOrder (insert_after h g v r s).ops
    unfolding change_by EraseOrder
    insert_order r (some corrupt) = tt
    insert_order r (some (found j)) = tt
    insert_order r none =
        order_either (no_room g v) _ _ (λ a. tt)
        (λ a. commit_order _ _ _ _ (insertion_order _ r.key (record_bytes r) v.ram v.flash (length_record r)))

    update_ordered : (r : Record) (s : Option Stop) → EraseOrder (update_after h g v r s).ops
    unfolding change_by EraseOrder
    update_ordered r (some corrupt) = tt
    update_ordered r none = insert_order r none
    update_ordered r (some (found j)) =
        order_either (no_room g v) _ _ (λ a. tt)
        (λ a. order_either (no_deletion g v) _ _ (λ b. tt)
        (λ b. commit_order _ _ _ _ (update_order v.state.records v.state.deletions j r.key (record_bytes r) v.ram v.flash
        (leb-false (record_capacity g) v.state.records a) (length_record r))))

    delete_order : (s : Option Stop) → EraseOrder (delete_after h g v s).ops
    unfolding change_by EraseOrder
    delete_order (some corrupt) = tt
    delete_order none = tt
    delete_order (some (found j)) =
        order_either (no_deletion g v) _ _ (λ b. tt)
        (λ b. commit_order _ _ _ _ (rw (append-nil (deletion_plan h g v.state.deletions j v.ram))
        (deletion_order v.state.deletions j v.ram v.flash)))

    lookup_order : (opened da_pages : ℕ) (s : Option Stop) → EraseOrder (lookup_after g v opened da_pages s).ops
    unfolding lookup_after EraseOrder
    lookup_order opened da_pages (some corrupt) = tt
    lookup_order opened da_pages none = tt
    lookup_order opened da_pages (some (found j)) = tt

    answer_order : (c : Call) → EraseOrder (answer h g v c).ops
    answer_order (insert r) = insert_order r (search h g v r.key).stop
    answer_order (update r) = update_ordered r (search h g v r.key).stop
    answer_order (delete key) = delete_order (search h g v key).stop
    answer_order (lookup key) = lookup_order (search h g v key).opened _ (search h g v key).stop

pub erase_order : (h : Family) (v : Volume) (c : Call) → EraseOrder (call h v c).ops
unfolding call judge_first EraseOrder
erase_order h v c =
    either (bool? (bad_state v.state))
    (λ a. rw a tt)
    (λ a. either (bool? (too_short (geometry v.state.sizes) v.flash v.ram))
    (λ b. rw (a, b) tt)
    (λ b. rw (a, b) (answer_order h v.state.sizes (sound _ (state_allowed v a)) v c)))
