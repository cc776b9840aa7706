-- The operations of the layout's plans have the shapes that a restart needs, those of an update, with erases in their middle, included.
use Rattle.std.specs.Prelude.{◌≡◌, Bool, true, false, cond, List, [], ◌∷◌, ◌++◌, length, eqb}
use Rattle.std.proofs.Common.{sym, ap, ◌∙◌, append_assoc, append-nil, arith}
use Prim.Native.Nat.{ℕ, suc, ◌+◌, ◌-◌, ◌*◌, ◌/◌, ◌^◌, ◌≤◌, ◌<◌}
use Rattle.std.proofs.Math.Nat.{mod-lt}
use Rattle.std.proofs.Math.ListN.{get_or}
use Rattle.memory.specs.Cases.{either, bool?}
use Rattle.memory.specs.Lists.{tabulate}
use Rattle.layout.specs.Geometry.{Geometry, index_block, deletion_index_block}
use Rattle.layout.specs.Flash.{Op, program, erase, Flash, apply_all, erases, plan_ops}
use Rattle.layout.specs.Hash.{Family}
use Rattle.layout.specs.Keys.{Key}
use Rattle.layout.specs.Items.{Area, Ra, KA, DA, entry_bytes, deletion_bytes, put, fills}
use Rattle.layout.specs.Index.{Index, in_ska, in_l1, in_set, in_full, set_pages, set_blocks, side_block, set_block, set_byte}
use Rattle.layout.specs.Calls.{key_index, key_filters, deletion_index, deletion_filters, deletion_plan, insertion_plan}
use Rattle.laws.specs.SetLaws.{unit_pos, blocks_fit, side_range}
use Rattle.laws.specs.Units.{UnitIs}
use Rattle.history.specs.Operations.{programs, item_ops, flush_ops, build_ops, flush_and_build_ops, filter_ops, number_ops, both_halves}
use Rattle.history.specs.Operations.{record_ops, record_ram, entry_ops, entered, filtered_ram}
use Rattle.history.proofs.ChangeLaws.{deletion_ops_lem, insertion_ops_lem}
use Rattle.history.specs.FlashLaws.{AllAllowed}
use Rattle.history.specs.ProgramOrder.{Below}
use Rattle.history.proofs.RowLaws.{blocks_le}
use Rattle.cuts.specs.CutLaws.{OnlyErases, NoProgram, Survives}
use Rattle.cuts.specs.Kept.{Sized, ErasesIn}
use Rattle.cuts.proofs.Kept.{sized_append, erases_in_append, sized_programs, sized_erases, erases_in}
use Rattle.cuts.specs.Resume.{Fit}
use Rattle.cuts.specs.Shape.{OnlyPrograms}
use Rattle.cuts.proofs.Shape.{programs_only, erases_only, erases_append, programs_last, apart_erases, apart_programs}
use Rattle.cuts.specs.Shape.{Begins, Clear}
use Rattle.cuts.proofs.Shape.{anchored_erases, anchored_programs, anchored_only, anchored_append, apart_append}
use Rattle.cuts.proofs.Anchors.{set_some, set_survives}
use Rattle.cuts.specs.PlanShapes.{Shaped}

pub shaped_fit : (u lo hi : ℕ) (os : List Op) (c : Flash) → Shaped u lo hi os → AllAllowed u os c → Fit u os c
shaped_fit u lo hi os c X a = record { allowed = a; apart = X.apart; anchored = X.anchored }

begins_append : (xs ys : List Op) → Begins xs → Begins ys → Begins (xs ++ ys)
begins_append [] ys p q = q
begins_append (program s b ∷ os) ys p q = tt
begins_append (erase b ∷ os) ys p q = absurd p

begins_programs : (os : List Op) → OnlyPrograms os → Begins os
begins_programs [] o = tt
begins_programs (program s b ∷ os) o = tt
begins_programs (erase b ∷ os) o = absurd o

programs_erase_none : (lo hi : ℕ) (os : List Op) → OnlyPrograms os → ErasesIn lo hi os
programs_erase_none lo hi [] o = tt
programs_erase_none lo hi (program s b ∷ os) o = programs_erase_none lo hi os o
programs_erase_none lo hi (erase b ∷ os) o = absurd o

clear_programs : (xs ys : List Op) → OnlyPrograms xs → Clear xs ys
clear_programs [] ys o = tt
clear_programs (program s b ∷ os) ys o = clear_programs os ys o
clear_programs (erase b ∷ os) ys o = absurd o

-- erases of blocks from lo on, and programs below
pub clear_below : (lo hi : ℕ) (xs ys : List Op) → ErasesIn lo hi xs → Below (lo * 64) ys → Clear xs ys
clear_below lo hi [] ys e l = tt
clear_below lo hi (program s b ∷ os) ys e l = clear_below lo hi os ys e l
clear_below lo hi (erase b ∷ os) ys e l = (none ys l, clear_below lo hi os ys e.2 l)
  where
    none : (ys : List Op) → Below (lo * 64) ys → NoProgram b ys
    none [] l = tt
    none (program s x ∷ ys) l = ((λ q. omega (arith, q, e.0, l.0)), none ys l.1)
    none (erase k ∷ ys) l = none ys l

erases_wider : (lo hi lo' hi' : ℕ) (os : List Op) → lo' ≤ lo → hi ≤ hi' → ErasesIn lo hi os → ErasesIn lo' hi' os
erases_wider lo hi lo' hi' [] a b e = tt
erases_wider lo hi lo' hi' (program s x ∷ os) a b e = erases_wider lo hi lo' hi' os a b e
erases_wider lo hi lo' hi' (erase k ∷ os) a b e = (omega (arith, a, e.0), omega (arith, b, e.1), erases_wider lo hi lo' hi' os a b e.2)

pub shaped_wider : (u lo hi lo' hi' : ℕ) (os : List Op) → lo' ≤ lo → hi ≤ hi' → Shaped u lo hi os → Shaped u lo' hi' os
shaped_wider u lo hi lo' hi' os a b X =
    record {
      apart = X.apart;
      anchored = X.anchored;
      begins = X.begins;
      sized = X.sized;
      erasing = erases_wider lo hi lo' hi' os a b
          X.erasing;
    }

module _ (u lo hi : ℕ) where
  none_shaped : Shaped u lo hi []
  none_shaped = record { apart = tt; anchored = tt; begins = tt; sized = tt; erasing = tt }

  -- a list, or none
  shaped_if : (b : Bool) (os : List Op) → Shaped u lo hi os → Shaped u lo hi (cond b os [])
  shaped_if true os X = X
  shaped_if false os X = none_shaped

  pub shaped_append : (xs ys : List Op) → Shaped u lo hi xs → Shaped u lo hi ys → Clear xs ys → Shaped u lo hi (xs ++ ys)
  shaped_append xs ys X Y c = record {
    apart = apart_append xs ys X.apart Y.apart c;
    anchored = anchored_append xs ys X.anchored Y.anchored Y.begins;
    begins = begins_append xs ys X.begins Y.begins;
    sized = sized_append u xs ys X.sized Y.sized;
    erasing = erases_in_append lo hi xs ys X.erasing Y.erasing;
  }

  shaped_programs : (os : List Op) → OnlyPrograms os → Sized u os → Shaped u lo hi os
  shaped_programs os o z = record {
    apart = rw append-nil at (apart_programs os [] o tt);
    anchored = anchored_only os o;
    begins = begins_programs os o;
    sized = z;
    erasing = programs_erase_none lo hi os o;
  }

  -- programs, then a list of that shape
  after_programs : (xs ys : List Op) → OnlyPrograms xs → Sized u xs → Shaped u lo hi ys → Shaped u lo hi (xs ++ ys)
  after_programs xs ys o z Y = shaped_append xs ys (shaped_programs xs o z) Y (clear_programs xs ys o)

  -- sectors in a row, then erases that leave the last one alone
  set_shaped : (s k last : ℕ) (f : ℕ → ℕ → ℕ) (es : List Op) → suc last ≡ k → OnlyErases es → Survives (s + last * 1) es → Sized u es
      → ErasesIn lo hi es
      → Shaped u lo hi (programs u 1 s k f ++ es)
  set_shaped s k last f es q o v z e =
      let most : List Op = programs u 1 s last f in
      let end : List ℕ = tabulate (16 * u) (f last) in
      let is : programs u 1 s (suc last) f ++ es ≡ programs u 1 s last f ++ (program (s + last * 1) (tabulate (16 * u) (f last)) ∷ es)
      = ap (λ (l : List Op). l ++ es) (programs_last u 1 s last f)
      ∙ append_assoc (programs u 1 s last f) (program (s + last * 1) (tabulate (16 * u) (f last)) ∷ []) es in
      let p : OnlyPrograms (programs u 1 s last f) = programs_only u 1 s last f in
      let pp : OnlyPrograms (programs u 1 s (suc last) f) = programs_only u 1 s (suc last) f in
      rw (← q)
      (record {
        apart = rw (sym is) at (apart_programs (programs u 1 s last f) (program (s + last * 1) (tabulate (16 * u) (f last)) ∷ es) p
            (apart_erases es o));
        anchored = rw (sym is) at (anchored_programs (programs u 1 s last f) (s + last * 1) (tabulate (16 * u) (f last)) es p
            (v, anchored_erases es o));
        begins = tt;
        sized = sized_append u (programs u 1 s (suc last) f) es (sized_programs u 1 s (suc last) f) z;
        erasing = erases_in_append lo hi (programs u 1 s (suc last) f) es (programs_erase_none lo hi (programs u 1 s (suc last) f) pp) e;
      })

-- ---- the operations of an item

item_only : (u : ℕ) (a : Area) (n : ℕ) (item ram : List ℕ) → OnlyPrograms (item_ops u a n item ram)
item_only u a n item ram =
    either (bool? (fills a n))
    (λ q. rw q (programs_only u 1 (a.first * 64 + n / a.per_page * 4) 4 (λ j y. get_or (put a n item ram) (a.ram + (j * (16 * u) + y)) 0)))
    (λ q. rw q tt)

item_sized : (u : ℕ) (a : Area) (n : ℕ) (item ram : List ℕ) → Sized u (item_ops u a n item ram)
item_sized u a n item ram =
    either (bool? (fills a n))
    (λ q. rw q (sized_programs u 1 (a.first * 64 + n / a.per_page * 4) 4 (λ j y. get_or (put a n item ram) (a.ram + (j * (16 * u) + y)) 0)))
    (λ q. rw q tt)

-- ---- of an index

module _ (u e : ℕ) (pow : u ≡ 2 ^ e) (ix : Index) where
  abbrev hi : ℕ
  hi = ix.first + 1 + 8 * u

  build_shaped : (main : List ℕ) (z c : ℕ) → c < 4 * u → Shaped u ix.first hi (build_ops u ix main z c)
  build_shaped main z c hc =
      let some : 0 < set_pages (c + 1) * 4 = set_some u e pow ix z c hc in
      let count : suc (set_pages (c + 1) * 4 - 1) ≡ set_pages (c + 1) * 4 = omega arith in
      let k_fit : set_blocks c ≤ 4 * u = blocks_le c (4 * u) (blocks_fit u e pow c (omega (arith, hc))) in
      let s = side_range u ix c in
      set_shaped u ix.first hi (set_block u ix z c * 64) (set_pages (c + 1) * 4) (set_pages (c + 1) * 4 - 1) (set_byte u ix main z c)
      (erases ix.first 1 ++ erases (side_block u ix c) (set_blocks c)) count
      (erases_append (erases ix.first 1) (erases (side_block u ix c) (set_blocks c)) (erases_only ix.first 1)
      (erases_only (side_block u ix c) (set_blocks c)))
      (set_survives u e pow ix z c hc (set_pages (c + 1) * 4 - 1) count)
      (sized_append u (erases ix.first 1) (erases (side_block u ix c) (set_blocks c)) (sized_erases u ix.first 1)
      (sized_erases u (side_block u ix c) (set_blocks c)))
      (erases_in_append ix.first hi (erases ix.first 1) (erases (side_block u ix c) (set_blocks c))
      (erases_in ix.first hi ix.first 1 (omega arith) (omega arith))
      (erases_in ix.first hi (side_block u ix c) (set_blocks c) (omega (arith, s.0)) (omega (arith, s.1, k_fit))))

  flush_shaped : (C : Flash) (F : ℕ) (ram : List ℕ) → Shaped u ix.first hi (flush_and_build_ops u ix C F ram)
  unfolding flush_and_build_ops
  flush_shaped C F ram =
      let f : ℕ → ℕ → ℕ = λ i y. get_or ram (ix.ska + (i * (16 * u) + y)) 0 in
      let c_lt : in_set u F < 4 * u = mod-lt (F / 8 / 16) (let p = unit_pos u e pow in omega (arith, p)) in
      after_programs u ix.first hi (flush_ops u ix (in_l1 F) ram)
      (cond (eqb (in_l1 F + 1) 16) (build_ops u ix (apply_all u (flush_ops u ix (in_l1 F) ram) C).main (in_full u F) (in_set u F)) [])
      (programs_only u 16 (ix.first * 64 + in_l1 F) 4 (λ i y. get_or ram (ix.ska + (i * (16 * u) + y)) 0))
      (sized_programs u 16 (ix.first * 64 + in_l1 F) 4 (λ i y. get_or ram (ix.ska + (i * (16 * u) + y)) 0))
      (shaped_if u ix.first hi (eqb (in_l1 F + 1) 16) _
      (build_shaped (apply_all u (flush_ops u ix (in_l1 F) ram) C).main (in_full u F) (in_set u F) c_lt))

  pub filter_shaped : (C : Flash) (F : ℕ) (ram : List ℕ) → Shaped u ix.first hi (filter_ops u ix C F ram)
  filter_shaped C F ram = shaped_if u ix.first hi (eqb (in_ska F + 1) 8) _ (flush_shaped C F ram)

-- ---- of a deletion, and of an insertion

module _ (h : Family) (g : Geometry) (e : ℕ) (unit : UnitIs g.u e) where
  pub deletion_shaped : (d j : ℕ) (ram : List ℕ) (C : Flash)
      → Shaped g.u (deletion_index_block g) (deletion_index_block g + 1 + 8 * g.u) (plan_ops g.u (deletion_plan h g d j ram) C)
  deletion_shaped d j ram C =
      rw (deletion_ops_lem h g d j ram e unit C)
      (after_programs g.u (deletion_index_block g) (deletion_index_block g + 1 + 8 * g.u) (number_ops g d j ram) _
      (item_only g.u (DA g) d (deletion_bytes j) ram) (item_sized g.u (DA g) d (deletion_bytes j) ram)
      (shaped_if g.u (deletion_index_block g) (deletion_index_block g + 1 + 8 * g.u) (fills (DA g) d) _
      (filter_shaped g.u e unit.power (deletion_index g) (apply_all g.u (number_ops g d j ram) C) (deletion_filters g d + 1)
      (both_halves h g d j ram))))

  pub insertion_shaped : (n : ℕ) (key : Key) (bytes ram : List ℕ) (C : Flash) → length bytes ≡ 16
      → Shaped g.u (index_block g) (index_block g + 1 + 8 * g.u) (plan_ops g.u (insertion_plan h g n key bytes ram) C)
  insertion_shaped n key bytes ram C size =
      rw (insertion_ops_lem h g n key bytes e unit size ram C)
      (after_programs g.u (index_block g) (index_block g + 1 + 8 * g.u) (record_ops g n bytes ram) _
      (item_only g.u (Ra g) n bytes ram) (item_sized g.u (Ra g) n bytes ram)
      (after_programs g.u (index_block g) (index_block g + 1 + 8 * g.u) (entry_ops g n key bytes ram) _
      (item_only g.u (KA g) n (entry_bytes key n) (record_ram g n bytes ram))
      (item_sized g.u (KA g) n (entry_bytes key n) (record_ram g n bytes ram))
      (shaped_if g.u (index_block g) (index_block g + 1 + 8 * g.u) (fills (KA g) n) _
      (filter_shaped g.u e unit.power (key_index g) (entered g n key bytes ram C) (key_filters g n)
      (filtered_ram h g n key bytes ram)))))
