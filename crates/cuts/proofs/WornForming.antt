-- A format on any volume, cut, restarted, cut again and finished, on any other spare bytes: it reads none and erases all, so that each of
-- its runs is the same, and the one that finishes it leaves the volume's spare bytes as on a sound chip. Document 02, §3 and §8.
use Rattle.std.specs.Prelude.{◌≡◌, ◌⊎◌, true, false, List, [], ◌∷◌, ◌++◌, ℕ, suc, ◌+◌, ◌≤◌, ◌<◌, length, get_or, take}
use Rattle.std.proofs.Math.Path.{refl, ap}
use Rattle.std.proofs.Common.{sym, ◌∙◌, inl, inr, arith}
use Rattle.memory.specs.Cases.{either, lt?}
use Rattle.layout.specs.Geometry.{State, state_of, Geometry, geometry, allowed, blocks, spare_size, Sizes, unit_of}
use Rattle.layout.specs.Flash.{Op, Flash, flash_of, apply_all, erases, fresh}
use Rattle.layout.specs.Hash.{Family}
use Rattle.layout.specs.Calls.{Volume, Result, too_short, format}
use Rattle.layout.specs.Header.{pages, on_pages, format_intended, finished, Pending, nothing, changing, formatting, unknown, pending_in}
use Rattle.layout.specs.Budgets.{store, memory, steps, chips, last_steps, call_steps, taken, pending_on, format_for, format_whole, resumed}
use Rattle.layout.specs.Budgets.{restart_for, pending_ops, restart_whole}
use Rattle.laws.specs.FreshLaws.{none_wrong}
use Rattle.laws.specs.Sound.{SizesSound, sound}
use Rattle.laws.specs.Sound as units
use Rattle.history.proofs.FlashLaws.{apply_main_length, apply_spare_length}
use Rattle.history.proofs.RunLaws.{start_spare}
use Rattle.history.specs.Worn.{Worn, with_spare}
use Rattle.history.specs.WornCalls.{redone}
use Rattle.history.proofs.WornCalls as worn
use Rattle.history.proofs.WornRuns.{redone_same}
use Rattle.cuts.proofs.Finish.{steps_cut, short_same}
use Rattle.cuts.proofs.RestartLaws.{restart_is}
use Rattle.cuts.proofs.Whole as whole
use Rattle.cuts.proofs.Formats as formats
use Rattle.cuts.specs.EveryCut.{sizes_named}
use Rattle.cuts.proofs.EveryCut.{header_fits}
use Rattle.cuts.specs.ByFresh.{spare_read}
use Rattle.cuts.proofs.ByFresh.{format_done, format_redone, format_whole_redone, restart_done, restart_redone}
use Rattle.cuts.proofs.ByFresh.{restart_whole_redone}
use Rattle.cuts.specs.WornEvents.{Run, spare_used, used_on}
use Rattle.cuts.specs.WornSteady.{NoFormat, Steady}
use Rattle.cuts.proofs.WornSteady.{none_names}
use Rattle.cuts.specs.WornForming.{Forming, FormingOn}

-- ---- how many spare bytes count

pub used_steady : (sizes : Sizes) (v : Volume) → Steady sizes v → used_on sizes v ≡ spare_size (geometry sizes)
used_steady sizes v S = by (pending_in v.ram) S.names.1
  where
    by : (p : Pending) → NoFormat p → spare_used sizes p ≡ spare_size (geometry sizes)
    by nothing n = refl
    by (changing c) n = refl
    by (formatting new) n = absurd n
    by unknown n = refl

pub used_forming : (sizes : Sizes) (v : Volume) → Forming sizes v → used_on sizes v ≡ spare_used sizes (formatting sizes)
used_forming sizes v F = ap (spare_used sizes) F.pending_is_lem

module _ (h : Family) (sizes : Sizes) (can : allowed sizes ≡ true) where
  abbrev g : Geometry
  g = geometry sizes

  abbrev u : ℕ
  u = unit_of sizes

  ok : SizesSound sizes
  ok = sound sizes can

  abbrev ops : List Op
  ops = erases 0 (blocks g)

  -- all is erased
  erased : (x : Volume) → too_short g x.flash x.ram ≡ false → (a : ℕ) → a < spare_size g
      → get_or (apply_all u ops x.flash).spare a 0 ≡ 255
  erased x long a l = (start_spare h sizes ok can x long).1 a l

  -- after a run of the format: it is pending still, or all is erased and finished
  abbrev After : Result → Type 0
  After r = Forming sizes r.volume ⊎ (Steady sizes r.volume × (r.ops ≡ ops))

  -- b of its erases are done
  waiting : (b : ℕ) (c : Flash) (ram d : List ℕ) (st : State) → b ≤ length ops → pending_in ram ≡ formatting sizes
      → too_short g c (pages ram) ≡ false
      → Forming sizes (record {
        state = st;
        flash = (steps u (take b (chips ops ++ (store d ∷ []))) (memory c ram)).flash;
        ram = (steps u (take b (chips ops ++ (store d ∷ []))) (memory c ram)).ram;
      })
  waiting b c ram d st l p long =
      rw (steps_cut u d ops b c ram l)
      (record {
        pending_is_lem = p;
        long = short_same g (apply_all u (take b ops) c) c (pages ram) (apply_main_length u (take b ops) c)
            (apply_spare_length u (take b ops) c)
            ∙ long;
      })

  module _ (v : Volume) (long : too_short g v.flash (pages v.ram) ≡ false) where
    -- what the format gives on its chip and pages
    abbrev r : Result
    r = formats.result h v sizes can long v.flash

    made : (w : Volume) → w.flash ≡ v.flash → w.ram ≡ pages v.ram → format w sizes ≡ r
    made w c p = formats.format_on h v sizes can long w p (rw c long) ∙ ap (formats.result h v sizes can long) c

    over : Steady sizes (record { state = state_of sizes 0 0; flash = apply_all u ops v.flash; ram = finished r.volume })
    over = record {
      state_is_lem = refl;
      names = none_names r.volume.ram (state_of sizes 0 0) can;
      written = λ x l. inr (erased (on_pages v) long x l);
    }

    -- ---- a run that is redone

    module _ (run : Run) (done : apply_all u (run v).ops v.flash ≡ (run v).volume.flash) (after : After (run v)) where
      module _ (spare : List ℕ) (e : length spare ≡ length v.flash.spare) where
        abbrev other : Flash
        other = apply_all u (run v).ops (flash_of v.flash.main spare)

        length_same : length other.spare ≡ length (run v).volume.flash.spare
        length_same =
            apply_spare_length u (run v).ops (flash_of v.flash.main spare) ∙ e ∙ sym (apply_spare_length u (run v).ops v.flash)
            ∙ ap (λ (c : Flash). length c.spare) done

        -- all erased on both
        both_erased : (run v).ops ≡ ops → Worn (spare_size g) (run v).volume.flash.spare other.spare
        both_erased o = record {
          long = length_same;
          wrong = λ x l.
              let here : get_or (run v).volume.flash.spare x 0 ≡ 255 = rw (← done, o) (erased (on_pages v) long x l) in
              let there : get_or other.spare x 0 ≡ 255
              = rw o (erased (with_spare spare (on_pages v)) (worn.short_same g (on_pages v) spare e ∙ long) x l) in
              rw (here, there, none_wrong 255) (omega arith);
        }

        leaves : Worn (used_on sizes (run v).volume) (run v).volume.flash.spare other.spare
        leaves =
            either after
            (λ F. rw (used_forming sizes (run v).volume F) (record { long = length_same; wrong = λ x l. absurd (omega arith) }))
            (λ S. rw (used_steady sizes (run v).volume S.0) (both_erased S.1))

      forming_on : ((spare : List ℕ) → length spare ≡ length v.flash.spare → run (with_spare spare v) ≡ redone sizes spare v (run v))
          → FormingOn sizes v run
      forming_on again = record {
        same = λ spare W. rw (again spare W.long) (redone_same sizes v spare (run v) W.long done, leaves spare W.long);
        next = either after (λ F. inl F) (λ S. inr S.0);
      }

    -- ---- the format itself

    first_is : (b : ℕ) → format_for b v sizes ≡ taken b u v (call_steps (format_intended v sizes) r) r
    unfolding format_for
    first_is b = ap (λ (x : Result). taken b u v (call_steps (format_intended v sizes) x) x) (made (on_pages v) refl refl)

    first_ends : (b : ℕ) → length ops < b → Steady sizes (format_for (suc b) v sizes).volume × ((format_for (suc b) v sizes).ops ≡ ops)
    first_ends b l = rw (first_is (suc b) ∙ whole.call_enough u v r refl (format_intended v sizes) b l) (over, refl)

    first_after : (b : ℕ) → After (format_for (suc b) v sizes)
    first_after b =
        either (lt? (length ops) b) (λ l. inr (first_ends b l.1))
        (λ l. inl (rw (first_is (suc b))
        (waiting b v.flash (format_intended v sizes) (finished r.volume) _ l.1 (formats.pending_is_lem h v sizes can long)
        (rw (formats.pages_back h v sizes can long) long))))

    pub format_forming : (b : ℕ) → FormingOn sizes v (λ x. format_for (suc b) x sizes)
    format_forming b =
        forming_on (λ x. format_for (suc b) x sizes) (format_done (suc b) v sizes) (first_after b) (format_redone (suc b) v sizes)

    whole_ends : Steady sizes (format_whole v sizes).volume × ((format_whole v sizes).ops ≡ ops)
    whole_ends =
        let n : length (format (on_pages v) sizes).ops ≡ length ops = ap (λ (x : Result). length x.ops) (made (on_pages v) refl refl) in
        let b : length (format (on_pages v) sizes).ops + 2 ≡ suc (length (format (on_pages v) sizes).ops + 1) = omega arith in
        rw b (first_ends (length (format (on_pages v) sizes).ops + 1) (omega (arith, n)))

    pub format_whole_forming : FormingOn sizes v (λ x. format_whole x sizes) × Steady sizes (format_whole v sizes).volume
    format_whole_forming = (
      forming_on (λ x. format_whole x sizes) (format_done _ v sizes) (inr whole_ends) (format_whole_redone v sizes),
      whole_ends.0,
    )

  -- ---- a restart that finds it

  module _ (v : Volume) (F : Forming sizes v) where
    abbrev f : Result
    f = r v F.long

    again_is : (b : ℕ) → restart_for h b v ≡ taken b u v (last_steps f) f
    again_is b =
        restart_is h b v (header_fits g v.flash v.ram (units.pu sizes ok) F.long)
        ∙ ap (resumed h b v) F.pending_is_lem
        ∙ ap (λ (x : Result). taken b u v (last_steps x) x) (made v F.long (pending_on v) refl refl)

    ends : (b : ℕ) → length ops < b → Steady sizes (restart_for h b v).volume × ((restart_for h b v).ops ≡ ops)
    ends b l = rw (again_is b ∙ whole.last_enough u v f refl b l) (over v F.long, refl)

    restart_after : (b : ℕ) → After (restart_for h b v)
    restart_after b =
        either (lt? (length ops) b) (λ l. inr (ends b l.1))
        (λ l. inl (rw (again_is b) (waiting b v.flash v.ram (finished f.volume) _ l.1 F.pending_is_lem F.long)))

    enough : length ops < length (pending_ops h v (pending_in v.ram)) + 1
    enough =
        let e : pending_ops h v (pending_in v.ram) ≡ ops
        = ap (pending_ops h v) F.pending_is_lem ∙ ap (λ (x : Result). x.ops) (made v F.long (pending_on v) refl refl) in
        omega (arith, ap length e)

    named : sizes_named (pending_in v.ram) v.ram ≡ sizes
    named = ap (λ (p : Pending). sizes_named p v.ram) F.pending_is_lem

    -- it reads no spare byte
    none_read : (spare : List ℕ) (x : ℕ) → x < spare_read (pending_in v.ram) v.ram
        → fresh (get_or spare x 0) ≡ fresh (get_or v.flash.spare x 0)
    none_read spare x l =
        let none : spare_read (pending_in v.ram) v.ram ≡ 0 = ap (λ (p : Pending). spare_read p v.ram) F.pending_is_lem in
        absurd (omega (arith, none, l))

    pub restart_forming : (b : ℕ) → FormingOn sizes v (restart_for h b)
    restart_forming b =
        forming_on v F.long (restart_for h b) (rw named at (restart_done h v b)) (restart_after b)
        (λ spare e. rw named at (restart_redone h v spare e (none_read spare) b))

    pub restart_whole_forming : FormingOn sizes v (restart_whole h) × Steady sizes (restart_whole h v).volume
    restart_whole_forming =
        let b : ℕ = length (pending_ops h v (pending_in v.ram)) + 1 in
        let E = ends (length (pending_ops h v (pending_in v.ram)) + 1) enough in (
          forming_on v F.long (restart_whole h) (rw named at (restart_done h v b)) (inr E)
              (λ spare e. rw named at (restart_whole_redone h v spare e (none_read spare))),
          E.0,
        )
