-- Calls, format and restart with any budget on any volume, whatever its state and lent bytes: a refusal hands everything back, which
-- refusals there are, and bytes past the volume never change.
use Rattle.std.specs.Prelude.{◌≡◌, Bool, true, false, cond, ◌&&◌, ◌||◌, length, get_or, take, eqb, ltb}
use Rattle.std.proofs.Math.Path.{refl, ap}
use Rattle.std.proofs.Common.{◌∙◌, arith, length-append, get_or-take, length-take-le, ltb-false}
use Rattle.std.proofs.Math.Option.{Option, none, some}
use mathlib.Core.List.{List, [], ◌∷◌, ◌++◌}
use Prim.Native.Nat.{ℕ, zero, suc, ◌-◌, ◌≤◌, ◌<◌}
use Rattle.std.proofs.Math.ListN.{get_or-append}
use Rattle.memory.specs.Booleans.{or_eq_false_iff}
use Rattle.memory.specs.Cases.{either, bool?, le?}
use Rattle.memory.specs.Ranges.{memb}
use Rattle.memory.specs.Words.{words_bytes, length_words}
use Rattle.layout.specs.Geometry.{Geometry, geometry, allowed, blocks, main_size, spare_size, ram_size, Sizes, unit_of}
use Rattle.layout.specs.Flash.{Flash, Op, program, erase, apply, apply_all}
use Rattle.layout.specs.Hash.{Family}
use Rattle.layout.specs.Items.{Record}
use Rattle.layout.specs.Search.{Stop, found, corrupt}
use Rattle.layout.specs.Refusals as refusal
use Rattle.layout.specs.Calls.{Volume, Call, insert, update, delete, lookup, Outcome, accepted, hit, miss, refused, Result, refuse}
use Rattle.layout.specs.Calls.{bad_state, too_short, judge_first, format, formatted, search, one, no_room, no_deletion, Edit, change_by, insert_by}
use Rattle.layout.specs.Calls.{update_by, delete_by, answer_by, lookup_after, call}
use Rattle.layout.specs.Later.{commit_later, call_again}
use Rattle.layout.specs.Header.{pages, on_pages, intended, format_intended, kind_in, state_in, Pending, nothing, changing, formatting, unknown}
use Rattle.layout.specs.Header.{pending_in, state_size, header, header_bytes, intent_words, format_words, no_intent, finished}
use Rattle.layout.specs.Budgets.{store, chip, memory, steps, chips, ops_in}
use Rattle.layout.specs.Budgets.{Step, call_steps, last_steps, taken_by, taken, pending_on, result_of, call_for, format_for, resumed, restart_for}
use Rattle.laws.specs.HeaderLaws.{length_pages, length_header}
use Rattle.laws.specs.Sound as units
use Rattle.history.proofs.FlashLaws.{apply_main_length, apply_spare_length}
use Rattle.history.specs.Frames.{Beyond}
use Rattle.history.specs.Inside.{Inside}
use Rattle.history.proofs.Inside.{main_past, spare_past}
use Rattle.history.proofs.Every.{state_allowed, beyond_kept, format_beyond_kept, ops_inside, format_ops_inside, again_beyond_kept}
use Rattle.history.proofs.Every.{again_ops_inside}
use Rattle.history.specs.CallRefusals.{refusals_of, Among}
use Rattle.history.proofs.CallRefusals.{call_refusals, either_among}
use Rattle.cuts.proofs.Headers.{header_size_lem, intent_length}
use Rattle.cuts.proofs.Whole as whole
use Rattle.cuts.proofs.RestartLaws.{taken_outcome, restart_is, short_ram, restart_orderly}
use Rattle.cuts.specs.EveryCut.{cut_refusals, format_refusals, restart_refusals, KeptRam, CutBeyond, Stores, Unchanged}

-- ---- a refusal hands everything back, the state too, and does no operation

taken_back : (b u : ℕ) (v : Volume) (ss : List Step) (r : Result) (i : ℕ) → (taken b u v ss r).outcome ≡ refused i
    → taken b u v ss r ≡ refuse v i
taken_back b u v ss r i = by r.outcome
  where
    by : (o : Outcome) → (taken_by o b u v ss r).outcome ≡ refused i → taken_by o b u v ss r ≡ refuse v i
    by accepted e = absurd (let z : ◌≡◌ {A = ℕ} 0 1 = cc in omega arith)
    by (hit place bytes) e = absurd (let z : ◌≡◌ {A = ℕ} 0 1 = cc in omega arith)
    by miss e = absurd (let z : ◌≡◌ {A = ℕ} 0 1 = cc in omega arith)
    by (refused j) e = let same : j ≡ i = cc in ap (refuse v) same

pub cut_refusal_keeps : (h : Family) (b : ℕ) (v : Volume) (c : Call) (i : ℕ) → (call_for h b v c).outcome ≡ refused i
    → call_for h b v c ≡ refuse v i
unfolding call_for
cut_refusal_keeps h b v c i e =
    taken_back b (unit_of v.state.sizes) v (call_steps (intended v c) (result_of h v c)) (result_of h v c) i e

pub format_refusal_keeps : (b : ℕ) (v : Volume) (sizes : Sizes) (i : ℕ) → (format_for b v sizes).outcome ≡ refused i
    → format_for b v sizes ≡ refuse v i
unfolding format_for
format_refusal_keeps b v sizes i e =
    taken_back b (unit_of sizes) v (call_steps (format_intended v sizes) (format (on_pages v) sizes)) (format (on_pages v) sizes) i e

pub restart_refusal_keeps : (h : Family) (b : ℕ) (v : Volume) (i : ℕ) → (restart_for h b v).outcome ≡ refused i
    → restart_for h b v ≡ refuse v i
restart_refusal_keeps h b v i e = (restart_orderly h b v).refused_back i e

-- ---- which refusals there are

or-true : (t : Bool) → (t || true) ≡ true
or-true true = refl
or-true false = refl

more_among : (j : ℕ) (is : List ℕ) (o : Outcome) → Among is o → Among (j ∷ is) o
unfolding memb
more_among j is accepted a = tt
more_among j is (hit place bytes) a = tt
more_among j is miss a = tt
more_among j is (refused i) a = rw a (or-true (eqb j i))

first_two : (c : Call) → (memb refusal.bad_state (cut_refusals c) ≡ true) × (memb refusal.too_short (cut_refusals c) ≡ true)
unfolding memb
first_two (insert r) = (refl, refl)
first_two (update r) = (refl, refl)
first_two (delete key) = (refl, refl)
first_two (lookup key) = (refl, refl)

result_refusals : (h : Family) (v : Volume) (c : Call) → Among (cut_refusals c) (result_of h v c).outcome
unfolding call judge_first memb
result_refusals h v c =
    either (bool? (eqb (kind_in v.ram) 0))
    (λ q. rw q (more_among refusal.pending (refusals_of c) (call h (on_pages v) c).outcome (call_refusals h (on_pages v) c)))
    (λ q. rw q (either_among (cut_refusals c) (bad_state v.state) _ _ (first_two c).0
    (either_among (cut_refusals c) (too_short (geometry v.state.sizes) v.flash (pages v.ram)) _ _ (first_two c).1 refl)))

pub cut_refusals_lem : (h : Family) (b : ℕ) (v : Volume) (c : Call) → Among (cut_refusals c) (call_for h b v c).outcome
unfolding call_for
cut_refusals_lem h b v c =
    rw (taken_outcome b (unit_of v.state.sizes) v (call_steps (intended v c) (result_of h v c)) (result_of h v c)) (result_refusals h v c)

plain_format : (is : List ℕ) (v : Volume) (sizes : Sizes) → memb refusal.bad_state is ≡ true → memb refusal.too_short is ≡ true
    → Among is (format v sizes).outcome
unfolding format formatted
plain_format is v sizes p q =
    either_among is (allowed sizes) _ _ (either_among is (too_short (geometry sizes) v.flash v.ram) _ _ q tt) p

pub format_refusals_lem : (b : ℕ) (v : Volume) (sizes : Sizes) → Among format_refusals (format_for b v sizes).outcome
unfolding format_for memb
format_refusals_lem b v sizes =
    rw (taken_outcome b (unit_of sizes) v (call_steps (format_intended v sizes) (format (on_pages v) sizes)) (format (on_pages v) sizes))
    (plain_format format_refusals (on_pages v) sizes refl refl)

module _ (h : Family) (g : Geometry) (v : Volume) where
  change_among : (e : Edit) → Among restart_refusals (change_by commit_later h g v e).outcome
  unfolding change_by commit_later memb
  change_among e =
      either_among restart_refusals (one e.inserts && no_room g v) _ _ refl
      (either_among restart_refusals (one e.deletes && no_deletion g v) _ _ refl tt)

  insert_among : (r : Record) (s : Option Stop) → Among restart_refusals (insert_by commit_later h g v r s).outcome
  unfolding memb
  insert_among r none = change_among _
  insert_among r (some corrupt) = refl
  insert_among r (some (found j)) = refl

  update_among : (r : Record) (s : Option Stop) → Among restart_refusals (update_by commit_later h g v r s).outcome
  unfolding memb
  update_among r none = change_among _
  update_among r (some corrupt) = refl
  update_among r (some (found j)) = change_among _

  delete_among : (s : Option Stop) → Among restart_refusals (delete_by commit_later h g v s).outcome
  unfolding memb
  delete_among none = refl
  delete_among (some corrupt) = refl
  delete_among (some (found j)) = change_among _

  lookup_among : (opened da_pages : ℕ) (s : Option Stop) → Among restart_refusals (lookup_after g v opened da_pages s).outcome
  unfolding lookup_after memb
  lookup_among opened da_pages none = tt
  lookup_among opened da_pages (some corrupt) = refl
  lookup_among opened da_pages (some (found j)) = tt

  answer_among : (c : Call) → Among restart_refusals (answer_by commit_later h g v c).outcome
  answer_among (insert r) = insert_among r (search h g v r.key).stop
  answer_among (update r) = update_among r (search h g v r.key).stop
  answer_among (delete key) = delete_among (search h g v key).stop
  answer_among (lookup key) = lookup_among _ _ (search h g v key).stop

again_among : (h : Family) (v : Volume) (c : Call) → Among restart_refusals (call_again h v c).outcome
unfolding call_again judge_first memb
again_among h v c =
    either_among restart_refusals (bad_state v.state) _ _ refl
    (either_among restart_refusals (too_short (geometry v.state.sizes) v.flash v.ram) _ _ refl
    (answer_among h (geometry v.state.sizes) v c))

resumed_among : (h : Family) (b : ℕ) (v : Volume) (p : Pending) → Among restart_refusals (resumed h b v p).outcome
unfolding memb
resumed_among h b v nothing =
    either_among restart_refusals (bad_state (state_in v.ram)) _ _ refl
    (either_among restart_refusals (too_short (geometry (state_in v.ram).sizes) v.flash (pages v.ram)) _ _ refl tt)
resumed_among h b v (changing c) =
    rw (taken_outcome b (unit_of (state_in v.ram).sizes) v (last_steps (call_again h (pending_on v) c)) (call_again h (pending_on v) c))
    (again_among h (pending_on v) c)
resumed_among h b v (formatting sizes) =
    rw (taken_outcome b (unit_of sizes) v (last_steps (format (pending_on v) sizes)) (format (pending_on v) sizes))
    (plain_format restart_refusals (pending_on v) sizes refl refl)
resumed_among h b v unknown = refl

pub restart_refusals_lem : (h : Family) (b : ℕ) (v : Volume) → Among restart_refusals (restart_for h b v).outcome
unfolding restart_for memb
restart_refusals_lem h b v =
    either_among restart_refusals (ltb (length v.ram) 64) _ _ refl (resumed_among h b v (pending_in v.ram))

pub same_ram : (N : ℕ) (ram : List ℕ) → KeptRam N ram ram
same_ram N ram = record { same = λ x l m. refl; long = refl }

pub same_beyond : (g : Geometry) (v : Volume) → CutBeyond g v v
same_beyond g v = record {
  main = λ x l. refl;
  spare = λ x l. refl;
  main_length = refl;
  spare_length = refl;
  ram = same_ram (ram_size g) v.ram;
}

-- pages that keep what is past those in use, with a header
joined_kept : (N : ℕ) (ram p x : List ℕ) → 64 ≤ length ram → length x ≡ 64 → length p ≡ length (pages ram)
    → ((a : ℕ) → N ≤ a → get_or p a 0 ≡ get_or (pages ram) a 0) → KeptRam N ram (p ++ x)
unfolding pages
joined_kept N ram p x long size pl e =
    let t : length (pages ram) ≡ length ram - 64 = length_pages ram in
    record {
      same = λ a l m. get_or-append p x 0 a (omega (arith, pl, t, m)) ∙ e a l ∙ get_or-take (length ram - 64) ram a 0 m;
      long = length-append p x ∙ omega (arith, pl, t, size, long);
    }

module _ (u : ℕ) where
  pub ram_after : (P : List ℕ → Type 0) (b : ℕ) (ss : List Step) (c : Flash) (ram : List ℕ) → Stores P ss → P ram
      → P (steps u (take b ss) (memory c ram)).ram
  ram_after P zero ss c ram s p = p
  ram_after P (suc b) [] c ram s p = p
  ram_after P (suc b) (store r ∷ ss) c ram s p = ram_after P b ss c r s.1 s.0
  ram_after P (suc b) (chip o ∷ ss) c ram s p = ram_after P b ss (apply u o c) ram s p

  pub flash_after_lem : (b : ℕ) (ss : List Step) (c : Flash) (ram : List ℕ)
      → (steps u (take b ss) (memory c ram)).flash ≡ apply_all u (ops_in (take b ss)) c
  flash_after_lem zero ss c ram = refl
  flash_after_lem (suc b) [] c ram = refl
  flash_after_lem (suc b) (store r ∷ ss) c ram = flash_after_lem b ss c r
  flash_after_lem (suc b) (chip o ∷ ss) c ram = flash_after_lem b ss (apply u o c) ram

  some_inside : (B b : ℕ) (ss : List Step) → Inside u B (ops_in ss) → Inside u B (ops_in (take b ss))
  unfolding Inside
  some_inside B zero ss i = tt
  some_inside B (suc b) [] i = tt
  some_inside B (suc b) (store r ∷ ss) i = some_inside B b ss i
  some_inside B (suc b) (chip (program s bytes) ∷ ss) i = (i.0, i.1, some_inside B b ss i.2)
  some_inside B (suc b) (chip (erase k) ∷ ss) i = (i.0, some_inside B b ss i.1)

last_ops : (os : List Op) (d : List ℕ) → ops_in (chips os ++ (store d ∷ [])) ≡ os
last_ops [] d = refl
last_ops (o ∷ os) d = ap (λ (l : List Op). o ∷ l) (last_ops os d)

pub last_stores : (P : List ℕ → Type 0) (os : List Op) (d : List ℕ) → P d → Stores P (chips os ++ (store d ∷ []))
last_stores P [] d p = (p, tt)
last_stores P (o ∷ os) d p = last_stores P os d p

module _ (sizes : Sizes) (b : ℕ) (v : Volume) (ss : List Step) (r : Result) where
  abbrev g' : Geometry
  g' = geometry sizes

  taken_beyond : Inside (unit_of sizes) (blocks g') (ops_in ss) → Stores (KeptRam (ram_size g') v.ram) ss
      → CutBeyond g' v (taken b (unit_of sizes) v ss r).volume
  taken_beyond i s = by r.outcome
    where
      by : (o : Outcome) → CutBeyond g' v (taken_by o b (unit_of sizes) v ss r).volume
      by accepted =
          let f = flash_after_lem (unit_of sizes) b ss v.flash v.ram in
          let j = some_inside (unit_of sizes) (blocks g') b ss i in
          record {
            main = λ x l. rw f (main_past (unit_of sizes) (blocks g') (ops_in (take b ss)) v.flash x j l);
            spare = λ x l. rw f (spare_past (unit_of sizes) (blocks g') (ops_in (take b ss)) v.flash x j l);
            main_length = rw f (apply_main_length (unit_of sizes) (ops_in (take b ss)) v.flash);
            spare_length = rw f (apply_spare_length (unit_of sizes) (ops_in (take b ss)) v.flash);
            ram = ram_after (unit_of sizes) (KeptRam (ram_size g') v.ram) b ss v.flash v.ram s (same_ram (ram_size g') v.ram);
          }
      by (hit place bytes) = same_beyond g' v
      by miss = same_beyond g' v
      by (refused k) = same_beyond g' v

-- a RAM that is long enough has a header
pub header_fits : (g : Geometry) (c : Flash) (ram : List ℕ) → 0 < g.u → too_short g c (pages ram) ≡ false → 64 ≤ length ram
unfolding too_short
header_fits g c ram pu long =
    let p = (or_eq_false_iff (ltb (length c.main) (main_size g)) _).0 long in
    let q = (or_eq_false_iff (ltb (length c.spare) (spare_size g)) _).0 p.1 in
    let l : ram_size g ≤ length (pages ram) = ltb-false _ _ q.1 in
    omega (arith, l, length_pages ram, pu)

-- the finished RAM of a result that keeps what is past its volume
finished_kept : (sizes : Sizes) (v : Volume) (r : Result) → 64 ≤ length v.ram
    → Beyond (geometry sizes) v.flash r.volume.flash (pages v.ram) r.volume.ram
    → KeptRam (ram_size (geometry sizes)) v.ram (finished r.volume)
finished_kept sizes v r long B =
    joined_kept (ram_size (geometry sizes)) v.ram r.volume.ram (header_bytes r.volume.state no_intent) long
    (header_size_lem r.volume.ram r.volume.state no_intent refl) B.ram_length B.ram

module _ (h : Family) (b : ℕ) (v : Volume) (c : Call) where
  abbrev szs : Sizes
  szs = v.state.sizes

  call_is : eqb (kind_in v.ram) 0 ≡ true → call_for h b v c
      ≡ taken b (unit_of szs) v (call_steps (intended v c) (call h (on_pages v) c)) (call h (on_pages v) c)
  unfolding call_for call
  call_is k =
      let e : result_of h v c ≡ call h (on_pages v) c = rw k in
      ap (λ (r : Result). taken b (unit_of szs) v (call_steps (intended v c) r) r) e

  done_beyond : 64 ≤ length v.ram → eqb (kind_in v.ram) 0 ≡ true → CutBeyond (geometry szs) v (call_for h b v c).volume
  done_beyond long k =
      rw (call_is k)
      (taken_beyond szs b v (call_steps (intended v c) (call h (on_pages v) c)) (call h (on_pages v) c)
      (rw (last_ops (call h (on_pages v) c).ops (finished (call h (on_pages v) c).volume)) (ops_inside h (on_pages v) c)) (
        joined_kept (ram_size (geometry szs)) v.ram (pages v.ram) (header_bytes v.state (intent_words c)) long
            (header_size_lem (pages v.ram) v.state (intent_words c)
            (intent_length (pages v.ram) v.state c)) refl (λ a l. refl),
        last_stores (KeptRam (ram_size (geometry szs)) v.ram) (call h (on_pages v) c).ops (finished (call h (on_pages v) c).volume)
            (finished_kept szs v (call h (on_pages v) c) long (beyond_kept h (on_pages v) c)),
      ))

  pub cut_beyond : CutBeyond (geometry v.state.sizes) v (call_for h b v c).volume
  cut_beyond =
      either (bool? (bad_state v.state))
      (λ p. rw (whole.one h b v c p) (same_beyond (geometry szs) v))
      (λ p. either (bool? (too_short (geometry szs) v.flash (pages v.ram)))
      (λ q. rw (whole.two h b v c p q) (same_beyond (geometry szs) v))
      (λ q. either (bool? (eqb (kind_in v.ram) 0))
      (λ k. done_beyond
      (header_fits (geometry szs) v.flash v.ram (units.pu szs (units.sound szs (state_allowed v p))) q) k)
      (λ k. rw (whole.ten h b v c p q k) (same_beyond (geometry szs) v))))

module _ (b : ℕ) (v : Volume) (sizes : Sizes) where
  format_size : 64 ≤ length v.ram → length (take state_size (header v.ram) ++ words_bytes (format_words sizes)) ≡ 64
  format_size long =
      let k : length (take 24 (header v.ram)) ≡ 24 = length-take-le 24 (header v.ram) (omega (arith, length_header v.ram long)) in
      length-append (take 24 (header v.ram)) (words_bytes (format_words sizes)) ∙ omega (arith, k, length_words (format_words sizes))

  format_done_beyond : 64 ≤ length v.ram → CutBeyond (geometry sizes) v (format_for b v sizes).volume
  unfolding format_for
  format_done_beyond long =
      taken_beyond sizes b v (call_steps (format_intended v sizes) (format (on_pages v) sizes)) (format (on_pages v) sizes)
      (rw (last_ops (format (on_pages v) sizes).ops (finished (format (on_pages v) sizes).volume)) (format_ops_inside (on_pages v) sizes)) (
        joined_kept (ram_size (geometry sizes)) v.ram (pages v.ram) _ long (format_size long) refl (λ a l. refl),
        last_stores (KeptRam (ram_size (geometry sizes)) v.ram) (format (on_pages v) sizes).ops
            (finished (format (on_pages v) sizes).volume)
            (finished_kept sizes v (format (on_pages v) sizes) long (format_beyond_kept (on_pages v) sizes)),
      )

  format_refused : (i : ℕ) → format (on_pages v) sizes ≡ refuse (on_pages v) i → format_for b v sizes ≡ refuse v i
  unfolding format_for
  format_refused i e = ap (λ (r : Result). taken b (unit_of sizes) v (call_steps (format_intended v sizes) r) r) e

  pub format_cut_beyond : CutBeyond (geometry sizes) v (format_for b v sizes).volume
  unfolding format
  format_cut_beyond =
      either (bool? (allowed sizes))
      (λ a. either (bool? (too_short (geometry sizes) v.flash (pages v.ram)))
      (λ q. rw (format_refused 2 (rw (a, q))) (same_beyond (geometry sizes) v))
      (λ q. format_done_beyond
      (header_fits (geometry sizes) v.flash v.ram (units.pu sizes (units.sound sizes a)) q)))
      (λ a. rw (format_refused 1 (rw a)) (same_beyond (geometry sizes) v))

-- the last steps of a result, as a restart does them
last_beyond : (sizes : Sizes) (b : ℕ) (v : Volume) (r : Result) → 64 ≤ length v.ram
    → Beyond (geometry sizes) v.flash r.volume.flash (pages v.ram) r.volume.ram
    → Inside (unit_of sizes) (blocks (geometry sizes)) r.ops
    → CutBeyond (geometry sizes) v (taken b (unit_of sizes) v (last_steps r) r).volume
last_beyond sizes b v r long B i =
    taken_beyond sizes b v (last_steps r) r (rw (last_ops r.ops (finished r.volume)) i)
    (last_stores (KeptRam (ram_size (geometry sizes)) v.ram) r.ops (finished r.volume) (finished_kept sizes v r long B))

module _ (h : Family) (b : ℕ) (v : Volume) where
  -- a RAM with no header is refused
  pub resumed_beyond : (g : Geometry) (p : Pending) → pending_in v.ram ≡ p
      → (64 ≤ length v.ram → CutBeyond g v (resumed h b v p).volume) → CutBeyond g v (restart_for h b v).volume
  resumed_beyond g p q f =
      either (le? 64 (length v.ram))
      (λ l. rw (restart_is h b v l.1 ∙ ap (resumed h b v) q) (f l.1))
      (λ l. rw (short_ram h b v l.1) (same_beyond g v))

  -- a restart that finds a format
  pub restart_format_beyond : (sizes : Sizes) → pending_in v.ram ≡ formatting sizes
      → CutBeyond (geometry sizes) v (restart_for h b v).volume
  restart_format_beyond sizes q =
      resumed_beyond (geometry sizes) (formatting sizes) q (λ l.
      last_beyond sizes b v (format (pending_on v) sizes) l (format_beyond_kept (pending_on v) sizes) (format_ops_inside (pending_on v) sizes))

  -- one that finishes a change, by the header's state
  pub restart_change_beyond : (c : Call) → pending_in v.ram ≡ changing c
      → CutBeyond (geometry (state_in v.ram).sizes) v (restart_for h b v).volume
  restart_change_beyond c q =
      resumed_beyond (geometry (state_in v.ram).sizes) (changing c) q (λ l.
      last_beyond (state_in v.ram).sizes b v (call_again h (pending_on v) c) l (again_beyond_kept h (pending_on v) c)
      (again_ops_inside h (pending_on v) c))

either_same : (v : Volume) (t : Bool) (r s : Result) → Unchanged v r → Unchanged v s → Unchanged v (cond t r s)
either_same v true r s p q = p
either_same v false r s p q = q

-- a restart that finds no call changes no byte
pub restart_idle_keeps : (h : Family) (b : ℕ) (v : Volume) → pending_in v.ram ≡ nothing → Unchanged v (restart_for h b v)
unfolding restart_for
restart_idle_keeps h b v q =
    rw q
    (either_same v (ltb (length v.ram) 64) _ _ (refl, refl)
    (either_same v (bad_state (state_in v.ram)) _ _ (refl, refl)
    (either_same v (too_short (geometry (state_in v.ram).sizes) v.flash (pages v.ram)) _ _ (refl, refl) (refl, refl))))
