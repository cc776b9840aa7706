-- A format on any volume, cut, restarted, cut again, and finished: the intent alone makes it restartable, whatever bytes were there.
use Rattle.std.specs.Prelude.{◌≡◌, Bool, true, false, get_or, take, replicate, ltb, eqb}
use Rattle.std.proofs.Math.Path.{refl, ap}
use Rattle.std.proofs.Common.{sym, ◌∙◌, arith, length-append}
use mathlib.Core.List.{List, [], ◌∷◌, ◌++◌}
use Prim.Native.Nat.{ℕ, zero, suc, ◌+◌, ◌-◌, ◌*◌, ◌/◌, ◌^◌, ◌≤◌, ◌<◌, min}
use Rattle.std.proofs.Math.ListN.{length, length-take, length-drop}
use Rattle.std.proofs.Math.Seq.{get_or-append-add}
use borrow.Author.Tests.{ltb-false}
use Rattle.memory.specs.Booleans.{or_eq_false_iff, cond_pos, cond_neg}
use Rattle.memory.specs.Lists.{write}
use Rattle.memory.specs.Words.{word, words_bytes, length_words}
use Rattle.layout.specs.Geometry.{State, state_of, Geometry, geometry, allowed, blocks, main_size, spare_size, ram_size, Sizes, unit_of}
use Rattle.layout.specs.Flash.{Op, Flash, apply_all, erases}
use Rattle.layout.specs.Hash.{Family}
use Rattle.layout.specs.Calls.{Volume, accepted, Result, too_short, format, formatted}
use Rattle.laws.specs.Sound.{SizesSound, sound}
use Rattle.laws.specs.Sound as units
use Rattle.history.proofs.FlashLaws.{apply_main_length, apply_spare_length, erases_allowed}
use Rattle.history.specs.Runs.{ProgramOrder}
use Rattle.history.specs.ProgramOrder.{Below, Says}
use Rattle.history.specs.Live.{empty_history}
use Rattle.history.proofs.Volumes as volumes
use Rattle.history.specs.Volumes.{Holds}
use Rattle.history.proofs.RunLaws.{start_holds, start_spare}
use Rattle.cuts.specs.CutLaws.{OnlyErases}
use Rattle.cuts.specs.Resume.{CutAt, Fit}
use Rattle.cuts.proofs.Shape.{erases_only, apart_erases, anchored_erases}
use Rattle.layout.specs.Header.{pages, header, on_pages, format_words, no_intent, header_bytes, header_word, formatting, pending_in}
use Rattle.layout.specs.Budgets.{store, chips, last_steps, call_steps, taken, pending_on, format_for, restart_for, restarts}
use Rattle.layout.specs.Budgets.{pending_ops, format_whole, restart_whole}
use Rattle.cuts.specs.Events.{lift, Format, whole_format, cut_format, format_result, format_end, format_ops}
use Rattle.cuts.specs.Told.{Has, after_ops}
use Rattle.cuts.proofs.Told.{only_in_order, erased_in_order, has_false, has_erases}
use Rattle.cuts.specs.Later.{later}
use Rattle.cuts.specs.Headers.{StateFits}
use Rattle.cuts.proofs.Headers.{pages_of, header_of, long_ram, word_of}
use Rattle.cuts.proofs.Idle.{fits_of, idle_restart, restart_resumes}
use Rattle.cuts.proofs.Uncut.{format_lifted, format_lifted_ops, format_lifted_outcome}
use Rattle.cuts.specs.Finish.{ran, rest_of, all_of}
use Rattle.cuts.proofs.Finish.{short_same, call_none, call_whole_lem, recovers, ends_by, run_cut, later_length}
use Rattle.cuts.proofs.Finish.{restart_accepts, runs_flash}
use Rattle.cuts.proofs.Finish.{later_only, take_only, runs_only, runs_has, restart_whole_lem, restart_good, call_good}

below_erases : (N b k : ℕ) → Below N (erases b k)
below_erases N b zero = tt
below_erases N b (suc k) = below_erases N (suc b) k

module _ (h : Family) (v : Volume) (sizes : Sizes) (can : allowed sizes ≡ true)
    (long : too_short (geometry sizes) v.flash (pages v.ram) ≡ false) where
  abbrev g : Geometry
  g = geometry sizes

  ok : SizesSound sizes
  ok = sound sizes can

  abbrev p : List ℕ
  p = pages v.ram

  abbrev pub ops : List Op
  ops = erases 0 (blocks g)

  abbrev pub pages' : List ℕ
  pages' = write p 0 (replicate (ram_size g) 0)

  abbrev pub s' : State
  s' = state_of sizes 0 0

  -- the header with the intent: the state's words as they were
  abbrev words : List ℕ
  words = take 24 (header v.ram) ++ words_bytes (format_words sizes)

  abbrev pub intended : List ℕ
  intended = p ++ words

  abbrev pub finished : List ℕ
  finished = pages' ++ header_bytes s' no_intent

  fit : Fit (unit_of sizes) ops v.flash
  fit = record {
    allowed = erases_allowed (unit_of sizes) 0 (blocks g) v.flash;
    apart = apart_erases ops (erases_only 0 (blocks g));
    anchored = anchored_erases ops (erases_only 0 (blocks g));
  }

  -- ---- headers

  ram_long : 64 ≤ length v.ram
  unfolding too_short pages
  ram_long =
      let a = (or_eq_false_iff (ltb (length v.flash.main) (main_size g)) _).0 long in
      let b = (or_eq_false_iff (ltb (length v.flash.spare) (spare_size g)) _).0 a.1 in
      let l : ram_size g ≤ length (pages v.ram) = ltb-false _ _ b.1 in
      let t : length (pages v.ram) ≡ min (length v.ram - 64) (length v.ram) = length-take (length v.ram - 64) v.ram in
      omega (arith, l, t, units.pu sizes ok)

  header_length : length (header v.ram) ≡ 64
  unfolding header
  header_length = length-drop (length v.ram - 64) v.ram ∙ omega (arith, ram_long)

  kept_length : length (take 24 (header v.ram)) ≡ 24
  kept_length = length-take 24 (header v.ram) ∙ rw header_length

  words_length : length words ≡ 64
  words_length =
      let a = length-append (take 24 (header v.ram)) (words_bytes (format_words sizes)) in let b
      = length_words (format_words sizes) in omega (arith, a, b, kept_length)

  pub pages_back : pages intended ≡ p
  pages_back = pages_of p words words_length

  word_at : (i : ℕ) → i < 10 → get_or (format_words sizes) i 0 < 2 ^ 32 → header_word intended (6 + i) ≡ get_or (format_words sizes) i 0
  unfolding header_word
  word_at i l fits =
      let at : (k : ℕ) → (6 + i) * 4 + k ≡ length (take 24 (header v.ram)) + (i * 4 + k) = λ k. omega (arith, kept_length) in
      let at0 : (6 + i) * 4 ≡ length (take 24 (header v.ram)) + i * 4 = omega (arith, kept_length) in
      ap (λ (b : List ℕ). word b ((6 + i) * 4)) (header_of p words words_length)
      ∙ rw (
        at 1,
        at 2,
        at 3,
        at0,
        get_or-append-add (take 24 (header v.ram)) (words_bytes (format_words sizes)) (i * 4 + 1) 0,
        get_or-append-add (take 24 (header v.ram)) (words_bytes (format_words sizes)) (i * 4 + 2) 0,
        get_or-append-add (take 24 (header v.ram)) (words_bytes (format_words sizes)) (i * 4 + 3) 0,
        get_or-append-add (take 24 (header v.ram)) (words_bytes (format_words sizes)) (i * 4) 0,
      )
      (word_of (format_words sizes) i l fits)

  holds : Holds h sizes empty_history (apply_all (unit_of sizes) ops v.flash) pages'
  holds = start_holds h sizes ok can (on_pages v) long

  fits : StateFits s'
  fits = fits_of h sizes ok empty_history (apply_all (unit_of sizes) ops v.flash) pages' holds

  pub pending_is_lem : pending_in intended ≡ formatting sizes
  unfolding pending_in
  pending_is_lem =
      let e6 : header_word intended 6 ≡ 4 = word_at 0 (omega arith) (omega arith) in
      let e7 : header_word intended 7 ≡ sizes.sector_size = word_at 1 (omega arith) fits.S-fits in
      let e8 : header_word intended 8 ≡ sizes.ra_blocks = word_at 2 (omega arith) fits.R-fits in
      let e9 : header_word intended 9 ≡ sizes.da_blocks = word_at 3 (omega arith) fits.D-fits in
      let e10 : header_word intended 10 ≡ sizes.hash_count = word_at 4 (omega arith) fits.K-fits in
      rw (e6, e7, e8, e9, e10)

  pub format_kind : eqb (header_word intended 6) 0 ≡ false
  format_kind = let e6 : header_word intended 6 ≡ 4 = word_at 0 (omega arith) (omega arith) in rw e6

  -- ---- the format, and the format again

  abbrev pub result : Flash → Result
  result X =
      record {
        outcome = accepted;
        count = 0;
        da_pages = 0;
        volume = record
            { state = s'; flash = apply_all (unit_of sizes) ops X; ram = pages' };
        ops = ops;
      }

  pub format_on : (w : Volume) → w.ram ≡ p → too_short g w.flash p ≡ false → format w sizes ≡ result w.flash
  unfolding format formatted
  format_on w e l =
      cond_pos (allowed sizes) _ _ can ∙ cond_neg (too_short g w.flash w.ram) _ _ (rw e l) ∙ rw e

  module _ (st : State) (X : Flash) (cut : CutAt (unit_of sizes) ops v.flash X) where
    abbrev m : Volume
    m = record { state = st; flash = X; ram = intended }

    result_is : format (pending_on m) sizes ≡ result X
    result_is =
        format_on (pending_on m) pages_back
        (short_same g X v.flash p (rw cut.is (apply_main_length (unit_of sizes) cut.done v.flash))
        (rw cut.is (apply_spare_length (unit_of sizes) cut.done v.flash)) ∙ long)

    pub again : (b : ℕ) → restart_for h b m ≡ ran (unit_of sizes) b st s' X intended (rest_of X ops finished)
    again b =
        restart_resumes h b m (formatting sizes) (long_ram p words words_length) pending_is_lem
        ∙ ap (λ (r : Result). taken b (unit_of sizes) m (last_steps r) r) result_is
        ∙ ap (λ (os : List Op). ran (unit_of sizes) b st s' X intended (chips os ++ (store finished ∷ [])))
        (sym (later_only X.spare ops (erases_only 0 (blocks g))))

  idle : (st : State) (b : ℕ) → restart_for h b (record { state = st; flash = apply_all (unit_of sizes) ops v.flash; ram = finished })
      ≡ record {
        outcome = accepted;
        count = 0;
        da_pages = 0;
        volume = record
            { state = s'; flash = apply_all (unit_of sizes) ops v.flash; ram = finished };
        ops = [];
      }
  idle st b =
      idle_restart h st s' (apply_all (unit_of sizes) ops v.flash) pages' fits
      (volumes.state_good h sizes ok empty_history (apply_all (unit_of sizes) ops v.flash) pages' holds can)
      (volumes.long_enough h sizes ok empty_history (apply_all (unit_of sizes) ops v.flash) pages' holds) b

  first : (b : ℕ) → format_for b v sizes ≡ ran (unit_of sizes) b v.state s' v.flash v.ram (all_of intended ops finished)
  unfolding format_for
  first b = ap (λ (r : Result). taken b (unit_of sizes) v (call_steps intended r) r) (format_on (on_pages v) refl long)

  -- ---- the claims

  pub format_none : (format_for 0 v sizes).volume ≡ v
  format_none =
      call_none h (unit_of sizes) (spare_size g) ops v.flash fit (below_erases (spare_size g) 0 (blocks g)) v.state s' v.ram intended
      finished again idle (λ b. format_for b v sizes) first

  pub format_whole_lem : (b : ℕ) → length ops < b → (format_for (suc b) v sizes).volume
      ≡ record { state = s'; flash = apply_all (unit_of sizes) ops v.flash; ram = finished }
  format_whole_lem =
      call_whole_lem h (unit_of sizes) (spare_size g) ops v.flash fit (below_erases (spare_size g) 0 (blocks g)) v.state s' v.ram intended
      finished again idle (λ b. format_for b v sizes) first

  pub format_recovered : (b : ℕ) (bs : List ℕ) (enough : ℕ) → length ops < enough
      → (restart_for h enough (restarts h bs (format_for (suc b) v sizes).volume)).volume ≡ (format_for (suc enough) v sizes).volume
  format_recovered =
      recovers h (unit_of sizes) (spare_size g) ops v.flash fit (below_erases (spare_size g) 0 (blocks g)) v.state s' v.ram intended
      finished again idle (λ b. format_for b v sizes) first

  -- ---- with budgets that the definitions count

  whole_enough : (st : State) (X : Flash) (cut : CutAt (unit_of sizes) ops v.flash X)
      → length (later X.spare ops) < length (pending_ops h (record { state = st; flash = X; ram = intended }) (pending_in intended)) + 1
  whole_enough st X cut =
      let e : pending_ops h (record { state = st; flash = X; ram = intended }) (pending_in intended) ≡ ops
      = ap (pending_ops h (record { state = st; flash = X; ram = intended })) pending_is_lem
      ∙ ap (λ (r : Result). r.ops) (result_is st X cut) in
      omega (arith, ap length e, later_length X.spare ops)

  -- what document 01's format leaves
  pub formatted_is : (format (on_pages v) sizes).volume ≡ record { state = s'; flash = apply_all (unit_of sizes) ops v.flash; ram = pages' }
  formatted_is = ap (λ (r : Result). r.volume) (format_on (on_pages v) refl long)

  format_done : (format (on_pages v) sizes).outcome ≡ accepted
  format_done = ap (λ (r : Result). r.outcome) (format_on (on_pages v) refl long)

  -- a format with enough, and one that was cut, however often, and finished
  pub format_end_lem : (f : Format) → format_end h v sizes f ≡ lift (format (on_pages v) sizes).volume
  format_end_lem whole_format = format_lifted v sizes format_done
  format_end_lem (cut_format b bs) =
      ends_by h (unit_of sizes) (spare_size g) ops v.flash fit (below_erases (spare_size g) 0 (blocks g)) v.state s' v.ram intended
      finished again idle (λ b. format_for b v sizes) first
      (length (pending_ops h (restarts h bs (format_for (suc b) v sizes).volume)
      (pending_in (restarts h bs (format_for (suc b) v sizes).volume).ram)) + 1)
      (restarts h bs (format_for (suc b) v sizes).volume)
      (run_cut h (unit_of sizes) (spare_size g) ops v.flash fit (below_erases (spare_size g) 0 (blocks g)) v.state s' v.ram intended
      finished again idle (λ b. format_for b v sizes) first b bs)
      (λ st X cut e. rw e (whole_enough st X cut))
      ∙ ap lift (sym formatted_is)

  -- its last run is not refused
  pub format_accepts : (f : Format) → (format_result h v sizes f).outcome ≡ accepted
  format_accepts whole_format = format_lifted_outcome v sizes format_done
  format_accepts (cut_format b bs) =
      restart_accepts h (unit_of sizes) (spare_size g) ops v.flash fit (below_erases (spare_size g) 0 (blocks g)) v.state s' v.ram
      intended finished again idle (λ b. format_for b v sizes) first b bs _

  whole_ops_lem : (format_whole v sizes).ops ≡ ops
  whole_ops_lem = format_lifted_ops v sizes format_done ∙ ap (λ (r : Result). r.ops) (format_on (on_pages v) refl long)

  -- the operations of all its runs, in order, give the chip that it leaves
  pub format_flash : (f : Format) → apply_all (unit_of sizes) (format_ops h v sizes f) v.flash ≡ (format_end h v sizes f).flash
  format_flash whole_format =
      ap (λ (os : List Op). apply_all (unit_of sizes) os v.flash) whole_ops_lem
      ∙ ap (λ (w : Volume). w.flash) (sym (format_end_lem whole_format ∙ ap lift formatted_is))
  format_flash (cut_format b bs) =
      runs_flash h (unit_of sizes) (spare_size g) ops v.flash fit (below_erases (spare_size g) 0 (blocks g)) v.state s' v.ram
      intended finished again idle (λ b. format_for b v sizes) first b bs _

  -- ---- all runs of a format as one list: erases only, and each block among them

  runs_are : (f : Format) → OnlyErases (format_ops h v sizes f) × ((k : ℕ) → k < blocks g → Has k (format_ops h v sizes f))
  runs_are whole_format =
      rw whole_ops_lem (erases_only 0 (blocks g), (λ k l. has_erases k 0 (blocks g) (omega arith) (omega (arith, l))))
  runs_are (cut_format b bs) = (
    runs_only h (unit_of sizes) (spare_size g) ops v.flash fit (below_erases (spare_size g) 0 (blocks g)) v.state s' v.ram intended
        finished again idle (λ b. format_for b v sizes) first
        (erases_only 0 (blocks g)) b bs (length (pending_ops h (restarts h bs (format_for (suc b) v sizes).volume)
        (pending_in (restarts h bs (format_for (suc b) v sizes).volume).ram)) + 1),
    (λ k l.
        runs_has h (unit_of sizes) (spare_size g) ops v.flash fit (below_erases (spare_size g) 0 (blocks g)) v.state s' v.ram intended
        finished again idle (λ b. format_for b v sizes) first
        (erases_only 0 (blocks g)) k (has_erases k 0 (blocks g) (omega arith) (omega (arith, l))) b bs
        (length (pending_ops h (restarts h bs (format_for (suc b) v sizes).volume)
        (pending_in (restarts h bs (format_for (suc b) v sizes).volume).ram)) + 1)
        (λ st X cut e. rw e (all_enough st X cut))),
  )
    where
      all_enough : (st : State) (X : Flash) (cut : CutAt (unit_of sizes) ops v.flash X)
          → length ops < length (pending_ops h (record { state = st; flash = X; ram = intended }) (pending_in intended)) + 1
      all_enough st X cut =
          let e : pending_ops h (record { state = st; flash = X; ram = intended }) (pending_in intended) ≡ ops
          = ap (pending_ops h (record { state = st; flash = X; ram = intended })) pending_is_lem
          ∙ ap (λ (r : Result). r.ops) (result_is st X cut) in
          omega (arith, ap length e)

  -- whatever was programmed before, after all runs nothing in the volume is
  pub format_in_order : (f : Format) (os : List Op) (P : ℕ → Bool) → ProgramOrder os (after_ops (format_ops h v sizes f) P)
      → ProgramOrder (format_ops h v sizes f ++ os) P
  format_in_order f os P q = erased_in_order (format_ops h v sizes f) os P (runs_are f).0 q

  pub format_clears : (f : Format) (P : ℕ → Bool) (x : ℕ) → x < spare_size g → after_ops (format_ops h v sizes f) P x ≡ false
  format_clears f P x l = has_false (format_ops h v sizes f) P x (runs_are f).0 ((runs_are f).1 (x / 64) (omega (arith, l)))

  -- a restart with enough, whenever it comes
  pub whole_ends : (st : State) (X : Flash) → CutAt (unit_of sizes) ops v.flash X
      → (restart_whole h (record { state = st; flash = X; ram = intended })).volume
      ≡ record { state = s'; flash = apply_all (unit_of sizes) ops v.flash; ram = finished }
  whole_ends st X cut =
      restart_whole_lem h (unit_of sizes) (spare_size g) ops v.flash fit (below_erases (spare_size g) 0 (blocks g)) v.state s'
      v.ram intended finished again idle (λ b. format_for b v sizes) first st X cut _ (whole_enough st X cut)

  -- ---- one run, for a claim that holds while the format waits and when it is finished

  pub format_none_ops : (format_for 0 v sizes).ops ≡ []
  format_none_ops = ap (λ (r : Result). r.ops) (first 0)

  module _ (Q : (ℕ → Bool) → Volume → Type 0)
      (waits : (P : ℕ → Bool) (st : State) (X : Flash) → CutAt (unit_of sizes) ops v.flash X
      → Q P (record { state = st; flash = X; ram = intended }))
      (ends : (P : ℕ → Bool) → Says (spare_size g) (apply_all (unit_of sizes) ops v.flash) P
      → Q P (record { state = s'; flash = apply_all (unit_of sizes) ops v.flash; ram = finished })) where
    abbrev Any : (ℕ → Bool) → Flash → Type 0
    Any P X = Unit {0}

    tells : (P : ℕ → Bool) (X : Flash) → CutAt (unit_of sizes) ops v.flash X → Any P X → (n : ℕ)
        → ProgramOrder (take n (later X.spare ops)) P
        × Any (after_ops (take n (later X.spare ops)) P) (apply_all (unit_of sizes) (take n (later X.spare ops)) X)
    tells P X cut t n = (
      only_in_order (take n (later X.spare ops)) P
          (rw (later_only X.spare ops (erases_only 0 (blocks g))) (take_only n ops (erases_only 0 (blocks g)))),
      tt,
    )

    clears : (P : ℕ → Bool) → Says (spare_size g) (apply_all (unit_of sizes) ops v.flash) (after_ops ops P)
    clears P x l =
        (start_spare h sizes ok can (on_pages v) long).1 x l
        ∙ rw (has_false ops P x (erases_only 0 (blocks g)) (has_erases (x / 64) 0 (blocks g) (omega arith) (omega (arith, l))))

    end : (P : ℕ → Bool) (X : Flash) → CutAt (unit_of sizes) ops v.flash X → Any P X
        → Q (after_ops (later X.spare ops) P) (record { state = s'; flash = apply_all (unit_of sizes) ops v.flash; ram = finished })
    end P X cut t = rw (later_only X.spare ops (erases_only 0 (blocks g))) (ends (after_ops ops P) (clears P))

    pub again_good : (P : ℕ → Bool) (st : State) (X : Flash) → CutAt (unit_of sizes) ops v.flash X → (b : ℕ)
        → ProgramOrder (restart_for h b (record { state = st; flash = X; ram = intended })).ops P
        × Q (after_ops (restart_for h b (record { state = st; flash = X; ram = intended })).ops P)
        (restart_for h b (record { state = st; flash = X; ram = intended })).volume
    again_good P st X cut b =
        restart_good h (unit_of sizes) (spare_size g) ops v.flash fit (below_erases (spare_size g) 0 (blocks g)) v.state s'
        v.ram intended finished again idle (λ b. format_for b v sizes) first
        Any Q tells end st (λ P X cut t. waits P st X cut) P X cut tt b

    pub first_good : (P : ℕ → Bool) (b : ℕ) → ProgramOrder (format_for (suc b) v sizes).ops P
        × Q (after_ops (format_for (suc b) v sizes).ops P) (format_for (suc b) v sizes).volume
    first_good P b =
        call_good h (unit_of sizes) (spare_size g) ops v.flash fit (below_erases (spare_size g) 0 (blocks g)) v.state s'
        v.ram intended finished again idle (λ b. format_for b v sizes) first
        Any Q tells end (λ P X cut t. waits P v.state X cut) P tt b
