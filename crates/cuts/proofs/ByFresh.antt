-- Calls, formats and restarts with any budget see spare bytes only as fresh or programmed, and only those of the volume: on another spare
-- area that decides alike there they are the same, whatever the bytes; a format, and a restart of one, on any other. So up to three wrong
-- bits in each mark change nothing (document 02, §3).
use Rattle.std.specs.Prelude.{◌≡◌, ℕ, ◌+◌, ◌*◌, ◌<◌, length, get_or, take, eqb, ltb}
use Rattle.std.proofs.Math.Path.{refl, ap}
use Rattle.std.proofs.Common.{◌∙◌, arith}
use mathlib.Core.List.{List, [], ◌∷◌}
use Rattle.memory.specs.Cases.{either, bool?}
use Rattle.layout.specs.Geometry.{Geometry, geometry, blocks, spare_size, Sizes, unit_of}
use Rattle.layout.specs.Flash.{Op, Flash, flash_of, apply, apply_all, Planned, known, made, wipe, fresh}
use Rattle.layout.specs.Hash.{Family}
use Rattle.layout.specs.Calls.{Volume, Call, Outcome, accepted, hit, miss, refused, Result, bad_state, too_short, format, commit}
use Rattle.layout.specs.Later.{fresh_plan, later_plan, commit_later, call_again}
use Rattle.layout.specs.Header.{pages, on_pages, intended, format_intended, kind_in, state_in, Pending, nothing, changing, formatting, unknown}
use Rattle.layout.specs.Header.{pending_in}
use Rattle.layout.specs.Budgets.{Step, store, chip, memory, steps, last_steps, call_steps, taken_by, taken, pending_on, result_of, call_for}
use Rattle.layout.specs.Budgets.{call_whole, format_for, format_whole, resumed, restart_for, pending_ops, restart_whole}
use Rattle.laws.specs.FreshLaws.{Written}
use Rattle.laws.specs.Sound.{sound}
use Rattle.history.specs.Inside.{PlanInside}
use Rattle.history.specs.Worn.{Worn, with_spare, SameResult, WornResult}
use Rattle.history.proofs.WornLaws.{plan_same, as_fresh}
use Rattle.history.specs.WornCalls.{redone}
use Rattle.history.proofs.WornCalls.{short_same, format_alike, AlikeEnd, alike_either, answer_alike, judged_alike, commit_alike}
use Rattle.history.proofs.WornRuns.{redone_same, redone_worn}
use Rattle.cuts.specs.EveryCut.{sizes_named}
use Rattle.cuts.proofs.EveryCut.{flash_after_lem}
use Rattle.cuts.specs.ByFresh.{spare_read}

-- ---- what is later goes by fresh or not

module _ (u B : ℕ) (s s' : List ℕ) (same : (x : ℕ) → x < B * 64 → fresh (get_or s' x 0) ≡ fresh (get_or s x 0)) where
  fresh_same : (ps : List Planned) → PlanInside u B ps → fresh_plan s' ps ≡ fresh_plan s ps
  unfolding fresh_plan PlanInside
  fresh_same [] i = refl
  fresh_same (known x bytes ∷ ps) i = rw (same x i.0.0, fresh_same ps i.1)
  fresh_same (made x bytes ∷ ps) i = rw (same x i.0.0, fresh_same ps i.1)
  fresh_same (wipe b ∷ ps) i = fresh_same ps i.1

  later_same : (ps : List Planned) → PlanInside u B ps → later_plan s' ps ≡ later_plan s ps
  unfolding later_plan PlanInside
  later_same [] i = refl
  later_same (p ∷ ps) i = rw (fresh_same (p ∷ ps) i, later_same ps i.1)

-- ---- a budget

-- steps leave the same RAM on any chip
ram_same : (u : ℕ) (ss : List Step) (c c' : Flash) (ram : List ℕ) → (steps u ss (memory c' ram)).ram ≡ (steps u ss (memory c ram)).ram
ram_same u [] c c' ram = refl
ram_same u (store r ∷ ss) c c' ram = ram_same u ss c c' r
ram_same u (chip o ∷ ss) c c' ram = ram_same u ss (apply u o c) (apply u o c') ram

module _ (sizes : Sizes) (b : ℕ) (v : Volume) (ss : List Step) (r : Result) where
  abbrev u : ℕ
  u = unit_of sizes

  taken_alike : (spare : List ℕ) → taken b u (with_spare spare v) ss (redone sizes spare v r) ≡ redone sizes spare v (taken b u v ss r)
  taken_alike spare = by r.outcome
    where
      by : (o : Outcome) → taken_by o b u (with_spare spare v) ss (redone sizes spare v r) ≡ redone sizes spare v (taken_by o b u v ss r)
      by accepted =
          rw (
            flash_after_lem u b ss (flash_of v.flash.main spare) v.ram,
            ram_same u (take b ss) v.flash (flash_of v.flash.main spare) v.ram,
          )
      by (hit place bytes) = refl
      by miss = refl
      by (refused i) = refl

  -- its operations give the flash that it leaves
  taken_done : apply_all u (taken b u v ss r).ops v.flash ≡ (taken b u v ss r).volume.flash
  taken_done = by r.outcome
    where
      by : (o : Outcome) → apply_all u (taken_by o b u v ss r).ops v.flash ≡ (taken_by o b u v ss r).volume.flash
      by accepted = rw (flash_after_lem u b ss v.flash v.ram)
      by (hit place bytes) = refl
      by miss = refl
      by (refused i) = refl

-- ---- a format, on any other spare bytes

module _ (b : ℕ) (v : Volume) (sizes : Sizes) where
  pub format_done : apply_all (unit_of sizes) (format_for b v sizes).ops v.flash ≡ (format_for b v sizes).volume.flash
  unfolding format_for
  format_done = taken_done sizes b v (call_steps (format_intended v sizes) (format (on_pages v) sizes)) (format (on_pages v) sizes)

  pub format_redone : (spare : List ℕ) → length spare ≡ length v.flash.spare
      → format_for b (with_spare spare v) sizes ≡ redone sizes spare v (format_for b v sizes)
  unfolding format_for
  format_redone spare long =
      ap (λ (r : Result). taken b (unit_of sizes) (with_spare spare v) (call_steps (format_intended v sizes) r) r)
      (format_alike (on_pages v) sizes spare long)
      ∙ taken_alike sizes b v (call_steps (format_intended v sizes) (format (on_pages v) sizes)) (format (on_pages v) sizes) spare

pub format_whole_redone : (v : Volume) (sizes : Sizes) (spare : List ℕ) → length spare ≡ length v.flash.spare
    → format_whole (with_spare spare v) sizes ≡ redone sizes spare v (format_whole v sizes)
format_whole_redone v sizes spare long =
    ap (λ (r : Result). format_for (length r.ops + 2) (with_spare spare v) sizes) (format_alike (on_pages v) sizes spare long)
    ∙ format_redone (length (format (on_pages v) sizes).ops + 2) v sizes spare long

-- ---- a call, by the spare bytes of the volume of the state handed in

module _ (h : Family) (v : Volume) (c : Call) where
  pub call_done : (b : ℕ) → apply_all (unit_of v.state.sizes) (call_for h b v c).ops v.flash ≡ (call_for h b v c).volume.flash
  unfolding call_for
  call_done b = taken_done v.state.sizes b v (call_steps (intended v c) (result_of h v c)) (result_of h v c)

  module _ (spare : List ℕ) (long : length spare ≡ length v.flash.spare)
      (same : (x : ℕ) → x < spare_size (geometry v.state.sizes) → fresh (get_or spare x 0) ≡ fresh (get_or v.flash.spare x 0)) where
    result_alike : result_of h (with_spare spare v) c ≡ redone v.state.sizes spare (on_pages v) (result_of h v c)
    result_alike =
        judged_alike h (on_pages v) spare long _ _ (λ a.
        alike_either h (on_pages v) spare (eqb (kind_in v.ram) 0) _ _ _ _
        (λ k. answer_alike h (on_pages v) spare (sound _ a) commit (commit_alike h (on_pages v) spare same) c) (λ k. refl))

    pub call_redone : (b : ℕ) → call_for h b (with_spare spare v) c ≡ redone v.state.sizes spare v (call_for h b v c)
    unfolding call_for
    call_redone b =
        ap (λ (r : Result). taken b (unit_of v.state.sizes) (with_spare spare v) (call_steps (intended v c) r) r) result_alike
        ∙ taken_alike v.state.sizes b v (call_steps (intended v c) (result_of h v c)) (result_of h v c) spare

    pub call_whole_redone : call_whole h (with_spare spare v) c ≡ redone v.state.sizes spare v (call_whole h v c)
    call_whole_redone =
        ap (λ (r : Result). call_for h (length r.ops + 2) (with_spare spare v) c) result_alike
        ∙ call_redone (length (result_of h v c).ops + 2)

-- ---- a restart, by the spare bytes of the volume of the header's state

module _ (h : Family) (v : Volume) (spare : List ℕ) (long : length spare ≡ length v.flash.spare)
    (same : (x : ℕ) → x < spare_size (geometry v.state.sizes) → fresh (get_or spare x 0) ≡ fresh (get_or v.flash.spare x 0)) where
  abbrev g : Geometry
  g = geometry v.state.sizes

  later_alike : AlikeEnd h v spare commit_later
  unfolding commit_later
  later_alike n d plan ram inside =
      rw (
        later_same g.u (blocks g) v.flash.spare spare same plan inside,
        plan_same g.u (later_plan v.flash.spare plan) v.flash (flash_of v.flash.main spare) refl,
      )

  again_alike : (c : Call) → call_again h (with_spare spare v) c ≡ redone v.state.sizes spare v (call_again h v c)
  unfolding call_again
  again_alike c = judged_alike h v spare long _ _ (λ a. answer_alike h v spare (sound _ a) commit_later later_alike c)

module _ (h : Family) (v : Volume) where
  abbrev st : Sizes
  st = (state_in v.ram).sizes

  abbrev named : Sizes
  named = sizes_named (pending_in v.ram) v.ram

  resumed_done : (b : ℕ) (p : Pending)
      → apply_all (unit_of (sizes_named p v.ram)) (resumed h b v p).ops v.flash ≡ (resumed h b v p).volume.flash
  resumed_done b nothing =
      either (bool? (bad_state (state_in v.ram))) (λ p. rw p)
      (λ p. either (bool? (too_short (geometry st) v.flash (pages v.ram))) (λ q. rw (p, q)) (λ q. rw (p, q)))
  resumed_done b (changing c) = taken_done st b v (last_steps (call_again h (pending_on v) c)) (call_again h (pending_on v) c)
  resumed_done b (formatting sizes) = taken_done sizes b v (last_steps (format (pending_on v) sizes)) (format (pending_on v) sizes)
  resumed_done b unknown = refl

  pub restart_done : (b : ℕ) → apply_all (unit_of (sizes_named (pending_in v.ram) v.ram)) (restart_for h b v).ops v.flash
      ≡ (restart_for h b v).volume.flash
  unfolding restart_for
  restart_done b = either (bool? (ltb (length v.ram) 64)) (λ q. rw q) (λ q. rw q (resumed_done b (pending_in v.ram)))

  module _ (spare : List ℕ) (long : length spare ≡ length v.flash.spare) where
    abbrev AsFresh : Pending → Type 0
    AsFresh p = (x : ℕ) → x < spare_read p v.ram → fresh (get_or spare x 0) ≡ fresh (get_or v.flash.spare x 0)

    resumed_alike : (b : ℕ) (p : Pending) → AsFresh p
        → resumed h b (with_spare spare v) p ≡ redone (sizes_named p v.ram) spare v (resumed h b v p)
    resumed_alike b nothing same =
        rw (short_same (geometry st) (pending_on v) spare long)
        (either (bool? (bad_state (state_in v.ram))) (λ p. rw p)
        (λ p. either (bool? (too_short (geometry st) v.flash (pages v.ram))) (λ q. rw (p, q)) (λ q. rw (p, q))))
    resumed_alike b (changing c) same =
        ap (λ (r : Result). taken b (unit_of st) (with_spare spare v) (last_steps r) r) (again_alike h (pending_on v) spare long same c)
        ∙ taken_alike st b v (last_steps (call_again h (pending_on v) c)) (call_again h (pending_on v) c) spare
    resumed_alike b (formatting sizes) same =
        ap (λ (r : Result). taken b (unit_of sizes) (with_spare spare v) (last_steps r) r) (format_alike (pending_on v) sizes spare long)
        ∙ taken_alike sizes b v (last_steps (format (pending_on v) sizes)) (format (pending_on v) sizes) spare
    resumed_alike b unknown same = refl

    pending_same : (p : Pending) → AsFresh p → pending_ops h (with_spare spare v) p ≡ pending_ops h v p
    pending_same nothing same = refl
    pending_same (changing c) same = ap (λ (r : Result). r.ops) (again_alike h (pending_on v) spare long same c)
    pending_same (formatting sizes) same = ap (λ (r : Result). r.ops) (format_alike (pending_on v) sizes spare long)
    pending_same unknown same = refl

    module _ (same : AsFresh (pending_in v.ram)) where
      pub restart_redone : (b : ℕ) → restart_for h b (with_spare spare v)
          ≡ redone (sizes_named (pending_in v.ram) v.ram) spare v (restart_for h b v)
      unfolding restart_for
      restart_redone b = either (bool? (ltb (length v.ram) 64)) (λ q. rw q) (λ q. rw q (resumed_alike b (pending_in v.ram) same))

      pub restart_whole_redone : restart_whole h (with_spare spare v)
          ≡ redone (sizes_named (pending_in v.ram) v.ram) spare v (restart_whole h v)
      restart_whole_redone =
          ap (λ (os : List Op). restart_for h (length os + 1) (with_spare spare v)) (pending_same (pending_in v.ram) same)
          ∙ restart_redone (length (pending_ops h v (pending_in v.ram)) + 1)

-- ---- the claims of restart

-- spare bytes that decide alike, as far as it may read them
pub by_fresh : (h : Family) (b : ℕ) (v : Volume) (spare : List ℕ) → length spare ≡ length v.flash.spare
    → ((x : ℕ) → x < spare_read (pending_in v.ram) v.ram → fresh (get_or spare x 0) ≡ fresh (get_or v.flash.spare x 0))
    → SameResult (sizes_named (pending_in v.ram) v.ram) v (with_spare spare v) (restart_for h b v) (restart_for h b (with_spare spare v))
by_fresh h b v spare long same =
    rw (restart_redone h v spare long same b)
    (redone_same (sizes_named (pending_in v.ram) v.ram) v spare (restart_for h b v) long (restart_done h v b))

-- it reads none past the volume that the header names
pub read_inside : (p : Pending) (ram : List ℕ) (x : ℕ) → x < spare_read p ram → x < spare_size (geometry (sizes_named p ram))
read_inside nothing ram x l = absurd (omega arith)
read_inside (changing c) ram x l = l
read_inside (formatting sizes) ram x l = absurd (omega arith)
read_inside unknown ram x l = absurd (omega arith)

-- up to three wrong bits in each spare byte of a volume whose spare bytes are FF and 00; past it any bytes
pub worn_restart : (h : Family) (b : ℕ) (v : Volume) (spare : List ℕ)
    → ((x : ℕ) → x < spare_size (geometry (sizes_named (pending_in v.ram) v.ram)) → Written (get_or v.flash.spare x 0))
    → Worn (spare_size (geometry (sizes_named (pending_in v.ram) v.ram))) v.flash.spare spare
    → WornResult (sizes_named (pending_in v.ram) v.ram) v (with_spare spare v) (restart_for h b v) (restart_for h b (with_spare spare v))
worn_restart h b v spare written W =
    rw (restart_redone h v spare W.long
    (λ x l. as_fresh _ v.flash.spare spare written W x (read_inside (pending_in v.ram) v.ram x l)) b)
    (redone_worn (sizes_named (pending_in v.ram) v.ram) v spare (restart_for h b v) W.long (restart_done h v b) W)
