-- A pending change as a restart goes on with it, by what is decided; and what a budget leaves of it.
use mathlib.Core.Path.{◌≡◌, refl, sym, ap, ◌∙◌}
use mathlib.Core.Bool.{Bool, true, false, cond, ◌&&◌}
use mathlib.Core.List.{List}
use Prim.Native.Nat.{ℕ, ◌≤◌}
use lib.ListN.{length}
use lib.Dec.{ltb}
use borrow.Author.Tests.{le-ltb}
use Rattle.std.specs.Prelude.{Ok, Err}
use Rattle.memory.specs.Bits.{num}
use Rattle.memory.specs.Booleans.{cond_neg}
use Rattle.layout.specs.Geometry as layout
use Rattle.layout.specs.Hash.{fnv_family}
use Rattle.layout.specs.Refusals as refusal
use Rattle.layout.specs.Calls.{Volume, Call, accepted, refused, Result, refuse, one, no_room, no_deletion, change_plan, change_by}
use Rattle.layout.specs.Later.{commit_later, call_again}
use Rattle.layout.specs.Header.{header_size, changing, pending_in}
use Rattle.layout.specs.Budgets as budgets
use Rattle.layout.specs.Budgets.{Step, Memory, memory, last_steps, taken, pending_on, resumed, restart_for, restart_steps, restart_cut}
use Rattle.laws.specs.Done.{done_count, later_drop}
use Rattle.state.specs.Contract.{state_is, number_of, CutEffect, cut_of, Ran}
use Rattle.state.specs.declared.State.{State}
use Rattle.state.specs.declared.Progress.{Progress}
use Rattle.state.specs.declared.Refusal.{Refusal}
use Rattle.state.specs.declared.Refusal.TheVariants.{Full, DeletionsFull}
use Rattle.state.proofs.Refusals.{refused_by}
use Rattle.state.proofs.RunLaws.{refused_cut_lem as refused_cut_is}
use Rattle.changes.specs.Edits.{edit_is, room_refusal}
use Rattle.changes.specs.Tasks.{changed}
use Rattle.changes.specs.declared.Edit.{Edit}
use Rattle.calls.proofs.RequestLaws.{refused_or}

-- ---- 5 and 6

-- "of these a restart repeats none, and it does all the later ones"
pub again_told : (g : layout.Geometry) (w : Volume) (e : Edit) → change_by commit_later fnv_family g w (edit_is e)
    ≡ refused_or w (changed g w (edit_is e) (done_count w.flash.spare (change_plan fnv_family g w (edit_is e))))
    (room_refusal g w.state.records w.state.deletions (edit_is e))
unfolding change_by commit_later
again_told g w e =
    rw (later_drop w.flash.spare (change_plan fnv_family g w (edit_is e)))
    (by (one (edit_is e).inserts && no_room g w) (one (edit_is e).deletes && no_deletion g w) _)
  where
    by : (a b : Bool) (x : Result)
        → cond a (refuse w refusal.full) (cond b (refuse w refusal.deletions_full) x)
        ≡ refused_or w x (cond a (Err Full) (cond b (Err DeletionsFull) (Ok (tt {0}))))
    by true b x = refl
    by false true x = refl
    by false false x = refl

module _ (g : layout.Geometry) (w : Volume) (e : Edit) where
  pub again_full : (i : Refusal) → Err i ≡ room_refusal g w.state.records w.state.deletions (edit_is e)
      → change_by commit_later fnv_family g w (edit_is e) ≡ refused_by w i
  again_full i is = again_told g w e ∙ ap (refused_or w _) (sym is)

  pub again_later : Ok (tt {0}) ≡ room_refusal g w.state.records w.state.deletions (edit_is e)
      → change_by commit_later fnv_family g w (edit_is e)
      ≡ changed g w (edit_is e) (done_count w.flash.spare (change_plan fnv_family g w (edit_is e)))
  again_later is = again_told g w e ∙ ap (refused_or w _) (sym is)

-- ---- what a caller sees

-- a refusal
abbrev refused_cut : Volume → Refusal → CutEffect
refused_cut v i = record { outcome = refused (number_of i); complete = 0; steps = 0; left = v }

-- a run of steps that ended so, in a state or the other
abbrev ran_cut : Progress → layout.State → layout.State → Memory → CutEffect
ran_cut p old new m =
    record {
      outcome = accepted;
      complete = num p.finished;
      steps = p.steps;
      left = record { state = cond p.finished new old; flash = m.flash; ram = m.ram };
    }

ran_cut_lem : (b u : ℕ) (v : Volume) (ss : List Step) (r : Result) → r.outcome ≡ accepted → (m : Memory) (p : Progress)
    → Ran u ss b (memory v.flash v.ram) m p
    → ran_cut p v.state r.volume.state m ≡ cut_of (budgets.cut_of b ss (taken b u v ss r))
ran_cut_lem b u v ss r done m p R = rw (done, R.memory_is, R.steps_is, R.finished_is)

pub state_either : (t : Bool) (new old : State) → state_is (cond t new old) ≡ cond t (state_is new) (state_is old)
state_either true new old = refl
state_either false new old = refl

-- ---- a restart

module _ (b : ℕ) (v : Volume) (c : Call) (long : header_size ≤ length v.ram) (pending : pending_in v.ram ≡ changing c) where
  abbrev again : Result
  again = call_again fnv_family (pending_on v) c

  abbrev unit : ℕ
  unit = layout.unit_of (pending_on v).state.sizes

  restart_is : restart_for fnv_family b v ≡ taken b unit v (last_steps again) again
  unfolding restart_for
  restart_is =
      cond_neg (ltb (length v.ram) header_size) _ _ (le-ltb (length v.ram) header_size long) ∙ ap (resumed fnv_family b v) pending

  cut_is : restart_cut fnv_family b v ≡ budgets.cut_of b (last_steps again) (taken b unit v (last_steps again) again)
  cut_is =
      ap (λ (ss : List Step). budgets.cut_of b ss (restart_for fnv_family b v)) (ap (restart_steps fnv_family v) pending)
      ∙ ap (budgets.cut_of b (last_steps again)) restart_is

  module _ (w : Volume) (w_is : w ≡ pending_on v) where
    pub restart_refused : (i : Refusal) → call_again fnv_family w c ≡ refused_by w i → refused_cut v i ≡ cut_of (restart_cut fnv_family b v)
    restart_refused i p =
        let e : again ≡ refused_by w i = ap (λ (x : Volume). call_again fnv_family x c) (sym w_is) ∙ p in
        refused_cut_is b unit v w i (last_steps again) again e ∙ ap cut_of (sym cut_is)

    pub restart_ran : (u : ℕ) (r : Result) → u ≡ layout.unit_of w.state.sizes → call_again fnv_family w c ≡ r → r.outcome ≡ accepted
        → (m : Memory) (p : Progress) → Ran u (last_steps r) b (memory v.flash v.ram) m p
        → ran_cut p v.state r.volume.state m ≡ cut_of (restart_cut fnv_family b v)
    restart_ran u r u_is is done m p R =
        let e : again ≡ r = ap (λ (x : Volume). call_again fnv_family x c) (sym w_is) ∙ is in
        let n : u ≡ unit = u_is ∙ ap (λ (x : Volume). layout.unit_of x.state.sizes) w_is in
        ran_cut_lem b u v (last_steps r) r done m p R
        ∙ ap cut_of (ap (λ (k : ℕ). budgets.cut_of b (last_steps r) (taken b k v (last_steps r) r)) n
        ∙ sym (cut_is ∙ ap (λ (x : Result). budgets.cut_of b (last_steps x) (taken b unit v (last_steps x) x)) e))
