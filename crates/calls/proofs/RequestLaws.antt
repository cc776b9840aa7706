-- A changing call: 5, 6, 7 or the change, and what a budget leaves of it.
use mathlib.Core.Path.{◌≡◌, refl, sym, ap, subst, ◌∙◌}
use mathlib.Core.Bool.{Bool, true, false, cond, ◌&&◌}
use mathlib.Core.List.{List, ◌++◌}
use Prim.{Unit}
use Prim.Native.Nat.{ℕ, suc, ◌+◌, ◌≤◌}
use native.Mathlib.Omega.{arith}
use lib.Dec.{leb}
use lib.ListN.{length, length-append}
use borrow.Author.Tests.{le-leb, lt-leb}
use Rattle.std.specs.Prelude as std
use Rattle.std.specs.Prelude.{Ok, Err}
use Rattle.memory.specs.Bits.{num}
use Rattle.memory.specs.Cases.{either, le?}
use Rattle.layout.specs.Geometry as layout
use Rattle.layout.specs.Flash.{flash_of, plan_ops, all_fresh}
use Rattle.layout.specs.Hash.{fnv_family}
use Rattle.layout.specs.Refusals as refusal
use Rattle.layout.specs.Calls.{key_of, Volume, Call, Result, accepted, refused, refuse, one, no_room, no_deletion, change_plan}
use Rattle.layout.specs.Calls.{change_by, commit}
use Rattle.layout.specs.Header.{header_size, pages, on_pages, intended}
use Rattle.layout.specs.Budgets as budgets
use Rattle.layout.specs.Budgets.{Step, Memory, memory, last_steps, call_steps, taken, result_of, call_for, call_cut}
use Rattle.laws.specs.HeaderLaws.{pages_of}
use Rattle.geometry.specs.Shape.{shape}
use Rattle.geometry.specs.declared.volume.Geometry.{Geometry}
use Rattle.state.specs.Contract.{CutEffect, number_of, cut_of, Ran, state_is, call_of, volume}
use Rattle.state.specs.Judge.{VolumeFits}
use Rattle.state.specs.declared.Progress.{Progress}
use Rattle.state.specs.declared.Refusal.{Refusal}
use Rattle.state.specs.declared.Refusal.TheVariants.{Full, DeletionsFull, NotFresh}
use Rattle.state.specs.declared.State.{State}
use Rattle.state.specs.declared.Request.{Request}
use Rattle.state.proofs.Refusals.{refused_by}
use Rattle.state.proofs.RunLaws.{refused_cut_lem as refused_cut_is}
use Rattle.changes.specs.Edits.{edit_is}
use Rattle.changes.specs.Tasks.{change_refusal, changed, task_result}
use Rattle.changes.specs.declared.Task.{Task}
use Rattle.changes.specs.declared.Edit.{Edit}
use Rattle.calls.specs.Resolve.{resolved_of, ResolvedFits}
use Rattle.calls.specs.Request.{decision_of}
use Rattle.calls.specs.declared.Resolved.{Resolved}
use Rattle.calls.proofs.CallsLaws.{decided_by, done_by, done_change, call_done}

-- ---- 5, 6 and 7

-- a refusal, or what a call answers that is not refused
abbrev pub refused_or : Volume → Result → std.Result Unit Refusal → Result
refused_or w x (Err i) = refused_by w i
refused_or w x (Ok u) = x

pub change_told : (g : layout.Geometry) (w : Volume) (e : Edit) → change_by commit fnv_family g w (edit_is e)
    ≡ refused_or w (changed g w (edit_is e) 0) (change_refusal g w (edit_is e))
unfolding change_by commit
change_told g w e =
    by (one (edit_is e).inserts && no_room g w) (one (edit_is e).deletes && no_deletion g w)
    (all_fresh w.flash.spare (plan_ops g.u (change_plan fnv_family g w (edit_is e)) w.flash)) (changed g w (edit_is e) 0)
  where
    by : (a b c : Bool) (x : Result)
        → cond a (refuse w refusal.full) (cond b (refuse w refusal.deletions_full) (cond c x (refuse w refusal.not_fresh)))
        ≡ refused_or w x (cond a (Err Full) (cond b (Err DeletionsFull) (cond c (Ok (tt {0})) (Err NotFresh))))
    by true b c x = refl
    by false true c x = refl
    by false false true x = refl
    by false false false x = refl

-- a change that is refused, and one that is not
module _ (g : layout.Geometry) (w : Volume) (e : Edit) where
  pub commit_refused : (i : Refusal) → Err i ≡ change_refusal g w (edit_is e)
      → change_by commit fnv_family g w (edit_is e) ≡ refused_by w i
  commit_refused i r = change_told g w e ∙ ap (refused_or w (changed g w (edit_is e) 0)) (sym r)

  pub commit_accepted : Ok (tt {0}) ≡ change_refusal g w (edit_is e)
      → change_by commit fnv_family g w (edit_is e) ≡ changed g w (edit_is e) 0
  commit_accepted r = change_told g w e ∙ ap (refused_or w (changed g w (edit_is e) 0)) (sym r)

-- the call that it is
module _ (v : Volume) (c : Call) (g : layout.Geometry) (w : Volume) (e : Edit)
    (is : result_of fnv_family v c ≡ change_by commit fnv_family g w (edit_is e)) where
  pub change_refused : (i : Refusal) → Err i ≡ change_refusal g w (edit_is e) → result_of fnv_family v c ≡ refused_by w i
  change_refused i r = is ∙ commit_refused g w e i r

  pub change_accepted : Ok (tt {0}) ≡ change_refusal g w (edit_is e) → result_of fnv_family v c ≡ changed g w (edit_is e) 0
  change_accepted r = is ∙ commit_accepted g w e r

-- ---- a call by what is decided

module _ (v : Volume) (q : Request) (r : std.Result Resolved Refusal) (is : r ≡ resolved_of v (key_of (call_of q))) where
  decided : (d : std.Result Edit Refusal) → decided_by q r ≡ d
      → result_of fnv_family v (call_of q) ≡ done_by commit (on_pages v) (layout.geometry v.state.sizes) d
  decided d d_is =
      let G = layout.geometry v.state.sizes in
      call_done v q ∙ ap (λ (x : std.Result Resolved Refusal). done_by commit (on_pages v) G (decided_by q x)) (sym is)
      ∙ ap (done_by commit (on_pages v) G) d_is

  pub call_refused : (i : Refusal) → decided_by q r ≡ Err i → result_of fnv_family v (call_of q) ≡ refused_by (on_pages v) i
  call_refused i d = decided (Err i) d

  pub call_changes : ResolvedFits (on_pages v) r → (s : Resolved) (e : Edit) → r ≡ Ok s → decision_of q s.live ≡ Ok e
      → VolumeFits (on_pages v) s.g
      × (result_of fnv_family v (call_of q) ≡ change_by commit fnv_family (shape s.g) (on_pages v) (edit_is e))
  call_changes f s e r_is d =
      let fits : VolumeFits (on_pages v) s.g = subst (ResolvedFits (on_pages v)) r_is f in
      (fits, decided (Ok e) (ap (decided_by q) r_is ∙ d) ∙ done_change commit (on_pages v) s.g e fits)

-- ---- a budget

leb_suc : (m n : ℕ) → leb (suc m) (suc n) ≡ leb m n
leb_suc m n =
    either (le? m n) (λ a. le-leb (suc m) (suc n) (omega (arith, a.1)) ∙ sym a.0)
    (λ a. lt-leb (suc m) (suc n) (omega (arith, a.1)) ∙ sym a.0)

-- a result of a call that stores x as its intent, with a budget
abbrev cut_with : ℕ → ℕ → Volume → List ℕ → Result → budgets.Cut
cut_with b u v x r = budgets.cut_of b (call_steps x r) (taken b u v (call_steps x r) r)

module _ (v : Volume) (c : Call) where
  abbrev unit : ℕ
  unit = layout.unit_of v.state.sizes

  pub refused_cut_lem : (b : ℕ) (i : Refusal) (w : Volume) → result_of fnv_family v c ≡ refused_by w i
      → record { outcome = refused (number_of i); complete = 0; steps = 0; left = v } ≡ cut_of (call_cut fnv_family b v c)
  unfolding call_for
  refused_cut_lem b i w p = refused_cut_is b unit v w i (call_steps (intended v c) (result_of fnv_family v c)) (result_of fnv_family v c) p

  module _ (r : Result) (is : result_of fnv_family v c ≡ r) (yes : r.outcome ≡ accepted) where
    -- none of its steps
    pub none_cut : (b : ℕ) → b ≡ 0 → record { outcome = accepted; complete = 0; steps = 0; left = v } ≡ cut_of (call_cut fnv_family b v c)
    unfolding call_for
    none_cut b z = here ∙ ap (λ (s : Result). cut_of (cut_with b unit v (intended v c) s)) (sym is)
      where
        here : record { outcome = accepted; complete = 0; steps = 0; left = v } ≡ cut_of (cut_with b unit v (intended v c) r)
        here = rw (z, yes, lt-leb (suc (length (last_steps r))) 0 (omega arith))

    -- its intent and b more
    pub some_cut : (b b' : ℕ) → b' ≡ suc b → (m : Memory) (p : Progress)
        → Ran unit (last_steps r) b (memory v.flash (intended v c)) m p
        → record {
          outcome = accepted;
          complete = num p.finished;
          steps = p.steps + 1;
          left = record { state = cond p.finished r.volume.state v.state; flash = m.flash; ram = m.ram };
        } ≡ cut_of (call_cut fnv_family b' v c)
    unfolding call_for
    some_cut b b' e m p R = here ∙ ap (λ (s : Result). cut_of (cut_with b' unit v (intended v c) s)) (sym is)
      where
        one_more : (k : ℕ) → k + 1 ≡ suc k
        one_more k = omega arith

        here : record {
          outcome = accepted;
          complete = num p.finished;
          steps = p.steps + 1;
          left = record { state = cond p.finished r.volume.state v.state; flash = m.flash; ram = m.ram };
        } ≡ cut_of (cut_with b' unit v (intended v c) r)
        here = rw (e, yes, leb_suc (length (last_steps r)) b, R.memory_is, R.finished_is, one_more p.steps, R.steps_is)

-- what is told of it, with the state on either side of the last step
pub told_cut_lem : (f : Bool) (k : ℕ) (new old : State) (main spare ram : List ℕ) (s : layout.State) (x : CutEffect) → state_is new ≡ s
    → record {
      outcome = accepted;
      complete = num f;
      steps = k;
      left = record { state = cond f s (state_is old); flash = flash_of main spare; ram = ram };
    } ≡ x
    → record { outcome = accepted; complete = num f; steps = k; left = volume (cond f new old) main spare ram } ≡ x
told_cut_lem true k new old main spare ram s x e q = rw e q
told_cut_lem false k new old main spare ram s x e q = q

-- ---- the RAM with its intent

-- the pages are the old ones
module _ (main spare ram ram' x : List ℕ) (is : ram' ≡ pages ram ++ x) (size : length x ≡ header_size) where
  same_pages : pages ram' ≡ pages ram
  same_pages = ap pages is ∙ pages_of (pages ram) x size

  pub fits_still : (s : State) (g : Geometry) → VolumeFits (volume s main spare (pages ram)) g
      → (header_size ≤ length ram') × VolumeFits (volume s main spare (pages ram')) g
  fits_still s g f = (rw is (omega (arith, length-append (pages ram) x, size)), rw same_pages f)

  pub ran_still : (t : Task) (u b : ℕ) (m : Memory) (p : Progress) → t.g.chip.unit ≡ u
      → Ran t.g.chip.unit (last_steps (task_result t main spare (pages ram') 0)) b (memory (flash_of main spare) ram') m p
      → Ran u (last_steps (task_result t main spare (pages ram) 0)) b (memory (flash_of main spare) (pages ram ++ x)) m p
  ran_still t u b m p e R =
      subst (λ (k : ℕ). Ran k (last_steps (task_result t main spare (pages ram) 0)) b (memory (flash_of main spare) (pages ram ++ x)) m p) e
      (subst
      (λ (l : List ℕ). Ran t.g.chip.unit (last_steps (task_result t main spare (pages ram) 0)) b (memory (flash_of main spare) l) m p) is
      (subst
      (λ (l : List ℕ). Ran t.g.chip.unit (last_steps (task_result t main spare l 0)) b (memory (flash_of main spare) ram') m p) same_pages
      R))
