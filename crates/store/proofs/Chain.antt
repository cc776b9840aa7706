-- Demand 3 of the code: every chain of calls whose results satisfy the contracts, from an accepted format on, agrees with the map
-- at FNV-1a.
use Rattle.std.specs.Prelude.{◌≡◌, refl, true, false, List, [], ◌∷◌, ◌++◌, ℕ}
use Rattle.std.proofs.Common.{ap, ◌∙◌}
use Rattle.layout.specs.Geometry.{geometry, allowed, Sizes, unit_of}
use Rattle.layout.specs.Flash.{apply_all}
use Rattle.layout.specs.Hash.{fnv_family}
use Rattle.layout.specs.Calls.{Volume, Call, Outcome, accepted, too_short, format, call}
use Rattle.layout.specs.FiniteMap.{Map, empty_map, map_of}
use Rattle.layout.specs.Header.{pages, on_pages}
use Rattle.layout.specs.Budgets.{call_whole, format_whole}
use Rattle.history.specs.Live.{empty_history}
use Rattle.history.proofs.Every.{can_accepted}
use Rattle.history.specs.Runs.{KeyWords, after, EachAgrees, history_of, ImageOf}
use Rattle.history.proofs.Demands.{demand_2, demand_3}
use Rattle.cuts.specs.Events.{lift}
use Rattle.cuts.specs.Uncut.{lift_result, whole_ops}
use Rattle.cuts.proofs.Uncut.{pages_lifted, whole_lifted, format_lifted, format_lifted_ops, format_lifted_outcome}
use Rattle.cuts.proofs.Uncut.{ops_lifted, agrees_lifted, finished_lifted}
use Rattle.state.specs.Contract.{Effect, effect_of}
use Rattle.store.specs.Chain.{Chain, EffectsAgree, AllFinished, last_volume, CodeRun}

-- ---- calls on a volume of document 01 with its header are document 01's

effect_is : (w : Volume) (c : Call) (l : Effect) → l ≡ effect_of (call_whole fnv_family (lift w) c)
    → l ≡ effect_of (lift_result (call fnv_family w c))
effect_is w c l e = e ∙ ap effect_of (whole_lifted fnv_family w c)

-- a chain from such a volume goes on from such a volume
goes_on : (w : Volume) (c : Call) (l : Effect) (cs : List Call) (ls : List Effect) → l ≡ effect_of (lift_result (call fnv_family w c))
    → Chain l.left cs ls → Chain (lift (call fnv_family w c).volume) cs ls
goes_on w c l cs ls e k = rw e at k

effects_agree : (sizes : Sizes) (w : Volume) (m : Map) (cs : List Call) (ls : List Effect)
    → Chain (lift w) cs ls → EachAgrees fnv_family sizes w m cs → EffectsAgree sizes (lift w) m cs ls
effects_agree sizes w m [] ls k a = tt
effects_agree sizes w m (c ∷ cs) [] k a = k
effects_agree sizes w m (c ∷ cs) (l ∷ ls) k a =
    let e = effect_is w c l k.0 in
    rw e (
      agrees_lifted sizes w _ _ _ _ a.0,
      effects_agree sizes (call fnv_family w c).volume (map_of (geometry sizes) m c).next cs ls (goes_on w c l cs ls e k.1) a.1,
    )

all_finished : (w : Volume) (cs : List Call) (ls : List Effect) → Chain (lift w) cs ls → AllFinished ls
all_finished w [] [] k = tt
all_finished w [] (l ∷ ls) k = absurd k
all_finished w (c ∷ cs) [] k = absurd k
all_finished w (c ∷ cs) (l ∷ ls) k =
    let e = effect_is w c l k.0 in (
      rw e (finished_lifted (call fnv_family w c).volume),
      all_finished (call fnv_family w c).volume cs ls (goes_on w c l cs ls e k.1),
    )

last_is : (w : Volume) (cs : List Call) (ls : List Effect) → Chain (lift w) cs ls → last_volume (lift w) ls ≡ lift (after fnv_family w cs)
last_is w [] [] k = refl
last_is w [] (l ∷ ls) k = absurd k
last_is w (c ∷ cs) [] k = absurd k
last_is w (c ∷ cs) (l ∷ ls) k =
    let e = effect_is w c l k.0 in
    ap (λ (x : Effect). last_volume x.left ls) e ∙ last_is (call fnv_family w c).volume cs ls (goes_on w c l cs ls e k.1)

-- the same of the volume that document 01's format leaves
module _ (v : Volume) (sizes : Sizes) (can : allowed sizes ≡ true) (long : too_short (geometry sizes) v.flash (pages v.ram) ≡ false)
    (o : Outcome) (n : ℕ) (cs : List Call) (ls : List Effect) (words : KeyWords cs) where
  abbrev w : Volume
  w = (format (on_pages v) sizes).volume

  abbrev start : Effect
  start = record { outcome = o; count = n; left = lift w }

  acc : (format (on_pages v) sizes).outcome ≡ accepted
  acc = can_accepted (on_pages v) sizes can long

  flash_lifted : Chain (lift w) cs ls
      → apply_all (unit_of sizes) ((format_whole v sizes).ops ++ whole_ops fnv_family (lift w) cs) v.flash ≡ (last_volume (lift w) ls).flash
  flash_lifted k =
      rw (last_is w cs ls k, format_lifted_ops v sizes acc, ops_lifted fnv_family w cs)
      (demand_3 fnv_family (on_pages v) sizes cs can long words).flash_is

  image_lifted : Chain (lift w) cs ls
      → ImageOf fnv_family (geometry sizes) (history_of fnv_family (on_pages (lift w)) empty_history cs) (on_pages v)
      (on_pages (last_volume (lift w) ls))
  image_lifted k =
      rw (last_is w cs ls k, pages_lifted w, pages_lifted (after fnv_family w cs)) (demand_2 fnv_family (on_pages v) sizes cs can long words)

  run_lifted : o ≡ accepted → Chain (lift w) cs ls → CodeRun v sizes start cs ls
  run_lifted ok k =
      let d = demand_3 fnv_family (on_pages v) sizes cs can long words in
      let ops = format_lifted_ops v sizes acc in
      record {
        formatted = ok;
        started = d.started;
        each = effects_agree sizes w empty_map cs ls k d.agrees;
        format_finished = finished_lifted w;
        each_finished = all_finished w cs ls k;
        ops_are = rw (ops, ops_lifted fnv_family w cs, pages_lifted w);
        flash_is = flash_lifted k;
        in_order = λ P. rw (ops, ops_lifted fnv_family w cs) (d.in_order P);
        image = image_lifted k;
      }

pub code_run : (v : Volume) (sizes : Sizes) (first : Effect) (cs : List Call) (ls : List Effect)
    → allowed sizes ≡ true → too_short (geometry sizes) v.flash (pages v.ram) ≡ false → KeyWords cs
    → first ≡ effect_of (format_whole v sizes) → Chain first.left cs ls
    → CodeRun v sizes first cs ls
code_run v sizes first cs ls can long words e k =
    let acc = can_accepted (on_pages v) sizes can long in
    let left : first.left ≡ lift (format (on_pages v) sizes).volume = ap (λ (x : Effect). x.left) e ∙ format_lifted v sizes acc in
    let is : first ≡ record { outcome = first.outcome; count = first.count; left = lift (format (on_pages v) sizes).volume }
    = ap (λ (x : Volume). record { outcome = first.outcome; count = first.count; left = x }) left in
    rw is
    (run_lifted v sizes can long first.outcome first.count cs ls words
    (ap (λ (x : Effect). x.outcome) e ∙ format_lifted_outcome v sizes acc) (rw left at k))
