-- Request 8's claim, on the layout's definitions, for every hash family, every format, every list of calls, cut or not, every list of
-- budgets, and restarts between the calls.
use Rattle.std.specs.Prelude.{◌≡◌, refl, Bool, true, false, cond, List, [], ◌∷◌, ◌++◌, ℕ, ◌≤◌, ◌<◌, length, get_or}
use Rattle.std.proofs.Common.{sym, ap, ◌∙◌}
use Rattle.layout.specs.Geometry.{Geometry, geometry, allowed, spare_size, Sizes, unit_of}
use Rattle.layout.specs.Flash.{apply_all}
use Rattle.layout.specs.Hash.{Family}
use Rattle.layout.specs.Calls.{Volume, Call, accepted, too_short, format, call}
use Rattle.layout.specs.FiniteMap.{Map, empty_map}
use Rattle.layout.specs.Header.{pages, on_pages}
use Rattle.layout.specs.Budgets.{format_whole}
use Rattle.laws.specs.Sound.{SizesSound, sound}
use Rattle.history.proofs.FlashLaws.{apply_append, allowed_append}
use Rattle.history.specs.Runs.{after, ProgramOrder}
use Rattle.history.proofs.ProgramOrder.{below_append, in_order}
use Rattle.history.specs.Reached.{map_after, Reached}
use Rattle.history.proofs.Reached.{reach_format}
use Rattle.history.proofs.RunLaws.{start_spare}
use Rattle.cuts.specs.Events.{lift, Event, calls_of, made, AllNumbers, event_volume, event_ops, events_after, EventsAccept, events_ops}
use Rattle.cuts.specs.Events.{Format, whole_format, format_result, format_end, format_ops}
use Rattle.cuts.specs.Uncut.{whole_after}
use Rattle.cuts.proofs.Uncut.{after_lifted}
use Rattle.cuts.specs.EventLaws.{EventIs}
use Rattle.cuts.proofs.EventLaws.{event_is, event_reaches}
use Rattle.cuts.proofs.Formats.{formatted_is, format_end_lem, format_accepts, format_flash, format_in_order, format_clears}
use Rattle.cuts.specs.Told.{after_ops}
use Rattle.cuts.specs.PowerCut.{EventsAre}

pub after_append : (h : Family) (w : Volume) (cs ds : List Call) → after h (after h w cs) ds ≡ after h w (cs ++ ds)
after_append h w [] ds = refl
after_append h w (c ∷ cs) ds = after_append h (call h w c).volume cs ds

module _ (h : Family) (sizes : Sizes) where
  abbrev g : Geometry
  g = geometry sizes

  joined : (w next : Volume) (e : Event) (es : List Event) → after h next (made es) ≡ after h w (made (e ∷ es))
      → EventIs (unit_of sizes) (spare_size g) h w next e → EventsAre (unit_of sizes) (spare_size g) h next es
      → EventsAre (unit_of sizes) (spare_size g) h w (e ∷ es)
  joined w next e es same X T = record {
    volume_is = ap (λ (v : Volume). events_after h v es) X.volume_is ∙ T.volume_is ∙ ap lift same;
    flash_is =
        apply_append (unit_of sizes) (event_ops h (lift w) e) (events_ops h (event_volume h (lift w) e) es) w.flash
        ∙ ap (apply_all (unit_of sizes) (events_ops h (event_volume h (lift w) e) es)) X.flash_is
        ∙ ap (λ (v : Volume). apply_all (unit_of sizes) (events_ops h v es) next.flash) X.volume_is
        ∙ T.flash_is ∙ ap (λ (v : Volume). v.flash) same;
    ops_allowed =
        allowed_append (unit_of sizes) (event_ops h (lift w) e) (events_ops h (event_volume h (lift w) e) es) w.flash X.ops_allowed
        (rw (X.flash_is, X.volume_is) T.ops_allowed);
    inside = below_append (spare_size g) (event_ops h (lift w) e) (events_ops h (event_volume h (lift w) e) es) X.inside
        (rw X.volume_is T.inside);
    accepts = (X.accepts, rw X.volume_is T.accepts);
  }

  pub run : (w : Volume) (m : Map) (es : List Event) → AllNumbers es → Reached h sizes w m
      → EventsAre (unit_of sizes) (spare_size (geometry sizes)) h w es
  run w m [] n X = record { volume_is = refl; flash_is = refl; ops_allowed = tt; inside = tt; accepts = tt }
  run w m (e ∷ es) n X =
      joined w (after h w (calls_of e)) e es (after_append h w (calls_of e) (made es)) (event_is h sizes w m e X n.0)
      (run (after h w (calls_of e)) (map_after g m (calls_of e)) es n.1 (event_reaches h sizes w m e X n.0))

-- ---- from a format on

module _ (h : Family) (v : Volume) (sizes : Sizes) (can : allowed sizes ≡ true)
    (long : too_short (geometry sizes) v.flash (pages v.ram) ≡ false) (f : Format) (es : List Event) (numbers : AllNumbers es) where
  abbrev gg : Geometry
  gg = geometry sizes

  okay : SizesSound sizes
  okay = sound sizes can

  -- what document 01's format leaves
  abbrev start : Volume
  start = (format (on_pages v) sizes).volume

  are : EventsAre (unit_of sizes) (spare_size (geometry sizes)) h start es
  are = run h sizes start empty_map es numbers (reach_format h sizes (on_pages v) can long)

  first : format_end h v sizes f ≡ lift start
  first = format_end_lem h v sizes can long f

  -- "From a format on, if nothing is altered, for a cut between any two steps, and for further cuts during restart, the desk, cells, marks
  -- and state in the end equal those of the call uncut":
  -- a format, then calls, each uncut or cut and finished, and restarts between them leave what document 01's format and calls leave, with a
  -- header that has the state and no intent
  pub power_cuts : events_after h (format_end h v sizes f) es ≡ lift (after h (format (on_pages v) sizes).volume (made es))
  power_cuts = ap (λ (w : Volume). events_after h w es) first ∙ are.volume_is

  -- the same against uncut calls, all with their headers
  pub as_uncut : events_after h (format_end h v sizes f) es ≡ whole_after h (format_whole v sizes).volume (made es)
  as_uncut =
      power_cuts
      ∙ sym (ap (λ (w : Volume). whole_after h w (made es)) (format_end_lem h v sizes can long whole_format) ∙ after_lifted h start (made es))

  -- none of the last restarts is refused
  pub format_accepted : (format_result h v sizes f).outcome ≡ accepted
  format_accepted = format_accepts h v sizes can long f

  pub all_accepted : EventsAccept h (format_end h v sizes f) es
  all_accepted = rw first are.accepts

  -- the operations of all runs of the format and of all calls, done in order on the chip handed to the format, give the chip in the end
  pub all_flash : apply_all (unit_of sizes) (format_ops h v sizes f ++ events_ops h (format_end h v sizes f) es) v.flash
      ≡ (events_after h (format_end h v sizes f) es).flash
  all_flash =
      apply_append (unit_of sizes) (format_ops h v sizes f) (events_ops h (format_end h v sizes f) es) v.flash
      ∙ ap (apply_all (unit_of sizes) (events_ops h (format_end h v sizes f) es)) (format_flash h v sizes can long f)
      ∙ ap (λ (w : Volume). apply_all (unit_of sizes) (events_ops h w es) w.flash) first
      ∙ are.flash_is ∙ ap (λ (w : Volume). w.flash) (sym power_cuts)

  fits : spare_size gg ≤ length start.flash.spare
  fits = rw (formatted_is h v sizes can long) (start_spare h sizes okay can (on_pages v) long).0

  says : (P : ℕ → Bool) (x : ℕ) → x < spare_size gg → get_or start.flash.spare x 0 ≡ cond (after_ops (format_ops h v sizes f) P x) 0 255
  says P x l =
      rw (formatted_is h v sizes can long, format_clears h v sizes can long f P x l) ((start_spare h sizes okay can (on_pages v) long).1 x l)

  -- "The rule against programming twice counts both runs as one history": these operations keep the chip's program order
  pub all_in_order : (P : ℕ → Bool) → ProgramOrder (format_ops h v sizes f ++ events_ops h (format_end h v sizes f) es) P
  all_in_order P =
      rw first
      (format_in_order h v sizes can long f (events_ops h (lift start) es) P
      (in_order (unit_of sizes) (spare_size gg) (events_ops h (lift start) es) start.flash (after_ops (format_ops h v sizes f) P) fits (says P)
      are.ops_allowed are.inside))
