-- Demand 3 of lists of calls with power cuts: each call answers as the map does, however few steps it had, and after its last run the
-- volume has the map's state. Document 01's map, document 02's request 8.
use Rattle.std.specs.Prelude.{◌≡◌, refl, true, false, List, [], ◌∷◌, ℕ, zero, suc}
use Rattle.std.proofs.Common.{ap, ◌∙◌, zero-le, arith}
use Rattle.layout.specs.Geometry.{Geometry, geometry, allowed, Sizes}
use Rattle.layout.specs.Hash.{Family}
use Rattle.layout.specs.Calls.{Volume, Call, Outcome, accepted, hit, miss, refused, Result, too_short, format, call}
use Rattle.layout.specs.FiniteMap.{Map, empty_map, Step, map_of}
use Rattle.layout.specs.Header.{pages, on_pages}
use Rattle.layout.specs.Budgets.{call_for}
use Rattle.laws.specs.Sound.{sound}
use Rattle.history.specs.Reached.{map_after, Reached}
use Rattle.history.proofs.Reached.{reach_format}
use Rattle.history.proofs.RunLaws.{run}
use Rattle.history.specs.Runs.{after, HandedOn, Agrees, ResultAgrees}
use Rattle.cuts.specs.Events.{lift, Event, whole, cut, idle, made_by, calls_of, Numbers, EventNumbers, AllNumbers}
use Rattle.cuts.specs.Events.{Format, format_end}
use Rattle.cuts.proofs.RestartLaws.{call_outcome}
use Rattle.cuts.proofs.Uncut.{lifted_is, whole_lifted, agrees_lifted}
use Rattle.cuts.proofs.EventLaws.{key_word, event_is, event_reaches}
use Rattle.cuts.proofs.Formats.{format_end_lem}
use Rattle.cuts.specs.CutMap.{step_for, EventAgrees, EventsAgree}

-- a budget changes no answer
pub lifted_outcome : (h : Family) (b : ℕ) (w : Volume) (c : Call) → (call_for h b (lift w) c).outcome ≡ (call h w c).outcome
lifted_outcome h b w c = call_outcome h b (lift w) c ∙ ap (λ (r : Result). r.outcome) (lifted_is h w c)

module _ (h : Family) (sizes : Sizes) where
  abbrev g : Geometry
  g = geometry sizes

  agrees_moved : (w w' : Volume) (c : Call) (s : Step) → w ≡ w' → ResultAgrees sizes w' (call h w' c) s
      → ResultAgrees sizes w (call h w c) s
  agrees_moved w w' c s p A = rw p A

  pub call_agrees : (w : Volume) (m : Map) (c : Call) → Reached h sizes w m → Numbers c → ResultAgrees sizes w (call h w c) (map_of g m c)
  call_agrees w m c X n =
      agrees_moved w _ c (map_of g m c) X.is
      (run h sizes (sound sizes X.can) X.can X.H w.flash w.ram m (c ∷ []) (key_word c n, tt) X.holds X.live
      ).agrees.0

  handed_same : (o : Outcome) (w : Volume) → HandedOn o w w
  handed_same accepted w = tt
  handed_same (hit place bytes) w = refl
  handed_same miss w = refl
  handed_same (refused i) w = refl

  -- a call of document 01, made if it has a step
  made_agrees : (w : Volume) (m : Map) (b : ℕ) (c : Call) → Reached h sizes w m → Numbers c
      → Agrees sizes w (call h w c).outcome 0 (after h w (made_by b c)) (step_for g b m c)
  made_agrees w m zero c X n =
      let A = call_agrees w m c X n in
      record {
        says = A.says;
        state_is_lem = ap (λ (x : Volume). x.state) X.is ∙ rw (X.live.n_is, X.live.d_is);
        live = rw X.is (omega (arith, X.live.count));
        once = X.live.once;
        possible = A.possible;
        handed_on = handed_same (call h w c).outcome w;
        count_le = zero-le;
      }
  made_agrees w m (suc b) c X n =
      let A = call_agrees w m c X n in
      record {
        says = A.says;
        state_is_lem = A.state_is_lem;
        live = A.live;
        once = A.once;
        possible = A.possible;
        handed_on = A.handed_on;
        count_le = zero-le;
      }

  none_made : (w : Volume) (b : ℕ) (c : Call) → b ≡ 0 → lift (after h w (made_by b c)) ≡ lift w
  none_made w zero c e = refl
  none_made w (suc b) c e = absurd (omega (arith, e))

  event_agrees : (w : Volume) (m : Map) (e : Event) → Reached h sizes w m → EventNumbers e → EventAgrees h sizes (lift w) m e
  event_agrees w m (whole c) X n =
      rw (whole_lifted h w c) (agrees_lifted sizes w _ _ _ (map_of g m c) (call_agrees w m c X n))
  event_agrees w m (cut c b bs) X n =
      rw (lifted_outcome h b w c, (event_is h sizes w m (cut c b bs) X n).volume_is)
      (record {
        agrees = agrees_lifted sizes w (call h w c).outcome 0 (after h w (made_by b c)) (step_for g b m c) (made_agrees w m b c X n);
        not_made = none_made w b c;
      })
  event_agrees w m (idle bs) X n = ((event_is h sizes w m (idle bs) X n).accepts, (event_is h sizes w m (idle bs) X n).volume_is)

  pub events_agree : (w : Volume) (m : Map) (es : List Event) → Reached h sizes w m → AllNumbers es → EventsAgree h sizes (lift w) m es
  events_agree w m [] X n = tt
  events_agree w m (e ∷ es) X n = (
    event_agrees w m e X n.0,
    rw (event_is h sizes w m e X n.0).volume_is
        (events_agree (after h w (calls_of e)) (map_after g m (calls_of e)) es (event_reaches h sizes w m e X n.0) n.1),
  )

-- from a format on, uncut or cut and finished
pub cuts_agree : (h : Family) (v : Volume) (sizes : Sizes) → allowed sizes ≡ true
    → too_short (geometry sizes) v.flash (pages v.ram) ≡ false → (f : Format) (es : List Event) → AllNumbers es
    → EventsAgree h sizes (format_end h v sizes f) empty_map es
cuts_agree h v sizes can long f es n =
    rw (format_end_lem h v sizes can long f)
    (events_agree h sizes (format (on_pages v) sizes).volume empty_map es (reach_format h sizes (on_pages v) can long) n)
