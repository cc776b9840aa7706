-- "Of a call made of several, as a load, each is cut and finished by itself": calls in turn with one budget of steps. A call that is cut
-- ends them, and those after it are not made. With the restarts after them they are events, so that all that holds of power cuts holds of
-- them.
use Rattle.std.specs.Prelude.{◌≡◌, refl, Bool, true, false, cond, List, [], ◌∷◌, ◌++◌, ℕ, ◌-◌, ◌≤◌, leb}
use Rattle.std.proofs.Common.{sym, ap, subst, ◌∙◌, append_assoc, append-nil, arith}
use Rattle.memory.specs.Cases.{either, le?}
use Rattle.layout.specs.Geometry.{geometry, allowed, Sizes, unit_of}
use Rattle.layout.specs.Flash.{Op, apply_all}
use Rattle.layout.specs.Hash.{Family}
use Rattle.layout.specs.Calls.{Volume, Call, accepted, Result, too_short, format, call}
use Rattle.layout.specs.FiniteMap.{Map, empty_map}
use Rattle.layout.specs.Header.{pages, on_pages}
use Rattle.history.specs.Runs.{after, ProgramOrder}
use Rattle.history.specs.Reached.{map_after, Reached}
use Rattle.history.proofs.Reached.{reach, reach_call, reach_format}
use Rattle.layout.specs.Budgets.{step_count, result_of, call_for, restarts, restart_whole}
use Rattle.cuts.specs.Events.{lift, Event, whole, cut, idle, made_by, calls_of, made, Numbers, AllNumbers, finish, finish_ops}
use Rattle.cuts.specs.Events.{event_volume, event_ops, events_after, events_ops, Format, format_end, format_ops}
use Rattle.cuts.specs.Uncut.{whole_after, whole_ops}
use Rattle.cuts.proofs.Uncut.{lifted_is, enough_lifted, whole_lifted, pages_lifted}
use Rattle.cuts.proofs.EventLaws.{key_word, all_words}
use Rattle.cuts.proofs.Formats.{format_end_lem}
use Rattle.cuts.proofs.PowerCut.{run, all_flash, all_in_order}
use Rattle.cuts.specs.Several.{CallNumbers, AsEvents, Turn, whole_turn, cut_turn, OneNumbers, TurnNumbers, several_for, calls_ops}
use Rattle.cuts.specs.Several.{several_ops, begun, all_steps, turn_volume, turn_ops, turn_begun, turns_after, turns_ops, turns_begun}

module _ (h : Family) where
  -- ---- with so many steps all are made, and no restart is asked for

  pub all_begun : (w : Volume) (b : ℕ) (cs : List Call) → all_steps h w cs ≤ b → begun h b w cs ≡ cs
  all_begun w b [] l = refl
  all_begun w b (c ∷ cs) l =
      either (le? (step_count (call h w c)) b)
      (λ q. rw q.0 (ap (λ (ds : List Call). c ∷ ds)
      (all_begun (call h w c).volume (b - step_count (call h w c)) cs (omega (arith, l)))))
      (λ q. absurd (omega (arith, l, q.1)))

  pub several_whole : (w : Volume) (b : ℕ) (cs : List Call) → all_steps h w cs ≤ b → several_for h b (lift w) cs ≡ lift (after h w cs)
  several_whole w b [] l = refl
  several_whole w b (c ∷ cs) l =
      let steps : step_count (result_of h (lift w) c) ≡ step_count (call h w c) = ap step_count (lifted_is h w c) in
      rw steps
      (either (le? (step_count (call h w c)) b)
      (λ q.
      let whole : (call_for h b (lift w) c).volume ≡ lift (call h w c).volume
      = ap (λ (r : Result). r.volume) (enough_lifted h w c b q.1) in
      rw (q.0, whole) (several_whole (call h w c).volume (b - step_count (call h w c)) cs (omega (arith, l))))
      (λ q. absurd (omega (arith, l, q.1))))

module _ (h : Family) where
  -- calls with enough
  abbrev whole_events : List Call → List Event
  whole_events [] = []
  whole_events (c ∷ cs) = whole c ∷ whole_events cs

  -- calls with one budget: those before the one that is cut are whole
  abbrev several_events : ℕ → List ℕ → Volume → List Call → List Event
  several_events b bs w [] = idle bs ∷ []
  several_events b bs w (c ∷ cs) =
      cond (leb (step_count (call h w c)) b) (whole c ∷ several_events (b - step_count (call h w c)) bs (call h w c).volume cs) (cut c b bs ∷ [])

  -- a whole one and then events
  one_more : (w v : Volume) (c : Call) (os : List Op) (cs : List Call) (es : List Event) → Numbers c
      → AsEvents h (call h w c).volume v os cs es → AsEvents h w v ((call h w c).ops ++ os) (c ∷ cs) (whole c ∷ es)
  one_more w v c os cs es n A = record {
    volume_is = A.volume_is ∙ ap (λ (r : Result). events_after h r.volume es) (sym (whole_lifted h w c));
    ops_are = ap (λ (l : List Op). (call h w c).ops ++ l) A.ops_are
        ∙ ap (λ (r : Result). r.ops ++ events_ops h r.volume es) (sym (whole_lifted h w c));
    calls_are = ap (λ (ds : List Call). c ∷ ds) A.calls_are;
    numbers = (n, A.numbers);
  }

  whole_events_lem : (w : Volume) (cs : List Call) → CallNumbers cs
      → AsEvents h w (whole_after h (lift w) cs) (whole_ops h (lift w) cs) cs (whole_events cs)
  whole_events_lem w [] n = record { volume_is = refl; ops_are = refl; calls_are = refl; numbers = tt }
  whole_events_lem w (c ∷ cs) n =
      rw (whole_lifted h w c) (one_more w _ c _ cs (whole_events cs) n.0 (whole_events_lem (call h w c).volume cs n.1))

  -- the one that is cut is the last
  cut_short : (w : Volume) (c : Call) (b : ℕ) (bs : List ℕ) → Numbers c
      → AsEvents h w (finish h bs (call_for h b (lift w) c).volume).volume
      (((call_for h b (lift w) c).ops ++ []) ++ finish_ops h bs (call_for h b (lift w) c).volume) (made_by b c) (cut c b bs ∷ [])
  cut_short w c b bs n = record {
    volume_is = refl;
    ops_are = ap (λ (os : List Op). os ++ finish_ops h bs (call_for h b (lift w) c).volume) (append-nil (call_for h b (lift w) c).ops)
        ∙ sym (append-nil (event_ops h (lift w) (cut c b bs)));
    calls_are = sym (append-nil (made_by b c));
    numbers = (n, tt);
  }

  several_events_lem : (w : Volume) (b : ℕ) (bs : List ℕ) (cs : List Call) → CallNumbers cs
      → AsEvents h w (finish h bs (several_for h b (lift w) cs)).volume (several_ops h b bs (lift w) cs) (begun h b w cs)
      (several_events b bs w cs)
  several_events_lem w b bs [] n =
      record { volume_is = refl; ops_are = sym (append-nil (finish_ops h bs (lift w))); calls_are = refl; numbers = (tt, tt) }
  several_events_lem w b bs (c ∷ cs) n =
      let steps : step_count (result_of h (lift w) c) ≡ step_count (call h w c) = ap step_count (lifted_is h w c) in
      let left : ℕ = b - step_count (call h w c) in
      let next : Volume = (call h w c).volume in
      rw steps
      (either (le? (step_count (call h w c)) b)
      (λ l. rw (
        l.0,
        enough_lifted h w c b l.1,
        append_assoc (call h w c).ops (calls_ops h left (lift next) cs) (finish_ops h bs (several_for h left (lift next) cs)),
      )
      (one_more w _ c _ _ _ n.0 (several_events_lem next left bs cs n.1)))
      (λ l. rw l.0 (cut_short w c b bs n.0)))

  -- so they leave what document 01's calls leave
  leaves : (sizes : Sizes) (w v : Volume) (m : Map) (os : List Op) (cs : List Call) (es : List Event) → AsEvents h w v os cs es
      → Reached h sizes w m → v ≡ lift (after h w cs)
  leaves sizes w v m os cs es A X =
      A.volume_is ∙ (run h sizes w m es A.numbers X).volume_is ∙ ap (λ (ds : List Call). lift (after h w ds)) (sym A.calls_are)

  -- restarts finish the call that was cut, and the calls up to it are those of document 01
  pub several_end : (sizes : Sizes) (w : Volume) (m : Map) (b : ℕ) (bs : List ℕ) (cs : List Call) → CallNumbers cs → Reached h sizes w m
      → (restart_whole h (restarts h bs (several_for h b (lift w) cs))).volume ≡ lift (after h w (begun h b w cs))
  several_end sizes w m b bs cs n X = leaves sizes w _ m _ _ _ (several_events_lem w b bs cs n) X

  -- and the last restart is not refused
  pub several_accepts : (sizes : Sizes) (w : Volume) (m : Map) (b : ℕ) (bs : List ℕ) (cs : List Call) → CallNumbers cs → Reached h sizes w m
      → (restart_whole h (restarts h bs (several_for h b (lift w) cs))).outcome ≡ accepted
  several_accepts sizes w m b bs [] n X = (run h sizes w m (idle bs ∷ []) (tt, tt) X).accepts.0
  several_accepts sizes w m b bs (c ∷ cs) n X =
      let steps : step_count (result_of h (lift w) c) ≡ step_count (call h w c) = ap step_count (lifted_is h w c) in
      let reached = reach_call h sizes w m c X (key_word c n.0) in
      rw steps
      (either (le? (step_count (call h w c)) b)
      (λ l. rw (l.0, enough_lifted h w c b l.1)
      (several_accepts sizes (call h w c).volume _ (b - step_count (call h w c)) bs cs n.1 reached))
      (λ l. rw l.0 (run h sizes w m (cut c b bs ∷ []) (n.0, tt) X).accepts.0))

-- so after a format
pub cut_several : (h : Family) (v : Volume) (sizes : Sizes) → allowed sizes ≡ true → too_short (geometry sizes) v.flash v.ram ≡ false
    → (b : ℕ) (bs : List ℕ) (cs : List Call) → CallNumbers cs
    → (restart_whole h (restarts h bs (several_for h b (lift (format v sizes).volume) cs))).volume
    ≡ lift (after h (format v sizes).volume (begun h b (format v sizes).volume cs))
cut_several h v sizes can long b bs cs n =
    several_end h sizes (format v sizes).volume empty_map b bs cs n (reach_format h sizes v can long)

numbers_append : (es fs : List Event) → AllNumbers es → AllNumbers fs → AllNumbers (es ++ fs)
numbers_append [] fs a b = b
numbers_append (e ∷ es) fs a b = (a.0, numbers_append es fs a.1 b)

made_append : (es fs : List Event) → made (es ++ fs) ≡ made es ++ made fs
made_append [] fs = refl
made_append (e ∷ es) fs =
    ap (λ (cs : List Call). calls_of e ++ cs) (made_append es fs) ∙ sym (append_assoc (calls_of e) (made es) (made fs))

module _ (h : Family) where
  -- it as events
  abbrev turn_events : Volume → Turn → List Event
  turn_events w (whole_turn f) = whole_events h (f w)
  turn_events w (cut_turn f b bs) = several_events h b bs w (f w)

  -- all as events
  abbrev turns_events : Volume → List Turn → List Event
  turns_events w [] = []
  turns_events w (t ∷ ts) = turn_events w t ++ turns_events (after h w (turn_begun h w t)) ts

  after_append : (v : Volume) (es fs : List Event) → events_after h v (es ++ fs) ≡ events_after h (events_after h v es) fs
  after_append v [] fs = refl
  after_append v (e ∷ es) fs = after_append (event_volume h v e) es fs

  ops_append : (v : Volume) (es fs : List Event) → events_ops h v (es ++ fs) ≡ events_ops h v es ++ events_ops h (events_after h v es) fs
  ops_append v [] fs = refl
  ops_append v (e ∷ es) fs =
      ap (λ (os : List Op). event_ops h v e ++ os) (ops_append (event_volume h v e) es fs)
      ∙ sym (append_assoc (event_ops h v e) (events_ops h (event_volume h v e) es) (events_ops h (events_after h (event_volume h v e) es) fs))

  -- events, and then events on what they leave
  joined : (w next v : Volume) (xs ys : List Op) (cs ds : List Call) (es fs : List Event) → AsEvents h w (lift next) xs cs es
      → AsEvents h next v ys ds fs → AsEvents h w v (xs ++ ys) (cs ++ ds) (es ++ fs)
  joined w next v xs ys cs ds es fs A B = record {
    volume_is = B.volume_is ∙ ap (λ (x : Volume). events_after h x fs) A.volume_is ∙ sym (after_append (lift w) es fs);
    ops_are = ap (λ (os : List Op). os ++ ys) A.ops_are
        ∙ ap (λ (os : List Op). events_ops h (lift w) es ++ os) (B.ops_are ∙ ap (λ (x : Volume). events_ops h x fs) A.volume_is)
        ∙ sym (ops_append (lift w) es fs);
    calls_are = ap (λ (l : List Call). l ++ ds) A.calls_are ∙ ap (λ (l : List Call). made es ++ l) B.calls_are
        ∙ sym (made_append es fs);
    numbers = numbers_append es fs A.numbers B.numbers;
  }

  turn_events_lem : (w : Volume) (t : Turn) → OneNumbers t
      → AsEvents h w (turn_volume h (lift w) t) (turn_ops h (lift w) t) (turn_begun h w t) (turn_events w t)
  turn_events_lem w (whole_turn f) n =
      let found : f (on_pages (lift w)) ≡ f w = ap f (pages_lifted w) in
      rw found (whole_events_lem h w (f w) (n w))
  turn_events_lem w (cut_turn f b bs) n =
      subst (λ (cs : List Call). AsEvents h w (finish h bs (several_for h b (lift w) cs)).volume (several_ops h b bs (lift w) cs)
      (begun h b w (f w)) (several_events h b bs w (f w))) (ap f (sym (pages_lifted w))) (several_events_lem h w b bs (f w) (n w))

  -- one of them leaves what document 01's calls leave, and so reaches
  pub turn_end : (sizes : Sizes) (w : Volume) (m : Map) (t : Turn) → OneNumbers t → Reached h sizes w m
      → turn_volume h (lift w) t ≡ lift (after h w (turn_begun h w t))
  turn_end sizes w m t n X = leaves h sizes w _ m _ _ _ (turn_events_lem w t n) X

  pub turn_reaches : (sizes : Sizes) (w : Volume) (m : Map) (t : Turn) → OneNumbers t → Reached h sizes w m
      → Reached h sizes (after h w (turn_begun h w t)) (map_after (geometry sizes) m (turn_begun h w t))
  turn_reaches sizes w m t n X =
      let E = turn_events_lem w t n in
      reach h sizes w m (turn_begun h w t) X (rw E.calls_are (all_words (turn_events w t) E.numbers))

  turns_events_lem : (sizes : Sizes) (w : Volume) (m : Map) (ts : List Turn) → TurnNumbers ts → Reached h sizes w m
      → AsEvents h w (turns_after h (lift w) ts) (turns_ops h (lift w) ts) (turns_begun h w ts) (turns_events w ts)
  turns_events_lem sizes w m [] n X = record { volume_is = refl; ops_are = refl; calls_are = refl; numbers = tt }
  turns_events_lem sizes w m (t ∷ ts) n X =
      let next : Volume = after h w (turn_begun h w t) in
      let ends : turn_volume h (lift w) t ≡ lift next = turn_end sizes w m t n.0 X in
      rw ends
      (joined w next _ _ _ _ _ _ _ (rw ends at (turn_events_lem w t n.0))
      (turns_events_lem sizes next _ ts n.1 (turn_reaches sizes w m t n.0 X)))

-- from a format on, whole or cut too
module _ (h : Family) (v : Volume) (sizes : Sizes) (can : allowed sizes ≡ true)
    (long : too_short (geometry sizes) v.flash (pages v.ram) ≡ false) (f : Format) (ts : List Turn) (n : TurnNumbers ts) where
  abbrev start : Volume
  start = (format (on_pages v) sizes).volume

  abbrev es : List Event
  es = turns_events h start ts

  reached : Reached h sizes start empty_map
  reached = reach_format h sizes (on_pages v) can long

  events : AsEvents h start (turns_after h (lift start) ts) (turns_ops h (lift start) ts) (turns_begun h start ts) es
  events = turns_events_lem h sizes start empty_map ts n reached

  first : format_end h v sizes f ≡ lift start
  first = format_end_lem h v sizes can long f

  -- they leave what document 01's calls leave, those up to each cut
  pub turns_end : turns_after h (format_end h v sizes f) ts ≡ lift (after h start (turns_begun h start ts))
  turns_end = ap (λ (x : Volume). turns_after h x ts) first ∙ leaves h sizes start _ empty_map _ _ _ events reached

  after_same : turns_after h (format_end h v sizes f) ts ≡ events_after h (format_end h v sizes f) es
  after_same = ap (λ (x : Volume). turns_after h x ts) first ∙ events.volume_is ∙ ap (λ (x : Volume). events_after h x es) (sym first)

  ops_same : turns_ops h (format_end h v sizes f) ts ≡ events_ops h (format_end h v sizes f) es
  ops_same = ap (λ (x : Volume). turns_ops h x ts) first ∙ events.ops_are ∙ ap (λ (x : Volume). events_ops h x es) (sym first)

  -- the operations of the format, of all the calls and of all restarts, done in order on the chip handed to the format, give the chip in
  -- the end
  pub turns_flash : apply_all (unit_of sizes) (format_ops h v sizes f ++ turns_ops h (format_end h v sizes f) ts) v.flash
      ≡ (turns_after h (format_end h v sizes f) ts).flash
  turns_flash =
      ap (λ (os : List Op). apply_all (unit_of sizes) (format_ops h v sizes f ++ os) v.flash) ops_same
      ∙ all_flash h v sizes can long f es events.numbers ∙ ap (λ (x : Volume). x.flash) (sym after_same)

  -- and keep the chip's program order
  pub turns_in_order : (P : ℕ → Bool) → ProgramOrder (format_ops h v sizes f ++ turns_ops h (format_end h v sizes f) ts) P
  turns_in_order P =
      subst (λ (os : List Op). ProgramOrder (format_ops h v sizes f ++ os) P) (sym ops_same)
      (all_in_order h v sizes can long f es events.numbers P)
