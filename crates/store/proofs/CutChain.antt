-- Power cuts of the code: every chain of calls, cut or not, and restarts whose results satisfy the contracts, from a format on, ends with
-- what document 01's calls leave, and answers as the map does; calls that are asked before a restart has finished the one that was cut are
-- refused. Document 02, request 8, with demands 2 and 3, at FNV-1a.
use Rattle.std.specs.Prelude.{◌≡◌, refl, ◌⊎◌, Bool, true, false, List, [], ◌∷◌, ◌++◌, ℕ, suc, eqb}
use Rattle.std.proofs.Common.{sym, ap, ◌∙◌, inl, inr, true≢false}
use Rattle.layout.specs.Geometry.{State, geometry, allowed, Sizes, unit_of}
use Rattle.layout.specs.Flash.{Op, apply_all}
use Rattle.layout.specs.Hash.{fnv_family}
use Rattle.layout.specs.Refusals as refusal
use Rattle.layout.specs.Calls.{Volume, Call, Outcome, accepted, hit, miss, refused, Result, refuse, too_short, format}
use Rattle.layout.specs.FiniteMap.{Map, empty_map}
use Rattle.layout.specs.Header.{pages, on_pages, kind_in}
use Rattle.layout.specs.Budgets.{Step, cut_by, call_for, format_for, restart_for, restart_cut}
use Rattle.layout.specs.Budgets.{restarts, restarts_ops, restart_whole}
use Rattle.layout.specs.Budgets as budgets
use Rattle.history.proofs.Demands.{demand_2, demand_3}
use Rattle.history.proofs.Every.{can_accepted}
use Rattle.history.specs.Reached.{map_after}
use Rattle.history.specs.Runs.{after}
use Rattle.cuts.specs.AnyState.{with_state}
use Rattle.cuts.proofs.AnyState.{any_state}
use Rattle.cuts.proofs.AnyRestart.{whole_state}
use Rattle.cuts.specs.Events.{lift, calls_of, made, AllNumbers, finish, event_volume, event_ops, EventAccepts}
use Rattle.cuts.specs.Events.{events_after, EventsAccept, events_ops, format_result, format_end, format_ops}
use Rattle.cuts.proofs.EventLaws.{all_words}
use Rattle.cuts.specs.CutMap.{EventAgrees}
use Rattle.cuts.proofs.CutMap.{cuts_agree}
use Rattle.cuts.proofs.RestartLaws.{format_outcome}
use Rattle.cuts.proofs.Whole.{pending_refuses, pending_stops}
use Rattle.cuts.specs.Waiting.{SameLengths}
use Rattle.cuts.proofs.Waiting.{lengths_then, restart_lengths, restart_idle, asked_ten}
use Rattle.cuts.proofs.Uncut.{pages_lifted}
use Rattle.cuts.proofs.PowerCut.{power_cuts, format_accepted, all_accepted, all_flash, all_in_order}
use Rattle.state.specs.Contract.{Effect, effect_of, CutEffect, cut_of}
use Rattle.store.specs.CutChain.{Between, restart, ask, ask_cut, Finish, CodeEvent, whole, cut, idle, CodeFormat, whole_format, cut_format, budgets_of, event_of, events_of, format_of, last_left, Waits, Follows, Finishes, end_of, Done, CutChain, format_end_of, FormatDone, end_volume, Accepted, CodeAgrees, RefusedBy, Stopped, AsksStopped, AsksTen, EventAsks, AllAsks, FormatAsks, between_ops, code_ops, code_format_ops, SameMemory, Ended, Same, AllSame, FormatSame, CutRun}

handed_same : (x v : Volume) (s : State) → SameMemory x v → with_state s v ≡ with_state s x
handed_same x v s e = rw (e.0, e.1)

by_result : (o : Outcome) (b : ℕ) (ss : List Step) (r : Result) → (cut_by o b ss r).result ≡ r
by_result accepted b ss r = refl
by_result (hit place bytes) b ss r = refl
by_result miss b ss r = refl
by_result (refused i) b ss r = refl

left_is : (l : CutEffect) (b : ℕ) (ss : List Step) (r : Result) → l ≡ cut_of (budgets.cut_of b ss r) → l.left ≡ r.volume
left_is l b ss r e = ap (λ (x : CutEffect). x.left) e ∙ ap (λ (x : Result). x.volume) (by_result r.outcome b ss r)

answer_is : (l : CutEffect) (b : ℕ) (ss : List Step) (r : Result) → l ≡ cut_of (budgets.cut_of b ss r) → l.outcome ≡ r.outcome
answer_is l b ss r e = ap (λ (x : CutEffect). x.outcome) e ∙ ap (λ (x : Result). x.outcome) (by_result r.outcome b ss r)

one_same : (x v : Volume) (s : State) (b : ℕ) (l : CutEffect) → SameMemory x v → l ≡ cut_of (restart_cut fnv_family b (with_state s v))
    → SameMemory (restart_for fnv_family b x).volume l.left
    × ((restart_for fnv_family b (with_state s v)).ops ≡ (restart_for fnv_family b x).ops)
one_same x v s b l m e =
    let is = left_is l b _ (restart_for fnv_family b (with_state s v)) e in
    let h = handed_same x v s m in
    let same = any_state fnv_family b x s in (
      (
        ap (λ (w : Volume). w.flash) is ∙ ap (λ (w : Volume). (restart_for fnv_family b w).volume.flash) h ∙ same.flash,
        ap (λ (w : Volume). w.ram) is ∙ ap (λ (w : Volume). (restart_for fnv_family b w).volume.ram) h ∙ same.ram,
      ),
      ap (λ (w : Volume). (restart_for fnv_family b w).ops) h ∙ same.ops,
    )

-- a call that is asked while another is pending, whatever budget it has
asked_same : (x v w : Volume) (s : State) (b : ℕ) (c : Call) → SameMemory x v → Waits v
    → w ≡ (call_for fnv_family b (with_state s v) c).volume → SameMemory x w
asked_same x v w s b c m k e =
    let is = e ∙ (pending_stops fnv_family b (with_state s v) c k).0 in
    (ap (λ (y : Volume). y.flash) is ∙ m.0, ap (λ (y : Volume). y.ram) is ∙ m.1)

between_same : (x v : Volume) (rest : List Between) → SameMemory x v → Follows v rest
    → SameMemory (restarts fnv_family (budgets_of rest) x) (last_left v rest)
    × (between_ops v rest ≡ restarts_ops fnv_family (budgets_of rest) x)
between_same x v [] m k = (m, refl)
between_same x v (restart s b l ∷ rest) m k =
    let one = one_same x v s b l m k.0 in
    let more = between_same (restart_for fnv_family b x).volume l.left rest one.0 k.1 in (
      more.0,
      ap (λ (os : List Op). os ++ between_ops l.left rest) one.1
          ∙ ap (λ (os : List Op). (restart_for fnv_family b x).ops ++ os) more.1,
    )
between_same x v (ask s c l ∷ rest) m k =
    let more = between_same x l.left rest (asked_same x v l.left s _ c m k.0 (ap (λ (y : Effect). y.left) k.1)) k.2 in (
      more.0,
      ap (λ (os : List Op). os ++ between_ops l.left rest) (pending_stops fnv_family _ (with_state s v) c k.0).1 ∙ more.1,
    )
between_same x v (ask_cut s b c l ∷ rest) m k =
    let is = left_is l b _ (call_for fnv_family b (with_state s v) c) k.1 in
    let more = between_same x l.left rest (asked_same x v l.left s b c m k.0 is) k.2 in (
      more.0,
      ap (λ (os : List Op). os ++ between_ops l.left rest) (pending_stops fnv_family b (with_state s v) c k.0).1 ∙ more.1,
    )

-- ---- what those calls are told

-- by 1, 2 or 10
stopped : (v w : Volume) (o : Outcome) (b : ℕ) (c : Call) → Waits v → o ≡ (call_for fnv_family b v c).outcome
    → w ≡ (call_for fnv_family b v c).volume → Stopped v o w
stopped v w o b c k p q = go (pending_refuses fnv_family b v c k)
  where
    by : (i : ℕ) → call_for fnv_family b v c ≡ refuse v i → RefusedBy i v o w
    by i e = (p ∙ ap (λ (r : Result). r.outcome) e, q ∙ ap (λ (r : Result). r.volume) e)

    go : (call_for fnv_family b v c ≡ refuse v refusal.bad_state) ⊎ (call_for fnv_family b v c ≡ refuse v refusal.too_short)
        ⊎ (call_for fnv_family b v c ≡ refuse v refusal.pending) → Stopped v o w
    go (inl e) = inl (by refusal.bad_state e)
    go (inr (inl e)) = inr (inl (by refusal.too_short e))
    go (inr (inr e)) = inr (inr (by refusal.pending e))

asks_stopped : (v : Volume) (rest : List Between) → Follows v rest → AsksStopped v rest
asks_stopped v [] k = tt
asks_stopped v (restart s b l ∷ rest) k = asks_stopped l.left rest k.1
asks_stopped v (ask s c l ∷ rest) k = (
  stopped (with_state s v) l.left l.outcome _ c k.0 (ap (λ (x : Effect). x.outcome) k.1) (ap (λ (x : Effect). x.left) k.1),
  asks_stopped l.left rest k.2,
)
asks_stopped v (ask_cut s b c l ∷ rest) k = (
  stopped (with_state s v) l.left l.outcome b c k.0 (answer_is l b _ (call_for fnv_family b (with_state s v) c) k.1)
      (left_is l b _ (call_for fnv_family b (with_state s v) c) k.1),
  asks_stopped l.left rest k.2,
)

-- where no call is pending none is asked in between
none_asked : (t : State) (v : Volume) (rest : List Between) → eqb (kind_in v.ram) 0 ≡ true → Follows v rest → AsksTen t rest
none_asked t v [] z k = tt
none_asked t v (restart s b l ∷ rest) z k =
    let is : l.left.ram ≡ v.ram
    = ap (λ (w : Volume). w.ram) (left_is l b _ (restart_for fnv_family b (with_state s v)) k.0)
    ∙ restart_idle fnv_family b (with_state s v) z in
    none_asked t l.left rest (rw is z) k.1
none_asked t v (ask s c l ∷ rest) z k = absurd (true≢false (sym z ∙ k.0))
none_asked t v (ask_cut s b c l ∷ rest) z k = absurd (true≢false (sym z ∙ k.0))

-- after an accepted call that was cut, while it is pending
module _ (v : Volume) (b : ℕ) (c : Call) (acc : (call_for fnv_family b v c).outcome ≡ accepted)
    (pending : eqb (kind_in (call_for fnv_family b v c).volume.ram) 0 ≡ false) where
  abbrev from : Volume
  from = (call_for fnv_family b v c).volume

  asked : (w : Volume) (s : State) (e : ℕ) (d : Call) → SameLengths from w → Waits w → s ≡ from.state
      → (call_for fnv_family e (with_state s w) d).outcome ≡ refused refusal.pending
  asked w s e d S k same =
      ap (λ (r : Result). r.outcome)
      (asked_ten fnv_family v c b acc pending (with_state s w) S same k e d)

  unchanged : (w x : Volume) (s : State) (e : ℕ) (d : Call) → SameLengths from w → Waits w
      → x ≡ (call_for fnv_family e (with_state s w) d).volume → SameLengths from x
  unchanged w x s e d S k is = rw (is ∙ (pending_stops fnv_family e (with_state s w) d k).0) S

  asks_ten : (w : Volume) (rest : List Between) → SameLengths from w → Follows w rest → AsksTen from.state rest
  asks_ten w [] S k = tt
  asks_ten w (restart s e l ∷ rest) S k =
      let T : SameLengths (with_state s w) l.left
      = rw (left_is l e _ (restart_for fnv_family e (with_state s w)) k.0) (restart_lengths fnv_family e (with_state s w)) in
      asks_ten l.left rest (lengths_then from (with_state s w) l.left S T) k.1
  asks_ten w (ask s d l ∷ rest) S k = (
    (λ same. ap (λ (x : Effect). x.outcome) k.1 ∙ asked w s _ d S k.0 same),
    asks_ten l.left rest (unchanged w l.left s _ d S k.0 (ap (λ (x : Effect). x.left) k.1)) k.2,
  )
  asks_ten w (ask_cut s e d l ∷ rest) S k = (
    (λ same. answer_is l e _ (call_for fnv_family e (with_state s w) d) k.1 ∙ asked w s e d S k.0 same),
    asks_ten l.left rest (unchanged w l.left s e d S k.0 (left_is l e _ (call_for fnv_family e (with_state s w) d) k.1)) k.2,
  )

cut_ten : (v w : Volume) (b : ℕ) (c : Call) (rest : List Between) → w ≡ (call_for fnv_family b v c).volume
    → (call_for fnv_family b v c).outcome ≡ accepted → Follows w rest → AsksTen w.state rest
cut_ten v w b c rest e acc k = go (eqb (kind_in w.ram) 0) refl
  where
    go : (t : Bool) → eqb (kind_in w.ram) 0 ≡ t → AsksTen w.state rest
    go true z = none_asked w.state w rest z k
    go false z =
        rw e (asks_ten v b c acc (rw e at z) (call_for fnv_family b v c).volume rest (refl, refl, refl) (rw e at k))

event_asks : (v : Volume) (e : CodeEvent) → Done v e → EventAsks v e
event_asks v (whole c l) d = tt
event_asks v (cut c b l f) d = (
  asks_stopped l.left f.between d.1.0,
  (λ acc. cut_ten v l.left b c f.between (left_is l b _ (call_for fnv_family b v c) d.0)
      (sym (answer_is l b _ (call_for fnv_family b v c) d.0) ∙ acc) d.1.0),
)
event_asks v (idle f) d = asks_stopped v f.between d.0

all_asks : (v : Volume) (es : List CodeEvent) → CutChain v es → AllAsks v es
all_asks v [] k = tt
all_asks v (e ∷ es) k = (event_asks v e k.0, all_asks (end_of e).left es k.1)

format_asks : (v : Volume) (sizes : Sizes) (f : CodeFormat) → FormatDone v sizes f → FormatAsks f
format_asks v sizes (whole_format l) d = tt
format_asks v sizes (cut_format b l f) d = asks_stopped l.left f.between d.1.0

ends : (x v : Volume) (f : Finish) → SameMemory x v → Finishes v f
    → (finish fnv_family (budgets_of f.between) x).outcome ≡ accepted → Ended x v f
ends x v f m k acc =
    let y : Volume = restarts fnv_family (budgets_of f.between) x in
    let all = between_same x v f.between m k.0 in
    let same : restart_whole fnv_family (with_state f.handed (last_left v f.between)) ≡ finish fnv_family (budgets_of f.between) x
    = ap (restart_whole fnv_family) (handed_same y (last_left v f.between) f.handed all.0)
    ∙ whole_state fnv_family y f.handed acc in
    record {
      last = k.1 ∙ ap effect_of same;
      ops = ap (λ (l : List Op). l ++ (restart_whole fnv_family (with_state f.handed (last_left v f.between))).ops) all.1
          ∙ ap (λ (r : Result). restarts_ops fnv_family (budgets_of f.between) x ++ r.ops) same;
    }

at_left : (x v : Volume) → v ≡ x → SameMemory x v
at_left x v e = (ap (λ (w : Volume). w.flash) e, ap (λ (w : Volume). w.ram) e)

same : (v : Volume) (e : CodeEvent) → Done v e → EventAccepts fnv_family v (event_of e) → Same v e
same v (whole c l) d a = record { end = d; ops = refl }
same v (cut c b l f) d a =
    let E = ends (call_for fnv_family b v c).volume l.left f (at_left _ _ (left_is l b _ (call_for fnv_family b v c) d.0)) d.1 a in
    record { end = E.last; ops = ap (λ (os : List Op). (call_for fnv_family b v c).ops ++ os) E.ops }
same v (idle f) d a = let E = ends v v f (refl, refl) d a in record { end = E.last; ops = E.ops }

not_refused : (v : Volume) (e : CodeEvent) → Same v e → EventAccepts fnv_family v (event_of e) → Accepted e
not_refused v (whole c l) S a = tt
not_refused v (cut c b l f) S a = ap (λ (x : Effect). x.outcome) S.end ∙ a
not_refused v (idle f) S a = ap (λ (x : Effect). x.outcome) S.end ∙ a

agrees_so : (sizes : Sizes) (v : Volume) (m : Map) (e : CodeEvent) → Done v e → Same v e → EventAgrees fnv_family sizes v m (event_of e)
    → CodeAgrees sizes v m e
agrees_so sizes v m (whole c l) d S A = rw d A
agrees_so sizes v m (cut c b l f) d S A = rw (answer_is l b _ (call_for fnv_family b v c) d.0, S.end) A
agrees_so sizes v m (idle f) d S A = rw S.end A

chain_same : (v : Volume) (es : List CodeEvent) → CutChain v es → EventsAccept fnv_family v (events_of es) → AllSame v es
chain_same v [] k a = record { volume = refl; ops = refl; accepts = tt; agrees = λ sizes m A. tt }
chain_same v (e ∷ es) k a =
    let S = same v e k.0 a.0 in
    let left : (end_of e).left ≡ event_volume fnv_family v (event_of e) = ap (λ (l : Effect). l.left) S.end in
    let T = chain_same (end_of e).left es k.1 (rw left a.1) in
    record {
      volume = T.volume ∙ ap (λ (w : Volume). events_after fnv_family w (events_of es)) left;
      ops = ap (λ (l : List Op). l ++ code_ops (end_of e).left es) S.ops
          ∙ ap (λ (l : List Op). event_ops fnv_family v (event_of e) ++ l)
          (T.ops ∙ ap (λ (w : Volume). events_ops fnv_family w (events_of es)) left);
      accepts = (not_refused v e S a.0, T.accepts);
      agrees = λ sizes m A. (
        agrees_so sizes v m e k.0 S A.0,
        T.agrees sizes (map_after (geometry sizes) m (calls_of (event_of e))) (rw left A.1),
      );
    }

format_same : (v : Volume) (sizes : Sizes) (f : CodeFormat) → FormatDone v sizes f
    → (format_result fnv_family v sizes (format_of f)).outcome ≡ accepted → FormatSame v sizes f
format_same v sizes (whole_format l) d acc =
    record { end = d; ops = refl; says = ap (λ (x : Effect). x.outcome) d ∙ format_outcome _ v sizes }
format_same v sizes (cut_format b l f) d acc =
    let E = ends (format_for (suc b) v sizes).volume l.left f
    (at_left _ _ (left_is l (suc b) _ (format_for (suc b) v sizes) d.0)) d.1 acc in
    record {
      end = E.last;
      ops = ap (λ (os : List Op). (format_for (suc b) v sizes).ops ++ os) E.ops;
      says = answer_is l (suc b) _ (format_for (suc b) v sizes) d.0 ∙ format_outcome (suc b) v sizes;
    }

pub cut_run : (v : Volume) (sizes : Sizes) (f : CodeFormat) (es : List CodeEvent)
    → allowed sizes ≡ true → too_short (geometry sizes) v.flash (pages v.ram) ≡ false → AllNumbers (events_of es)
    → FormatDone v sizes f → CutChain (format_end_of f).left es
    → CutRun v sizes f es
cut_run v sizes f es can long numbers d k =
    let acc = format_accepted fnv_family v sizes can long (format_of f) (events_of es) numbers in
    let F = format_same v sizes f d acc in
    let left : (format_end_of f).left ≡ format_end fnv_family v sizes (format_of f) = ap (λ (l : Effect). l.left) F.end in
    let S = chain_same (format_end_of f).left es k
    (rw left (all_accepted fnv_family v sizes can long (format_of f) (events_of es) numbers)) in
    let last : end_volume (format_end_of f).left es ≡ events_after fnv_family (format_end fnv_family v sizes (format_of f)) (events_of es)
    = S.volume ∙ ap (λ (w : Volume). events_after fnv_family w (events_of es)) left in
    let end : end_volume (format_end_of f).left es ≡ lift (after fnv_family (format (on_pages v) sizes).volume (made (events_of es)))
    = last ∙ power_cuts fnv_family v sizes can long (format_of f) (events_of es) numbers in
    let ops : code_format_ops v sizes f ++ code_ops (format_end_of f).left es
    ≡ format_ops fnv_family v sizes (format_of f) ++ events_ops fnv_family (format_end fnv_family v sizes (format_of f)) (events_of es)
    = ap (λ (l : List Op). l ++ code_ops (format_end_of f).left es) F.ops
    ∙ ap (λ (l : List Op). format_ops fnv_family v sizes (format_of f) ++ l)
    (S.ops ∙ ap (λ (w : Volume). events_ops fnv_family w (events_of es)) left) in
    record {
      formatted = ap (λ (l : Effect). l.outcome) F.end ∙ acc;
      each = S.accepts;
      end_is = end;
      flash_is = ap (λ (l : List Op). apply_all (unit_of sizes) l v.flash) ops
          ∙ all_flash fnv_family v sizes can long (format_of f) (events_of es) numbers ∙ ap (λ (w : Volume). w.flash) (sym last);
      in_order = λ P. rw ops (all_in_order fnv_family v sizes can long (format_of f) (events_of es) numbers P);
      image = rw (end, pages_lifted (after fnv_family (format (on_pages v) sizes).volume (made (events_of es))))
          (demand_2 fnv_family (on_pages v) sizes (made (events_of es)) can long (all_words (events_of es) numbers));
      format_answer = F.says ∙ can_accepted (on_pages v) sizes can long;
      started = ap (λ (w : Volume). w.state) (left ∙ power_cuts fnv_family v sizes can long (format_of f) [] tt)
          ∙ (demand_3 fnv_family (on_pages v) sizes [] can long tt).started;
      agrees = S.agrees sizes empty_map (rw left (cuts_agree fnv_family v sizes can long (format_of f) (events_of es) numbers));
      format_asked = format_asks v sizes f d;
      asked = all_asks (format_end_of f).left es k;
    }
