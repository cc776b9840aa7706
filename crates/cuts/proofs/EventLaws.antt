-- One event of a list with power cuts: a call with enough, a call that is cut and finished, restarts that find no call.
use Rattle.std.specs.Prelude.{◌≡◌, refl, ◌⊎◌, true, List, [], ◌∷◌, ◌++◌, ℕ, zero, suc, ◌<◌, length}
use Rattle.std.proofs.Common.{sym, ◌∙◌, inl, inr}
use Rattle.std.proofs.Math.Path.{ap}
use Rattle.std.proofs.Math.Option.{some}
use Rattle.memory.specs.Cases.{either}
use Rattle.layout.specs.Keys.{Key}
use Rattle.layout.specs.Geometry.{Geometry, geometry, allowed, record_capacity, deletion_capacity, spare_size, Sizes, unit_of}
use Rattle.layout.specs.Flash.{Op, Flash, apply_all}
use Rattle.layout.specs.Hash.{Family}
use Rattle.layout.specs.Calls.{Volume, Call, insert, update, delete, lookup, Outcome, accepted, hit, miss, refused, Result, call}
use Rattle.layout.specs.FiniteMap.{Map}
use Rattle.laws.specs.Sound.{SizesSound, sound}
use Rattle.history.specs.Image.{History}
use Rattle.history.specs.Live.{find_live, HistoryStep, step_history}
use Rattle.history.specs.Runs.{KeyWord, KeyWords, after, HandedOn}
use Rattle.history.proofs.Volumes as volumes
use Rattle.history.specs.Volumes.{Holds, volume_of}
use Rattle.history.specs.Steps.{CallDone}
use Rattle.history.proofs.Steps.{call_done}
use Rattle.history.proofs.RunLaws.{less}
use Rattle.history.specs.Reached.{map_after, Reached}
use Rattle.history.proofs.Reached.{reach}
use Rattle.layout.specs.Header.{intended}
use Rattle.layout.specs.Budgets.{Step, call_steps, taken_by, taken, call_for, call_whole, restart_for, restarts, restarts_ops, restart_whole}
use Rattle.cuts.specs.Headers.{Words}
use Rattle.cuts.proofs.Idle.{fits_of, idle_restart}
use Rattle.cuts.proofs.Work.{never}
use Rattle.cuts.proofs.Recover as recover
use Rattle.cuts.specs.Events.{lift, Event, whole, cut, idle, calls_of, made, Numbers, EventNumbers, AllNumbers, finish, finish_ops}
use Rattle.cuts.specs.Events.{event_ops}
use Rattle.cuts.proofs.Uncut.{lifted_is, whole_lifted}
use Rattle.cuts.proofs.Whole.{call_none}
use Rattle.cuts.specs.EventLaws.{Quiet, EventIs}

pub key_word : (c : Call) → Numbers c → KeyWord c
key_word (insert r) n = n.0
key_word (update r) n = n.0
key_word (delete key) n = n
key_word (lookup key) n = n

quiet_volume : (o : Outcome) → Quiet o → (b u : ℕ) (v : Volume) (ss : List Step) (r : Result) → (taken_by o b u v ss r).volume ≡ v
quiet_volume accepted q b u v ss r = absurd q
quiet_volume (hit place bytes) q b u v ss r = refl
quiet_volume miss q b u v ss r = refl
quiet_volume (refused i) q b u v ss r = refl

quiet_ops : (o : Outcome) → Quiet o → (b u : ℕ) (v : Volume) (ss : List Step) (r : Result) → (taken_by o b u v ss r).ops ≡ []
quiet_ops accepted q b u v ss r = absurd q
quiet_ops (hit place bytes) q b u v ss r = refl
quiet_ops miss q b u v ss r = refl
quiet_ops (refused i) q b u v ss r = refl

pub quiet_handed : (o : Outcome) → Quiet o → (v w : Volume) → HandedOn o v w → w ≡ v
quiet_handed accepted q v w e = absurd q
quiet_handed (hit place bytes) q v w e = e
quiet_handed miss q v w e = e
quiet_handed (refused i) q v w e = e

pub quiet? : (o : Outcome) → (o ≡ accepted) ⊎ Quiet o
quiet? accepted = inl refl
quiet? (hit place bytes) = inr tt
quiet? miss = inr tt
quiet? (refused i) = inr tt

module _ (h : Family) (sizes : Sizes) (ok : SizesSound sizes) (can : allowed sizes ≡ true) (H : History) (C : Flash) (ram : List ℕ)
    (I : Holds h sizes H C ram) where
  abbrev g : Geometry
  g = geometry sizes

  abbrev w : Volume
  w = volume_of sizes H C ram

  call_lifted : (b : ℕ) (c : Call) → call_for h b (lift w) c
      ≡ taken b (unit_of sizes) (lift w) (call_steps (intended (lift w) c) (call h w c))
      (call h w c)
  unfolding call_for
  call_lifted b c =
      ap (λ (r : Result). taken b (unit_of sizes) (lift w) (call_steps (intended (lift w) c) r) r)
      (lifted_is h w c)

  -- restarts that find nothing
  pub idle_one : (b : ℕ) → restart_for h b (lift w) ≡ record { outcome = accepted; count = 0; da_pages = 0; volume = lift w; ops = [] }
  idle_one b =
      idle_restart h w.state w.state C ram (fits_of h sizes ok H C ram I) (volumes.state_good h sizes ok H C ram I can)
      (volumes.long_enough h sizes ok H C ram I) b

  idle_all : (bs : List ℕ) → restarts h bs (lift w) ≡ lift w
  idle_all [] = refl
  idle_all (b ∷ bs) = ap (λ (r : Result). restarts h bs r.volume) (idle_one b) ∙ idle_all bs

  idle_ops : (bs : List ℕ) → restarts_ops h bs (lift w) ≡ []
  idle_ops [] = refl
  idle_ops (b ∷ bs) = ap (λ (r : Result). r.ops ++ restarts_ops h bs r.volume) (idle_one b) ∙ idle_ops bs

  -- and one with enough after them
  event_idle : (bs : List ℕ) → EventIs (unit_of sizes) (spare_size g) h w w (idle bs)
  event_idle bs =
      let last : finish h bs (lift w) ≡ record { outcome = accepted; count = 0; da_pages = 0; volume = lift w; ops = [] }
      = ap (restart_whole h) (idle_all bs) ∙ idle_one _ in
      let ops : finish_ops h bs (lift w) ≡ []
      = ap (λ (l : List Op). l ++ (finish h bs (lift w)).ops) (idle_ops bs) ∙ ap (λ (r : Result). r.ops) last in
      record {
        volume_is = ap (λ (r : Result). r.volume) last;
        flash_is = ap (λ (l : List Op). apply_all (unit_of sizes) l C) ops;
        ops_allowed = rw ops tt;
        inside = rw ops tt;
        accepts = ap (λ (r : Result). r.outcome) last;
      }

  -- a call that did no step, or has none
  still : (c : Call) (b : ℕ) (bs : List ℕ) → (call_for h b (lift w) c).volume ≡ lift w → (call_for h b (lift w) c).ops ≡ []
      → EventIs (unit_of sizes) (spare_size g) h w w (cut c b bs)
  still c b bs v o =
      let I = event_idle bs in
      let ops : event_ops h (lift w) (cut c b bs) ≡ finish_ops h bs (lift w)
      = ap (λ (l : List Op). l ++ finish_ops h bs (call_for h b (lift w) c).volume) o ∙ ap (finish_ops h bs) v in
      record {
        volume_is = ap (λ (x : Volume). (finish h bs x).volume) v ∙ I.volume_is;
        flash_is = ap (λ (l : List Op). apply_all (unit_of sizes) l C) ops ∙ I.flash_is;
        ops_allowed = rw ops I.ops_allowed;
        inside = rw ops I.inside;
        accepts = ap (λ (x : Volume). (finish h bs x).outcome) v ∙ I.accepts;
      }

  -- "a cut before the intent leaves what was there"
  event_none : (c : Call) (bs : List ℕ) → EventIs (unit_of sizes) (spare_size g) h w w (cut c 0 bs)
  event_none c bs = still c 0 bs (call_none h (lift w) c).0 (call_none h (lift w) c).1

  module _ (c : Call) (n : Numbers c) (less : (k : Key) (j : ℕ) → find_live H k ≡ some j → length H.deleted < length H.records) where
    abbrev next : HistoryStep
    next = step_history (record_capacity g) (deletion_capacity g) H c

    did : CallDone h sizes H C ram (call h w c) next
    did = call_done h sizes ok can H C ram I c (key_word c n) less

    -- a lookup is not accepted
    pub words_of : (call h w c).outcome ≡ accepted → Words c
    words_of a = go c n a
      where
        go : (c : Call) → Numbers c → (call h w c).outcome ≡ accepted → Words c
        go (insert r) n a = n
        go (update r) n a = n
        go (delete key) n a = n
        go (lookup key) n a = absurd (never h sizes ok H C ram I can key a)

    -- an accepted call of which a step was done
    done : (call h w c).outcome ≡ accepted → (b : ℕ) (bs : List ℕ)
        → EventIs (unit_of sizes) (spare_size g) h w (call h w c).volume (cut c (suc b) bs)
    done a b bs =
        let l : recover.final h sizes ok can H C ram I c (words_of a) a next did ≡ lift (call h w c).volume
        = ap (λ (r : Result). lift r.volume) (sym (recover.called h sizes ok can H C ram I c (words_of a) a next did)) in
        let v = recover.recovered_whole h sizes ok can H C ram I c (words_of a) a next did b bs in
        record {
          volume_is = v ∙ l;
          flash_is = recover.final_flash h sizes ok can H C ram I c (words_of a) a next did b bs _ ∙ ap (λ (x : Volume). x.flash) (v ∙ l);
          ops_allowed = recover.one_history h sizes ok can H C ram I c (words_of a) a next did b bs _;
          inside = recover.all_inside h sizes ok can H C ram I c (words_of a) a next did b bs _;
          accepts = recover.recovered_accepts h sizes ok can H C ram I c (words_of a) a next did b bs _;
        }

    pub call_quiet : Quiet (call h w c).outcome → (b : ℕ) → ((call_for h b (lift w) c).volume ≡ lift w) × ((call_for h b (lift w) c).ops ≡ [])
    call_quiet q b = (
      ap (λ (r : Result). r.volume) (call_lifted b c)
          ∙ quiet_volume (call h w c).outcome q b (unit_of sizes) (lift w)
          (call_steps (intended (lift w) c) (call h w c)) (call h w c),
      ap (λ (r : Result). r.ops) (call_lifted b c)
          ∙ quiet_ops (call h w c).outcome q b (unit_of sizes) (lift w)
          (call_steps (intended (lift w) c) (call h w c)) (call h w c),
    )

    quiet : Quiet (call h w c).outcome → (b : ℕ) (bs : List ℕ) → EventIs (unit_of sizes) (spare_size g) h w w (cut c b bs)
    quiet q b bs = still c b bs (call_quiet q b).0 (call_quiet q b).1

    event_some : (b : ℕ) (bs : List ℕ) → EventIs (unit_of sizes) (spare_size g) h w (call h w c).volume (cut c (suc b) bs)
    event_some b bs =
        either (quiet? (call h w c).outcome)
        (λ a. done a b bs)
        (λ q. let same : (call h w c).volume ≡ w = quiet_handed (call h w c).outcome q w (call h w c).volume did.handed_on in rw same
        (quiet q (suc b) bs))

    -- with enough it is document 01's
    event_whole : EventIs (unit_of sizes) (spare_size g) h w (call h w c).volume (whole c)
    event_whole =
        let ops : (call_whole h (lift w) c).ops ≡ (call h w c).ops = ap (λ (r : Result). r.ops) (whole_lifted h w c) in
        record {
          volume_is = ap (λ (r : Result). r.volume) (whole_lifted h w c);
          flash_is = rw ops did.flash_is;
          ops_allowed = rw ops did.ops_allowed;
          inside = rw ops did.inside;
          accepts = tt;
        }

-- ---- every event

module _ (h : Family) (sizes : Sizes) (w : Volume) (m : Map) (e : Event) (X : Reached h sizes w m) where
  moved : (w' : Volume) → w ≡ w' → EventIs (unit_of sizes) (spare_size (geometry sizes)) h w' (after h w' (calls_of e)) e
      → EventIs (unit_of sizes) (spare_size (geometry sizes)) h w (after h w (calls_of e)) e
  moved w' p E = rw p E

  -- an event leaves what the call made leaves, if one was
  pub event_is : EventNumbers e → EventIs (unit_of sizes) (spare_size (geometry sizes)) h w (after h w (calls_of e)) e
  event_is n = moved _ X.is (by e n)
    where
      by : (e : Event) → EventNumbers e → EventIs (unit_of sizes) (spare_size (geometry sizes)) h
          (volume_of sizes X.H w.flash w.ram) (after h (volume_of sizes X.H w.flash w.ram) (calls_of e)) e
      by (whole c) n =
          event_whole h sizes (sound sizes X.can) X.can X.H w.flash w.ram X.holds c n (less X.H m X.live)
      by (cut c zero bs) n = event_none h sizes (sound sizes X.can) X.can X.H w.flash w.ram X.holds c bs
      by (cut c (suc b) bs) n =
          event_some h sizes (sound sizes X.can) X.can X.H w.flash w.ram X.holds c n (less X.H m X.live) b bs
      by (idle bs) n = event_idle h sizes (sound sizes X.can) X.can X.H w.flash w.ram X.holds bs

event_words : (e : Event) → EventNumbers e → KeyWords (calls_of e)
event_words (whole c) n = (key_word c n, tt)
event_words (cut c zero bs) n = tt
event_words (cut c (suc b) bs) n = (key_word c n, tt)
event_words (idle bs) n = tt

words_append : (cs ds : List Call) → KeyWords cs → KeyWords ds → KeyWords (cs ++ ds)
words_append [] ds k l = l
words_append (c ∷ cs) ds k l = (k.0, words_append cs ds k.1 l)

pub all_words : (es : List Event) → AllNumbers es → KeyWords (made es)
all_words [] n = tt
all_words (e ∷ es) n = words_append (calls_of e) (made es) (event_words e n.0) (all_words es n.1)

pub event_reaches : (h : Family) (sizes : Sizes) (w : Volume) (m : Map) (e : Event) → Reached h sizes w m → EventNumbers e
    → Reached h sizes (after h w (calls_of e)) (map_after (geometry sizes) m (calls_of e))
event_reaches h sizes w m e X n = reach h sizes w m (calls_of e) X (event_words e n)
