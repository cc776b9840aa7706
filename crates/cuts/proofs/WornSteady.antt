-- Calls and restarts on a volume whose state and header name the same sizes, whose spare bytes are 00 and FF, and on which no format is
-- pending, whatever its other bytes: each is the same on worn spare bytes, and leaves such a volume. Document 02, §3 and §8.
use Rattle.std.specs.Prelude.{◌≡◌, true, List, ◌++◌, ℕ, ◌+◌, ◌*◌, ◌<◌, length, get_or}
use Rattle.std.proofs.Math.Path.{refl}
use Rattle.std.proofs.Common.{ap, ◌∙◌, arith}
use Rattle.memory.specs.Booleans.{cond_pos}
use Rattle.memory.specs.Cases.{either, bool?, le?}
use Rattle.layout.specs.Geometry.{State, geometry, allowed, spare_size, Sizes, unit_of}
use Rattle.layout.specs.Flash.{Op, Flash, apply_all, fresh}
use Rattle.layout.specs.Hash.{Family}
use Rattle.layout.specs.Calls.{Volume, Call, insert, update, delete, lookup, Outcome, accepted, hit, miss, refused, Result, refuse}
use Rattle.layout.specs.Calls.{bad_state, too_short, judge_first}
use Rattle.layout.specs.Later.{call_again}
use Rattle.layout.specs.Header.{pages, intended, finished, no_intent, header_bytes, intent_words, state_in, Pending, nothing, changing}
use Rattle.layout.specs.Header.{formatting, unknown, pending_in}
use Rattle.layout.specs.Budgets.{Step, last_steps, call_steps, taken_by, taken, pending_on, result_of, call_for, call_whole, resumed}
use Rattle.layout.specs.Budgets.{restart_for, restart_whole}
use Rattle.laws.specs.FreshLaws.{Written}
use Rattle.laws.specs.Sound.{sound}
use Rattle.laws.specs.Sound as units
use Rattle.history.proofs.Every.{state_allowed}
use Rattle.history.specs.Worn.{Worn, with_spare}
use Rattle.history.proofs.WornLaws.{all_kept, as_fresh}
use Rattle.history.specs.WornCalls.{redone}
use Rattle.history.proofs.WornRuns.{redone_worn}
use Rattle.cuts.proofs.Headers.{word_stored, sizes_stored, idle_stored, intent_length}
use Rattle.cuts.proofs.RestartLaws.{restart_is, short_ram}
use Rattle.cuts.proofs.Whole as whole
use Rattle.cuts.specs.EveryCut.{sizes_named, Stores}
use Rattle.cuts.proofs.EveryCut.{ram_after, last_stores}
use Rattle.cuts.proofs.EveryTurn.{taken_stay, again_stay, result_stay, sizes_stay}
use Rattle.cuts.specs.ByFresh.{spare_read}
use Rattle.cuts.proofs.ByFresh.{call_done, call_redone, call_whole_redone, read_inside, restart_done, restart_redone}
use Rattle.cuts.proofs.ByFresh.{restart_whole_redone}
use Rattle.cuts.specs.WornEvents.{Run}
use Rattle.cuts.specs.WornSteady.{NoFormat, Names, Steady, SteadyOn}

-- ---- headers that are stored

module _ (p : List ℕ) (s : State) (can : allowed s.sizes ≡ true) where
  allowed_stored : (intent : List ℕ) → length intent ≡ 10 → (state_in (p ++ header_bytes s intent)).sizes ≡ s.sizes
  allowed_stored intent ten =
      let ok = sound s.sizes can in
      let u_le = units.u_le s.sizes (sound s.sizes can) in
      let S-is : s.sizes.sector_size ≡ 16 * unit_of s.sizes = omega (arith, ok.size) in
      sizes_stored p s intent ten (omega (arith, u_le, S-is)) (omega (arith, ok.R-le)) (omega (arith, ok.D-le)) (omega (arith, ok.k_le))

  no_format : (c : Call) → NoFormat (pending_in (p ++ header_bytes s (intent_words c)))
  unfolding pending_in
  no_format (insert r) = rw (word_stored p s (intent_words (insert r)) refl 6 (omega arith) (omega arith)) tt
  no_format (update r) = rw (word_stored p s (intent_words (update r)) refl 6 (omega arith) (omega arith)) tt
  no_format (delete key) = rw (word_stored p s (intent_words (delete key)) refl 6 (omega arith) (omega arith)) tt
  no_format (lookup key) = rw (word_stored p s (intent_words (lookup key)) refl 6 (omega arith) (omega arith)) tt

  intent_names : (c : Call) → Names s.sizes (p ++ header_bytes s (intent_words c))
  intent_names c = (allowed_stored (intent_words c) (intent_length p s c), no_format c)

  pub none_names : Names s.sizes (p ++ header_bytes s no_intent)
  none_names = (allowed_stored no_intent refl, rw (idle_stored p s) tt)

pub names_as : (z sizes : Sizes) (ram : List ℕ) → z ≡ sizes → Names z ram → Names sizes ram
names_as z sizes ram e n = rw e at n

-- the finished RAM of a result that keeps the sizes
finished_names : (sizes : Sizes) (r : Result) → r.volume.state.sizes ≡ sizes → allowed sizes ≡ true → Names sizes (finished r.volume)
finished_names sizes r e can =
    names_as r.volume.state.sizes sizes (finished r.volume) e (none_names r.volume.ram r.volume.state (rw e can))

-- a claim on the RAM that holds before a run and of all that it stores
taken_ram : (P : List ℕ → Type 0) (b u : ℕ) (v : Volume) (ss : List Step) (r : Result) → Stores P ss → P v.ram
    → P (taken b u v ss r).volume.ram
taken_ram P b u v ss r s p = by r.outcome
  where
    by : (o : Outcome) → P (taken_by o b u v ss r).volume.ram
    by accepted = ram_after u P b ss v.flash v.ram s p
    by (hit place bytes) = p
    by miss = p
    by (refused i) = p

-- operations leave 00 and FF where these were
kept_written : (u x : ℕ) (os : List Op) (c : Flash) → Written (get_or c.spare x 0) → Written (get_or (apply_all u os c).spare x 0)
kept_written u x os c w = either (all_kept u os c c x refl) (λ p. rw p.1 w) (λ p. p.1)

-- of a run that goes by sizes z, which are these
module _ (sizes : Sizes) (v : Volume) (S : Steady sizes v) (r : Run) (z : Sizes) (e : z ≡ sizes) where
  steady_on : apply_all (unit_of z) (r v).ops v.flash ≡ (r v).volume.flash
      → ((spare : List ℕ) → Worn (spare_size (geometry sizes)) v.flash.spare spare → r (with_spare spare v) ≡ redone z spare v (r v))
      → (r v).volume.state.sizes ≡ sizes → Names sizes (r v).volume.ram → SteadyOn sizes v r
  steady_on done again state names = record {
    same = λ spare W. rw (again spare W, e) (redone_worn sizes v spare (r v) W.long (rw e at done) W);
    next = record {
      state_is_lem = state;
      names = names;
      written = λ x l. rw (← done) (kept_written (unit_of z) x (r v).ops v.flash (S.written x l));
    };
  }

-- worn spare bytes are as fresh as the volume's
fresh_by : (sizes z : Sizes) (v : Volume) → Steady sizes v → z ≡ sizes → (spare : List ℕ)
    → Worn (spare_size (geometry sizes)) v.flash.spare spare → (x : ℕ) → x < spare_size (geometry z)
    → fresh (get_or spare x 0) ≡ fresh (get_or v.flash.spare x 0)
fresh_by sizes z v S e spare W x l = as_fresh (spare_size (geometry sizes)) v.flash.spare spare S.written W x (rw e at l)

-- ---- a call

module _ (h : Family) (sizes : Sizes) (v : Volume) (S : Steady sizes v) (c : Call) where
  good_names : (b : ℕ) → allowed v.state.sizes ≡ true → Names sizes (call_for h b v c).volume.ram
  unfolding call_for
  good_names b can =
      taken_ram (Names sizes) b (unit_of v.state.sizes) v (call_steps (intended v c) (result_of h v c)) (result_of h v c) (
        names_as v.state.sizes sizes (intended v c) S.state_is_lem (intent_names (pages v.ram) v.state can c),
        last_stores (Names sizes) (result_of h v c).ops (finished (result_of h v c).volume)
            (finished_names sizes (result_of h v c) (result_stay h v c ∙ S.state_is_lem) (rw S.state_is_lem at can)),
      )
      S.names

  call_names : (b : ℕ) → Names sizes (call_for h b v c).volume.ram
  call_names b =
      either (bool? (bad_state v.state))
      (λ p. rw (whole.one h b v c p) S.names) (λ p. good_names b (state_allowed v p))

  pub call_steady : (b : ℕ) → SteadyOn sizes v (λ x. call_for h b x c)
  call_steady b =
      steady_on sizes v S (λ x. call_for h b x c) v.state.sizes S.state_is_lem (call_done h v c b)
      (λ spare W. call_redone h v c spare W.long (fresh_by sizes v.state.sizes v S S.state_is_lem spare W) b)
      (sizes_stay h v c b ∙ S.state_is_lem) (call_names b)

  pub call_whole_steady : SteadyOn sizes v (λ x. call_whole h x c)
  call_whole_steady =
      let b : ℕ = length (result_of h v c).ops + 2 in
      steady_on sizes v S (λ x. call_whole h x c) v.state.sizes S.state_is_lem (call_done h v c b)
      (λ spare W. call_whole_redone h v c spare W.long (fresh_by sizes v.state.sizes v S S.state_is_lem spare W))
      (sizes_stay h v c b ∙ S.state_is_lem) (call_names b)

-- ---- a restart

named_is : (sizes : Sizes) (p : Pending) (ram : List ℕ) → NoFormat p → (state_in ram).sizes ≡ sizes → sizes_named p ram ≡ sizes
named_is sizes nothing ram n e = e
named_is sizes (changing c) ram n e = e
named_is sizes (formatting new) ram n e = absurd n
named_is sizes unknown ram n e = e

again_bad : (h : Family) (v : Volume) (c : Call) → bad_state v.state ≡ true → call_again h v c ≡ refuse v 1
unfolding call_again judge_first
again_bad h v c bad = cond_pos (bad_state v.state) _ _ bad

module _ (h : Family) (sizes : Sizes) (v : Volume) (S : Steady sizes v) where
  abbrev st : Sizes
  st = (state_in v.ram).sizes

  resumed_state : (b : ℕ) (p : Pending) → NoFormat p → (resumed h b v p).volume.state.sizes ≡ sizes
  resumed_state b nothing n =
      either (bool? (bad_state (state_in v.ram))) (λ p. rw p S.state_is_lem)
      (λ p. either (bool? (too_short (geometry st) v.flash (pages v.ram))) (λ q. rw (p, q) S.state_is_lem)
      (λ q. rw (p, q) S.names.0))
  resumed_state b (changing c) n =
      taken_stay b (unit_of st) v (last_steps (call_again h (pending_on v) c)) (call_again h (pending_on v) c) sizes
      (again_stay h (pending_on v) c ∙ S.names.0) S.state_is_lem
  resumed_state b (formatting new) n = absurd n
  resumed_state b unknown n = S.state_is_lem

  resumed_names : (b : ℕ) (p : Pending) → NoFormat p → Names sizes (resumed h b v p).volume.ram
  resumed_names b nothing n =
      either (bool? (bad_state (state_in v.ram))) (λ p. rw p S.names)
      (λ p. either (bool? (too_short (geometry st) v.flash (pages v.ram))) (λ q. rw (p, q) S.names) (λ q. rw (p, q) S.names))
  resumed_names b (changing c) n =
      either (bool? (bad_state (state_in v.ram)))
      (λ p.
      let stop : resumed h b v (changing c) ≡ refuse v 1
      = ap (λ (r : Result). taken b (unit_of st) v (last_steps r) r) (again_bad h (pending_on v) c p) in
      rw stop S.names)
      (λ p. taken_ram (Names sizes) b (unit_of st) v (last_steps (call_again h (pending_on v) c)) (call_again h (pending_on v) c)
      (last_stores (Names sizes) (call_again h (pending_on v) c).ops (finished (call_again h (pending_on v) c).volume)
      (finished_names sizes (call_again h (pending_on v) c) (again_stay h (pending_on v) c ∙ S.names.0)
      (rw S.names.0 at (state_allowed (pending_on v) p)))) S.names)
  resumed_names b (formatting new) n = absurd n
  resumed_names b unknown n = S.names

  restart_state : (b : ℕ) → (restart_for h b v).volume.state.sizes ≡ sizes
  restart_state b =
      either (le? 64 (length v.ram))
      (λ l. rw (restart_is h b v l.1) (resumed_state b (pending_in v.ram) S.names.1))
      (λ l. rw (short_ram h b v l.1) S.state_is_lem)

  restart_names : (b : ℕ) → Names sizes (restart_for h b v).volume.ram
  restart_names b =
      either (le? 64 (length v.ram))
      (λ l. rw (restart_is h b v l.1) (resumed_names b (pending_in v.ram) S.names.1))
      (λ l. rw (short_ram h b v l.1) S.names)

  named : sizes_named (pending_in v.ram) v.ram ≡ sizes
  named = named_is sizes (pending_in v.ram) v.ram S.names.1 S.names.0

  read_fresh : (spare : List ℕ) → Worn (spare_size (geometry sizes)) v.flash.spare spare → (x : ℕ)
      → x < spare_read (pending_in v.ram) v.ram → fresh (get_or spare x 0) ≡ fresh (get_or v.flash.spare x 0)
  read_fresh spare W x l = fresh_by sizes _ v S named spare W x (read_inside (pending_in v.ram) v.ram x l)

  pub restart_steady : (b : ℕ) → SteadyOn sizes v (restart_for h b)
  restart_steady b =
      steady_on sizes v S (restart_for h b) _ named (restart_done h v b)
      (λ spare W. restart_redone h v spare W.long (read_fresh spare W) b) (restart_state b) (restart_names b)

  pub restart_whole_steady : SteadyOn sizes v (restart_whole h)
  restart_whole_steady =
      steady_on sizes v S (restart_whole h) _ named (restart_done h v _)
      (λ spare W. restart_whole_redone h v spare W.long (read_fresh spare W)) (restart_state _) (restart_names _)
