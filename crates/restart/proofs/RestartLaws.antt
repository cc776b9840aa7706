-- What is told of a restart, by what the header says.
use mathlib.Core.Path.{◌≡◌, refl, ap, ◌∙◌}
use mathlib.Core.Bool.{Bool, true, false, cond}
use mathlib.Core.List.{List, []}
use Prim.Native.Nat.{ℕ, ◌+◌, ◌≤◌, ◌<◌}
use native.Mathlib.Omega.{arith}
use lib.ListN.{length, take, length-take}
use borrow.Author.Tests.{lt-ltb, le-ltb, le-leb}
use Rattle.memory.specs.Cases.{either, lt?}
use Rattle.layout.specs.Geometry as layout
use Rattle.layout.specs.Refusals as refusal
use Rattle.layout.specs.Hash.{Family, fnv_family}
use Rattle.layout.specs.Calls.{Volume, accepted, refused, Result, refuse, bad_state, too_short, format}
use Rattle.layout.specs.Later.{call_again}
use Rattle.layout.specs.Header.{header_size, pages, state_in, Pending, nothing, changing, formatting, unknown, pending_in}
use Rattle.layout.specs.Budgets.{Step, last_steps, pending_on, resumed, restart_for, restart_steps, restart_cut, restart_whole, pending_ops}
use Rattle.laws.specs.StepLaws.{last_length, taken_enough}
use Rattle.geometry.specs.Shape.{geometry_for}
use Rattle.geometry.specs.declared.volume.Geometry.{Geometry}
use Rattle.state.specs.Contract.{CutEffect, cut_of, cut_by, number_of, outcome_of, Effect, effect_of}
use Rattle.state.specs.Judge.{judgement_of, VolumeFits}
use Rattle.std.specs.Prelude as std
use Rattle.std.specs.Prelude.{Err}
use Rattle.state.specs.declared.State.{State}
use Rattle.state.specs.declared.Cut.{Cut}
use Rattle.state.specs.declared.Refusal.{Refusal}
use Rattle.state.specs.declared.Refusal.TheVariants.{BadState, TooShort}
use Rattle.state.proofs.Refusals.{of_volume, fits_enough}
use Rattle.state.proofs.RunLaws.{taken_count, outcome_of_lem, uncut_effect_lem}
use Rattle.restart.proofs.Few.{few_pending}

-- a refusal, as its caller sees it
abbrev pub refused_cut : Volume → Refusal → CutEffect
refused_cut v i = record { outcome = refused (number_of i); complete = 0; steps = 0; left = v }

module _ (h : Family) (b : ℕ) (v : Volume) where
  pub short_cut : length v.ram < header_size → refused_cut v TooShort ≡ cut_of (restart_cut h b v)
  unfolding restart_for
  short_cut l = rw (lt-ltb (length v.ram) header_size l)

  module _ (l : header_size ≤ length v.ram) where
    pub unknown_cut : pending_in v.ram ≡ unknown → refused_cut v BadState ≡ cut_of (restart_cut h b v)
    unfolding restart_for
    unknown_cut q = rw (le-ltb (length v.ram) header_size l, q)

    -- no call is pending: the header's state is judged
    module _ (q : pending_in v.ram ≡ nothing) (s : layout.State) (e : s ≡ state_in v.ram) where
      abbrev pub judged : Volume
      judged = record { state = s; flash = v.flash; ram = pages v.ram }

      pub none_refused : (i : Refusal) → judgement_of judged ≡ Err i → refused_cut v i ≡ cut_of (restart_cut h b v)
      unfolding restart_for
      none_refused i j =
          let found = of_volume v (record {
            outcome = accepted;
            count = 0;
            da_pages = 0;
            volume = record { state = state_in v.ram; flash = v.flash; ram = v.ram };
            ops = [];
          }) i (bad_state (state_in v.ram)) (too_short (layout.geometry (state_in v.ram).sizes) v.flash (pages v.ram))
          (geometry_for (state_in v.ram).sizes) (rw e at j) in
          rw (le-ltb (length v.ram) header_size l, q, found)

      pub none_found : (g : Geometry) → VolumeFits judged g
          → ◌≡◌ {A = CutEffect} (record {
            outcome = accepted;
            complete = 1;
            steps = 0;
            left = record { state = s; flash = v.flash; ram = v.ram };
          }) (cut_of (restart_cut h b v))
      unfolding restart_for
      none_found g f =
          let fits : VolumeFits (pending_on v) g = rw e at f in
          let none : length (take {A = Step} b []) ≡ 0 = omega (arith, length-take {A = Step} b []) in
          rw (e, le-ltb (length v.ram) header_size l, q, fits.good, fits_enough (pending_on v) g fits, le-leb 0 b (omega arith), none)

-- ---- with enough steps

module _ (h : Family) (v : Volume) where
  -- it tells no count
  found_count : {A : Type 0} (b : ℕ) (p : Pending) (i : std.Result A Refusal) → outcome_of i ≡ (resumed h b v p).outcome → (resumed h b v p).count ≡ 0
  found_count b nothing i e =
      by (bad_state (state_in v.ram)) (too_short (layout.geometry (state_in v.ram).sizes) v.flash (pages v.ram))
    where
      by : (x y : Bool)
          → (cond x (refuse v refusal.bad_state)
          (cond y (refuse v refusal.too_short) (record {
            outcome = accepted;
            count = 0;
            da_pages = 0;
            volume = record { state = state_in v.ram; flash = v.flash; ram = v.ram };
            ops = [];
          }))).count
          ≡ 0
      by true y = refl
      by false true = refl
      by false false = refl
  found_count b (changing c) i e =
      taken_count b (layout.unit_of (state_in v.ram).sizes) v (last_steps (call_again h (pending_on v) c)) (call_again h (pending_on v) c) i e
  found_count b (formatting sizes) i e =
      taken_count b (layout.unit_of sizes) v (last_steps (format (pending_on v) sizes)) (format (pending_on v) sizes) i e
  found_count b unknown i e = refl

  resumed_enough : (a b : ℕ) (p : Pending) → length (pending_ops h v p) + 1 ≤ a → length (pending_ops h v p) + 1 ≤ b
      → resumed h a v p ≡ resumed h b v p
  resumed_enough a b nothing x y = refl
  resumed_enough a b (changing c) x y =
      let r : Result = call_again h (pending_on v) c in
      taken_enough a b (layout.unit_of (state_in v.ram).sizes) v (last_steps r) r (omega (arith, last_length r, x))
      (omega (arith, last_length r, y))
  resumed_enough a b (formatting sizes) x y =
      let r : Result = format (pending_on v) sizes in
      taken_enough a b (layout.unit_of sizes) v (last_steps r) r (omega (arith, last_length r, x)) (omega (arith, last_length r, y))
  resumed_enough a b unknown x y = refl

  restart_count : {A : Type 0} (b : ℕ) (i : std.Result A Refusal) → outcome_of i ≡ (restart_for h b v).outcome → (restart_for h b v).count ≡ 0
  unfolding restart_for
  restart_count b i e =
      either (lt? (length v.ram) header_size) (λ a. rw a.0)
      (λ a. rw a.0 (found_count b (pending_in v.ram) i (rw a.0 at e)))

  restart_enough : (a b : ℕ) → length (pending_ops h v (pending_in v.ram)) + 1 ≤ a → length (pending_ops h v (pending_in v.ram)) + 1 ≤ b
      → restart_for h a v ≡ restart_for h b v
  unfolding restart_for
  restart_enough a b x y =
      either (lt? (length v.ram) header_size) (λ t. rw t.0) (λ t. rw t.0 (resumed_enough a b (pending_in v.ram) x y))

pub whole_effect : (v : Volume) (s : State) (a : std.Result Cut Refusal) (main spare ram : List ℕ)
    → cut_by s a main spare ram ≡ cut_of (restart_cut fnv_family 18446744073709551615 v)
    → ◌≡◌ {A = Effect} (record { outcome = outcome_of a; count = 0; left = (cut_by s a main spare ram).left }) (effect_of (restart_whole fnv_family v))
whole_effect v s a main spare ram e =
    let c = cut_by s a main spare ram in
    let ss : List Step = restart_steps fnv_family v (pending_in v.ram) in
    let r : Result = restart_for fnv_family 18446744073709551615 v in
    uncut_effect_lem c 18446744073709551615 ss r e
    (restart_count fnv_family v 18446744073709551615 a (outcome_of_lem c 18446744073709551615 ss r e))
    ∙ ap effect_of
    (restart_enough fnv_family v 18446744073709551615 (length (pending_ops fnv_family v (pending_in v.ram)) + 1) (few_pending v) (omega arith))
