-- What the steps of a format leave, and what is told of them.
use mathlib.Core.Path.{◌≡◌, refl, ap, sym, subst, ◌∙◌}
use mathlib.Core.Bool.{true, false, cond}
use mathlib.Core.List.{List, [], ◌∷◌, ◌++◌}
use Prim.Native.Nat.{ℕ, zero, suc, ◌+◌, ◌-◌, ◌≤◌, ◌<◌}
use native.Mathlib.Omega.{arith}
use lib.ListN.{length, take, replicate, length-take, length-append}
use borrow.Author.Tests.{le-ltb}
use Rattle.memory.specs.Bits.{num}
use Rattle.memory.specs.Lists.{write, length_write}
use Rattle.memory.specs.Words.{words_bytes, length_words}
use Rattle.layout.specs.Geometry as layout
use Rattle.layout.specs.Flash.{Op, erase, apply_all, erases}
use Rattle.layout.specs.Hash.{Family}
use Rattle.layout.specs.Calls.{Volume, accepted, refused, Result, too_short, format, formatted}
use Rattle.layout.specs.Header.{header_size, state_size, header, header_bytes, format_words, no_intent, pages, on_pages, format_intended}
use Rattle.layout.specs.Header.{formatting, pending_in}
use Rattle.layout.specs.Budgets.{Step, Memory, memory, last_steps, call_steps, taken, pending_on, format_for, format_cut, format_whole}
use Rattle.layout.specs.Budgets.{restart_for, restart_cut}
use Rattle.laws.specs.HeaderLaws.{length_pages, length_header, pages_of}
use Rattle.laws.specs.Lengths.{not_short}
use Rattle.laws.specs.StepLaws.{last_length, taken_enough}
use Rattle.geometry.specs.Shape.{shape}
use Rattle.geometry.specs.Bounds.{blocks_le}
use Rattle.geometry.specs.declared.volume.Geometry.{Geometry}
use Rattle.std.specs.Prelude as std
use Rattle.std.specs.Prelude.{Err}
use Rattle.state.specs.Contract.{CutEffect, cut_of, cut_by, state_is, number_of, outcome_of, Effect, effect_of, Ran}
use Rattle.state.specs.Judge.{judgement_of_new, FormatFits, format_shape}
use Rattle.state.specs.declared.State.{State}
use Rattle.state.specs.declared.Progress.{Progress}
use Rattle.state.specs.declared.Refusal.{Refusal}
use Rattle.state.specs.declared.Cut.{Cut}
use Rattle.state.proofs.Refusals.{format_refused}
use Rattle.state.proofs.RunLaws.{ran_cut_lem, ran_all, ran_stored, ran_cut_is, refused_cut_lem, taken_count, outcome_of_lem, uncut_effect_lem}
use Rattle.format.specs.Few.{formatted_length, few_format}

-- the first b of k erases
erases_take : (a b k : ℕ) → b ≤ k → take b (erases a k) ≡ erases a b
erases_take a zero k h = refl
erases_take a (suc b) zero h = absurd (omega (arith, h))
erases_take a (suc b) (suc k) h = ap (λ (os : List Op). erase a ∷ os) (erases_take (suc a) b k (omega (arith, h)))

-- the pages of a RAM that is written from its start on
take_write : (n : ℕ) (l x : List ℕ) → take n (write l 0 x) ≡ write (take n l) 0 x
unfolding write
take_write zero l x = refl
take_write (suc n) [] x = refl
take_write (suc n) (y ∷ ys) [] = refl
take_write (suc n) (y ∷ ys) (z ∷ zs) = ap (λ (l : List ℕ). z ∷ l) (take_write n ys zs)

pages_write : (ram x : List ℕ) → pages (write ram 0 x) ≡ write (pages ram) 0 x
unfolding pages
pages_write ram x = rw (length_write ram 0 x) (take_write (length ram - header_size) ram x)

-- ---- the steps behind the intent

module _ (v : Volume) (sizes : layout.Sizes) (g : Geometry) (n : FormatFits sizes v.flash (pages v.ram) g) where
  named : layout.geometry sizes ≡ shape g
  named = sym (format_shape sizes v.flash (pages v.ram) g n)

  ops_length : length (formatted (on_pages v) sizes).ops ≡ layout.blocks (shape g)
  ops_length = formatted_length (on_pages v) sizes ∙ ap layout.blocks named

  ops_cut : (b : ℕ) → b ≤ layout.blocks (shape g) → take b (formatted (on_pages v) sizes).ops ≡ erases 0 b
  unfolding formatted
  ops_cut b h = erases_take 0 b (layout.blocks (layout.geometry sizes)) (subst (λ x. b ≤ layout.blocks x) (sym named) h)

  ops_are : (formatted (on_pages v) sizes).ops ≡ erases 0 (layout.blocks (shape g))
  unfolding formatted
  ops_are = ap (λ x. erases 0 (layout.blocks x)) named

  ram_is : (formatted (on_pages v) sizes).volume
      ≡ record {
        state = layout.state_of sizes 0 0;
        flash = apply_all g.chip.unit (erases 0 (layout.blocks (shape g))) v.flash;
        ram = write (pages v.ram) 0 (replicate (layout.ram_size (shape g)) 0);
      }
  unfolding formatted
  ram_is =
      ap (λ (x : layout.Geometry). formatted_at x) named
    where
      formatted_at : layout.Geometry → Volume
      formatted_at x =
          record {
            state = layout.state_of sizes 0 0;
            flash = apply_all x.u (erases 0 (layout.blocks x)) v.flash;
            ram = write (pages v.ram) 0 (replicate (layout.ram_size x) 0);
          }

  pub finish_cut : (b : ℕ) (m : Memory) (p : Progress) → b ≤ layout.blocks (shape g)
      → m ≡ memory (apply_all g.chip.unit (erases 0 b) v.flash) v.ram → p.steps ≡ b → p.finished ≡ false
      → Ran g.chip.unit (last_steps (formatted (on_pages v) sizes)) b (memory v.flash v.ram) m p
  finish_cut b m p h e s f =
      ran_cut_lem g.chip.unit b (formatted (on_pages v) sizes) v.flash v.ram m p (omega (arith, ops_length, h))
      (e ∙ rw (ops_cut b h)) s f

  pub finish_all : (b : ℕ) (m : Memory) (p : Progress) → layout.blocks (shape g) < b
      → m.flash ≡ apply_all g.chip.unit (erases 0 (layout.blocks (shape g))) v.flash
      → m.ram ≡ pages (write v.ram 0 (replicate (layout.ram_size (shape g)) 0)) ++ header_bytes (layout.state_of sizes 0 0) no_intent
      → p.steps ≡ layout.blocks (shape g) + 1 → p.finished ≡ true
      → Ran g.chip.unit (last_steps (formatted (on_pages v) sizes)) b (memory v.flash v.ram) m p
  finish_all b m p h c r s f =
      ran_all g.chip.unit b (formatted (on_pages v) sizes) v.flash v.ram m p (omega (arith, ops_length, h))
      (rw (ram_is, ops_are, ← pages_write v.ram (replicate (layout.ram_size (shape g)) 0), ← c, ← r))
      (omega (arith, ops_length, s)) f

  pub steps_few : (w : Volume) (b : ℕ) (m m' : Memory) (p : Progress) → Ran g.chip.unit (last_steps (formatted w sizes)) b m m' p
      → p.steps ≤ 12035
  steps_few w b m m' p R =
      omega (
        arith,
        R.steps_is,
        length-take b (last_steps (formatted w sizes)),
        last_length (formatted w sizes),
        formatted_length w sizes ∙ same,
        blocks_le g,
      )
    where
      same : layout.blocks (layout.geometry sizes) ≡ layout.blocks (shape g)
      same = ap layout.blocks named

  -- ---- the intent

  pub header_fits : header_size ≤ length v.ram
  header_fits = omega (arith, g.power.some, n.long.read.ram_fits, length_pages v.ram)

  intent_size : length (take state_size (header v.ram) ++ words_bytes (format_words sizes)) ≡ header_size
  intent_size =
      omega (
        arith,
        length-append (take state_size (header v.ram)) (words_bytes (format_words sizes)),
        length-take state_size (header v.ram),
        length_header v.ram header_fits,
        length_words (format_words sizes),
      )

  -- it leaves the pages
  pages_intended : pages (format_intended v sizes) ≡ pages v.ram
  pages_intended = pages_of (pages v.ram) _ intent_size

  pub intended_fits : (ram : List ℕ) → ram ≡ format_intended v sizes → (header_size ≤ length ram) × FormatFits sizes v.flash (pages ram) g
  intended_fits ram e =
      let size = length-append (pages v.ram) (take state_size (header v.ram) ++ words_bytes (format_words sizes)) in
      rw e (omega (arith, size, intent_size), rw pages_intended n)

  pub intended_ran : (a b : ℕ) (ram : List ℕ) (m : Memory) (p q : Progress) → a ≡ suc b → ram ≡ format_intended v sizes
      → Ran g.chip.unit (last_steps (formatted (on_pages (record { state = v.state; flash = v.flash; ram = ram })) sizes)) b
      (memory v.flash ram) m p
      → q.steps ≡ p.steps + 1 → q.finished ≡ p.finished
      → Ran g.chip.unit (call_steps (format_intended v sizes) (formatted (on_pages v) sizes)) a (memory v.flash v.ram) m q
  intended_ran a b ram m p q k e R s f =
      ran_stored g.chip.unit a b (last_steps (formatted (on_pages v) sizes)) v.flash v.ram (format_intended v sizes) m p q k
      (rw (e, pages_intended) at R) s f

-- ---- what is told

pub format_refused_cut : (b : ℕ) (v : Volume) (sizes : layout.Sizes) (i : Refusal) → judgement_of_new sizes v.flash (pages v.ram) ≡ Err i
    → ◌≡◌ {A = CutEffect} (record { outcome = refused (number_of i); complete = 0; steps = 0; left = v }) (cut_of (format_cut b v sizes))
unfolding format_for
format_refused_cut b v sizes i e =
    refused_cut_lem b (layout.unit_of sizes) v (on_pages v) i (call_steps (format_intended v sizes) (format (on_pages v) sizes))
    (format (on_pages v) sizes)
    (format_refused (on_pages v) sizes i e)

pub restart_refused_cut : (h : Family) (b : ℕ) (v : Volume) (sizes : layout.Sizes) (i : Refusal) → header_size ≤ length v.ram
    → pending_in v.ram ≡ formatting sizes → judgement_of_new sizes v.flash (pages v.ram) ≡ Err i
    → ◌≡◌ {A = CutEffect} (record { outcome = refused (number_of i); complete = 0; steps = 0; left = v }) (cut_of (restart_cut h b v))
unfolding restart_for
restart_refused_cut h b v sizes i l q e =
    rw (le-ltb (length v.ram) header_size l, q)
    (refused_cut_lem b (layout.unit_of sizes) v (pending_on v) i (last_steps (format (pending_on v) sizes)) (format (pending_on v) sizes)
    (format_refused (pending_on v) sizes i e))

format_is : (w : Volume) (sizes : layout.Sizes) (g : Geometry) → FormatFits sizes w.flash w.ram g → format w sizes ≡ formatted w sizes
unfolding format
format_is w sizes g n =
    let enough : too_short (layout.geometry sizes) w.flash w.ram ≡ false
    = ap (λ x. too_short x w.flash w.ram) (sym (format_shape sizes w.flash w.ram g n)) ∙ not_short (shape g) w.flash w.ram n.long in
    rw (n.can, enough)

module _ (b : ℕ) (v : Volume) (sizes : layout.Sizes) (g : Geometry) (n : FormatFits sizes v.flash (pages v.ram) g)
    (m : Memory) (p : Progress) (old new : State) (o : state_is old ≡ v.state) (z : state_is new ≡ layout.state_of sizes 0 0) where
  -- all that the caller of an accepted one sees
  abbrev pub told_cut : CutEffect
  told_cut =
      record {
        outcome = accepted;
        complete = num p.finished;
        steps = p.steps;
        left = record { state = state_is (cond p.finished new old); flash = m.flash; ram = m.ram };
      }

  -- the unit is that of the sizes
  at_unit : (ss : List Step) → Ran g.chip.unit ss b (memory v.flash v.ram) m p → Ran (layout.unit_of sizes) ss b (memory v.flash v.ram) m p
  at_unit ss R =
      subst (λ u. Ran u ss b (memory v.flash v.ram) m p) (ap (λ (x : layout.Geometry). x.u) (format_shape sizes v.flash (pages v.ram) g n)) R

  pub format_ran : Ran g.chip.unit (call_steps (format_intended v sizes) (formatted (on_pages v) sizes)) b (memory v.flash v.ram) m p
      → told_cut ≡ cut_of (format_cut b v sizes)
  unfolding format_for formatted
  format_ran R =
      rw (format_is (on_pages v) sizes g n)
      (ran_cut_is b (layout.unit_of sizes) v (call_steps (format_intended v sizes) (formatted (on_pages v) sizes))
      (formatted (on_pages v) sizes) m p old new refl o z (at_unit _ R))

  -- a restart, to which the header tells the format
  pub restart_ran : (h : Family) → header_size ≤ length v.ram → pending_in v.ram ≡ formatting sizes
      → Ran g.chip.unit (last_steps (formatted (on_pages v) sizes)) b (memory v.flash v.ram) m p
      → told_cut ≡ cut_of (restart_cut h b v)
  unfolding restart_for formatted
  restart_ran h l q R =
      rw (le-ltb (length v.ram) header_size l, q, format_is (pending_on v) sizes g n)
      (ran_cut_is b (layout.unit_of sizes) v (last_steps (formatted (on_pages v) sizes)) (formatted (on_pages v) sizes) m p old new refl o z
      (at_unit _ R))

pub whole_effect : (v : Volume) (sizes : layout.Sizes) (s : State) (a : std.Result Cut Refusal) (main spare ram : List ℕ)
    → cut_by s a main spare ram ≡ cut_of (format_cut 18446744073709551615 v sizes)
    → ◌≡◌ {A = Effect} (record { outcome = outcome_of a; count = 0; left = (cut_by s a main spare ram).left }) (effect_of (format_whole v sizes))
unfolding format_for
whole_effect v sizes s a main spare ram e =
    let c = cut_by s a main spare ram in
    let r : Result = format (on_pages v) sizes in
    let ss : List Step = call_steps (format_intended v sizes) r in
    let few = few_format (on_pages v) sizes in
    let n = last_length r in
    let t : Result = taken 18446744073709551615 (layout.unit_of sizes) v ss r in
    uncut_effect_lem c 18446744073709551615 ss t e
    (taken_count 18446744073709551615 (layout.unit_of sizes) v ss r a (outcome_of_lem c 18446744073709551615 ss t e))
    ∙ ap effect_of
    (taken_enough 18446744073709551615 (length r.ops + 2) (layout.unit_of sizes) v ss r (omega (arith, few, n)) (omega (arith, n)))
