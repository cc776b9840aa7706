-- The induction over a list of calls, from the format on.
use Rattle.std.specs.Prelude.{◌≡◌, refl, true, false, List, [], ◌∷◌, ℕ, ◌-◌, ◌*◌, ◌/◌, ◌≤◌, ◌<◌, length, get_or, replicate, leb}
use Rattle.std.proofs.Common.{ap, ◌∙◌, inr, zero-le, not-suc-le-zero, arith, length-append}
use Rattle.std.proofs.Math.Option.{Option, none, some}
use Rattle.std.proofs.Math.Nat.{zero-div}
use Rattle.std.proofs.lemmas.List.{length-replicate, get_or-replicate}
use Rattle.memory.specs.Cases.{either, bool?}
use Rattle.memory.specs.Lists.{write, length_write, get_d_write_in, get_d_write_after}
use Rattle.layout.specs.Geometry.{Geometry, geometry, allowed, ka_blocks, blocks, full_sets, record_capacity, deletion_capacity, main_size}
use Rattle.layout.specs.Geometry.{spare_size, ram_size, deletion_sets, Sizes, unit_of}
use Rattle.layout.specs.Flash.{Flash, Op, apply_all, erases}
use Rattle.layout.specs.Hash.{Family}
use Rattle.layout.specs.Items.{Ra, KA, DA}
use Rattle.layout.specs.Keys.{Key}
use Rattle.layout.specs.Calls.{Volume, Call, insert, update, delete, lookup, Outcome, accepted, hit, miss, refused, key_index}
use Rattle.layout.specs.Calls.{deletion_index, too_short}
use Rattle.layout.specs.Calls.{format, formatted, call}
use Rattle.layout.specs.FiniteMap.{Map, Reply, map_of}
use Rattle.history.proofs.FlashLaws.{apply_append, allowed_append, erases_main_in, erases_main_out, erases_spare_in}
use Rattle.history.proofs.FlashLaws.{erases_spare_out, apply_main_length, apply_spare_length}
use Rattle.history.specs.Image.{History, ra_item, ka_item, da_item, key_filter, deletion_filter}
use Rattle.history.specs.Live.{find_live, with_record, without_live, empty_history, Live, step_history}
use Rattle.history.proofs.MapLaws.{step_same, Live-deletion}
use Rattle.history.specs.Frames.{Beyond}
use Rattle.history.proofs.Frames.{beyond_same, beyond_then}
use Rattle.history.specs.Parts.{Parts}
use Rattle.history.proofs.Parts.{long_kept}
use Rattle.history.proofs.AreaLaws.{area_start}
use Rattle.history.proofs.IndexLaws.{index_start}
use Rattle.history.specs.Runs.{KeyWords, after, ops_of, reply_of, ResultAgrees, grow_if}
use Rattle.history.proofs.ProgramOrder.{below_append}
use Rattle.history.specs.Volumes.{Holds, volume_of}
use Rattle.history.specs.Steps.{CallDone}
use Rattle.history.proofs.Steps.{call_done}
use Rattle.laws.specs.Lengths.{Long, long_of}
use Rattle.laws.specs.Sound.{SizesSound}
use Rattle.laws.specs.Sound as units
use Rattle.history.specs.RunLaws.{grow_by, Ran}

grow_reply : (o : Outcome) (H : History) (c : Call) → grow_if o H c ≡ grow_by (reply_of o) H c
grow_reply accepted H c = refl
grow_reply (hit place bytes) H c = refl
grow_reply miss H c = refl
grow_reply (refused i) H c = refl

module _ (capacity room : ℕ) where
  grow_step : (H : History) (c : Call) → grow_by (step_history capacity room H c).says H c ≡ (step_history capacity room H c).next
  grow_step H (insert r) = go (find_live H r.key) refl
    where
      go : (o : Option ℕ) → find_live H r.key ≡ o
          → grow_by (step_history capacity room H (insert r)).says H (insert r) ≡ (step_history capacity room H (insert r)).next
      go (some j) q = rw q
      go none q = either (bool? (leb capacity (length H.records))) (λ c. rw (q, c)) (λ c. rw (q, c))
  grow_step H (update r) = go (find_live H r.key) refl
    where
      go : (o : Option ℕ) → find_live H r.key ≡ o
          → grow_by (step_history capacity room H (update r)).says H (update r) ≡ (step_history capacity room H (update r)).next
      go none q =
          either (bool? (leb capacity (length H.records))) (λ c. rw (q, c))
          (λ c. rw (q, c) (ap (λ (o : Option ℕ). with_record (without_live H o) r) q))
      go (some j) q =
          either (bool? (leb capacity (length H.records)))
          (λ c. rw (q, c))
          (λ c. either (bool? (leb room (length H.deleted))) (λ b. rw (q, c, b)) (λ b.
          rw (q, c, b) (ap (λ (o : Option ℕ). with_record (without_live H o) r) q)))
  grow_step H (delete key) = go (find_live H key) refl
    where
      go : (o : Option ℕ) → find_live H key ≡ o
          → grow_by (step_history capacity room H (delete key)).says H (delete key) ≡ (step_history capacity room H (delete key)).next
      go none q = rw q
      go (some j) q =
          either (bool? (leb room (length H.deleted))) (λ b. rw (q, b))
          (λ b. rw (q, b) (ap (without_live H) q))
  grow_step H (lookup key) = go (find_live H key) refl
    where
      go : (o : Option ℕ) → find_live H key ≡ o
          → grow_by (step_history capacity room H (lookup key)).says H (lookup key) ≡ (step_history capacity room H (lookup key)).next
      go none q = rw q
      go (some j) q = rw q

-- a live key leaves room for its deletion
pub less : (H : History) (m : Map) → Live H m → (k : Key) (j : ℕ) → find_live H k ≡ some j → length H.deleted < length H.records
less H m L k j q =
    let L' = Live-deletion H m k j L q in
    omega (arith, L'.count, length-append H.deleted (j ∷ []))

module _ (h : Family) (sizes : Sizes) (ok : SizesSound sizes) (can : allowed sizes ≡ true) where
  abbrev g : Geometry
  g = geometry sizes

  pu : 0 < unit_of sizes
  pu = units.pu sizes ok

  -- ---- the format: the image of the empty history, whatever was handed in

  module _ (v : Volume) (enough : too_short g v.flash v.ram ≡ false) where
    long : Long g v.flash.main v.flash.spare v.ram
    long = long_of g v.flash v.ram enough

    pub format_is : format v sizes ≡ formatted v sizes
    unfolding format
    format_is = rw (can, enough)

    abbrev C : Flash
    C = apply_all (unit_of sizes) (erases 0 (blocks g)) v.flash

    abbrev ram : List ℕ
    ram = write v.ram 0 (replicate (ram_size g) 0)

    main_erased : (x : ℕ) → x < main_size g → get_or C.main x 0 ≡ 255
    main_erased x l =
        erases_main_in (unit_of sizes) 0 (blocks g) v.flash x (omega (arith, long.read.main_fits)) (omega arith) (omega arith)

    spare_erased : (x : ℕ) → x < spare_size g → get_or C.spare x 0 ≡ 255
    spare_erased x l =
        erases_spare_in (unit_of sizes) 0 (blocks g) v.flash x (omega (arith, long.spare_fits)) (omega arith) (omega arith)

    pub start_spare : (spare_size g ≤ length C.spare) × ((x : ℕ) → x < spare_size g → get_or C.spare x 0 ≡ 255)
    start_spare = (rw (apply_spare_length (unit_of sizes) (erases 0 (blocks g)) v.flash) long.spare_fits, spare_erased)

    zeros : length (replicate {A = ℕ} (ram_size g) 0) ≡ ram_size g
    zeros = length-replicate {A = ℕ} (ram_size g) 0

    ram_zero : (x : ℕ) → x < ram_size g → get_or ram x 0 ≡ 0
    ram_zero x l =
        let s : x - 0 ≡ x = omega arith in
        get_d_write_in v.ram 0 (replicate (ram_size g) 0) x 0 zero-le (omega (arith, zeros)) (omega (arith, long.read.ram_fits))
        ∙ rw s (get_or-replicate (ram_size g) x 0 0 l)

    -- no record gives no filter
    no_filters : 0 / (8 * (unit_of sizes)) ≡ 0
    no_filters = zero-div (8 * (unit_of sizes))

    -- and no deletion two
    no_halves : 2 * (0 / (16 * (unit_of sizes))) ≡ 0
    no_halves = ap (λ (q : ℕ). 2 * q) (zero-div (16 * (unit_of sizes)))

    start_parts : Parts h g empty_history 0 0 0 0 0 C ram
    start_parts = record {
      ra =
          area_start (unit_of sizes) pu (Ra g) sizes.ra_blocks (omega arith) (omega (arith, pu)) (omega arith) (ra_item empty_history)
          C.main C.spare ram
          (λ x l m. main_erased x (omega arith)) (λ x l m. spare_erased x (omega arith)) (λ x l m. ram_zero x (omega arith));
      ka =
          area_start (unit_of sizes) pu (KA g) (ka_blocks g) (omega arith) (omega (arith, pu)) (omega arith) (ka_item empty_history) C.main
          C.spare ram
          (λ x l m. main_erased x (omega arith)) (λ x l m. spare_erased x (omega arith)) (λ x l m. ram_zero x (omega arith));
      da =
          area_start (unit_of sizes) pu (DA g) sizes.da_blocks (omega arith) (omega (arith, pu)) (omega arith) (da_item empty_history)
          C.main C.spare ram
          (λ x l m. main_erased x (omega arith)) (λ x l m. spare_erased x (omega arith)) (λ x l m. ram_zero x (omega arith));
      filters =
          index_start (unit_of sizes) ok.e (units.unit sizes ok) (key_index g) (full_sets g) (key_filter h g empty_history) C.main
          C.spare ram
          (λ x l m. main_erased x (omega arith)) (λ x l m. spare_erased x (omega arith)) (λ x l m. ram_zero x (omega arith));
      deletions =
          index_start (unit_of sizes) ok.e (units.unit sizes ok) (deletion_index g) (deletion_sets g) (deletion_filter h g empty_history)
          C.main C.spare ram
          (λ x l m. main_erased x (omega arith)) (λ x l m. spare_erased x (omega arith)) (λ x l m. ram_zero x (omega arith));
      long =
          long_kept g v.flash C v.ram ram (apply_main_length (unit_of sizes) (erases 0 (blocks g)) v.flash)
          (apply_spare_length (unit_of sizes) (erases 0 (blocks g)) v.flash) (length_write v.ram 0 (replicate (ram_size g) 0)) long;
    }

    pub start_holds : Holds h sizes empty_history C ram
    start_holds = record {
      parts = rw (no_filters, no_halves) start_parts;
      work = λ i l. ram_zero _ (omega arith);
      n_cap = zero-le;
      d_cap = zero-le;
      d_le = zero-le;
      keys = λ j l. absurd (not-suc-le-zero l);
      gone = λ i l. absurd (not-suc-le-zero l);
    }

    pub start_beyond : Beyond g v.flash C v.ram ram
    start_beyond = record {
      main = λ x l. erases_main_out (unit_of sizes) 0 (blocks g) v.flash x (inr (omega arith));
      spare = λ x l. erases_spare_out (unit_of sizes) 0 (blocks g) v.flash x (inr (omega arith));
      ram = λ x l. get_d_write_after v.ram 0 (replicate (ram_size g) 0) x 0 (omega (arith, zeros));
      main_length = apply_main_length (unit_of sizes) (erases 0 (blocks g)) v.flash;
      spare_length = apply_spare_length (unit_of sizes) (erases 0 (blocks g)) v.flash;
      ram_length = length_write v.ram 0 (replicate (ram_size g) 0);
    }

  -- ---- the calls

  -- one call and the map's step
  call_agrees : (H : History) (C : Flash) (ram : List ℕ) (m : Map) (c : Call) → Live H m
      → Live (step_history (record_capacity g) (deletion_capacity g) H c).next (map_of g m c).next
      → (step_history (record_capacity g) (deletion_capacity g) H c).says ≡ (map_of g m c).says
      → CallDone h sizes H C ram (call h (volume_of sizes H C ram) c) (step_history (record_capacity g) (deletion_capacity g) H c)
      → ResultAgrees sizes (volume_of sizes H C ram) (call h (volume_of sizes H C ram) c) (map_of g m c)
  call_agrees H C ram m c L L' same X = record {
    says = X.says ∙ same;
    state_is_lem = ap (λ (w : Volume). w.state) X.volume_is ∙ rw (L'.n_is, L'.d_is);
    live = rw X.volume_is (omega (arith, L'.count));
    once = L'.once;
    possible = X.possible;
    handed_on = X.handed_on;
    count_le = X.count_le;
  }

  moved : (w w' : Volume) (H H' : History) (m : Map) (cs : List Call) → w ≡ w' → H ≡ H' → Ran h sizes w' H' m cs → Ran h sizes w H m cs
  moved w w' H H' m cs p q X = rw (p, q) X

  -- a call, and the calls after it
  joined : (H : History) (C : Flash) (ram : List ℕ) (m : Map) (c : Call) (cs : List Call)
      → ResultAgrees sizes (volume_of sizes H C ram) (call h (volume_of sizes H C ram) c) (map_of g m c)
      → CallDone h sizes H C ram (call h (volume_of sizes H C ram) c) (step_history (record_capacity g) (deletion_capacity g) H c)
      → Ran h sizes (call h (volume_of sizes H C ram) c).volume (grow_if (call h (volume_of sizes H C ram) c).outcome H c)
      (map_of g m c).next cs
      → Ran h sizes (volume_of sizes H C ram) H m (c ∷ cs)
  joined H C ram m c cs A X T =
      let v : Volume = volume_of sizes H C ram in
      let w : Volume = (call h (volume_of sizes H C ram) c).volume in
      let one : List Op = (call h (volume_of sizes H C ram) c).ops in
      record {
        agrees = (A, T.agrees);
        flash_is = apply_append (unit_of sizes) one (ops_of h w cs) C ∙ rw X.flash_is T.flash_is;
        ops_allowed = allowed_append (unit_of sizes) one (ops_of h w cs) C X.ops_allowed (rw X.flash_is T.ops_allowed);
        inside = below_append (spare_size g) one (ops_of h w cs) X.inside T.inside;
        volume_is = T.volume_is;
        holds = T.holds;
        beyond = beyond_then g C w.flash (after h w cs).flash ram w.ram (after h w cs).ram X.beyond T.beyond;
        room = T.room;
      }

  pub run : (H : History) (C : Flash) (ram : List ℕ) (m : Map) (cs : List Call) → KeyWords cs → Holds h sizes H C ram → Live H m
      → Ran h sizes (volume_of sizes H C ram) H m cs
  run H C ram m [] w I L = record {
    agrees = tt;
    flash_is = refl;
    ops_allowed = tt;
    inside = tt;
    volume_is = refl;
    holds = I;
    beyond = beyond_same g C ram;
    room = less H m L;
  }
  run H C ram m (c ∷ cs) w I L =
      let X : CallDone h sizes H C ram (call h (volume_of sizes H C ram) c) (step_history (record_capacity g) (deletion_capacity g) H c)
      = call_done h sizes ok can H C ram I c w.0 (less H m L) in
      let same = step_same (record_capacity g) (deletion_capacity g) H m c L in
      let grown : grow_if (call h (volume_of sizes H C ram) c).outcome H c ≡ (step_history (record_capacity g) (deletion_capacity g) H c).next
      = grow_reply (call h (volume_of sizes H C ram) c).outcome H c ∙ ap (λ (o : Reply). grow_by o H c) X.says
      ∙ grow_step (record_capacity g) (deletion_capacity g) H c in
      joined H C ram m c cs (call_agrees H C ram m c L same.1 same.0 X) X
      (moved (call h (volume_of sizes H C ram) c).volume _ _ (step_history (record_capacity g) (deletion_capacity g) H c).next
      (map_of g m c).next cs X.volume_is grown
      (run (step_history (record_capacity g) (deletion_capacity g) H c).next _ _ (map_of g m c).next cs w.1 X.holds same.1))
