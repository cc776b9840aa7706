-- Worn marks change no answer and no byte but themselves: for every hash family and every list of calls after an accepted format. Nor do
-- any marks in a format. The words are defined in Worn. Document 02, §3.
use Rattle.std.specs.Prelude.{◌≡◌, refl, true, false, List, [], ◌∷◌, ℕ, ◌<◌, length, get_or}
use Rattle.std.proofs.Common.{sym, ap, ◌∙◌, inl}
use Rattle.layout.specs.Geometry.{Geometry, geometry, allowed, spare_size, Sizes, unit_of}
use Rattle.layout.specs.Flash.{Flash, flash_of, apply_all}
use Rattle.layout.specs.Hash.{Family}
use Rattle.layout.specs.Calls.{Volume, Call, Result, too_short, format, call}
use Rattle.layout.specs.FiniteMap.{Map, empty_map, map_of}
use Rattle.laws.specs.FreshLaws.{Written}
use Rattle.laws.specs.Sound.{sound}
use Rattle.laws.specs.Sound as units
use Rattle.history.proofs.FlashLaws.{apply_append, apply_spare_length}
use Rattle.history.specs.Image.{History, spare_image}
use Rattle.history.proofs.ByAddress.{spare_by_address}
use Rattle.history.specs.Live.{Live}
use Rattle.history.specs.Runs.{KeyWord, KeyWords, after, ops_of}
use Rattle.history.specs.Volumes.{Holds, volume_of}
use Rattle.history.proofs.Steps.{call_done}
use Rattle.history.proofs.RunLaws.{less}
use Rattle.history.specs.Reached.{Reached, map_after}
use Rattle.history.proofs.Reached.{reach, reach_call, reach_format}
use Rattle.history.specs.Worn.{Worn, with_spare, SameResult, WornResult, EachSame, SameRun}
use Rattle.history.proofs.WornLaws.{image_written, all_main, all_kept, kept_worn, kept_then, as_fresh}
use Rattle.history.specs.WornCalls.{redone}
use Rattle.history.proofs.WornCalls.{format_alike, format_done, call_alike}

-- ---- one result

-- a result that is redone on another spare area
module _ (sizes : Sizes) (v : Volume) (spare : List ℕ) (r : Result) (long : length spare ≡ length v.flash.spare)
    (done : apply_all (unit_of sizes) r.ops v.flash ≡ r.volume.flash) where
  abbrev u : ℕ
  u = unit_of sizes

  -- the flash that the operations leave
  abbrev worn : Flash
  worn = apply_all u r.ops (flash_of v.flash.main spare)

  pub redone_same : SameResult sizes v (with_spare spare v) r (redone sizes spare v r)
  redone_same = record {
    outcome = refl;
    count = refl;
    da_pages = refl;
    volume_is =
        ap (λ (m : List ℕ). record { state = r.volume.state; flash = flash_of m worn.spare; ram = r.volume.ram })
        (all_main u r.ops v.flash (flash_of v.flash.main spare) refl ∙ ap (λ (c : Flash). c.main) done);
    ops = refl;
    flash_is = refl;
    spare_kept = λ x. rw done at (all_kept u r.ops v.flash (flash_of v.flash.main spare) x long);
  }

  pub redone_worn : Worn (spare_size (geometry sizes)) v.flash.spare spare
      → WornResult sizes v (with_spare spare v) r (redone sizes spare v r)
  redone_worn W = record {
    same = redone_same;
    worn = record {
      long =
          apply_spare_length u r.ops (flash_of v.flash.main spare) ∙ long ∙ sym (apply_spare_length u r.ops v.flash)
          ∙ ap (λ (c : Flash). length c.spare) done;
      wrong = λ x l. kept_worn _ _ _ _ _ (redone_same.spare_kept x) (W.wrong x l);
    };
  }

-- ---- one call

module _ (h : Family) (sizes : Sizes) where
  abbrev g : Geometry
  g = geometry sizes

  -- the marks of a history are 00 and FF
  holds_written : (can : allowed sizes ≡ true) (H : History) (C : Flash) (ram : List ℕ) → Holds h sizes H C ram → (x : ℕ) → x < spare_size g
      → Written (get_or C.spare x 0)
  holds_written can H C ram I x l =
      let is : get_or C.spare x 0 ≡ spare_image g H x
      = spare_by_address h g (sound sizes can).e (units.unit sizes (sound sizes can)) H C ram I.parts I.work x l in
      rw is (image_written g H x)

  pub reached_written : (v : Volume) (m : Map) → Reached h sizes v m → (x : ℕ) → x < spare_size g → Written (get_or v.flash.spare x 0)
  reached_written v m X x l = holds_written X.can X.H v.flash v.ram X.holds x l

  module _ (can : allowed sizes ≡ true) (H : History) (C : Flash) (ram : List ℕ) (m : Map) (c : Call) (I : Holds h sizes H C ram)
      (L : Live H m) (k : KeyWord c) (spare : List ℕ) (W : Worn (spare_size g) C.spare spare) where
    abbrev v : Volume
    v = volume_of sizes H C ram

    one_same : WornResult sizes v (with_spare spare v) (call h v c) (call h (with_spare spare v) c)
    one_same =
        let X = call_done h sizes (sound sizes can) can H C ram I c k (less H m L) in
        rw (call_alike h v spare (as_fresh (spare_size g) C.spare spare (holds_written can H C ram I) W) c W.long)
        (redone_worn sizes v spare (call h v c) W.long X.flash_is W)

  moved : (v v' : Volume) (spare : List ℕ) (c : Call) → v ≡ v'
      → WornResult sizes v' (with_spare spare v') (call h v' c) (call h (with_spare spare v') c)
      → WornResult sizes v (with_spare spare v) (call h v c) (call h (with_spare spare v) c)
  moved v v' spare c p X = rw p X

  -- a call on a volume that calls reach
  pub call_same : (v : Volume) (m : Map) (c : Call) (spare : List ℕ) → Reached h sizes v m → KeyWord c
      → Worn (spare_size g) v.flash.spare spare → WornResult sizes v (with_spare spare v) (call h v c) (call h (with_spare spare v) c)
  call_same v m c spare X k W =
      moved v _ spare c X.is (one_same X.can X.H v.flash v.ram m c X.holds X.live k spare W)

  -- ---- lists of calls

  each_same : (v : Volume) (m : Map) (cs : List Call) → Reached h sizes v m → KeyWords cs → EachSame h sizes v cs
  each_same v m [] X k = tt
  each_same v m (c ∷ cs) X k = (
    λ spare W. call_same v m c spare X k.0 W,
    each_same (call h v c).volume (map_of g m c).next cs (reach_call h sizes v m c X k.0) k.1,
  )

  -- one call more before a run
  module _ (v w : Volume) (c : Call) (cs : List Call) (F : WornResult sizes v w (call h v c) (call h w c))
      (G : SameRun h sizes (call h v c).volume (call h w c).volume cs) where
    run_more : SameRun h sizes v w (c ∷ cs)
    run_more = record {
      answers = (F.same.outcome, F.same.count, F.same.da_pages, ap (λ (x : Volume). x.state) F.same.volume_is, G.answers);
      volume_is = G.volume_is;
      ops = rw (F.same.ops, G.ops);
      flash_is =
          apply_append (unit_of sizes) (call h w c).ops (ops_of h (call h w c).volume cs) w.flash
          ∙ rw F.same.flash_is G.flash_is;
      spare_kept = λ x. kept_then (unit_of sizes) x v.flash (call h v c).volume.flash (after h (call h v c).volume cs).flash
          w.flash (call h w c).volume.flash (after h (call h w c).volume cs).flash (F.same.spare_kept x) (G.spare_kept x);
      worn = G.worn;
    }

  run_moved : (v w w' : Volume) (cs : List Call) → w ≡ w' → SameRun h sizes v w' cs → SameRun h sizes v w cs
  run_moved v w w' cs p X = rw p X

  -- a list of calls on a volume that calls reach
  pub run_same : (v : Volume) (m : Map) (spare : List ℕ) (cs : List Call) → Reached h sizes v m → KeyWords cs
      → Worn (spare_size g) v.flash.spare spare → SameRun h sizes v (with_spare spare v) cs
  run_same v m spare [] X k W = record {
    answers = tt;
    volume_is = refl;
    ops = refl;
    flash_is = refl;
    spare_kept = λ x. inl (refl, refl);
    worn = W;
  }
  run_same v m spare (c ∷ cs) X k W =
      let F = call_same v m c spare X k.0 W in
      run_more v (with_spare spare v) c cs F
      (run_moved (call h v c).volume (call h (with_spare spare v) c).volume _ cs F.same.volume_is
      (run_same (call h v c).volume (map_of g m c).next (call h (with_spare spare v) c).volume.flash.spare cs
      (reach_call h sizes v m c X k.0) k.1 F.worn))

-- ---- the theorems

-- a format looks at no spare byte: it is the same on any others, as many of them
pub worn_format : (v : Volume) (sizes : Sizes) (spare : List ℕ) → length spare ≡ length v.flash.spare
    → SameResult sizes v (with_spare spare v) (format v sizes) (format (with_spare spare v) sizes)
worn_format v sizes spare long =
    rw (format_alike v sizes spare long) (redone_same sizes v spare (format v sizes) long (format_done v sizes))

module _ (h : Family) (v : Volume) (sizes : Sizes) (calls : List Call) (can : allowed sizes ≡ true)
    (long : too_short (geometry sizes) v.flash v.ram ≡ false) (words : KeyWords calls) where
  -- every call after the format: before each, the chip may show other wrong bits
  pub worn_each : EachSame h sizes (format v sizes).volume calls
  worn_each = each_same h sizes (format v sizes).volume empty_map calls (reach_format h sizes v can long) words

  -- every further list of calls, on the marks that a history left and that then wore
  pub worn_run : (spare : List ℕ) (more : List Call) → KeyWords more
      → Worn (spare_size (geometry sizes)) (after h (format v sizes).volume calls).flash.spare spare
      → SameRun h sizes (after h (format v sizes).volume calls) (with_spare spare (after h (format v sizes).volume calls)) more
  worn_run spare more k W =
      run_same h sizes (after h (format v sizes).volume calls) (map_after (geometry sizes) empty_map calls) spare more
      (reach h sizes (format v sizes).volume empty_map calls (reach_format h sizes v can long) words) k W
