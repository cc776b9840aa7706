-- The clauses of demands 2 and 3, from the run over the calls.
use Rattle.std.specs.Prelude.{◌≡◌, Bool, true, false, cond, List, ◌++◌, ℕ, ◌≤◌, ◌<◌, length, get_or}
use Rattle.std.proofs.Math.Path.{refl}
use Rattle.std.proofs.Common.{ap, ◌∙◌, arith}
use Rattle.std.proofs.Math.Option.{Option, none, some}
use Rattle.layout.specs.Geometry.{Geometry, geometry, allowed, blocks, spare_size, Sizes, unit_of, state_of}
use Rattle.layout.specs.Flash.{Op, apply_all}
use Rattle.layout.specs.Hash.{Family}
use Rattle.layout.specs.Keys.{Key, KeyOk}
use Rattle.layout.specs.Calls.{Volume, Call, lookup, accepted, too_short, format, formatted, call}
use Rattle.layout.specs.FiniteMap.{empty_map}
use Rattle.history.proofs.FlashLaws.{apply_append}
use Rattle.history.specs.Image.{History}
use Rattle.history.specs.Live.{empty_history, find_live, lookup_history}
use Rattle.history.proofs.Live.{live_start}
use Rattle.history.specs.Frames.{Beyond}
use Rattle.history.proofs.Frames.{beyond_then}
use Rattle.history.proofs.ByAddress.{main_by_address, spare_by_address, ram_by_address}
use Rattle.history.specs.Runs.{KeyWords, after, ops_of, ProgramOrder, EachAgrees, history_of, ImageOf, reply_of, live_reply}
use Rattle.history.specs.ProgramOrder.{erased}
use Rattle.history.proofs.ProgramOrder.{in_order, erases_in_order, erased_in}
use Rattle.history.specs.Volumes.{volume_of}
use Rattle.history.proofs.Steps.{call_done}
use Rattle.history.specs.RunLaws.{Ran}
use Rattle.history.proofs.RunLaws.{run, format_is, start_holds, start_beyond, start_spare}
use Rattle.laws.specs.Sound.{SizesSound, sound}
use Rattle.laws.specs.Sound as units

module _ (h : Family) (v : Volume) (sizes : Sizes) (calls : List Call) (can : allowed sizes ≡ true)
    (long : too_short (geometry sizes) v.flash v.ram ≡ false) (words : KeyWords calls) where
  abbrev g : Geometry
  g = geometry sizes

  ok : SizesSound sizes
  ok = sound sizes can

  -- the volume after the format
  abbrev w : Volume
  w = (formatted v sizes).volume

  is_formatted : format v sizes ≡ formatted v sizes
  is_formatted = format_is h sizes ok can v long

  ran : Ran h sizes (formatted v sizes).volume empty_history empty_map calls
  unfolding formatted
  ran = run h sizes ok can empty_history _ _ empty_map calls words (start_holds h sizes ok can v long) live_start

  pub format_accepted : (format v sizes).outcome ≡ accepted
  unfolding formatted
  format_accepted = rw is_formatted

  pub format_state : (format v sizes).volume.state ≡ state_of sizes 0 0
  unfolding formatted
  format_state = rw is_formatted

  pub each_agrees : EachAgrees h sizes (format v sizes).volume empty_map calls
  each_agrees = rw is_formatted ran.agrees

  after_format : apply_all (unit_of sizes) (formatted v sizes).ops v.flash ≡ (formatted v sizes).volume.flash
  unfolding formatted
  after_format = refl

  pub flash_is : apply_all (unit_of sizes) ((format v sizes).ops ++ ops_of h (format v sizes).volume calls) v.flash
      ≡ (after h (format v sizes).volume calls).flash
  flash_is =
      rw is_formatted
      (apply_append (unit_of sizes) (formatted v sizes).ops (ops_of h (formatted v sizes).volume calls) v.flash
      ∙ rw after_format ran.flash_is)

  says : (P : ℕ → Bool) (x : ℕ) → x < spare_size g
      → get_or (formatted v sizes).volume.flash.spare x 0 ≡ cond (erased 0 (blocks g) P x) 0 255
  unfolding formatted
  says P x l = (start_spare h sizes ok can v long).1 x l ∙ rw (erased_in 0 (blocks g) P x (omega arith) (omega arith))

  fits : spare_size g ≤ length (formatted v sizes).volume.flash.spare
  unfolding formatted
  fits = (start_spare h sizes ok can v long).0

  format_in_order : (os : List Op) (P : ℕ → Bool) → ProgramOrder os (erased 0 (blocks g) P) → ProgramOrder ((formatted v sizes).ops ++ os) P
  unfolding formatted
  format_in_order os P q = erases_in_order 0 (blocks g) os P q

  pub all_in_order : (P : ℕ → Bool) → ProgramOrder ((format v sizes).ops ++ ops_of h (format v sizes).volume calls) P
  all_in_order P =
      rw is_formatted
      (format_in_order (ops_of h (formatted v sizes).volume calls) P
      (in_order (unit_of sizes) (spare_size g) (ops_of h (formatted v sizes).volume calls) (formatted v sizes).volume.flash
      (erased 0 (blocks g) P) fits (says P) ran.ops_allowed ran.inside))

  -- ---- demand 2

  abbrev H : History
  H = history_of h (formatted v sizes).volume empty_history calls

  abbrev end : Volume
  end = after h (formatted v sizes).volume calls

  first_beyond : Beyond g v.flash (formatted v sizes).volume.flash v.ram (formatted v sizes).volume.ram
  unfolding formatted
  first_beyond = start_beyond h sizes ok can v long

  past : Beyond g v.flash end.flash v.ram end.ram
  past = beyond_then g v.flash w.flash end.flash v.ram w.ram end.ram first_beyond ran.beyond

  reply_is : (o : Option ℕ) → (lookup_history H o).says ≡ live_reply H o
  reply_is none = refl
  reply_is (some j) = refl

  found : (key : Key) → KeyOk key
      → reply_of (call h (volume_of sizes H end.flash end.ram) (lookup key)).outcome ≡ live_reply H (find_live H key)
  found key l = (call_done h sizes ok can H end.flash end.ram ran.holds (lookup key) l ran.room).says ∙ reply_is (find_live H key)

  looked_up : (e : Volume) → e ≡ volume_of sizes H end.flash end.ram → (key : Key) → KeyOk key
      → reply_of (call h e (lookup key)).outcome ≡ live_reply H (find_live H key)
  looked_up e q key l = rw q (found key l)

  image : ImageOf h g H v end
  image = record {
    main = main_by_address h g ok.e (units.unit sizes ok) H end.flash end.ram ran.holds.parts ran.holds.work;
    spare = spare_by_address h g ok.e (units.unit sizes ok) H end.flash end.ram ran.holds.parts ran.holds.work;
    ram = ram_by_address h g ok.e (units.unit sizes ok) H end.flash end.ram ran.holds.parts ran.holds.work;
    main_past = past.main;
    spare_past = past.spare;
    ram_past = past.ram;
    main_length = past.main_length;
    spare_length = past.spare_length;
    ram_length = past.ram_length;
    records = ap (λ (e : Volume). e.state.records) ran.volume_is;
    deletions = ap (λ (e : Volume). e.state.deletions) ran.volume_is;
    lookups = looked_up end ran.volume_is;
  }

  pub image_of : ImageOf h g (history_of h (format v sizes).volume empty_history calls) v (after h (format v sizes).volume calls)
  image_of = rw is_formatted image
