-- The volumes that calls reach from a format: each holds the image of a history, and a finite map answers as it does.
use Rattle.std.specs.Prelude.{◌≡◌, refl, true, false, List, [], ◌∷◌, ◌++◌, ℕ, ◌≤◌, length, take}
use Rattle.std.proofs.Common.{ap, ◌∙◌, length-take-le}
use Rattle.layout.specs.Geometry.{Sizes, Geometry, geometry, allowed, record_capacity, deletion_capacity}
use Rattle.layout.specs.Flash.{Flash}
use Rattle.layout.specs.Hash.{Family}
use Rattle.layout.specs.Calls.{Volume, Call, too_short, format, formatted, call, is_deleted, tested_deleted}
use Rattle.layout.specs.FiniteMap.{Map, empty_map, map_of}
use Rattle.laws.specs.Sound.{sound}
use Rattle.history.specs.Image.{History}
use Rattle.history.specs.Live.{Live, step_history, empty_history}
use Rattle.history.proofs.Live.{live_start}
use Rattle.history.proofs.MapLaws.{step_same}
use Rattle.history.specs.Runs.{KeyWord, KeyWords, after, reply_of}
use Rattle.history.specs.Before.{first_deletions}
use Rattle.history.proofs.Before.{before_first}
use Rattle.history.specs.Volumes.{Holds, volume_of}
use Rattle.history.proofs.Volumes.{tests_agree}
use Rattle.history.proofs.Steps.{call_done}
use Rattle.history.proofs.RunLaws.{less, format_is, start_holds}
use Rattle.history.specs.Reached.{map_after, Reached}

pub map_append : (g : Geometry) (m : Map) (cs ds : List Call) → map_after g m (cs ++ ds) ≡ map_after g (map_after g m cs) ds
map_append g m [] ds = refl
map_append g m (c ∷ cs) ds = map_append g (map_of g m c).next cs ds

module _ (h : Family) (sizes : Sizes) where
  abbrev g : Geometry
  g = geometry sizes

  module _ (can : allowed sizes ≡ true) (H : History) (C : Flash) (ram : List ℕ) (m : Map) (c : Call)
      (I : Holds h sizes H C ram) (L : Live H m) (w : KeyWord c) where
    abbrev v : Volume
    v = volume_of sizes H C ram

    one_reached : Reached h sizes (call h v c).volume (map_of g m c).next
    one_reached =
        let X = call_done h sizes (sound sizes can) can H C ram I c w (less H m L) in
        record {
          can = can;
          H = (step_history (record_capacity g) (deletion_capacity g) H c).next;
          is = X.volume_is;
          holds = X.holds;
          live = (step_same (record_capacity g) (deletion_capacity g) H m c L).1;
        }

    one_says : reply_of (call h v c).outcome ≡ (map_of g m c).says
    one_says =
        (call_done h sizes (sound sizes can) can H C ram I c w (less H m L)).says
        ∙ (step_same (record_capacity g) (deletion_capacity g) H m c L).0

  moved : (w w' : Volume) (m : Map) → w ≡ w' → Reached h sizes w' m → Reached h sizes w m
  moved w w' m p X = rw p X

  -- a call reaches, and answers as the map does
  pub reach_call : (v : Volume) (m : Map) (c : Call) → Reached h sizes v m → KeyWord c
      → Reached h sizes (call h v c).volume (map_of g m c).next
  reach_call v m c X w =
      moved (call h v c).volume _ (map_of g m c).next (ap (λ (x : Volume). (call h x c).volume) X.is)
      (one_reached X.can X.H v.flash v.ram m c X.holds X.live w)

  pub reach_says : (v : Volume) (m : Map) (c : Call) → Reached h sizes v m → KeyWord c → reply_of (call h v c).outcome ≡ (map_of g m c).says
  reach_says v m c X w =
      ap (λ (x : Volume). reply_of (call h x c).outcome) X.is ∙ one_says X.can X.H v.flash v.ram m c X.holds X.live w

  -- any list of calls
  pub reach : (v : Volume) (m : Map) (cs : List Call) → Reached h sizes v m → KeyWords cs → Reached h sizes (after h v cs) (map_after g m cs)
  reach v m [] X w = X
  reach v m (c ∷ cs) X w = reach (call h v c).volume (map_of g m c).next cs (reach_call v m c X w.0) w.1

  -- a format, whatever was handed in
  pub reach_format : (v : Volume) → allowed sizes ≡ true → too_short g v.flash v.ram ≡ false
      → Reached h sizes (format v sizes).volume empty_map
  unfolding formatted
  reach_format v can long =
      rw (format_is h sizes (sound sizes can) can v long)
      (record { can = can; H = empty_history; is = refl; holds = start_holds h sizes (sound sizes can) can v long; live = live_start })

  -- there the test of a record number by filters says what DA read whole says, by any bound
  pub reach_tests : (v : Volume) (m : Map) (d₀ j : ℕ) → Reached h sizes v m → d₀ ≤ v.state.deletions
      → tested_deleted h g v d₀ j ≡ is_deleted g v d₀ j
  reach_tests v m d₀ j X l =
      let low : d₀ ≤ length X.H.deleted = rw X.is at l in
      let long : length (take d₀ X.H.deleted) ≡ d₀ = length-take-le d₀ X.H.deleted low in
      let agree = tests_agree h sizes (sound sizes X.can) X.H v.flash v.ram X.holds (first_deletions X.H d₀)
      (before_first X.H d₀) j in
      rw X.is (rw long at agree)
