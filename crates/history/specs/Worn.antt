-- Chips whose marks show wrong bits, and what of a call is the same on them. Document 02, §3: "The chip we buy from April may show
-- single wrong bits in a mark."
use Rattle.std.specs.Prelude.{◌≡◌, ◌⊎◌, List, [], ◌∷◌, ℕ, ◌≤◌, ◌<◌, length, get_or}
use Rattle.layout.specs.Geometry.{geometry, spare_size, Sizes, unit_of}
use Rattle.layout.specs.Flash.{flash_of, apply_all}
use Rattle.layout.specs.Hash.{Family}
use Rattle.layout.specs.Calls.{Volume, Call, Result, call}
use Rattle.laws.specs.FreshLaws.{Written, wrong_bits, most_wrong}
use Rattle.history.specs.Runs.{after, ops_of}

-- a spare area whose first N marks have at most three wrong bits each; of the others nothing is asked
pub record Worn (N : ℕ) (sound worn : List ℕ) : Type 0 where
  pub long : length worn ≡ length sound
  pub wrong : (x : ℕ) → x < N → wrong_bits (get_or worn x 0) (get_or sound x 0) ≤ most_wrong

-- a volume with another spare area
abbrev pub with_spare : List ℕ → Volume → Volume
with_spare spare v = record { state = v.state; flash = flash_of v.flash.main spare; ram = v.ram }

-- a mark before and after on a sound chip, and on a worn one: it is as it was on both, or both are as programmed or as erased
abbrev pub ByteKept : ℕ → ℕ → ℕ → ℕ → Type 0
ByteKept before after worn_before worn_after =
    ((worn_after ≡ worn_before) × (after ≡ before)) ⊎ ((worn_after ≡ after) × Written after)

-- all marks of volumes: v and v' sound before and after, w and w' worn
abbrev pub SpareKept : Volume → Volume → Volume → Volume → Type 0
SpareKept v v' w w' =
    (x : ℕ)
    → ByteKept (get_or v.flash.spare x 0) (get_or v'.flash.spare x 0) (get_or w.flash.spare x 0) (get_or w'.flash.spare x 0)

-- the result r of a format or a call on the volume v, and the result s of the same on the volume w, which differs in its spare area
pub record SameResult (sizes : Sizes) (v w : Volume) (r s : Result) : Type 0 where
  -- the same answer
  pub outcome : s.outcome ≡ r.outcome
  pub count : s.count ≡ r.count
  pub da_pages : s.da_pages ≡ r.da_pages
  -- the same main area, RAM and state
  pub volume_is : s.volume ≡ with_spare s.volume.flash.spare r.volume
  -- by the same operations; the marks are those that they leave
  pub ops : s.ops ≡ r.ops
  pub flash_is : apply_all (unit_of sizes) s.ops w.flash ≡ s.volume.flash
  pub spare_kept : SpareKept v r.volume w s.volume

-- the same of a call on the worn volume w, which it leaves with at most three wrong bits in a mark again
pub record WornResult (sizes : Sizes) (v w : Volume) (r s : Result) : Type 0 where
  pub same : SameResult sizes v w r s
  pub worn : Worn (spare_size (geometry sizes)) r.volume.flash.spare s.volume.flash.spare

-- of each call of a list from the volume v on: before each, the chip may show any wrong bits, at most three in a mark
abbrev pub EachSame : Family → Sizes → Volume → List Call → Type 0
EachSame h sizes v [] = Unit {0}
EachSame h sizes v (c ∷ cs) =
    ((spare : List ℕ) → Worn (spare_size (geometry sizes)) v.flash.spare spare
    → WornResult sizes v (with_spare spare v) (call h v c) (call h (with_spare spare v) c))
    × EachSame h sizes (call h v c).volume cs

-- the same answers from the volumes v and w on: outcome, both counts and state of each call
abbrev pub SameAnswers : Family → Volume → Volume → List Call → Type 0
SameAnswers h v w [] = Unit {0}
SameAnswers h v w (c ∷ cs) =
    ((call h w c).outcome ≡ (call h v c).outcome) × ((call h w c).count ≡ (call h v c).count) × ((call h w c).da_pages ≡ (call h v c).da_pages)
    × ((call h w c).volume.state ≡ (call h v c).volume.state) × SameAnswers h (call h v c).volume (call h w c).volume cs

-- a list of calls on the volume v, and on the worn volume w
pub record SameRun (h : Family) (sizes : Sizes) (v w : Volume) (calls : List Call) : Type 0 where
  pub answers : SameAnswers h v w calls
  pub volume_is : after h w calls ≡ with_spare (after h w calls).flash.spare (after h v calls)
  pub ops : ops_of h w calls ≡ ops_of h v calls
  pub flash_is : apply_all (unit_of sizes) (ops_of h w calls) w.flash ≡ (after h w calls).flash
  pub spare_kept : SpareKept v (after h v calls) w (after h w calls)
  pub worn : Worn (spare_size (geometry sizes)) (after h v calls).flash.spare (after h w calls).flash.spare
