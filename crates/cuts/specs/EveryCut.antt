-- Calls, format and restart with any budget on any volume, whatever its state and lent bytes: a refusal hands everything back, which
-- refusals there are, and bytes past the volume never change.
use Rattle.std.specs.Prelude.{◌≡◌, length, get_or}
use mathlib.Core.List.{List, [], ◌∷◌}
use Prim.Native.Nat.{ℕ, ◌-◌, ◌≤◌, ◌<◌}
use Rattle.layout.specs.Geometry.{Geometry, main_size, spare_size, ram_size, Sizes}
use Rattle.layout.specs.Refusals as refusal
use Rattle.layout.specs.Calls.{Volume, Call, Result}
use Rattle.layout.specs.Calls.{bad_state, too_short}
use Rattle.layout.specs.Header.{state_in, Pending, nothing, changing, formatting, unknown}
use Rattle.layout.specs.Header.{header_size}
use Rattle.layout.specs.Budgets.{store, chip}
use Rattle.layout.specs.Budgets.{Step}
use Rattle.history.specs.CallRefusals.{refusals_of}

-- 10 beside those of document 01
abbrev pub cut_refusals : Call → List ℕ
cut_refusals c = refusal.pending ∷ refusals_of c

-- a format judges no old state and meets no pending call
abbrev pub format_refusals : List ℕ
format_refusals = refusal.bad_state ∷ refusal.too_short ∷ []

-- "Restart refuses as the pending call would, 7 and 10 aside"
abbrev pub restart_refusals : List ℕ
restart_refusals =
    refusal.bad_state ∷ refusal.too_short ∷ refusal.corrupt_entry ∷ refusal.present ∷ refusal.absent ∷ refusal.full ∷ refusal.deletions_full ∷ []

-- ---- bytes past the volume never change

-- the bytes of a RAM between the pages in use and the header, and its length
pub record KeptRam (N : ℕ) (ram ram' : List ℕ) : Type 0 where
  pub same : (x : ℕ) → N ≤ x → x < length ram - header_size → get_or ram' x 0 ≡ get_or ram x 0
  pub long : length ram' ≡ length ram

pub record CutBeyond (g : Geometry) (v w : Volume) : Type 0 where
  pub main : (x : ℕ) → main_size g ≤ x → get_or w.flash.main x 0 ≡ get_or v.flash.main x 0
  pub spare : (x : ℕ) → spare_size g ≤ x → get_or w.flash.spare x 0 ≡ get_or v.flash.spare x 0
  pub main_length : length w.flash.main ≡ length v.flash.main
  pub spare_length : length w.flash.spare ≡ length v.flash.spare
  pub ram : KeptRam (ram_size g) v.ram w.ram

-- some of the steps: what they store, and their operations

abbrev pub Stores : (List ℕ → Type 0) → List Step → Type 0
Stores P [] = Unit {0}
Stores P (store ram ∷ ss) = P ram × Stores P ss
Stores P (chip o ∷ ss) = Stores P ss

-- the chip and the RAM as they were
abbrev pub Unchanged : Volume → Result → Type 0
Unchanged v r = (r.volume.flash ≡ v.flash) × (r.volume.ram ≡ v.ram)

-- the sizes that a header names: those of a pending format, else its state's
abbrev pub sizes_named : Pending → List ℕ → Sizes
sizes_named nothing ram = (state_in ram).sizes
sizes_named (changing c) ram = (state_in ram).sizes
sizes_named (formatting sizes) ram = sizes
sizes_named unknown ram = (state_in ram).sizes
