-- Calls and restarts on a volume whose state and header name the same sizes, whose spare bytes are 00 and FF, and on which no format is
-- pending, whatever its other bytes: each is the same on worn spare bytes, and leaves such a volume. Document 02, §3 and §8.
use Rattle.std.specs.Prelude.{◌≡◌, List, ℕ, ◌<◌, get_or}
use Rattle.layout.specs.Geometry.{geometry, spare_size, Sizes}
use Rattle.layout.specs.Calls.{Volume}
use Rattle.layout.specs.Header.{state_in, Pending, nothing, changing}
use Rattle.layout.specs.Header.{formatting, unknown, pending_in}
use Rattle.laws.specs.FreshLaws.{Written}
use Rattle.history.specs.Worn.{Worn, with_spare, WornResult}
use Rattle.cuts.specs.WornEvents.{Run}

-- nothing is pending, or a call
abbrev pub NoFormat : Pending → Type 0
NoFormat nothing = Unit {0}
NoFormat (changing c) = Unit {0}
NoFormat (formatting sizes) = ⊥
NoFormat unknown = Unit {0}

-- a header with these sizes in its state, and no format pending
abbrev pub Names : Sizes → List ℕ → Type 0
Names sizes ram = ((state_in ram).sizes ≡ sizes) × NoFormat (pending_in ram)

-- state and header name the same sizes, no format is pending, and the spare bytes are as programming and erasing write them
pub record Steady (sizes : Sizes) (v : Volume) : Type 0 where
  pub state_is_lem : v.state.sizes ≡ sizes
  pub names : Names sizes v.ram
  pub written : (x : ℕ) → x < spare_size (geometry sizes) → Written (get_or v.flash.spare x 0)

-- a run on worn spare bytes, and what it leaves
pub record SteadyOn (sizes : Sizes) (v : Volume) (r : Run) : Type 0 where
  pub same : (spare : List ℕ) → Worn (spare_size (geometry sizes)) v.flash.spare spare
      → WornResult sizes v (with_spare spare v) (r v) (r (with_spare spare v))
  pub next : Steady sizes (r v).volume
