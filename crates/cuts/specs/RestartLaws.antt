-- Restart on any volume, whatever its bytes: when it refuses, what it hands back then, and that it programs fresh sectors only.
use Rattle.std.specs.Prelude.{◌≡◌, ◌⊎◌, true, ℕ}
use Rattle.layout.specs.Flash.{all_fresh}
use Rattle.layout.specs.Refusals as refusal
use Rattle.layout.specs.Calls.{Volume, accepted, refused, Result, refuse}

-- ---- "Restart refuses as the pending call would, 7 and 10 aside"

-- a call's result and that of the same call gone on with: the same outcome, except that where the call is refused by 7 the other goes on
abbrev pub SameBut7 : Result → Result → Type 0
SameBut7 r s = (s.outcome ≡ r.outcome) ⊎ ((r.outcome ≡ refused refusal.not_fresh) × (s.outcome ≡ accepted))

-- ---- a refused restart hands back all that it was handed, the state too; and no sector is programmed that is not fresh

pub record Orderly (v : Volume) (r : Result) : Type 0 where
  pub refused_back : (i : ℕ) → r.outcome ≡ refused i → r ≡ refuse v i
  pub ops_fresh : all_fresh v.flash.spare r.ops ≡ true

-- the operations of a pending call, gone on with

abbrev pub FreshOps : Volume → Result → Type 0
FreshOps v r = all_fresh v.flash.spare r.ops ≡ true
