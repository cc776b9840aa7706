-- Which sectors lists of operations ask to be fresh, and what they do to the
-- flash: each byte and mark inside and outside the sectors and blocks named.
use Rattle.std.specs.Prelude.{◌≡◌, List, [], ◌∷◌, ℕ, ◌/◌, ◌<◌, get_or}
use Rattle.layout.specs.Flash.{Op, program, erase, Flash, apply}

module _ (u : ℕ) where
  -- a program on an unaltered chip: the sector's mark is FF, and those of the sectors before it in its page are 00
  abbrev pub Allowed : Op → Flash → Type 0
  Allowed (program s bytes) c = (get_or c.spare s 0 ≡ 255) × ((x : ℕ) → x < s → x / 4 ≡ s / 4 → get_or c.spare x 0 ≡ 0)
  Allowed (erase b) c = Unit {0}

  abbrev pub AllAllowed : List Op → Flash → Type 0
  AllAllowed [] c = Unit {0}
  AllAllowed (o ∷ os) c = Allowed o c × AllAllowed os (apply u o c)
