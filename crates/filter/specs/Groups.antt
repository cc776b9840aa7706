-- Groups of filters whose bits lie in the same rows: the SKA page, L1, the current set, and each full set.
use Rattle.std.specs.Prelude.{Bool, cond, List, ℕ, ◌+◌, ◌-◌, ◌*◌, ◌/◌, ◌%◌, ◌^◌, ltb}
use Rattle.memory.specs.Bits.{bit_in}
use Rattle.memory.specs.Power.{log2up}
use Rattle.memory.specs.Ranges.{all_of}
use Rattle.layout.specs.Geometry.{sector, page, block}
use Rattle.layout.specs.Index.{Index, pages_per_fourth}
use Rattle.layout.specs.Index.{side_block, full_block, full_filters, in_set, in_full}
use Rattle.filter.specs.declared.groups.Level.{Level}
use Rattle.filter.specs.declared.groups.Stage.{Stage}

-- ---- where groups lie

module _ (u e : ℕ) (ix : Index) where
  -- the SKA page: a sector for each fourth of the filters' bits
  abbrev pub ska_level : ℕ → Level
  ska_level start = record { start = start; base = ix.ska; exponent = e + 4; stride = sector u }

  -- L1: four pages for each fourth, flush after flush
  abbrev pub l1_level : ℕ → Level
  l1_level start =
      record { start = start; base = ix.first * block u; exponent = e + 4; stride = pages_per_fourth * page u }

  -- the current set after c rounds
  abbrev pub set_level : ℕ → ℕ → Level
  set_level c start =
      record { start = start; base = side_block u ix c * block u; exponent = e + 2 - log2up c; stride = page u }

-- full set k
abbrev pub full_level : ℕ → Index → ℕ → Level
full_level u ix k = record { start = k * full_filters u; base = full_block u ix k * block u; exponent = 0; stride = page u }

-- how F filters are shared out: rounds in the current set; filters in full sets
abbrev pub stage_of : ℕ → ℕ → Stage
stage_of u F = record { rounds = in_set u F; full = in_full u F * full_filters u }

-- the set that has filter `below` - 1
abbrev pub level_in_sets : ℕ → ℕ → Index → Stage → ℕ → Level
level_in_sets u e ix st below =
    cond (ltb st.full below) (set_level u e ix st.rounds st.full) (full_level u ix ((below - 1) / 2 ^ (e + 9)))

-- ---- what a level has

-- first byte of the row of position x
abbrev pub row_at : Level → ℕ → ℕ
row_at l x = l.base + x / 2 ^ l.exponent * l.stride

-- has filter g of a level, counted from its first, all of the positions: position x is bit `x % w` of the w bits that a filter has in its
-- row
abbrev pub level_has : Level → List ℕ → List ℕ → ℕ → Bool
level_has l bytes ps g = all_of (λ x. bit_in bytes (row_at l x) (g * 2 ^ l.exponent + x % 2 ^ l.exponent)) ps
