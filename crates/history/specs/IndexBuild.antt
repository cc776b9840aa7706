-- The next set after the sixteenth flush: it goes to the other side, or as a full one to its place; L1 and the old set are erased.
use Rattle.std.specs.Prelude.{◌≡◌, ◌⊎◌, Bool, true, List, ◌++◌, ℕ, ◌+◌, ◌*◌, ◌≤◌, ◌<◌, get_or}
use Rattle.layout.specs.Geometry.{block}
use Rattle.layout.specs.Flash.{Flash, Op, apply_all, erases, all_fresh}
use Rattle.layout.specs.Index.{Index, full_block}
use Rattle.history.specs.Operations.{programs}
use Rattle.history.specs.Image.{IndexMain, IndexSpare}
use Rattle.history.specs.FlashLaws.{AllAllowed}

-- ---- the sectors of some blocks are programmed, then L1's block and the old set's blocks erased

-- blocks: that of L1, the first of the new set and how many, the first of the old set and how many, the end of the index
pub record Rebuild : Type 0 where
  pub first : ℕ
  pub dest : ℕ
  pub new : ℕ
  pub old : ℕ
  pub gone : ℕ
  pub end : ℕ
  pub sectors : ℕ
  pub sectors_are : sectors ≡ new * 64
  pub after : first + 1 ≤ dest
  pub after_old : first + 1 ≤ old
  pub apart : (dest + new ≤ old) ⊎ (old + gone ≤ dest)
  pub dest_in : dest + new ≤ end
  pub old_in : old + gone ≤ end

module _ (u : ℕ) (r : Rebuild) (f : ℕ → ℕ → ℕ) where
  abbrev pub rebuild_ops : List Op
  rebuild_ops = programs u 1 (r.dest * 64) r.sectors f ++ (erases r.first 1 ++ erases r.old r.gone)

-- ---- what a list of operations makes of an index

-- agreement on the sectors from block `from` on is enough for refusal 7
pub record IndexAfter (u : ℕ) (ix : Index) (Z : ℕ) (F : ℕ → ℕ → Bool) (from z c t : ℕ) (ops : List Op) (C : Flash) : Type 0 where
  pub on_main_lem : IndexMain u ix Z F z c t (apply_all u ops C).main
  pub on_spare : IndexSpare u ix Z z c t (apply_all u ops C).spare
  pub may : AllAllowed u ops C
  pub free : (spare : List ℕ) → ((x : ℕ) → from * 64 ≤ x → x < full_block u ix Z * 64 → get_or spare x 0 ≡ get_or C.spare x 0)
      → all_fresh spare ops ≡ true
  pub main_out : (x : ℕ) → (x < ix.first * block u) ⊎ (full_block u ix Z * block u ≤ x)
      → get_or (apply_all u ops C).main x 0 ≡ get_or C.main x 0
  pub spare_out : (x : ℕ) → (x < ix.first * 64) ⊎ (full_block u ix Z * 64 ≤ x) → get_or (apply_all u ops C).spare x 0 ≡ get_or C.spare x 0
