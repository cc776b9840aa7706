use native.Mathlib.Omega.{arith}
use Prim.Native.Nat.{ℕ, ◌+◌, ◌*◌, ◌-◌}
use mathlib.Core.Path.{◌≡◌, ap, ◌∙◌}
use mathlib.Core.List.{List}
use lib.ListN.{length}
use Rattle.memory.specs.Ranges.{any}
use Rattle.filter.specs.Filter.{array_bit, key_bit, item_bytes}
use Rattle.filter.proofs.Setting.{none_set, any_more}
use Rattle.filter.proofs.page.new_filter.Goals as goal

pub loop-i-init : goal.loop-i-init
unfolding any
loop-i-init c = (
  ap length c.requires.bits_value,
  λ x h. ap (λ (l : List ℕ). array_bit l x) c.requires.bits_value ∙ none_set 256 x (omega arith),
)

pub loop-i-preserved : goal.loop-i-preserved
loop-i-preserved c =
    let l = c.loop-i in
    let x = c.args in (
      c.set_key.auto.bits ∙ l.invariant.0,
      λ y h.
          c.set_key.ensures y h
          ∙ rw (l.invariant.1 y h, c.hashed_at-old.ensures)
          (any_more (λ j. key_bit x.chip.unit x.count (item_bytes x.ram.now (x.at + j * x.step)) y) l.i),
    )

pub returns : goal.returns
returns c =
    let x = c.args in
    let e : c.loop-i.i ≡ 8 * x.chip.unit - 1 = omega (arith, c.entries_per_page-last.ensures) in
    λ y h. c.set_key-2.ensures y h ∙ rw (c.loop-i.invariant.1 y h, e)
