use native.Mathlib.Omega.{arith}
use mathlib.Core.Path.{refl, ap, ◌∙◌}
use Rattle.layout.specs.Flash.{Flash}
use Rattle.layout.specs.Budgets.{memory}
use Rattle.laws.specs.HeaderLaws.{length_pages}
use Rattle.geometry.specs.Shape.{sizes_is}
use Rattle.state.specs.Contract.{volume}
use Rattle.format.proofs.FormatLaws.{finish_cut, finish_all}
use Rattle.format.proofs.finish.Goals as goal

pub returns-then-budget-blocks : goal.returns-then-budget-blocks
returns-then-budget-blocks c s =
    let x = c.args in
    finish_cut (volume s x.main.now x.spare.now x.ram.now) (sizes_is x.sizes) x.g c.requires.1 x.budget _ _
    (omega (arith, c.if-budget-blocks.true, c.blocks-blocks.ensures))
    (ap (λ (f : Flash). memory f x.ram.now) c.erase_blocks.ensures) refl refl

pub fill_at-requires : goal.fill_at-requires
fill_at-requires c =
    omega (arith, c.ram_size.ensures, c.requires.1.long.read.ram_fits, length_pages c.args.ram.now)

pub returns : goal.returns
returns c s =
    let x = c.args in
    let blocks = c.blocks-blocks.ensures in
    finish_all (volume s x.main.now x.spare.now x.ram.now) (sizes_is x.sizes) x.g c.requires.1 x.budget _ _
    (omega (arith, c.if-budget-blocks.false, blocks))
    (c.erase_blocks-2.ensures ∙ rw blocks) (c.clear.ensures ∙ rw (c.fresh_state.ensures, c.fill_at.ensures, c.ram_size.ensures)) (omega (arith, blocks)) refl
