use mathlib.Core.Path.{sym, ◌∙◌}
use Rattle.layout.specs.Flash.{flash_of}
use Rattle.layout.specs.Header.{pages}
use Rattle.geometry.specs.Shape.{sizes_is}
use Rattle.state.proofs.Laws.{is_shaped, new_of, new_short, new_good}
use Rattle.state.proofs.judge_new.Goals as goal

pub returns-then-too_short-clause-equal : goal.returns-then-too_short-clause-equal
returns-then-too_short-clause-equal c =
    let x = c.args in
    let sizes = sizes_is x.sizes in
    let a = is_shaped sizes c.geometry_for.result c.ok_or.result c.geometry_for.ensures c.ok_or.ensures.ok_part c.in_ok-g.g c.in_ok-g.was in
    new_short sizes (flash_of x.main.now x.spare.now) (pages x.ram.now) c.in_ok-g.g a.0 a.1 (sym c.too_short.ensures ∙ c.if-too_short.true)

pub returns : goal.returns
returns c =
    let x = c.args in
    let sizes = sizes_is x.sizes in
    let a = is_shaped sizes c.geometry_for.result c.ok_or.result c.geometry_for.ensures c.ok_or.ensures.ok_part c.in_ok-g.g c.in_ok-g.was in
    let enough = sym c.too_short.ensures ∙ c.if-too_short.false in
    let flash = flash_of x.main.now x.spare.now in
    record {
      equal = new_good sizes flash (pages x.ram.now) c.in_ok-g.g a.0 a.1 enough;
      fits = new_of sizes flash (pages x.ram.now) c.in_ok-g.g a.0 a.1 enough;
    }
