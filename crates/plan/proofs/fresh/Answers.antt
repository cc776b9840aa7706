use mathlib.Core.Path.{◌∙◌}
use Rattle.plan.specs.Fresh.{plan_fresh_lem}
use Rattle.plan.proofs.fresh.Goals as goal

pub returns : goal.returns
returns c =
    λ new filters ram flash.
    c.plan_fresh.ensures ∙ plan_fresh_lem c.args.spare.now c.args.p new filters ram flash
