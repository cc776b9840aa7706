use native.Mathlib.Omega.{arith}
use mathlib.Core.Path.{sym, ap, ◌∙◌}
use mathlib.Core.Bool.{not}
use lib.Bits.{bit_and}
use borrow.Author.Tests.{eq-eqb, ne_eqb}
use Rattle.memory.specs.Cases.{either, eq?}
use Rattle.kernels.proofs.Masks.{kept, not_kept}
use Rattle.kernels.proofs.has_mask.Goals as goal

-- The conjunction is the mask, or a bit is lacking.

pub returns : goal.returns
returns c =
    let x = c.args in
    either (eq? (bit_and x.x x.m) x.m)
    (λ t. eq-eqb (bit_and x.x x.m) x.m t.1 ∙ sym (ap not (kept x.x x.m t.1)))
    (λ t. ne_eqb (bit_and x.x x.m) x.m t.1 ∙ sym (ap not (not_kept x.x x.m (omega arith) (omega arith) t.1)))
