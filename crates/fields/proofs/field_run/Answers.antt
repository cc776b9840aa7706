use borrow.Author.Rules.{rules}
use native.Mathlib.Omega.{arith}
use Prim.Native.Nat.{ℕ, ◌+◌}
use mathlib.Core.Path.{◌≡◌, refl}
use lib.ListN.{length}
use Rattle.fields.specs.Sources.{field_byte}
use Rattle.memory.specs.Lists.{is_tabulate}
use Rattle.fields.proofs.field_run.Goals as goal

pub returns-then-is_empty : goal.returns-then-is_empty
returns-then-is_empty c =
    let x = c.args in
    let e : length x.out.now ≡ 0 = search rules in
    is_tabulate x.out.now (length x.out.now) (λ (i : ℕ). field_byte x.bytes.now x.s x.w (x.y + i)) refl (λ i h. absurd (omega (arith, e, h)))
