use native.Mathlib.Omega.{arith}
use native.Mathlib.Nat.{mul-le-mul_right}
use mathlib.Core.Path.{ap, ◌∙◌}
use mathlib.Core.List.{List}
use Prim.Native.Nat.{ℕ, ◌+◌, ◌*◌}
use lib.ListN.{length}
use Rattle.memory.specs.Lists.{write, part_back}
use Rattle.layout.specs.Items.{put}
use Rattle.kept.proofs.append_item.Goals as goal

pub returns : goal.returns
unfolding put
returns c =
    let x = c.args in
    let P = c.requires in
    let k = c.copy_words in
    let at : ℕ = x.a.ram + c.slot.result * x.a.size in
    let inside = mul-le-mul_right x.a.size c.slot.ensures.1 in
    part_back x.ram.now at (at + length x.item.now) k.new.dst (omega arith) (omega (arith, P.0, P.2)) (omega (arith, ap length k.ensures))
    ∙ ap (λ (ys : List ℕ). write x.ram.now at ys) k.ensures
    ∙ ap (λ (i : ℕ). write x.ram.now (x.a.ram + i * x.a.size) x.item.now) c.slot.ensures.0
