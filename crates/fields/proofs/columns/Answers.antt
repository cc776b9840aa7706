use native.Mathlib.Omega.{arith}
use Prim.Native.Nat.{ℕ, ◌+◌, ◌*◌}
use mathlib.Core.List.{List}
use mathlib.Core.Path.{◌≡◌, refl, sym, subst}
use Rattle.memory.specs.Lists.{Done}
use Rattle.fields.specs.Columns.{column_byte}
use Rattle.fields.specs.Lists.{done_all}
use Rattle.fields.proofs.Lanes.{turn_more}
use Rattle.fields.proofs.columns.Goals as goal

-- Eight rows more each turn.

pub loop-i-preserved : goal.loop-i-preserved
loop-i-preserved c =
    let x = c.args in
    let l = c.loop-i in
    let f : ℕ → ℕ = column_byte x.bytes.now x.at x.stride x.w in
    let e : 8 * l.i + 8 ≡ 8 * (l.i + 1) = omega arith in
    rw e at (subst (λ (o : List ℕ). Done f o (8 * l.i + 8)) (sym c.put64.ensures)
    (turn_more x.bytes.now x.at x.stride x.w (8 * l.i) (x.at + 8 * l.i * x.stride) c.column-x.result c.split.result
    c.requires.0 (omega arith) refl c.column-x.ensures c.split.ensures l.out (omega (arith, l.auto.out, c.requires.3)) l.invariant))

pub returns : goal.returns
returns c =
    let x = c.args in
    let l = c.loop-i in
    done_all (column_byte x.bytes.now x.at x.stride x.w) l.out 128 (8 * l.i) (omega (arith, l.auto.out, c.requires.3)) (omega arith) l.invariant
