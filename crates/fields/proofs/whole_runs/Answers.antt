use native.Mathlib.Omega.{arith}
use Prim.Native.Nat.{ℕ, ◌+◌, ◌-◌, ◌*◌, ◌/◌, ◌≤◌}
use mathlib.Core.List.{List}
use mathlib.Core.Path.{◌≡◌, ap, ◌∙◌}
use lib.ListN.{length, get_or}
use Rattle.fields.specs.Sources.{run_byte}
use Rattle.memory.specs.Lists.{length_part}
use Rattle.fields.specs.Lists.{done_all, part_more}
use Rattle.fields.proofs.Strides.{Turn, turn, all_runs}
use Rattle.fields.proofs.whole_runs.Goals as goal

-- A run more each turn.

pub overflow_mul-a : goal.overflow_mul-a
overflow_mul-a g c =
    let x = c.args in
    let n = g.row.N in
    omega (arith, (turn x.bytes.now x.at x.stride n x.y (length x.out.now) c.loop-k.k c.requires.runs.0 c.requires.runs.2 c.requires.whole.0 c.requires.whole.1 c.loop-k-test.true).inside)

pub overflow_add-a-in-loop-k : goal.overflow_add-a-in-loop-k
overflow_add-a-in-loop-k g c =
    let x = c.args in
    let n = g.row.N in
    omega (arith, c.requires.runs.0, (turn x.bytes.now x.at x.stride n x.y (length x.out.now) c.loop-k.k c.requires.runs.0 c.requires.runs.2 c.requires.whole.0 c.requires.whole.1 c.loop-k-test.true).inside)

pub overflow_add-a : goal.overflow_add-a
overflow_add-a g c =
    let x = c.args in
    let n = g.row.N in
    omega (arith, c.requires.runs.0, (turn x.bytes.now x.at x.stride n x.y (length x.out.now) c.loop-k.k c.requires.runs.0 c.requires.runs.2 c.requires.whole.0 c.requires.whole.1 c.loop-k-test.true).inside)

pub slice_bounds-copy_few-end-in-loop-k : goal.slice_bounds-copy_few-end-in-loop-k
slice_bounds-copy_few-end-in-loop-k g c =
    let x = c.args in
    let n = g.row.N in
    omega (arith, c.requires.runs.0, (turn x.bytes.now x.at x.stride n x.y (length x.out.now) c.loop-k.k c.requires.runs.0 c.requires.runs.2 c.requires.whole.0 c.requires.whole.1 c.loop-k-test.true).inside)

pub loop-k-preserved : goal.loop-k-preserved
loop-k-preserved g c =
    let x = c.args in
    let n = g.row.N in
    let l = c.loop-k in
    let R = c.copy_few in
    let t : Turn x.bytes.now x.at x.stride n x.y (length x.out.now) l.k = turn x.bytes.now x.at x.stride n x.y (length x.out.now) c.loop-k.k c.requires.runs.0 c.requires.runs.2 c.requires.whole.0 c.requires.whole.1 c.loop-k-test.true in
    let f : ℕ → ℕ = λ j. run_byte x.bytes.now x.at x.stride n (x.y + j) in
    let i = l.k * n in
    let a = x.at + x.y / n * x.stride + l.k * x.stride in
    let fit : i + n ≤ length l.out = omega (arith, t.fits, l.auto.out) in
    let size : length R.new.dst ≡ i + n - i = ap length R.ensures ∙ length_part x.bytes.now a n t.inside ∙ omega arith in
    let e : i + n ≡ (l.k + 1) * n = omega arith in
    λ k h. part_more l.out R.new.dst i (i + n) (omega arith) fit size f l.invariant
    (λ j p. ap (λ (v : List ℕ). get_or v j 0) R.ensures ∙ t.copied j (omega arith)) k (omega (arith, e, h))

pub returns : goal.returns
returns g c =
    let x = c.args in
    let l = c.loop-k in
    let n = g.row.N in
    let f : ℕ → ℕ = λ j. run_byte x.bytes.now x.at x.stride n (x.y + j) in
    done_all f l.out (length x.out.now) (l.k * n) l.auto.out (all_runs n (length x.out.now) l.k c.requires.runs.0 c.requires.whole.1 (omega arith)) l.invariant
