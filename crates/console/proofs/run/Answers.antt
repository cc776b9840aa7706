-- One chunk more, and the end after the last.
use Rattle.std.specs.Prelude.{◌≡◌, ℕ, List, true, false, length}
use Rattle.std.proofs.Common.{arith}
use Rattle.console.specs.Contract.{buffers_of}
use Rattle.console.specs.Chunks.{initial, feed_all, close_if, Short, Leaves}
use Rattle.console.specs.WholeInput.{run_leaves}
use Rattle.console.proofs.Laws.{SoFar, so_far_first, so_far_more, so_far_same, so_far_stops, so_far_ends}
use Rattle.console.proofs.run.Goals as goal
use Rattle.console.proofs.run.Goals.{else-chunks-test, then-chunks-test+in-Ok+in_default}

pub chunks-init : goal.chunks-init
chunks-init g c =
    let x = c.args in
    let b = c.begin-p in
    record {
      fill = omega (arith, b.ensures.zeros);
      printed = b.ensures.zeros.1;
      so_far = so_far_first (buffers_of b.result x.line.now x.main.now x.spare.now x.ram.now x.out.now) (length x.chunk.now);
    }

pub chunks-preserved : goal.chunks-preserved
chunks-preserved g c =
    let x = c.args in
    let l = c.chunks in
    let k = c.next_chunk in
    let q = c.in-Some.next in
    let w = rw c.in-Some.is at c.in-Ok.ensures.within in
    let f = rw c.in-Some.is at c.in-Ok.ensures.prefix in
    let full : length k.new.chunk ≡ length x.chunk.now = omega arith in
    record {
      fill = omega (arith, w);
      printed = w.1;
      so_far = so_far_more (buffers_of c.begin-p.result x.line.now x.main.now x.spare.now x.ram.now x.out.now)
          (buffers_of l.p l.line l.main l.spare l.ram l.out) (buffers_of q k.new.line k.new.main k.new.spare k.new.ram k.new.out)
          (length x.chunk.now) k.new.chunk f.0 l.invariant.so_far full f.1 f.2;
    }

-- a byte could not be read or written
pub returns-in-Err-clause-chunks : goal.returns-in-Err-clause-chunks
returns-in-Err-clause-chunks g c =
    let x = c.args in
    let l = c.chunks in
    let k = c.next_chunk in
    let f = c.in-Err.ensures.prefix in
    let full : length k.new.chunk ≡ length x.chunk.now = omega arith in
    rw c.begin-p.ensures.equal at
    (so_far_stops (buffers_of c.begin-p.result x.line.now x.main.now x.spare.now x.ram.now x.out.now)
    (buffers_of l.p l.line l.main l.spare l.ram l.out) (length x.chunk.now) k.new.chunk f.0
    k.new.line k.new.main k.new.spare k.new.ram k.new.out l.invariant.so_far full f.1 f.2)

pub returns-in-Err-clause-input : goal.returns-in-Err-clause-input
returns-in-Err-clause-input g c =
    let x = c.args in
    let k = c.next_chunk in
    let h : (chunks : List (List ℕ)) × Short (length x.chunk.now) chunks
    × Leaves (close_if false (feed_all (initial x.line.now x.main.now x.spare.now x.ram.now x.out.now) chunks)) k.new.line k.new.main k.new.spare k.new.ram k.new.out
    = returns-in-Err-clause-chunks g c in
    λ e. run_leaves x.line.now x.main.now x.spare.now x.ram.now x.out.now k.new.line k.new.main k.new.spare k.new.ram k.new.out
    (length x.chunk.now) false e h

-- the input's end
pub returns-clause-chunks : goal.returns-clause-chunks
returns-clause-chunks g c =
    let x = c.args in
    let l = c.chunks in
    let t = c.chunks-test in
    let k = c.finish in
    let so_far : SoFar (buffers_of c.begin-p.result x.line.now x.main.now x.spare.now x.ram.now x.out.now) (length x.chunk.now)
    (buffers_of l.p t.line t.main t.spare t.ram t.out)
    = elim t.branch [
      | else-chunks-test w ↦ rw (w.line-is, w.main-is, w.spare-is, w.ram-is, w.out-is) l.invariant.so_far
      | then-chunks-test+in-Ok+in_default w ↦
          let n = w.next_chunk.new in
          rw (w.line-is, w.main-is, w.spare-is, w.ram-is, w.out-is)
          (so_far_same (buffers_of c.begin-p.result x.line.now x.main.now x.spare.now x.ram.now x.out.now) (length x.chunk.now)
          l.p l.line l.main l.spare l.ram l.out n.line n.main n.spare n.ram n.out l.invariant.so_far
          (rw w.in_default.is at w.in-Ok.ensures.prefix))
    ] in
    rw c.begin-p.ensures.equal at
    (so_far_ends (buffers_of c.begin-p.result x.line.now x.main.now x.spare.now x.ram.now x.out.now) (buffers_of l.p t.line t.main t.spare t.ram t.out)
    (length x.chunk.now) k.new.main k.new.spare k.new.ram k.new.out so_far k.ensures)

pub returns-clause-input : goal.returns-clause-input
returns-clause-input g c =
    let x = c.args in
    let t = c.chunks-test in
    let k = c.finish in
    let h : (chunks : List (List ℕ)) × Short (length x.chunk.now) chunks
    × Leaves (close_if true (feed_all (initial x.line.now x.main.now x.spare.now x.ram.now x.out.now) chunks)) t.line k.new.main k.new.spare k.new.ram k.new.out
    = returns-clause-chunks g c in
    λ e. run_leaves x.line.now x.main.now x.spare.now x.ram.now x.out.now t.line k.new.main k.new.spare k.new.ram k.new.out
    (length x.chunk.now) true e h
