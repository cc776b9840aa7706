-- Before each chunk stands what the chunks so far make of the lent bytes.
use Rattle.std.specs.Prelude.{◌≡◌, ◌≤◌, length}
use Rattle.console.specs.Contract.{buffers_of}
use Rattle.console.proofs.Laws.{SoFar}
use Rattle.console.proofs.run.Given as goal

abbrev pub invariant-chunks : goal.invariant-chunks
invariant-chunks g l =
    let a = l.initial in record {
      fill : l.p.fill ≤ length l.line;
      printed : l.p.printed ≡ 0;
      so_far : SoFar (buffers_of a.p a.line a.main a.spare a.ram a.out) (length a.chunk) (buffers_of l.p l.line l.main l.spare l.ram l.out);
    }
