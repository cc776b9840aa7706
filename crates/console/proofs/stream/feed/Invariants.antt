-- What the bytes that are left make of what is kept, at each byte.
use Rattle.std.specs.Prelude.{◌≡◌, ◌+◌, ◌*◌, ◌-◌, ◌≤◌, length, drop}
use Rattle.console.specs.Buffers.{feed}
use Rattle.console.specs.Contract.{buffers_of}
use Rattle.console.proofs.stream.feed.Given as goal

abbrev pub invariant-loop-c : goal.invariant-loop-c
invariant-loop-c l =
    let a = l.initial in record {
      fill : l.q.fill ≤ length l.line;
      room : l.q.printed + (length l.chunk - l.c-index) * 32 ≤ length l.out;
      left : feed (buffers_of a.q a.line a.main a.spare a.ram a.out) l.chunk
          ≡ feed (buffers_of l.q l.line l.main l.spare l.ram l.out) (drop l.c-index l.chunk);
    }
