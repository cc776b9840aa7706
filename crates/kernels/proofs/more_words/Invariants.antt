use Prim.Native.Nat.{◌+◌, ◌-◌, ◌*◌, ◌/◌}
use Rattle.kernels.specs.Rows.{all_in}
use Rattle.kernels.specs.Blocks.{Shows}
use Rattle.kernels.proofs.more_words.Given as goal

abbrev pub invariant-loop-j : goal.invariant-loop-j
invariant-loop-j l =
    Shows (all_in l.bytes l.rows l.w) ((l.q + l.b * 8 + l.j) * (64 / l.w)) (((l.n - l.b) * 8 - l.j) * (64 / l.w)) l.r

abbrev pub invariant-loop-b : goal.invariant-loop-b
invariant-loop-b l =
    Shows (all_in l.bytes l.rows l.w) ((l.q + l.b * 8) * (64 / l.w)) ((l.n - l.b) * 8 * (64 / l.w)) l.r
