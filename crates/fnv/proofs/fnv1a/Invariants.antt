use Rattle.std.proofs.Common.{◌≡◌, drop}
use Rattle.layout.specs.Hash.{fnv_from, fnv1a}
use Rattle.fnv.proofs.fnv1a.Given as goal

abbrev pub invariant-loop-byte : goal.invariant-loop-byte
invariant-loop-byte l = fnv1a l.bytes ≡ fnv_from l.h (drop l.byte-index l.bytes)
