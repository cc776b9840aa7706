use Rattle.memory.specs.Bits.{bit}
use Rattle.memory.specs.Candidate.{candidate}
use Rattle.keys.specs.Key.{key_is}
use Rattle.search.specs.Tries.{entry_of}
use Rattle.search.proofs.Tries.{Vain}
use Rattle.search.proofs.next_page.Given as goal

abbrev pub invariant-loop-f : goal.invariant-loop-f
invariant-loop-f l = Vain l.bits (entry_of l.g (key_is l.key) l.from l.main) l.pages.left l.opened

abbrev pub decreases-loop-f : goal.decreases-loop-f
decreases-loop-f l = candidate (bit l.pages.left) 64
