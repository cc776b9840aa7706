use Rattle.std.proofs.Common.{◌≡◌, take}
use Rattle.memory.specs.Lists.{write}
use Rattle.memory.specs.Words.{words_bytes}
use Rattle.words.proofs.put_words.Given as goal

abbrev pub invariant-loop-i : goal.invariant-loop-i
invariant-loop-i l = l.s ≡ write l.initial.s l.at (words_bytes (take l.i l.ws))
