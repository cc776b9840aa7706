-- Where nothing could be read, nothing was fed.
use Rattle.std.proofs.Common.{refl, arith}
use Rattle.console.specs.Buffers.{feed}
use Rattle.console.proofs.next_chunk.Goals as goal

pub returns-in_default-clause-prefix : goal.returns-in_default-clause-prefix
unfolding feed
returns-in_default-clause-prefix g c = (0, omega arith, (refl, refl, refl, refl))
