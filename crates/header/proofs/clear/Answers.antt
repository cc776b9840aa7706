use Rattle.memory.specs.Words.{words_bytes}
use Rattle.layout.specs.Header.{header_bytes}
use Rattle.header.proofs.clear.Goals as goal

pub returns : goal.returns
unfolding header_bytes words_bytes
returns c = c.put_header.ensures
