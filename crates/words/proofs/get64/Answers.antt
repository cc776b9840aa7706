use Rattle.std.proofs.Common.{arith}
use Rattle.words.proofs.EightBytes.{word_of}
use Rattle.words.proofs.get64.Goals as goal

pub returns : goal.returns
returns c = word_of c.args.s.now c.args.at _ (λ k. omega (arith, c.type_inv.s k)) c.from_le_bytes.ensures
