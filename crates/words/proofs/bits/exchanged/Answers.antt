use Rattle.words.proofs.Exchanges.{exchange}
use Rattle.words.proofs.bits.exchanged.Goals as goal

-- Each bit: it moves up, it moves down, or it stays.

pub returns : goal.returns
returns c = exchange c.args.s c.args.m c.args.x c.requires.1
