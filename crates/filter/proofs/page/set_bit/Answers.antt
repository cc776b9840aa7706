use Rattle.filter.proofs.Setting.{set_one}
use Rattle.filter.proofs.page.set_bit.Goals as goal

-- One bit is set.

pub returns : goal.returns
returns c x h = set_one c.args.bits.now c.args.p x c.requires.0 c.requires.1
