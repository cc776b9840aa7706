use Rattle.std.proofs.Common.{◌∙◌, sym, arith}
use Rattle.fnv.proofs.Laws.{fnv_more, fnv_end}
use Rattle.fnv.proofs.fnv1a.Goals as goal

-- The hash of all is that of the bytes which are left, from h.

pub loop-byte-preserved : goal.loop-byte-preserved
loop-byte-preserved c =
    let l = c.loop-byte in
    l.invariant ∙ rw c.absorb-h.ensures (fnv_more l.h l.byte-index c.args.bytes.now (omega arith))

pub returns : goal.returns
returns c = sym (c.loop-byte.invariant ∙ fnv_end c.loop-byte.h c.loop-byte.byte-index c.args.bytes.now (omega arith))
