use Rattle.std.proofs.Common.{◌≡◌, ◌+◌, ◌*◌, length, get_or, ap, ◌∙◌, arith, refl, ext_get_or}
use Rattle.memory.specs.Lists.{length_part, done_more}
use Rattle.words.proofs.Parts.{part_more}
use Rattle.words.proofs.copy_few.Goals as goal

-- Eight bytes more each turn, then a byte.

pub loop-k-preserved : goal.loop-k-preserved
loop-k-preserved c =
    let x = c.args in
    let l = c.loop-k in
    let R = c.copy-in-loop-k in
    let came = R.ensures ∙ c.copy.ensures in
    let i = 8 * l.k in
    let e : i + 8 ≡ 8 * (l.k + 1) = omega arith in
    λ j h. part_more x.src.now l.dst R.new.dst i 8 (omega arith) (omega arith) came
    (ap length came ∙ length_part x.src.now i 8 (omega arith) ∙ omega arith) l.invariant j (omega (arith, e, h))

pub loop-j-init : goal.loop-j-init
loop-j-init c j h = c.loop-k.invariant j (omega arith)

pub loop-j-preserved : goal.loop-j-preserved
loop-j-preserved c =
    let l = c.loop-j in
    done_more (λ j. get_or c.args.src.now j 0) l.dst l.j (get_or c.args.src.now l.j 0) (omega arith) l.invariant refl

pub returns : goal.returns
returns c = ext_get_or 0 c.loop-j.dst c.args.src.now (omega arith) (λ j h. c.loop-j.invariant j (omega arith))
