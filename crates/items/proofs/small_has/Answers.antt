use Rattle.std.proofs.Common.{◌≡◌, ◌+◌, ◌*◌, false, sym, ◌∙◌, arith}
use Rattle.std.proofs.Math.Bool.{or_comm}
use Rattle.items.specs.Scans.{has_word, words_sum, block_yes}
use Rattle.items.proofs.small_has.Goals as goal

-- Two runs of 16 words.

pub returns-then-block_has : goal.returns-then-block_has
returns-then-block_has c =
    let x = c.args in
    let e : x.at + 0 * 4 ≡ x.at = omega arith in
    c.if-block_has.true
    ∙ sym (block_yes x.s.now x.at x.j 0 16 (16 * x.chip.unit) (rw e (sym c.block_has-in_default.ensures ∙ c.if-block_has.true)) (omega arith))

pub returns-else-block_has : goal.returns-else-block_has
returns-else-block_has c =
    let x = c.args in
    let u : 16 * x.chip.unit ≡ 16 + 16 = omega arith in
    let f = sym c.block_has-in_default.ensures ∙ c.if-block_has.false in
    let o = or_comm (has_word x.s.now (x.at + 16 * 4) 16 x.j) false in
    rw u (c.block_has-else-block_has.ensures ∙ sym (words_sum x.s.now x.at x.j 16 16 ∙ rw f o))
