use borrow.Author.Rules.{rules}
use native.Mathlib.Omega.{arith}
use mathlib.Core.Path.{◌≡◌, sym}
use Prim.Native.Nat.{ℕ, ◌+◌, ◌*◌, ◌-◌, ◌/◌, ◌%◌, ◌^◌}
use lib.ListN.{length, take}
use Rattle.memory.specs.Bits.{bit_in}
use Rattle.kernels.specs.Rows.{all_in}
use Rattle.filter.specs.Groups.{row_at}
use Rattle.filter.proofs.Rows.{all_rows, words_block}
use Rattle.filter.proofs.groups.block_by_words.Goals as goal

-- A position more each turn, then the words of the rows.

pub returns : goal.returns
returns c =
    let eight : length c.args.ps ≡ 8 = search rules in
    let x = c.args in
    let I = c.loop-i.invariant in
    let rows = c.loop-i.rows in
    let P = c.power-w in
    let n : ℕ = x.below - x.l.start in
    words_block x.l x.bytes.now x.below (take x.count x.ps) (all_in x.bytes.now (take x.count rows) P.result) ((n - 1) / 512 * 512) (n - (n - 1) / 512 * 512) c.block.result
    (omega arith) c.requires.le_count.3 (omega (arith, c.requires.le_count.3)) (omega arith) (omega arith)
    (λ g h.
    sym (all_rows x.bytes.now rows P.result g (λ y. bit_in x.bytes.now (row_at x.l y) (g * 2 ^ x.l.exponent + y % 2 ^ x.l.exponent)) x.ps x.count
    (omega (arith, eight, c.requires.le_count.1)) (omega (arith, I.eight, c.requires.le_count.1))
    (λ k t. rw (I.at k (omega arith), I.low k (omega arith), P.ensures.0))))
    c.block.ensures
