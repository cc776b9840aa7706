use native.Mathlib.Omega.{arith}
use Prim.Native.Nat.{◌-◌}
use Rattle.filter.proofs.RecentWords.{words_low, words_high}
use Rattle.filter.proofs.groups.Query.by_words.Goals as goal

-- A word for each filter: L1's in one word or two, those of the SKA page behind them.

pub returns-then-all-lt64 : goal.returns-then-all-lt64
returns-then-all-lt64 c =
    let x = c.args.self in
    let p = c.requires in
    let a = c.words_with-a in
    let b = c.words_with-b in
    let d = c.words_with-c in
    words_low x.rs x.ps.now x.main.now x.ram.now c.args.mask (c.min-top.result - x.rs.l1.start) c.min-few.result (x.rs.below - c.min-top.result)
    a.result b.result d.result x.within p.exponent_value p.one_row.0 p.one_row.1 (omega arith) (omega arith) (omega arith)
    (rw c.row_of-row.ensures at a.ensures) (rw c.row_of-row.ensures at b.ensures) (rw c.row_of-at.ensures at d.ensures) c.if-all-lt64.true

pub returns : goal.returns
returns c =
    let x = c.args.self in
    let p = c.requires in
    let a = c.words_with-a in
    let b = c.words_with-b in
    let d = c.words_with-c in
    words_high x.rs x.ps.now x.main.now x.ram.now c.args.mask (c.min-top.result - x.rs.l1.start) c.min-few.result (x.rs.below - c.min-top.result)
    a.result b.result d.result x.within p.exponent_value p.one_row.0 p.one_row.1 (omega arith) (omega arith) (omega arith)
    (rw c.row_of-row.ensures at a.ensures) (rw c.row_of-row.ensures at b.ensures) (rw c.row_of-at.ensures at d.ensures) c.if-all-lt64.false
