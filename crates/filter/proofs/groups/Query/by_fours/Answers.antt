use native.Mathlib.Omega.{arith}
use mathlib.Core.Path.{◌≡◌}
use Prim.Native.Nat.{◌+◌, ◌-◌, ◌/◌}
use Rattle.filter.proofs.RecentShut.{gate, shut_few, shut_many, recent_shown}
use Rattle.filter.proofs.groups.Query.by_fours.Goals as goal

-- Words of L1 and, behind them, of the SKA page.

pub returns-then-words-lt16 : goal.returns-then-words-lt16
returns-then-words-lt16 c =
    let x = c.args.self in
    let p = c.requires in
    let R = x.within in
    let four = p.exponent_value in
    let top = c.min-top in
    let words = c.div_ceil-words in
    let l = c.min-few in
    let row = c.row_of-row in
    let at = c.row_of-at in
    let u = c.lacking-a in
    let v = c.lacking-b in
    let w = c.lacking-c in
    let M = p.one_row.1 in
    let one = p.one_row.0 in
    let more : c.div_ceil-more.result ≡ (x.rs.below - top.result + 3) / 4 = omega (arith, c.div_ceil-more.ensures) in
    let S = shut_few x.rs x.ps.now x.main.now x.ram.now R four c.args.mask M one
    top.result words.result l.result row.result at.result u.result v.result (omega arith) (omega (arith, words.ensures)) (omega arith)
    row.ensures at.ensures u.ensures v.ensures w.result c.if-words-lt16.true (rw more at w.ensures) in
    let b = c.block_of_shut in
    recent_shown x.rs x.ps.now x.main.now x.ram.now R four c.args.mask M one b.result b.ensures.0
    (b.ensures.1 (gate x.rs x.ps.now x.main.now x.ram.now R four c.args.mask M one) S.0 S.1)

pub returns : goal.returns
returns c =
    let x = c.args.self in
    let p = c.requires in
    let R = x.within in
    let four = p.exponent_value in
    let top = c.min-top in
    let words = c.div_ceil-words in
    let l = c.min-few in
    let row = c.row_of-row in
    let at = c.row_of-at in
    let u = c.lacking-a in
    let v = c.lacking-b in
    let w = c.lacking-c-2 in
    let M = p.one_row.1 in
    let one = p.one_row.0 in
    let more : c.div_ceil-more.result ≡ (x.rs.below - top.result + 3) / 4 = omega (arith, c.div_ceil-more.ensures) in
    let S = shut_many x.rs x.ps.now x.main.now x.ram.now R four c.args.mask M one
    top.result words.result l.result row.result at.result u.result v.result (omega arith) (omega (arith, words.ensures)) (omega arith)
    row.ensures at.ensures u.ensures v.ensures w.result c.if-words-lt16.false (rw more at w.ensures) in
    let b = c.block_of_shut-2 in
    recent_shown x.rs x.ps.now x.main.now x.ram.now R four c.args.mask M one b.result b.ensures.0
    (b.ensures.1 (gate x.rs x.ps.now x.main.now x.ram.now R four c.args.mask M one) S.0 S.1)
