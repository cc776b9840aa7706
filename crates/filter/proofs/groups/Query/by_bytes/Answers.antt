use Rattle.filter.proofs.RecentBytes.{bytes_two, bytes_one}
use Rattle.filter.proofs.groups.Query.by_bytes.Goals as goal

-- A word, or two: the bits behind the filters are cut off.

pub returns-then-n-gt64 : goal.returns-then-n-gt64
returns-then-n-gt64 c =
    let x = c.args.self in
    bytes_two x.rs x.main.now x.ram.now x.ps.now x.within c.word-a.result c.word-b.result c.lowest.result
    c.if-n-gt64.true c.word-a.ensures c.word-b.ensures c.lowest.ensures

pub returns : goal.returns
returns c =
    let x = c.args.self in
    bytes_one x.rs x.main.now x.ram.now x.ps.now x.within c.word-a.result c.lowest-2.result
    c.if-n-gt64.false c.word-a.ensures c.lowest-2.ensures
