use Rattle.std.proofs.Common.{◌≡◌, ◌-◌, sym, ap, ◌∙◌, arith}
use Rattle.keys.specs.Key.{key_is}
use Rattle.items.specs.Scans.{has_key, last_entry, place_of, place_is, newest_end, newest_yes, newest_no, key_is_lem}
use Rattle.items.proofs.last_key.Goals as goal

pub returns-then-is_key : goal.returns-then-is_key
returns-then-is_key c =
    let x = c.args in
    let k = c.loop-e.e in
    let here = sym (key_is_lem x.s.now x.at (k - 1) (key_is x.key) c.is_key.result c.is_key.ensures) ∙ c.if-is_key.true in
    place_is k (omega arith)
    ∙ sym (ap place_of (c.loop-e.invariant ∙ newest_yes (has_key x.s.now x.at (key_is x.key)) k (omega arith) here))

pub loop-e-preserved : goal.loop-e-preserved
loop-e-preserved c =
    let x = c.args in
    let k = c.loop-e.e in
    let here = sym (key_is_lem x.s.now x.at (k - 1) (key_is x.key) c.is_key.result c.is_key.ensures) ∙ c.if-is_key.false in
    c.loop-e.invariant ∙ newest_no (has_key x.s.now x.at (key_is x.key)) k (omega arith) here

pub returns : goal.returns
returns c =
    let z : c.loop-e.e ≡ 0 = omega arith in
    let none : last_entry c.args.s.now c.args.at c.loop-e.e (key_is c.args.key) ≡ 0 = rw z (newest_end (has_key c.args.s.now c.args.at (key_is c.args.key))) in
    sym (ap place_of (c.loop-e.invariant ∙ none))
