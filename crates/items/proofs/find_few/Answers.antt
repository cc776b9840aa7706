use Rattle.std.proofs.Common.{sym, ap, ◌∙◌}
use Rattle.keys.specs.Key.{key_is}
use Rattle.items.specs.Scans.{has_key, place_of, newest_none, no_word}
use Rattle.items.proofs.find_few.Goals as goal

pub returns-then-not-has_word : goal.returns-then-not-has_word
returns-then-not-has_word c =
    let x = c.args in
    let none = sym c.has_word.ensures ∙ c.if-not-has_word.true in
    sym (ap place_of (newest_none (has_key x.s.now x.at (key_is x.key)) x.count (no_word x.s.now x.at (key_is x.key) x.count none)))
