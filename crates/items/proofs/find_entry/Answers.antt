use Rattle.std.proofs.Common.{◌≡◌, ℕ, suc, ◌+◌, ◌-◌, ◌*◌, ◌%◌, sym, ap, ◌∙◌, arith}
use Rattle.keys.specs.Key.{key_is}
use Rattle.items.specs.Scans.{last_entry, place_of, place_lt, entries_hit, entries_miss}
use Rattle.items.proofs.find_entry.Goals as goal

-- A run less each turn: the one that ends where the entries end that are left.

pub overflow_add-result : goal.overflow_add-result
overflow_add-result c =
    let x = c.args in
    let lo : ℕ = x.count % 64 + (c.loop-b.b - 1) * 64 in
    omega (arith, place_lt x.s.now (x.at + lo * 8) 64 (key_is x.key) c.in-Some.e c.in-Some.ensures)

pub returns-in-Some : goal.returns-in-Some
returns-in-Some c =
    let x = c.args in
    let lo : ℕ = x.count % 64 + (c.loop-b.b - 1) * 64 in
    let e : x.count % 64 + c.loop-b.b * 64 ≡ lo + 64 = omega arith in
    let n : lo + suc c.in-Some.e ≡ suc (lo + c.in-Some.e) = omega arith in
    let hit = entries_hit x.s.now x.at (key_is x.key) lo 64 c.in-Some.e c.in-Some.ensures ∙ n in
    sym (ap place_of (c.loop-b.invariant ∙ ap (λ (m : ℕ). last_entry x.s.now x.at m (key_is x.key)) e ∙ hit))

pub loop-b-preserved : goal.loop-b-preserved
loop-b-preserved c =
    let x = c.args in
    let lo : ℕ = x.count % 64 + (c.loop-b.b - 1) * 64 in
    let e : x.count % 64 + c.loop-b.b * 64 ≡ lo + 64 = omega arith in
    c.loop-b.invariant ∙ rw e (entries_miss x.s.now x.at (key_is x.key) lo 64 c.in_default.ensures)
