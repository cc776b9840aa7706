use Rattle.std.proofs.Common.{◌≡◌, ◌≢◌, ℕ, zero, suc, ◌+◌, ◌-◌, ◌*◌, ◌/◌, ◌%◌, ◌^◌, ◌≤◌, sym, ap, ◌∙◌, arith}
use lib.Pow.{pow_pos}
use Rattle.keys.specs.Key.{key_is}
use Rattle.items.specs.Scans.{has_key, last_entry, place_of, newest_end, newest_none, no_word, entries_no}
use Rattle.items.proofs.find_in_page.Goals as goal

-- From the newest 64 words on: those that have not the key have no entry with it.

-- a power of two: 1, 2, or a multiple of 4
fours : (e u : ℕ) → u ≡ 2 ^ e → (u ≢ 3) × (5 ≤ u → u % 4 ≡ 0)
fours zero u p = (omega arith, λ h. absurd (omega arith))
fours (suc zero) u p = (omega arith, λ h. absurd (omega arith))
fours (suc (suc e)) u p = (omega (arith, pow_pos e), λ h. omega arith)

pub small_has-requires : goal.small_has-requires
small_has-requires c =
    let U = c.requires.0 in
    (U.1.some, c.if-chip-lt5.true, (fours U.0 c.args.chip.unit U.1.power).0, c.requires.1)

pub returns-then-chip-lt5 : goal.returns-then-chip-lt5
returns-then-chip-lt5 c =
    let x = c.args in
    let e : 16 * x.chip.unit ≡ 8 * x.chip.unit * 2 = omega arith in
    let none = rw e at (sym c.small_has.ensures ∙ c.if-small_has.false) in
    sym (ap place_of (newest_none (has_key x.s.now x.at (key_is x.key)) (8 * x.chip.unit)
    (no_word x.s.now x.at (key_is x.key) (8 * x.chip.unit) none)))

-- the entries of a page are those of its runs
pub loop-b-init : goal.loop-b-init
loop-b-init c =
    let x = c.args in
    let f = (fours c.requires.0.0 x.chip.unit c.requires.0.1.power).1 c.if-chip-lt5.false in
    let e : 8 * x.chip.unit ≡ c.page_size-b.result / 256 * 32 = omega (arith, f) in
    ap (λ (n : ℕ). last_entry x.s.now x.at n (key_is x.key)) e

pub loop-b-preserved : goal.loop-b-preserved
loop-b-preserved c =
    let x = c.args in
    let b = c.loop-b.b in
    let a : x.at + (b - 1) * 256 ≡ x.at + (b - 1) * 32 * 8 = omega arith in
    let e : (b - 1) * 32 + 32 ≡ b * 32 = omega arith in
    let none = rw a at (sym c.block_has.ensures ∙ c.if-block_has.false) in
    c.loop-b.invariant ∙ rw e at (entries_no x.s.now x.at (key_is x.key) ((b - 1) * 32) 32 none)

pub returns : goal.returns
returns c =
    let x = c.args in
    let z : c.loop-b.b * 32 ≡ 0 = omega arith in
    let none : last_entry x.s.now x.at (c.loop-b.b * 32) (key_is x.key) ≡ 0 = rw z (newest_end (has_key x.s.now x.at (key_is x.key))) in
    sym (ap place_of (c.loop-b.invariant ∙ none))
