use Rattle.std.proofs.Common.{◌*◌, ◌+◌, ◌-◌, ◌≤◌, drop, get_or, arith, ◌∙◌, sym, ap, lt-ltb}
use Rattle.script.specs.Lines.{small}
use Rattle.script.specs.ReadNumber.{digits_more, digits_other, digits_end, stays_large}
use Rattle.script.proofs.read_digits.Goals as goal

-- another byte
pub returns-then-not-is_ascii_digit : goal.returns-then-not-is_ascii_digit
returns-then-not-is_ascii_digit c =
    let l = c.loop-c in
    let other = digits_other c.args.word.now l.value l.c-index (omega arith)
    (λ a b. grind (arith, c.if-not-is_ascii_digit.ensures.cases)) in
    sym (ap small (l.invariant.left ∙ other))

-- ten times the number is too large
pub returns-in_err-checked_mul : goal.returns-in_err-checked_mul
returns-in_err-checked_mul c =
    let s = c.args.word.now in
    let l = c.loop-c in
    let d = c.if-not-is_ascii_digit.ensures.cases in
    let more = digits_more s l.value l.c-index (omega arith) d.0 d.1 in
    let large : 4294967296 ≤ l.value * 10 + (get_or s l.c-index 0 - 48) = omega (arith, c.in_err-checked_mul.ensures) in
    rw c.from_residual.ensures (sym (ap small (l.invariant.left ∙ more) ∙ stays_large _ (drop (l.c-index + 1) s) large))

-- the digit makes it too large
pub returns-in_err-value : goal.returns-in_err-value
returns-in_err-value c =
    let s = c.args.word.now in
    let l = c.loop-c in
    let d = c.if-not-is_ascii_digit.ensures.cases in
    let more = digits_more s l.value l.c-index (omega arith) d.0 d.1 in
    let large : 4294967296 ≤ l.value * 10 + (get_or s l.c-index 0 - 48)
    = omega (arith, c.in_err-value.ensures, c.in_ok-checked_mul.ensures) in
    rw c.from_residual-in_err-value.ensures (sym (ap small (l.invariant.left ∙ more) ∙ stays_large _ (drop (l.c-index + 1) s) large))

-- all digits
pub returns : goal.returns
returns c =
    let l = c.loop-c in
    sym (ap small (l.invariant.left ∙ digits_end c.args.word.now l.value l.c-index (omega arith))
    ∙ rw (lt-ltb l.value 4294967296 l.invariant.fits))
