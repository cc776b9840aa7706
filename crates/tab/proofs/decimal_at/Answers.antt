use Rattle.std.proofs.Common.{◌≡◌, ◌*◌, ◌+◌, ◌-◌, ◌≤◌, drop, length, get_or, arith, ◌∙◌, sym, lt-ltb, le-ltb}
use Rattle.std.proofs.lemmas.List.{take_rest, drop-drop, drop_all, length-drop}
use Rattle.memory.specs.Cases.{either, lt?}
use Rattle.tab.specs.Reader.{decimal, digits, got}
use Rattle.tab.proofs.ReaderLaws.{digits_more, digits_stop, decimal_large, decimal_is}
use Rattle.tab.proofs.decimal_at.Goals as goal
use Rattle.tab.proofs.decimal_at.Goals.{else-loop-c-test, then-loop-c-test+then-not-is_ascii_digit}

-- no text
pub returns-in_err-c-items : goal.returns-in_err-c-items
unfolding decimal
returns-in_err-c-items c =
    let h = c.in_err-c-items.ensures.lookup in
    rw (c.from_residual.ensures, drop_all c.args.at c.args.tab.now (grind (arith, h.0)))

-- ten times the number is too large
pub returns-in_err-checked_mul : goal.returns-in_err-checked_mul
returns-in_err-checked_mul c =
    let s = c.in_ok-c-items.c-items.now in
    let v = c.loop-c.value in
    let i = c.loop-c.c-index in
    let e : s ≡ drop c.args.at c.args.tab.now = c.in_ok-c-items.ensures.lookup.0.2 ∙ take_rest c.args.tab.now c.args.at in
    let d = c.if-not-is_ascii_digit.ensures.cases in
    let more = digits_more s v i (omega arith) d.0 d.1 in
    let large : 4294967296 ≤ v * 10 + (get_or s i 0 - 48) = omega (arith, c.in_err-checked_mul.ensures) in
    rw (c.from_residual-in_err-checked_mul.ensures, ← e)
    (sym (decimal_large s (drop (i + 1) s) _ (c.loop-c.invariant.left ∙ more) large))

-- the digit makes it too large
pub returns-in_err-value : goal.returns-in_err-value
returns-in_err-value c =
    let s = c.in_ok-c-items.c-items.now in
    let v = c.loop-c.value in
    let i = c.loop-c.c-index in
    let e : s ≡ drop c.args.at c.args.tab.now = c.in_ok-c-items.ensures.lookup.0.2 ∙ take_rest c.args.tab.now c.args.at in
    let d = c.if-not-is_ascii_digit.ensures.cases in
    let more = digits_more s v i (omega arith) d.0 d.1 in
    let large : 4294967296 ≤ v * 10 + (get_or s i 0 - 48) = omega (arith, c.in_err-value.ensures, c.in_ok-checked_mul.ensures) in
    rw (c.from_residual-in_err-value.ensures, ← e)
    (sym (decimal_large s (drop (i + 1) s) _ (c.loop-c.invariant.left ∙ more) large))

-- no digit more: one was read, or none
pub returns : goal.returns
returns c =
    let s = c.in_ok-c-items.c-items.now in
    let v = c.loop-c.value in
    let i = c.loop-c.c-index in
    let e : s ≡ drop c.args.at c.args.tab.now = c.in_ok-c-items.ensures.lookup.0.2 ∙ take_rest c.args.tab.now c.args.at in
    let d : digits v (drop i s) ≡ got v (drop i s)
    = elim c.loop-c-test.branch [
      | else-loop-c-test w ↦ digits_stop s v i (λ h. absurd (omega arith))
      | then-loop-c-test+then-not-is_ascii_digit w ↦ digits_stop s v i (λ h a b. grind (arith, w.if-not-is_ascii_digit.ensures.cases))
    ] in
    let all = decimal_is s (drop i s) v (c.loop-c.invariant.left ∙ d) c.loop-c.invariant.fits in
    let n = length-drop i s in
    let p = c.loop-c.invariant.place in
    let r = drop-drop i c.args.at c.args.tab.now in
    either (lt? c.args.at c.loop-c.next)
    (λ a. rw (c.then_some.ensures, ← e, all, a.0, lt-ltb (length (drop i s)) (length s) (omega arith)) cc)
    (λ a. rw (c.then_some.ensures, ← e, all, a.0, le-ltb (length (drop i s)) (length s) (omega arith)))
