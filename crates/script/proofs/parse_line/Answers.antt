use Rattle.std.proofs.Common.{arith, rules, sym, ◌∙◌, get_or}
use Rattle.script.specs.Lines.{fields}
use Rattle.script.proofs.Parsing.{words_of, next_some, next_none, next_yes, next_no, no_letter, letter, first_bad, second_bad, third_bad}
use Rattle.script.proofs.parse_line.Goals as goal

-- A line's words, one after another: the letter, and up to three numbers.

-- no byte before the first space
pub returns-in_default : goal.returns-in_default
returns-in_default c =
    let l = c.args.line.now in
    let s = c.split-words.ensures in
    let y = words_of l s.runs s.rest s.done s.closure (λ x b q k. search rules) in
    let a = next_some (fields l) c.in_ok-next.field-0 c.next.new.self y c.in_ok-next.ensures.steps in
    sym (no_letter l c.in_ok-next.field-0.now a.rest a.is (λ e. omega arith))

-- more than one
pub returns-in_default-2 : goal.returns-in_default-2
returns-in_default-2 c =
    let l = c.args.line.now in
    let s = c.split-words.ensures in
    let y = words_of l s.runs s.rest s.done s.closure (λ x b q k. search rules) in
    let a = next_some (fields l) c.in_ok-next.field-0 c.next.new.self y c.in_ok-next.ensures.steps in
    sym (no_letter l c.in_ok-next.field-0.now a.rest a.is (λ e. omega arith))

-- no word after the letter
pub returns-in_err-next-2 : goal.returns-in_err-next-2
returns-in_err-next-2 c =
    let l = c.args.line.now in
    let s = c.split-words.ensures in
    let y = words_of l s.runs s.rest s.done s.closure (λ x b q k. search rules) in
    let a = next_some (fields l) c.in_ok-next.field-0 c.next.new.self y c.in_ok-next.ensures.steps in
    let k = get_or c.in_ok-next.field-0.now 0 0 in
    let w = letter l c.in_ok-next.field-0.now a.rest a.is (omega arith) in
    let n = next_none a.rest c.next-2.new.self a.left c.in_err-next-2.ensures.steps in
    rw (c.from_residual-in_err-next-2.ensures, w, n)

-- the first word after it is no number
pub returns-in_err-x : goal.returns-in_err-x
returns-in_err-x c =
    let l = c.args.line.now in
    let s = c.split-words.ensures in
    let y = words_of l s.runs s.rest s.done s.closure (λ x b q k. search rules) in
    let a = next_some (fields l) c.in_ok-next.field-0 c.next.new.self y c.in_ok-next.ensures.steps in
    let k = get_or c.in_ok-next.field-0.now 0 0 in
    let w = letter l c.in_ok-next.field-0.now a.rest a.is (omega arith) in
    let b = next_some a.rest c.in_ok-next-2.field-0 c.next-2.new.self a.left c.in_ok-next-2.ensures.steps in
    rw (c.from_residual-in_err-x.ensures, w, b.is) (sym (first_bad k c.in_ok-next-2.field-0.now b.rest (sym c.in_err-x.ensures)))

-- one number
pub returns-in_default-next : goal.returns-in_default-next
returns-in_default-next c =
    let l = c.args.line.now in
    let s = c.split-words.ensures in
    let y = words_of l s.runs s.rest s.done s.closure (λ x b q k. search rules) in
    let a = next_some (fields l) c.in_ok-next.field-0 c.next.new.self y c.in_ok-next.ensures.steps in
    let k = get_or c.in_ok-next.field-0.now 0 0 in
    let w = letter l c.in_ok-next.field-0.now a.rest a.is (omega arith) in
    let b = next_some a.rest c.in_ok-next-2.field-0 c.next-2.new.self a.left c.in_ok-next-2.ensures.steps in
    let n = next_none b.rest c.next-3.new.self b.left c.in_default-next.ensures.steps in
    rw (w, b.is, n) (c.one_number.ensures ∙ rw (← c.in_ok-x.ensures))

-- the second is no number
pub returns-in_err-y : goal.returns-in_err-y
returns-in_err-y c =
    let l = c.args.line.now in
    let s = c.split-words.ensures in
    let y = words_of l s.runs s.rest s.done s.closure (λ x b q k. search rules) in
    let a = next_some (fields l) c.in_ok-next.field-0 c.next.new.self y c.in_ok-next.ensures.steps in
    let k = get_or c.in_ok-next.field-0.now 0 0 in
    let w = letter l c.in_ok-next.field-0.now a.rest a.is (omega arith) in
    let b = next_some a.rest c.in_ok-next-2.field-0 c.next-2.new.self a.left c.in_ok-next-2.ensures.steps in
    let d = next_some b.rest c.in-Some.second c.next-3.new.self b.left c.in-Some.ensures.steps in
    rw (c.from_residual-in_err-y.ensures, w, b.is, d.is)
    (sym (second_bad k c.in_ok-next-2.field-0.now c.in-Some.second.now d.rest (sym c.in_err-y.ensures)))

-- two numbers
pub returns-in_default-next-2 : goal.returns-in_default-next-2
returns-in_default-next-2 c =
    let l = c.args.line.now in
    let s = c.split-words.ensures in
    let y = words_of l s.runs s.rest s.done s.closure (λ x b q k. search rules) in
    let a = next_some (fields l) c.in_ok-next.field-0 c.next.new.self y c.in_ok-next.ensures.steps in
    let k = get_or c.in_ok-next.field-0.now 0 0 in
    let w = letter l c.in_ok-next.field-0.now a.rest a.is (omega arith) in
    let b = next_some a.rest c.in_ok-next-2.field-0 c.next-2.new.self a.left c.in_ok-next-2.ensures.steps in
    let d = next_some b.rest c.in-Some.second c.next-3.new.self b.left c.in-Some.ensures.steps in
    let n = next_none d.rest c.next-4.new.self d.left c.in_default-next-2.ensures.steps in
    rw (w, b.is, d.is, n) (c.two_numbers.ensures ∙ rw (← c.in_ok-x.ensures, ← c.in_ok-y.ensures))

-- the third is no number
pub returns-in_err-z : goal.returns-in_err-z
returns-in_err-z c =
    let l = c.args.line.now in
    let s = c.split-words.ensures in
    let y = words_of l s.runs s.rest s.done s.closure (λ x b q k. search rules) in
    let a = next_some (fields l) c.in_ok-next.field-0 c.next.new.self y c.in_ok-next.ensures.steps in
    let k = get_or c.in_ok-next.field-0.now 0 0 in
    let w = letter l c.in_ok-next.field-0.now a.rest a.is (omega arith) in
    let b = next_some a.rest c.in_ok-next-2.field-0 c.next-2.new.self a.left c.in_ok-next-2.ensures.steps in
    let d = next_some b.rest c.in-Some.second c.next-3.new.self b.left c.in-Some.ensures.steps in
    let e = next_some d.rest c.in-Some-next.third c.next-4.new.self d.left c.in-Some-next.ensures.steps in
    rw (c.from_residual-in_err-z.ensures, w, b.is, d.is, e.is)
    (sym (third_bad k c.in_ok-next-2.field-0.now c.in-Some.second.now c.in-Some-next.third.now e.rest (sym c.in_err-z.ensures)))

-- more than three
pub returns-then-is_some : goal.returns-then-is_some
returns-then-is_some c =
    let l = c.args.line.now in
    let s = c.split-words.ensures in
    let y = words_of l s.runs s.rest s.done s.closure (λ x b q k. search rules) in
    let a = next_some (fields l) c.in_ok-next.field-0 c.next.new.self y c.in_ok-next.ensures.steps in
    let k = get_or c.in_ok-next.field-0.now 0 0 in
    let w = letter l c.in_ok-next.field-0.now a.rest a.is (omega arith) in
    let b = next_some a.rest c.in_ok-next-2.field-0 c.next-2.new.self a.left c.in_ok-next-2.ensures.steps in
    let d = next_some b.rest c.in-Some.second c.next-3.new.self b.left c.in-Some.ensures.steps in
    let e = next_some d.rest c.in-Some-next.third c.next-4.new.self d.left c.in-Some-next.ensures.steps in
    let n = next_yes e.rest c.next-5.result c.next-5.new.self e.left c.next-5.ensures.steps (sym c.is_some.ensures ∙ c.if-is_some.true) in
    rw (w, b.is, d.is, e.is, n.1.is)

-- three numbers
pub returns : goal.returns
returns c =
    let l = c.args.line.now in
    let s = c.split-words.ensures in
    let y = words_of l s.runs s.rest s.done s.closure (λ x b q k. search rules) in
    let a = next_some (fields l) c.in_ok-next.field-0 c.next.new.self y c.in_ok-next.ensures.steps in
    let k = get_or c.in_ok-next.field-0.now 0 0 in
    let w = letter l c.in_ok-next.field-0.now a.rest a.is (omega arith) in
    let b = next_some a.rest c.in_ok-next-2.field-0 c.next-2.new.self a.left c.in_ok-next-2.ensures.steps in
    let d = next_some b.rest c.in-Some.second c.next-3.new.self b.left c.in-Some.ensures.steps in
    let e = next_some d.rest c.in-Some-next.third c.next-4.new.self d.left c.in-Some-next.ensures.steps in
    let n = next_no e.rest c.next-5.result c.next-5.new.self e.left c.next-5.ensures.steps (sym c.is_some.ensures ∙ c.if-is_some.false) in
    rw (w, b.is, d.is, e.is, n)
    (c.three_numbers.ensures ∙ rw (← c.in_ok-x.ensures, ← c.in_ok-y.ensures, ← c.in_ok-z.ensures))
