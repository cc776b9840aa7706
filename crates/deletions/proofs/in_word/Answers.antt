use native.Mathlib.Omega.{arith}
use mathlib.Core.Path.{◌≡◌, sym, ap, ◌∙◌}
use mathlib.Core.Bool.{Bool}
use mathlib.Core.Option.{Option}
use Prim.Native.Nat.{ℕ, ◌+◌, ◌/◌}
use Rattle.layout.specs.Geometry.{deletions_per_page}
use Rattle.layout.specs.Search.{Stop, found}
use Rattle.laws.specs.WalkLaws.{pages_none, pages_few}
use Rattle.kernels.specs.declared.ones.Ones.{Ones}
use Rattle.deletions.specs.Walk.{test_stop, try_word, either_bit}
use Rattle.deletions.proofs.Bits.{Left, left_first, left_none, left_met, left_next}
use Rattle.deletions.proofs.Volume.{scan_page}
use Rattle.deletions.proofs.in_word.Goals as goal

-- The pages above the highest bit left were opened in vain.

-- the bits that the iterator begins with
begins : {gate : ℕ → Bool} {try : ℕ → Option Stop} {q word left opened : ℕ} (s : Ones) → s ≡ record { left = word } → Left gate try q s.left left opened
    → Left gate try q word left opened
begins s e L = rw e at L

pub loop-f-init : goal.loop-f-init
loop-f-init c =
    let x = c.args in
    left_first (either_bit x.bits) (try_word x.main.now x.start x.j) (deletions_per_page x.chip.unit) c.into_iter-f-iterator.result.left

pub overflow_add-opened : goal.overflow_add-opened
overflow_add-opened c = omega (arith, pages_few c.loop-f.invariant.pages)

-- the numbers of the page of the highest bit
pub returns-then-page_has : goal.returns-then-page_has
returns-then-page_has c =
    let x = c.args in
    let I = begins c.into_iter-f-iterator.result c.into_iter-f-iterator.ensures.into_iter_gives c.loop-f.invariant in
    let scanned = scan_page x.chip.unit x.main.now x.start x.j (c.in-Some.f / 2) (x.start + c.page_address.result) c.page_has.result (ap (λ (y : ℕ). x.start + y) c.page_address.ensures) c.page_has.ensures in
    sym (left_met I c.pairs-left.ensures c.in-Some.f c.in-Some.ensures.steps.0 (found x.j) (scanned ∙ ap (test_stop x.j) c.if-page_has.true))

pub loop-f-preserved : goal.loop-f-preserved
loop-f-preserved c =
    let x = c.args in
    let e = c.into_iter-f-iterator.ensures.into_iter_gives in
    let I = begins c.into_iter-f-iterator.result e c.loop-f.invariant in
    let scanned = scan_page x.chip.unit x.main.now x.start x.j (c.in-Some.f / 2) (x.start + c.page_address.result) c.page_has.result (ap (λ (y : ℕ). x.start + y) c.page_address.ensures) c.page_has.ensures in
    rw e
    (left_next I c.pairs-left.ensures c.in-Some.f c.in-Some.ensures.steps.0 c.next.new.self.left c.in-Some.ensures.steps.1
    (scanned ∙ ap (test_stop x.j) c.if-page_has.false))

-- none is left
pub returns : goal.returns
returns c =
    let I = begins c.into_iter-f-iterator.result c.into_iter-f-iterator.ensures.into_iter_gives c.loop-f.invariant in
    sym (pages_none (left_none I c.pairs-left.ensures c.in-None.ensures.steps.0) (omega arith)).0
