use borrow.Author.Rules.{rules}
use native.Mathlib.Omega.{arith}
use mathlib.Core.Path.{◌≡◌, refl, ap, ◌∙◌}
use mathlib.Core.Bool.{Bool, ◌||◌}
use Prim.Native.Nat.{ℕ}
use lib.Dec.{eqb}
use lib.ListN.{length, get_or, take}
use Rattle.std.proofs.lemmas.List.{length-take-le}
use Rattle.memory.specs.Ranges.{any}
use Rattle.fnv.specs.Hashed.{bytes_of}
use Rattle.filter.specs.Filter.{array_bit}
use Rattle.filter.proofs.Setting.{set_next, any_position}
use Rattle.filter.proofs.page.set_key.Goals as goal

-- Bit after bit.

pub loop-p-init : goal.loop-p-init
unfolding any
loop-p-init c = (refl, λ x h. refl)

pub loop-p-preserved : goal.loop-p-preserved
loop-p-preserved c =
    let s = c.set_bit in
    let l = c.loop-p in
    let ps = take c.args.count c.positions-ps.result in (
      s.auto.bits ∙ l.invariant.0,
      λ x h. set_next (λ j. eqb (get_or ps j 0) x) l.p-index _ _ _ (l.invariant.1 x h) (s.ensures x h),
    )

pub returns : goal.returns
returns c x h =
    let l = c.loop-p in
    let p = c.positions-ps in
    let a = c.args in
    let eight : length p.result ≡ 8 = search rules in
    let k : length (take a.count p.result) ≡ a.count = length-take-le a.count p.result (omega arith) in
    let done : l.p-index ≡ a.count = omega arith in
    l.invariant.1 x h
    ∙ ap (λ (n : ℕ). any (λ j. eqb (get_or (take a.count p.result) j 0) x) n || array_bit a.bits.now x) done
    ∙ ap (λ (t : Bool). t || array_bit a.bits.now x)
    (any_position a.chip.unit a.count (bytes_of a.key) x p.result p.ensures.equal)
