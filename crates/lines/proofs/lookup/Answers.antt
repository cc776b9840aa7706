use Rattle.std.proofs.Common.{arith, ap, ◌∙◌, ℕ}
use Rattle.layout.specs.Hash.{fnv_family}
use Rattle.keys.specs.Key.{key_is}
use Rattle.state.specs.Contract.{volume}
use Rattle.script.specs.Answers.{hit, no}
use Rattle.script.specs.Script.{perform}
use Rattle.lines.proofs.Answering.{lookup_refused, lookup_missed, lookup_hit}
use Rattle.lines.proofs.lookup.Goals as goal

-- The numbers tell which outcome it is, and the part is its record.

pub get32-requires : goal.get32-requires
get32-requires c =
    let x = c.args in
    let v = volume x.s x.main.now x.spare.now x.ram.now in
    let k = c.in-Ok in
    omega (arith, (lookup_hit fnv_family v (key_is x.key) x.main.ref_ptr x.ram.ref_ptr k.found c.in-Some.bytes c.in-Some.is k.ensures.part k.ensures.numbers).0)

pub returns-in-Err : goal.returns-in-Err
unfolding perform
returns-in-Err c =
    let x = c.args in
    let v = volume x.s x.main.now x.spare.now x.ram.now in
    ap no c.into.ensures ∙ lookup_refused fnv_family v (key_is x.key) c.in-Err.refusal c.in-Err.ensures.numbers

pub returns-in-None : goal.returns-in-None
unfolding perform
returns-in-None c =
    let x = c.args in
    let v = volume x.s x.main.now x.spare.now x.ram.now in
    let k = c.in-Ok in
    lookup_missed fnv_family v (key_is x.key) k.found c.in-None.is k.ensures.numbers

pub returns-in-Some : goal.returns-in-Some
unfolding perform
returns-in-Some c =
    let x = c.args in
    let v = volume x.s x.main.now x.spare.now x.ram.now in
    let k = c.in-Ok in
    ap (λ (m : ℕ). hit m k.found.pages) c.get32.ensures
    ∙ (lookup_hit fnv_family v (key_is x.key) x.main.ref_ptr x.ram.ref_ptr k.found c.in-Some.bytes c.in-Some.is k.ensures.part k.ensures.numbers).1
