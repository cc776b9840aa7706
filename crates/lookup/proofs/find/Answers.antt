use native.Mathlib.Omega.{arith}
use mathlib.Core.Path.{◌≡◌, sym, ap, ◌∙◌}
use mathlib.Core.List.{List}
use Prim.Native.Nat.{ℕ, ◌-◌}
use lib.ListN.{take, length}
use Rattle.layout.specs.Hash.{fnv_family}
use Rattle.layout.specs.Calls.{lookup, answer}
use Rattle.layout.specs.Header.{pages, header_size}
use Rattle.laws.specs.HeaderLaws.{length_pages}
use Rattle.geometry.specs.Shape.{shape}
use Rattle.keys.specs.Key.{key_is}
use Rattle.state.specs.Contract.{volume}
use Rattle.lookup.specs.Results.{lookup_of}
use Rattle.std.proofs.lemmas.Result.{err_from_is_err_and}
use Rattle.lookup.proofs.LookupLaws.{lookup_refused, lookup_fits}
use Rattle.lookup.proofs.find.Goals as goal

pub returns-in_err-g : goal.returns-in_err-g
returns-in_err-g c =
    let x = c.args in
    let p = err_from_is_err_and c.from_residual.result c.from_residual.ensures.1 in
    rw (p.1, p.2)
    (lookup_refused fnv_family (volume x.s x.main.now x.spare.now x.ram.now) (key_is x.key) c.in_err-g.field-0.0 (sym c.in_err-g.ensures.equal))

-- ---- a volume that is judged good

-- its RAM has a header
pub pages_end-n-requires : goal.pages_end-n-requires
pages_end-n-requires c =
    let f = c.in_ok-g.ensures.fits in
    omega (arith, f.long.read.ram_fits, c.in_ok-g.g.power.some, length_pages c.args.ram.now)

-- and what is lent of it are its pages
lent_pages : (ram : List ℕ) (n : ℕ) → n ≡ length ram - header_size → take n ram ≡ pages ram
unfolding pages
lent_pages ram n e = ap (λ (m : ℕ). take m ram) e

pub find_in-requires : goal.find_in-requires
find_in-requires c =
    rw (lent_pages c.args.ram.now c.pages_end-n.result c.pages_end-n.ensures) c.in_ok-g.ensures.fits

pub returns : goal.returns
returns c =
    let x = c.args in
    c.find_in.ensures
    ∙ ap (λ (ram : List ℕ). lookup_of (answer fnv_family (shape c.in_ok-g.g) (volume x.s x.main.now x.spare.now ram) (lookup (key_is x.key))))
    (lent_pages x.ram.now c.pages_end-n.result c.pages_end-n.ensures)
    ∙ lookup_fits fnv_family (volume x.s x.main.now x.spare.now x.ram.now) (key_is x.key) c.in_ok-g.g c.in_ok-g.ensures.fits (sym c.in_ok-g.ensures.equal)
