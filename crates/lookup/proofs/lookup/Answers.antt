use mathlib.Core.Path.{sym}
use Rattle.std.specs.Prelude.{Some}
use Rattle.keys.specs.Key.{key_is}
use Rattle.layout.specs.Hash.{fnv_family}
use Rattle.state.specs.Contract.{volume}
use Rattle.lookup.proofs.PartLaws.{part_none, part_fits, part_is}
use Rattle.lookup.proofs.lookup.Goals as goal
use Rattle.lookup.proofs.lookup.Goals.{in-Some, in-None}

pub record_at-requires : goal.record_at-requires
record_at-requires c =
    let x = c.args in
    let f = c.in_ok-f.f in
    part_fits fnv_family (volume x.s x.main.now x.spare.now x.ram.now) (key_is x.key) f.pages f.deletion_pages c.in-Some.p
    (rw c.in-Some.is at c.in_ok-f.ensures)

pub returns-clause-part : goal.returns-clause-part
returns-clause-part c =
    let x = c.args in
    let v = volume x.s x.main.now x.spare.now x.ram.now in
    let f = c.in_ok-f.f in
    elim c.match-f.branch [
      | in-Some w ↦
          rw (w.record-is, part_is fnv_family v (key_is x.key) f.pages f.deletion_pages w.in-Some.p (rw w.in-Some.is at c.in_ok-f.ensures) x.main.ref_ptr x.ram.ref_ptr)
          (λ i. Some (w.record_at.ensures.0 i, w.record_at.ensures.1 i))
      | in-None w ↦
          rw w.record-is
          (sym (part_none fnv_family v (key_is x.key) f.pages f.deletion_pages (rw w.in-None.is at c.in_ok-f.ensures) x.main.ref_ptr x.ram.ref_ptr))
    ]
