use Prim.Native.Nat.{ℕ, ◌+◌, ◌*◌}
use mathlib.Core.Path.{ap, ◌∙◌}
use mathlib.Core.List.{List}
use Rattle.layout.specs.Flash.{flash_of, program, apply}
use Rattle.plan.specs.Segments.{flush_sector_lem}
use Rattle.plan.proofs.FlushedPageSectors.program.Goals as goal

pub returns : goal.returns
returns c =
    let x = c.args in
    let s = x.self.now in
    let P = c.requires.0 in
    let u = s.chip.unit in
    c.program_joined.ensures
    ∙ ap (λ (l : List ℕ). apply u (program (s.flush.sector + x.j * 16) l) (flash_of x.main.now x.spare.now))
    (flush_sector_lem u s.flush s.fourths.now s.ram.now P.in_sector P.in_fourths P.in_ram_lem
    c.sector_size.result c.sector_address.result x.j c.sector_size.ensures c.sector_address.ensures c.requires.1)
