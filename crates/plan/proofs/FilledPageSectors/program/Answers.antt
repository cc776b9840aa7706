use Prim.Native.Nat.{ℕ, ◌+◌}
use mathlib.Core.Path.{ap, ◌∙◌}
use mathlib.Core.List.{List}
use Rattle.layout.specs.Flash.{flash_of, program, apply}
use Rattle.plan.specs.Segments.{page_low, page_last}
use Rattle.plan.proofs.FilledPageSectors.program.Goals as goal

pub returns-then-j-lt-SECTORS_PER_PAGE : goal.returns-then-j-lt-SECTORS_PER_PAGE
returns-then-j-lt-SECTORS_PER_PAGE c =
    let x = c.args in
    let s = x.self.now in
    let P = c.requires.0 in
    let u = s.chip.unit in
    c.program_sector.ensures
    ∙ ap (λ (l : List ℕ). apply u (program (s.page.sector + x.j) l) (flash_of x.main.now x.spare.now))
    (page_low u s.page.at s.item.now s.ram.now P.1 P.0.in_ram_lem
    c.sector_size-size.result c.sector_size-size.ensures x.j c.sector_address.result c.sector_address.ensures c.if-j-lt-SECTORS_PER_PAGE.true)

pub returns : goal.returns
returns c =
    let x = c.args in
    let s = x.self.now in
    let P = c.requires.0 in
    let u = s.chip.unit in
    c.program_joined.ensures
    ∙ ap (λ (l : List ℕ). apply u (program (s.page.sector + x.j) l) (flash_of x.main.now x.spare.now))
    (page_last u s.page.at s.item.now s.ram.now P.1 P.0.in_ram_lem
    c.sector_size-size.result c.sector_size-size.ensures x.j c.sector_address.result c.sector_address.ensures c.requires.1 c.if-j-lt-SECTORS_PER_PAGE.false)
