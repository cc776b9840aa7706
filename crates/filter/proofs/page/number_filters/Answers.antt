use Rattle.filter.proofs.Pairs.{halves_put}
use Rattle.filter.proofs.page.number_filters.Goals as goal

pub returns : goal.returns
returns c =
    let x = c.args in
    halves_put x.chip.unit x.count x.at x.number _ _ _ x.ram.now x.out.now _ _
    c.requires.unit_sound.0.1.some c.deletions_per_filter.ensures c.hashed_at-end.ensures c.of_number.ensures
    c.half_filter.ensures c.half_filter-2.ensures
