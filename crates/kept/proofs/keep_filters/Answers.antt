use Rattle.kept.specs.Pieces.{slots_fit}
use Rattle.kept.proofs.keep_filters.Goals as goal

pub put_fourths-requires-clause-piece_in_bounds : goal.put_fourths-requires-clause-piece_in_bounds
put_fourths-requires-clause-piece_in_bounds c =
    let x = c.args in
    let P = c.requires in
    let z = c.fourth_size-fourth in
    slots_fit x.chip.unit z.result z.ensures x.first x.n x.ix.ska _ P.filters_bound.2 P.in_bounds.1
