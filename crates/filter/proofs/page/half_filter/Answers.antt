use native.Mathlib.Omega.{arith}
use Rattle.filter.specs.Filter.{array_bit, with_key}
use Rattle.filter.proofs.Pairs.{put_ext}
use Rattle.fnv.specs.Hashed.{bytes_of}
use Rattle.filter.proofs.page.half_filter.Goals as goal

pub returns : goal.returns
returns c =
    let x = c.args in
    put_ext x.chip.unit x.f (array_bit c.new_filter.new.bits)
    (with_key x.chip.unit x.count x.at 4 (bytes_of x.last) x.ram.now) x.out.now _
    (λ y h. c.new_filter.ensures y (omega (arith, h, x.chip.small))) c.put_fourths.ensures
