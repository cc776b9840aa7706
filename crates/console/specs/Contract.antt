-- What the contracts compare: the code's progress and the lent bytes as buffers.
use Rattle.std.specs.Prelude.{List, ℕ}
use Rattle.state.specs.Contract.{volume}
use Rattle.console.specs.Buffers.{Buffers}
use Rattle.console.specs.declared.stream.Fill.{Fill}

abbrev pub buffers_of : Fill → List ℕ → List ℕ → List ℕ → List ℕ → List ℕ → Buffers
buffers_of p line main spare ram out =
    record { volume = volume p.state main spare ram; buffer = line; fill = p.fill; out = out; printed = p.printed }
