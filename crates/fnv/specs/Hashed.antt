-- The bytes that are hashed behind j.
use Rattle.std.specs.Prelude.{ℕ, List}
use Rattle.memory.specs.Words.{bytes4}
use Rattle.fnv.specs.declared.Hashed.{Hashed}

abbrev pub bytes_of : Hashed → List ℕ
bytes_of x = bytes4 x.number
